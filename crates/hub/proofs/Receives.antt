-- Taking a receive, where a channel lies among others.
use Rattle.std.proofs.Common.{◌≡◌, ℕ, ◌+◌, ◌-◌, ◌<◌, ◌≤◌, Bool, true, false, ◌||◌, ltb, List, [], ◌∷◌, length, drop, set, Some, None, Option, Ok, Err, Result, sym, refl, ap, ◌∙◌, arith}
use Rattle.std.proofs.lemmas.List.{get_or-set_same, set-set}
use Rattle.std.proofs.lemmas.Nat.{mod_below}
use Rattle.std.proofs.lemmas.Bool.Decides.{nat_tests}
use Rattle.lines.specs.declared.line.Kind.{Kind}
use Rattle.lines.specs.declared.line.Kind.TheVariants.{Value as ValueKind, Handle as HandleKind}
use Rattle.elements.specs.declared.value.Value.{Value as Number}
use Rattle.elements.specs.declared.handle.Handle.{Handle as Holder}
use Rattle.rings.specs.Contents.{around}
use Rattle.rings.specs.Layouts.{Layout, next_cell, one_more, one_less}
use Rattle.waiting.specs.declared.wish.Entry.{Entry}
use Rattle.waiting.specs.declared.wish.Wish.{Wish}
use Rattle.waiting.specs.declared.wish.Wish.TheVariants.{Send, Receive}
use Rattle.waiting.specs.declared.wish.Side.TheVariants.{Senders}
use Rattle.waiting.specs.Lines.{State}
use Rattle.waiting.specs.Queues.{queue, first, without}
use Rattle.channels.specs.declared.channel.Received.{Received}
use Rattle.channels.specs.declared.channel.Received.TheVariants.{Taken, Handed, Drained}
use Rattle.channels.specs.declared.errors.ReceiveError.{ReceiveError}
use Rattle.channels.specs.declared.errors.ReceiveError.TheVariants.{Empty}
use Rattle.channels.specs.Rules.{offered as carried, offer as carried_by}
use Rattle.channels.specs.Receives.{got, got_in, after_got, line_got, laid_got}
use Rattle.routines.specs.declared.item.Item.{Item}
use Rattle.routines.specs.Items.{as_kind}
use Rattle.channels.specs.Settled.{some}
use Rattle.runs.specs.Taking.{Deal, receive_on, offer, offered}
use Rattle.hub.specs.declared.port.Port.{Port}
use Rattle.hub.specs.declared.deal.Deal.{Deal as Answer}
use Rattle.hub.specs.Boards.{Board, Enough, enough, buffered, seen, Placed}
use Rattle.hub.specs.Ports.{seen_in, zero_of, refilled, values_got, handles_got, got_answer}
use Rattle.hub.specs.Deals.{Took, no_port, with_ring, value_written, handle_written, may_take, dealt}
use Rattle.hub.proofs.Places.{covered, here, state, at, same_ports, still_placed, seen_same, turned, turned_placed, seen_turned, others_written}
use Rattle.hub.proofs.Boards.{length_buffered, channel_seen}

same_values : (k : Kind) (r : Result (Received Item Item) ReceiveError) (l : Layout) (vs : List Number) → refilled r ≡ None → values_got k r l vs ≡ vs
same_values ValueKind r l vs h = rw h refl
same_values HandleKind r l vs h = refl

same_handles : (k : Kind) (r : Result (Received Item Item) ReceiveError) (l : Layout) (hs : List Holder) → refilled r ≡ None → handles_got k r l hs ≡ hs
same_handles ValueKind r l hs h = refl
same_handles HandleKind r l hs h = rw h refl

-- what a queued sender offers, in the words of channels and in those of runs
offers : (k : Kind) (o : Wish Item) → carried_by (as_kind k) (zero_of k) o ≡ as_kind k (offer o)
offers k (Send c e) = refl
offers k (Receive c) = refl

new_values : (k : Kind) (x : Item) (w : Entry Item) (l : Layout) (vs : List Number) → values_got k (Ok (Taken x (Some w))) l vs ≡ value_written (next_cell (one_less l)) (as_kind k (offer w.wish)) vs
new_values HandleKind x w l vs = refl
new_values ValueKind x w l vs = go w.wish
  where
    go : (o : Wish Item) → values_got ValueKind (Ok (Taken x (Some (record w { wish = o })))) l vs ≡ value_written (next_cell (one_less l)) (as_kind ValueKind (offer o)) vs
    go (Send c e) = refl
    go (Receive c) = refl

new_handles : (k : Kind) (x : Item) (w : Entry Item) (l : Layout) (hs : List Holder) → handles_got k (Ok (Taken x (Some w))) l hs ≡ handle_written (next_cell (one_less l)) (as_kind k (offer w.wish)) hs
new_handles ValueKind x w l hs = refl
new_handles HandleKind x w l hs = go w.wish
  where
    go : (o : Wish Item) → handles_got HandleKind (Ok (Taken x (Some (record w { wish = o })))) l hs ≡ handle_written (next_cell (one_less l)) (as_kind HandleKind (offer o)) hs
    go (Send c e) = refl
    go (Receive c) = refl

module _ (vs : List Number) (hs : List Holder) (b : Board) (c : ℕ) (k : Placed 0 0 0 b.ports) (n : Enough vs hs) (i : c < length b.ports) where
  abbrev p : Port
  p = here vs hs b c k n i

  abbrev st : State Item
  st = state vs hs b c k n i

  abbrev left_by : Result (Received Item Item) ReceiveError → Board
  left_by r = record { ports = set b.ports c (record p { channel = laid_got r p.channel }); line = (line_got r st).line; wishes = (line_got r st).table }

  abbrev Buffers : Result (Received Item Item) ReceiveError → Type 0
  Buffers r = buffered p.kind (laid_got r p.channel).ring (values_got p.kind r p.channel.ring vs) (handles_got p.kind r p.channel.ring hs) ≡ (after_got (as_kind p.kind) (zero_of p.kind) r (seen_in p vs hs st)).buffer

  abbrev Claim : Bool → Deal → Result (Received Item Item) ReceiveError → Type 0
  Claim t d r = Buffers r → Took t d b vs hs (got_answer p.kind c r) (left_by r) (values_got p.kind r p.channel.ring vs) (handles_got p.kind r p.channel.ring hs)

  -- the element that a queued sender offers
  abbrev its : Entry Item → Item
  its w = as_kind p.kind (offer w.wish)

  its_carried : (w : Entry Item) → carried (as_kind p.kind) (zero_of p.kind) w ≡ its w
  its_carried w = offers p.kind w.wish

  its_offered : (w : Entry Item) → offered (seen b vs hs) c w ≡ its w
  its_offered w = ap (λ x. as_kind x.kind (offer w.wish)) (channel_seen vs hs b c)

  refused : (d : Deal) → Claim false d (Err Empty)
  refused d buf = record {
    answered = refl;
    board = ap (λ ps. record b { ports = ps }) (same_ports vs hs b c k n i);
    values = same_values p.kind (Err Empty) p.channel.ring vs refl;
    handles = same_handles p.kind (Err Empty) p.channel.ring hs refl;
    seen = seen_same vs hs b c k n i b.line _ _ (same_values p.kind (Err Empty) p.channel.ring vs refl) (same_handles p.kind (Err Empty) p.channel.ring hs refl);
    placed = still_placed vs hs b c k n i;
  }

  drained : Claim true (receive_on (seen b vs hs) c [] []) (Ok Drained)
  drained buf = record {
    answered = refl;
    board = ap (λ ps. record b { ports = ps }) (same_ports vs hs b c k n i);
    values = same_values p.kind (Ok Drained) p.channel.ring vs refl;
    handles = same_handles p.kind (Ok Drained) p.channel.ring hs refl;
    seen = seen_same vs hs b c k n i b.line _ _ (same_values p.kind (Ok Drained) p.channel.ring vs refl) (same_handles p.kind (Ok Drained) p.channel.ring hs refl);
    placed = still_placed vs hs b c k n i;
  }

  handed : (w : Entry Item) (ws : List (Entry Item)) → Claim true (receive_on (seen b vs hs) c [] (w ∷ ws)) (Ok (Handed (carried (as_kind p.kind) (zero_of p.kind) w) w))
  handed w ws buf =
      let r : Result (Received Item Item) ReceiveError = Ok (Handed (carried (as_kind p.kind) (zero_of p.kind) w) w) in
      record {
        answered = rw (its_carried w, its_offered w) refl;
        board = ap (λ ps. record { ports = ps; line = without w.routine b.line; wishes = b.wishes }) (same_ports vs hs b c k n i);
        values = same_values p.kind r p.channel.ring vs refl;
        handles = same_handles p.kind r p.channel.ring hs refl;
        seen = seen_same vs hs b c k n i (without w.routine b.line) _ _ (same_values p.kind r p.channel.ring vs refl) (same_handles p.kind r p.channel.ring hs refl);
        placed = still_placed vs hs b c k n i;
      }

  module _ (x : Item) (xs : List Item) (q : buffered p.kind p.channel.ring vs hs ≡ x ∷ xs) where
    abbrev starts : ℕ
    starts = around p.channel.ring.first 1 p.channel.ring.capacity

    filled : (0 < p.channel.ring.count) × (p.channel.ring.count ≤ p.channel.ring.capacity)
    filled =
        let s = at vs hs b c k n i in
        let m = length_buffered p.kind p.channel.ring vs hs s.sound s.fits n in
        (omega (arith, ap length q), s.sound.counted)

    within : starts ≤ p.channel.ring.capacity - 1
    within = let f = filled in let m = mod_below (p.channel.ring.first + 1) p.channel.ring.capacity (omega arith) in omega arith

    taken : Claim true (receive_on (seen b vs hs) c (x ∷ xs) []) (Ok (Taken x None))
    taken buf =
        let r : Result (Received Item Item) ReceiveError = Ok (Taken x None) in
        let us = same_values p.kind r p.channel.ring vs refl in
        let gs = same_handles p.kind r p.channel.ring hs refl in
        let f = filled in
        record {
          answered = refl;
          board = refl;
          values = us;
          handles = gs;
          seen = seen_turned vs hs b c k n i starts (p.channel.ring.count - 1) _ _ b.line xs (rw (us, gs) (λ m j ne. refl)) (buf ∙ ap (drop 1) q);
          placed = turned_placed vs hs b c k n i starts (p.channel.ring.count - 1) within (omega arith);
        }

    -- without the oldest element, and then with one more
    twice : with_ring c one_more (with_ring c one_less b.ports) ≡ set b.ports c (turned vs hs b c k n i starts (p.channel.ring.count - 1 + 1))
    twice = rw (get_or-set_same b.ports c (turned vs hs b c k n i starts (p.channel.ring.count - 1)) no_port i) (set-set b.ports c _ _)

    refilled_by : (w : Entry Item) (ws : List (Entry Item)) → Claim true (receive_on (seen b vs hs) c (x ∷ xs) (w ∷ ws)) (Ok (Taken x (Some w)))
    refilled_by w ws buf =
        let us = new_values p.kind x w p.channel.ring vs in
        let gs = new_handles p.kind x w p.channel.ring hs in
        let f = filled in
        let drawn = get_or-set_same b.ports c (turned vs hs b c k n i starts (p.channel.ring.count - 1)) no_port i in
        record {
          answered = rw (its_offered w) refl;
          board = sym (ap (λ ps. record { ports = ps; line = without w.routine b.line; wishes = b.wishes }) twice);
          values = us ∙ rw (drawn, its_offered w) refl;
          handles = gs ∙ rw (drawn, its_offered w) refl;
          seen = seen_turned vs hs b c k n i starts (p.channel.ring.count - 1 + 1) _ _ (without w.routine b.line) _
              (rw (us, gs) (others_written vs hs b c k n i (one_less p.channel.ring) (offer w.wish) refl refl (omega arith)))
              (buf ∙ rw (q, its_carried w, its_offered w) refl);
          placed = turned_placed vs hs b c k n i starts (p.channel.ring.count - 1 + 1) within (omega arith);
        }

  by_cases : (closed : Bool) (xs : List Item) (ws : List (Entry Item)) → buffered p.kind p.channel.ring vs hs ≡ xs
      → Claim (closed || (some xs || some ws)) (receive_on (seen b vs hs) c xs ws) (got_in (as_kind p.kind) (zero_of p.kind) xs (first ws) closed)
  by_cases true [] [] q = drained
  by_cases false [] [] q = refused _
  by_cases true [] (w ∷ ws) q = handed w ws
  by_cases false [] (w ∷ ws) q = handed w ws
  by_cases true (x ∷ xs) [] q = taken x xs q
  by_cases false (x ∷ xs) [] q = taken x xs q
  by_cases true (x ∷ xs) (w ∷ ws) q = refilled_by x xs q w ws
  by_cases false (x ∷ xs) (w ∷ ws) q = refilled_by x xs q w ws

  -- the channel's answer, and what it means among the others
  answer_is : got (as_kind p.kind) (zero_of p.kind) (seen_in p vs hs st) ≡ got_in (as_kind p.kind) (zero_of p.kind) (buffered p.kind p.channel.ring vs hs) (first (queue Senders c b.line b.wishes)) p.channel.closed
  answer_is = let s = at vs hs b c k n i in rw (covered p.kind p.channel.ring vs hs s.fits n, s.number) refl

  may_is : may_take b vs hs (Receive c) ≡ (p.channel.closed || (some (buffered p.kind p.channel.ring vs hs) || some (queue Senders c b.line b.wishes)))
  may_is =
      let en : enough vs hs ≡ true = grind (arith, nat_tests, n.values, n.handles) in
      let there : ltb c (length b.ports) ≡ true = grind (arith, nat_tests) in
      rw (en, there, channel_seen vs hs b c) refl

  deal_is : dealt b vs hs (Receive c) ≡ receive_on (seen b vs hs) c (buffered p.kind p.channel.ring vs hs) (queue Senders c b.line b.wishes)
  deal_is = ap (λ x. receive_on (seen b vs hs) c x.buffer (queue Senders c b.line b.wishes)) (channel_seen vs hs b c)

  pub receive_took : Claim (may_take b vs hs (Receive c)) (dealt b vs hs (Receive c)) (got (as_kind p.kind) (zero_of p.kind) (seen_in p vs hs st))
  receive_took = rw (answer_is, may_is, deal_is) (by_cases p.channel.closed _ (queue Senders c b.line b.wishes) refl)

  -- the same of what a call was given and has left
  pub receive_leaves : (q left : Port) (r : Result (Received Item Item) ReceiveError) (st' : State Item) (us : List Number) (gs : List Holder) (a : Option Answer)
      → q ≡ p → r ≡ got (as_kind q.kind) (zero_of q.kind) (seen_in q vs hs st) → st' ≡ line_got r st
      → us ≡ values_got q.kind r q.channel.ring vs → gs ≡ handles_got q.kind r q.channel.ring hs
      → left ≡ record q { channel = laid_got r q.channel }
      → buffered left.kind left.channel.ring us gs ≡ (after_got (as_kind q.kind) (zero_of q.kind) r (seen_in q vs hs st)).buffer
      → a ≡ got_answer left.kind c r
      → Took (may_take b vs hs (Receive c)) (dealt b vs hs (Receive c)) b vs hs a (record { ports = set b.ports c left; line = st'.line; wishes = st'.table }) us gs
  receive_leaves q left r st' us gs a eq er est eu eg el buf ea =
      rw (ea, est, eu, eg, el, er, eq) (receive_took (rw (eu, eg, el, er, eq) at buf))
