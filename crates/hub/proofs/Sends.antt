-- Taking a send, where a channel lies among others.
use Rattle.std.proofs.Common.{◌≡◌, ℕ, ◌+◌, ◌<◌, Bool, true, false, cond, ◌||◌, ltb, List, [], ◌∷◌, ◌++◌, length, set, None, Option, Ok, Err, Result, sym, refl, ap, ◌∙◌, arith}
use Rattle.std.proofs.lemmas.Bool.Decides.{nat_tests}
use Rattle.std.proofs.lemmas.Bool.{ltb-true}
use Rattle.lines.specs.declared.line.Kind.{Kind}
use Rattle.lines.specs.declared.line.Kind.TheVariants.{Value as ValueKind, Handle as HandleKind}
use Rattle.elements.specs.declared.value.Value.{Value as Number}
use Rattle.elements.specs.declared.handle.Handle.{Handle as Holder}
use Rattle.rings.specs.Layouts.{Layout, next_cell}
use Rattle.waiting.specs.declared.wish.Entry.{Entry}
use Rattle.waiting.specs.declared.wish.Wish.TheVariants.{Send}
use Rattle.waiting.specs.declared.wish.Side.TheVariants.{Receivers}
use Rattle.waiting.specs.Lines.{State}
use Rattle.waiting.specs.Queues.{queue, first, without}
use Rattle.channels.specs.declared.channel.Sent.{Sent}
use Rattle.channels.specs.declared.channel.Sent.TheVariants.{Handed, Buffered}
use Rattle.channels.specs.declared.errors.SendError.{SendError}
use Rattle.channels.specs.declared.errors.SendError.TheVariants.{Closed, Full}
use Rattle.channels.specs.Rules.{sent, sent_to, after_sent, line_sent, laid_sent}
use Rattle.routines.specs.declared.item.Item.{Item}
use Rattle.routines.specs.Items.{as_kind}
use Rattle.channels.specs.Settled.{some}
use Rattle.runs.specs.Taking.{Deal, send_on}
use Rattle.hub.specs.declared.port.Port.{Port}
use Rattle.hub.specs.declared.deal.Deal.{Deal as Answer}
use Rattle.hub.specs.Boards.{Board, Enough, enough, buffered, seen, Placed}
use Rattle.hub.specs.Ports.{seen_in, values_sent, handles_sent, sent_answer}
use Rattle.hub.specs.Deals.{Took, value_written, handle_written, may_take, dealt}
use Rattle.hub.proofs.Places.{covered, here, state, at, same_ports, still_placed, seen_same, turned_placed, seen_turned, others_written}
use Rattle.hub.proofs.Boards.{length_buffered, channel_seen}

value_sent : (k : Kind) (l : Layout) (e : Item) (vs : List Number) → values_sent k (Ok Buffered) l e vs ≡ value_written (next_cell l) (as_kind k e) vs
value_sent ValueKind l e vs = refl
value_sent HandleKind l e vs = refl

handle_sent : (k : Kind) (l : Layout) (e : Item) (hs : List Holder) → handles_sent k (Ok Buffered) l e hs ≡ handle_written (next_cell l) (as_kind k e) hs
handle_sent ValueKind l e hs = refl
handle_sent HandleKind l e hs = refl

unsent_values : (k : Kind) (w : Entry Item) (l : Layout) (e : Item) (vs : List Number) → values_sent k (Ok (Handed w)) l e vs ≡ vs
unsent_values ValueKind w l e vs = refl
unsent_values HandleKind w l e vs = refl

unsent_handles : (k : Kind) (w : Entry Item) (l : Layout) (e : Item) (hs : List Holder) → handles_sent k (Ok (Handed w)) l e hs ≡ hs
unsent_handles ValueKind w l e hs = refl
unsent_handles HandleKind w l e hs = refl

refused_values : (k : Kind) (why : SendError) (l : Layout) (e : Item) (vs : List Number) → values_sent k (Err why) l e vs ≡ vs
refused_values ValueKind why l e vs = refl
refused_values HandleKind why l e vs = refl

refused_handles : (k : Kind) (why : SendError) (l : Layout) (e : Item) (hs : List Holder) → handles_sent k (Err why) l e hs ≡ hs
refused_handles ValueKind why l e hs = refl
refused_handles HandleKind why l e hs = refl

module _ (vs : List Number) (hs : List Holder) (b : Board) (c : ℕ) (k : Placed 0 0 0 b.ports) (n : Enough vs hs) (i : c < length b.ports) (e : Item) where
  abbrev p : Port
  p = here vs hs b c k n i

  abbrev st : State Item
  st = state vs hs b c k n i

  abbrev left_by : Result (Sent Item) SendError → Board
  left_by r = record { ports = set b.ports c (record p { channel = laid_sent r p.channel }); line = (line_sent r st).line; wishes = (line_sent r st).table }

  -- what the channel's own clauses say of its buffer
  abbrev Buffers : Result (Sent Item) SendError → Type 0
  Buffers r = buffered p.kind (laid_sent r p.channel).ring (values_sent p.kind r p.channel.ring e vs) (handles_sent p.kind r p.channel.ring e hs) ≡ (after_sent r (as_kind p.kind e) (seen_in p vs hs st)).buffer

  abbrev Claim : Bool → Deal → Result (Sent Item) SendError → Type 0
  Claim t d r = Buffers r → Took t d b vs hs (sent_answer c (as_kind p.kind e) r) (left_by r) (values_sent p.kind r p.channel.ring e vs) (handles_sent p.kind r p.channel.ring e hs)

  refused : (d : Deal) (why : SendError) → sent_answer c (as_kind p.kind e) (Err why) ≡ None → Claim false d (Err why)
  refused d why none buf = record {
    answered = none;
    board = ap (λ ps. record b { ports = ps }) (same_ports vs hs b c k n i);
    values = refused_values p.kind why p.channel.ring e vs;
    handles = refused_handles p.kind why p.channel.ring e hs;
    seen = seen_same vs hs b c k n i b.line _ _ (refused_values p.kind why p.channel.ring e vs) (refused_handles p.kind why p.channel.ring e hs);
    placed = still_placed vs hs b c k n i;
  }

  broken : Claim true (send_on (seen b vs hs) c (as_kind p.kind e) true []) (Err Closed)
  broken buf = record {
    answered = refl;
    board = ap (λ ps. record b { ports = ps }) (same_ports vs hs b c k n i);
    values = refused_values p.kind Closed p.channel.ring e vs;
    handles = refused_handles p.kind Closed p.channel.ring e hs;
    seen = seen_same vs hs b c k n i b.line _ _ (refused_values p.kind Closed p.channel.ring e vs) (refused_handles p.kind Closed p.channel.ring e hs);
    placed = still_placed vs hs b c k n i;
  }

  handed : (w : Entry Item) (ws : List (Entry Item)) → Claim true (send_on (seen b vs hs) c (as_kind p.kind e) false (w ∷ ws)) (Ok (Handed w))
  handed w ws buf = record {
    answered = refl;
    board = ap (λ ps. record { ports = ps; line = without w.routine b.line; wishes = b.wishes }) (same_ports vs hs b c k n i);
    values = unsent_values p.kind w p.channel.ring e vs;
    handles = unsent_handles p.kind w p.channel.ring e hs;
    seen = seen_same vs hs b c k n i (without w.routine b.line) _ _ (unsent_values p.kind w p.channel.ring e vs) (unsent_handles p.kind w p.channel.ring e hs);
    placed = still_placed vs hs b c k n i;
  }

  stored : ltb (length (buffered p.kind p.channel.ring vs hs)) p.channel.ring.capacity ≡ true → Claim true (send_on (seen b vs hs) c (as_kind p.kind e) false []) (Ok Buffered)
  stored q buf =
      let s = at vs hs b c k n i in
      let m = length_buffered p.kind p.channel.ring vs hs s.sound s.fits n in
      let room = ltb-true (length (buffered p.kind p.channel.ring vs hs)) p.channel.ring.capacity q in
      let us = value_sent p.kind p.channel.ring e vs in
      let gs = handle_sent p.kind p.channel.ring e hs in
      record {
        answered = refl;
        board = refl;
        values = us;
        handles = gs;
        seen = seen_turned vs hs b c k n i p.channel.ring.first (p.channel.ring.count + 1) _ _ b.line _
            (rw (us, gs) (others_written vs hs b c k n i p.channel.ring e refl refl (omega arith)))
            (buf ∙ ap (λ x. x.buffer ++ (as_kind p.kind e ∷ [])) (sym (channel_seen vs hs b c)));
        placed = turned_placed vs hs b c k n i p.channel.ring.first (p.channel.ring.count + 1) s.sound.within (omega arith);
      }

  by_cases : (closed room : Bool) (ws : List (Entry Item)) → ltb (length (buffered p.kind p.channel.ring vs hs)) p.channel.ring.capacity ≡ room
      → Claim (closed || (room || some ws)) (send_on (seen b vs hs) c (as_kind p.kind e) closed ws) (cond closed (Err Closed) (sent_to (first ws) room))
  by_cases true room ws q = broken
  by_cases false true (w ∷ ws) q = handed w ws
  by_cases false false (w ∷ ws) q = handed w ws
  by_cases false true [] q = stored q
  by_cases false false [] q = refused _ Full refl

  -- the channel's answer, and what it means among the others
  answer_is : sent (seen_in p vs hs st) ≡ cond p.channel.closed (Err Closed) (sent_to (first (queue Receivers c b.line b.wishes)) (ltb (length (buffered p.kind p.channel.ring vs hs)) p.channel.ring.capacity))
  answer_is = let s = at vs hs b c k n i in rw (covered p.kind p.channel.ring vs hs s.fits n, s.number) refl

  may_is : may_take b vs hs (Send c e) ≡ (p.channel.closed || (ltb (length (buffered p.kind p.channel.ring vs hs)) p.channel.ring.capacity || some (queue Receivers c b.line b.wishes)))
  may_is =
      let en : enough vs hs ≡ true = grind (arith, nat_tests, n.values, n.handles) in
      let there : ltb c (length b.ports) ≡ true = grind (arith, nat_tests) in
      rw (en, there, channel_seen vs hs b c) refl

  deal_is : dealt b vs hs (Send c e) ≡ send_on (seen b vs hs) c (as_kind p.kind e) p.channel.closed (queue Receivers c b.line b.wishes)
  deal_is = ap (λ x. send_on (seen b vs hs) c (as_kind x.kind e) x.closed (queue Receivers c b.line b.wishes)) (channel_seen vs hs b c)

  pub send_took : Claim (may_take b vs hs (Send c e)) (dealt b vs hs (Send c e)) (sent (seen_in p vs hs st))
  send_took = rw (answer_is, may_is, deal_is) (by_cases p.channel.closed _ (queue Receivers c b.line b.wishes) refl)

  -- the same of what a call was given and has left
  pub send_leaves : (q left : Port) (r : Result (Sent Item) SendError) (st' : State Item) (us : List Number) (gs : List Holder) (a : Option Answer)
      → q ≡ p → r ≡ sent (seen_in q vs hs st) → st' ≡ line_sent r st
      → us ≡ values_sent q.kind r q.channel.ring e vs → gs ≡ handles_sent q.kind r q.channel.ring e hs
      → left ≡ record q { channel = laid_sent r q.channel }
      → buffered left.kind left.channel.ring us gs ≡ (after_sent r (as_kind q.kind e) (seen_in q vs hs st)).buffer
      → a ≡ sent_answer c (as_kind left.kind e) r
      → Took (may_take b vs hs (Send c e)) (dealt b vs hs (Send c e)) b vs hs a (record { ports = set b.ports c left; line = st'.line; wishes = st'.table }) us gs
  send_leaves q left r st' us gs a eq er est eu eg el buf ea =
      rw (ea, est, eu, eg, el, er, eq) (send_took (rw (eu, eg, el, er, eq) at buf))
