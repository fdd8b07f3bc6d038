-- Each element that is buffered is written in the cell that its number on its channel says.
use Rattle.std.specs.Option.{is_none}
use Rattle.std.proofs.Common.{◌≡◌, ℕ, zero, suc, ◌+◌, ◌-◌, ◌<◌, ◌≤◌, Bool, true, false, cond, eqb, List, [], ◌∷◌, ◌++◌, map, length, get_or, take, Some, None, Option, Ok, Err, Result, IfSome, sym, refl, ap, ◌∙◌, subst, arith, inl, inr, append-nil, length-append}
use Rattle.std.proofs.Math.ListN.{get_or-map}
use Rattle.std.proofs.lemmas.List.{length-map, length-set, get_or-set_same, get_or-set_other}
use Rattle.std.proofs.lemmas.List.Sums.{sum_by-cons, sum_by_push}
use Rattle.std.proofs.lemmas.Bool.{cases_eq, cases_lt, eq-eqb, ne_eqb, ltb-true}
use Rattle.words.specs.declared.refusal.Refusal.{Refusal}
use Rattle.lines.specs.declared.line.Kind.{Kind}
use Rattle.lines.specs.declared.line.Kind.TheVariants.{Value as ValueKind, Handle as HandleKind}
use Rattle.elements.specs.declared.value.Value.{Value}
use Rattle.elements.specs.declared.handle.Handle.{Handle}
use Rattle.rings.specs.Layouts.{Layout, fresh, one_more, one_less}
use Rattle.rings.proofs.Turns.{Turned, turned_fresh, turned_put, turned_take, next_is}
use Rattle.linking.specs.declared.declared.Declared.{Declared}
use Rattle.linking.specs.Programs.{Program}
use Rattle.linking.specs.Sound.{cells_for}
use Rattle.waiting.specs.declared.wish.Wish.{Wish}
use Rattle.waiting.specs.declared.wish.Wish.TheVariants as wish
use Rattle.waiting.specs.declared.wish.Side.TheVariants.{Receivers, Senders}
use Rattle.waiting.specs.declared.wish.Entry.{Entry}
use Rattle.pickers.specs.Meaning.{Meaning, Lawful}
use Rattle.reports.specs.declared.report.Picked.{Picked}
use Rattle.routines.specs.declared.item.Item.{Item}
use Rattle.routines.specs.declared.routine.Passed.{Passed}
use Rattle.routines.specs.declared.routine.Passed.TheVariants.{Sent, Received, Drained, Broken}
use Rattle.routines.specs.Items.{as_kind}
use Rattle.runs.specs.Runs.{Channel, Hub, Run, no_channel, channel, routine, queued, text_line, with_buffer, leaves, new_channel, started}
use Rattle.runs.specs.Cases.{Branch, can_go, wish_of}
use Rattle.channels.specs.Settled.{some}
use Rattle.runs.specs.Questions.{step_refused, routine_question, channel_question, element_question}
use Rattle.runs.specs.Taking.{take as take_case, send_on, receive_on, offered, dismissals, closed_at}
use Rattle.runs.specs.Steps.{Step, Taken, taken_by, nothing_moved, passing, branch_at, branches, ending, step}
use Rattle.run_laws.specs.Orderly.{kinds}
use Rattle.run_laws.specs.Settled.{channel_in, SettledHub, Settled, FewCases}
use Rattle.run_laws.proofs.Ways.{by_ways}
use Rattle.run_laws.proofs.Orderly.{closing_run, release_all_hub}
use Rattle.run_laws.proofs.Kept.{channels_stay}
use Rattle.run_laws.proofs.Ready.{taken_goes}
use Rattle.run_laws.proofs.Hubs.{set_cases, room_for}
use Rattle.run_laws.proofs.Settled.{begins_settled, released_hub}
use Rattle.run_laws.proofs.Elements.{past_end, new_empty}
use Rattle.hub.specs.declared.port.Port.{Port}
use Rattle.hub.specs.Boards.{base_for, laid}
use Rattle.hub.specs.Deals.{port, no_port, with_ring, drawn_from, stored_in, cell_of, value_written, handle_written, values_after, handles_after}
use Rattle.machine.specs.Memory.{marked}
use Rattle.calls.specs.declared.call.Call.{Call}
use Rattle.calls.specs.declared.call.Call.TheVariants.{Step as Stepping, Routine, Channel as Asking, Element}
use Rattle.calls.specs.declared.answer.Answer.{Answer}
use Rattle.calls.specs.declared.answer.Answer.TheVariants as answer
use Rattle.calls.specs.Calls.{Played, begun, enough, tells, granted, stepping}
use Rattle.calls.specs.Carried.{Kept, stepped, kept_after}
use Rattle.calls.specs.Filled.{Buffered, if_any, all_buffered, no_declared, declared, first_cell, cell_for, how_many, values_filled, handles_filled, first_kept, EachInItsCell}
use Rattle.calls.proofs.Along.{Fine, along}

-- ---- a ring in turn: so many elements were ever put there, and so many it holds
record InTurn (base capacity puts held : ℕ) (l : Layout) : Type 0 where
  takes : ℕ
  turned : Turned base capacity puts takes l
  count : l.count ≡ held

abbrev one : Bool → ℕ
one b = cond b 1 0

taken_out : {base capacity puts held : ℕ} (l : Layout) (b : Bool) → one b ≤ held → InTurn base capacity puts held l
    → InTurn base capacity puts (held - one b) (cond b (one_less l) l)
taken_out l false some t = record { takes = t.takes; turned = t.turned; count = omega (arith, t.count) }
taken_out l true some t = record { takes = t.takes + 1; turned = turned_take l t.turned (omega (arith, t.count)); count = omega (arith, t.count) }

put_in : {base capacity puts held : ℕ} (l : Layout) (b : Bool) → held + one b ≤ capacity → InTurn base capacity puts held l
    → InTurn base capacity (puts + one b) (held + one b) (cond b (one_more l) l)
put_in {base = base} {capacity = capacity} l false room t = record { takes = t.takes; turned = subst (λ n. Turned base capacity n t.takes l) (omega arith) t.turned; count = omega (arith, t.count) }
put_in l true room t = record { takes = t.takes; turned = turned_put l t.turned (omega (arith, t.count, t.turned.size)); count = omega (arith, t.count) }

-- ---- the rings of a board, of which one was changed
abbrev pub ring_at : List Port → ℕ → Layout
ring_at ps c = (port ps c).channel.ring

one_changed : (e : ℕ) (f : Layout → Layout) (ps : List Port) (c : ℕ) → c < length ps → ring_at (with_ring e f ps) c ≡ cond (eqb e c) (f (ring_at ps c)) (ring_at ps c)
one_changed e f ps c l = elim (cases_eq c e) [
  | inl q ↦ rw (q, eq-eqb e e refl) (ap (λ (x : Port). x.channel.ring) (get_or-set_same ps e _ no_port (subst (λ i. i < length ps) q l)))
  | inr n ↦ rw (ne_eqb e c (λ q. n (sym q))) (ap (λ (x : Port). x.channel.ring) (get_or-set_other ps e c _ no_port n))
]

-- a mark changes no ring
pub ring_marked : (cs : List Channel) (ps : List Port) (c : ℕ) → ring_at (marked cs ps) c ≡ ring_at ps c
ring_marked [] ps c = refl
ring_marked (x ∷ cs) [] c = refl
ring_marked (x ∷ cs) (p ∷ ps) zero = refl
ring_marked (x ∷ cs) (p ∷ ps) (suc c) = ring_marked cs ps c

pub as_many_marked : (cs : List Channel) (ps : List Port) → length (marked cs ps) ≡ length ps
as_many_marked [] ps = refl
as_many_marked (x ∷ cs) [] = refl
as_many_marked (x ∷ cs) (p ∷ ps) = ap suc (as_many_marked cs ps)

-- whether something was taken out of the buffer of channel c, and whether something was put in
abbrev pub draws : Option ℕ → ℕ → Bool
draws None c = false
draws (Some d) c = eqb d c

abbrev pub stores : Option Buffered → ℕ → Bool
stores None c = false
stores (Some s) c = eqb s.0 c

pub ring_drawn : (d : Option ℕ) (ps : List Port) (c : ℕ) → c < length ps → ring_at (drawn_from d ps) c ≡ cond (draws d c) (one_less (ring_at ps c)) (ring_at ps c)
ring_drawn None ps c l = refl
ring_drawn (Some d) ps c l = one_changed d one_less ps c l

pub ring_stored : (s : Option Buffered) (ps : List Port) (c : ℕ) → c < length ps → ring_at (stored_in s ps) c ≡ cond (stores s c) (one_more (ring_at ps c)) (ring_at ps c)
ring_stored None ps c l = refl
ring_stored (Some s) ps c l = one_changed s.0 one_more ps c l

pub as_many_drawn : (d : Option ℕ) (ps : List Port) → length (drawn_from d ps) ≡ length ps
as_many_drawn None ps = refl
as_many_drawn (Some d) ps = length-set ps d _

pub as_many_stored : (s : Option Buffered) (ps : List Port) → length (stored_in s ps) ≡ length ps
as_many_stored None ps = refl
as_many_stored (Some s) ps = length-set ps s.0 _

-- ---- how many were buffered on a channel
how_many_more : (c : ℕ) (before : List Buffered) (s : Option Buffered) → how_many c (before ++ if_any s) ≡ how_many c before + one (stores s c)
how_many_more c before None = ap (how_many c) (append-nil before) ∙ omega arith
how_many_more c before (Some s) = sum_by_push (λ (x : Buffered). cond (eqb x.0 c) 1 0) before s

-- ---- what a step takes out of the buffers and puts into them
record Moves (old new : Hub) (d : Option ℕ) (s : Option Buffered) : Type 0 where
  lengths : (c : ℕ) → length (channel new c).buffer + one (draws d c) ≡ length (channel old c).buffer + one (stores s c)
  some : (c : ℕ) → one (draws d c) ≤ length (channel old c).buffer
  there : IfSome s (λ e. e.0 < length old.channels)

still : (old new : Hub) → ((c : ℕ) → length (channel new c).buffer ≡ length (channel old c).buffer) → Moves old new None None
still old new same = record { lengths = λ c. omega (arith, same c); some = λ c. omega arith; there = tt }

unmoved : (h : Hub) → Moves h h None None
unmoved h = still h h (λ c. refl)

both_same : (b : Bool) (n : ℕ) → cond b n n ≡ n
both_same false n = refl
both_same true n = refl

-- the buffer of channel c, which is there, is changed, and the others are as they were
module _ (h : Hub) (c : ℕ) (l : c < length h.channels) where
  length_at : (b : List Item) (n m : ℕ) → length b + n ≡ length (channel h c).buffer + m
      → (e : ℕ) → length (channel (with_buffer c b h) e).buffer + cond (eqb c e) n 0 ≡ length (channel h e).buffer + cond (eqb c e) m 0
  length_at b n m q e = elim (cases_eq e c) [
    | inl i ↦ rw (i, eq-eqb c c refl, get_or-set_same h.channels c (record (channel h c) { buffer = b }) no_channel l) q
    | inr i ↦ rw (ne_eqb c e (λ j. i (sym j)), get_or-set_other h.channels c e (record (channel h c) { buffer = b }) no_channel i) refl
  ]

  some_at : 0 < length (channel h c).buffer → (e : ℕ) → cond (eqb c e) 1 0 ≤ length (channel h e).buffer
  some_at some e = elim (cases_eq e c) [
    | inl i ↦ rw (i, eq-eqb c c refl) (omega arith)
    | inr i ↦ rw (ne_eqb c e (λ j. i (sym j))) (omega arith)
  ]

  stored_moves : (x : Item) → Moves h (with_buffer c ((channel h c).buffer ++ (x ∷ [])) h) None (Some (c, x))
  stored_moves x =
      let b = (channel h c).buffer ++ (x ∷ []) in
      record {
        lengths = λ e. omega (arith, length_at b 0 1 (omega (arith, length-append (channel h c).buffer (x ∷ []))) e, both_same (eqb c e) 0);
        some = λ e. omega arith;
        there = l;
      }

  drawn_moves : (x : Item) (xs : List Item) → (channel h c).buffer ≡ x ∷ xs → Moves h (with_buffer c xs h) (Some c) None
  drawn_moves x xs b = record {
    lengths = λ e. omega (arith, length_at xs 1 0 (omega (arith, ap length b)) e, both_same (eqb c e) 0);
    some = some_at (omega (arith, ap length b));
    there = tt;
  }

  both_move : (x y : Item) (xs : List Item) → (channel h c).buffer ≡ x ∷ xs → Moves h (with_buffer c (xs ++ (y ∷ [])) h) (Some c) (Some (c, y))
  both_move x y xs b = record {
    lengths = length_at (xs ++ (y ∷ [])) 1 1 (omega (arith, ap length b, length-append xs (y ∷ [])));
    some = some_at (omega (arith, ap length b));
    there = l;
  }

-- ---- taking a case
-- a channel that has cells is there
with_cells : (h : Hub) (c : ℕ) → 0 < (channel h c).capacity → c < length h.channels
with_cells h c some = elim (cases_lt c (length h.channels)) [
  | inl l ↦ l
  | inr g ↦ let none : 0 < 0 = subst (λ (x : Channel). 0 < x.capacity) (past_end h.channels c g) some in absurd (omega (arith, none))
]

module _ (h : Hub) (s : SettledHub h) where
  send_moves : (c : ℕ) (e e' : Item) → can_go h (Some (wish.Send c e)) ≡ true → (closed : Bool) → (channel h c).closed ≡ closed → (ws : List (Entry Item)) → queued h Receivers c ≡ ws
      → let d = send_on h c e' closed ws in Moves h d.hub d.drawn d.stored
  send_moves c e e' g true cl ws q = unmoved h
  send_moves c e e' g false cl [] q =
      let room = ltb-true (length (channel h c).buffer) (channel h c).capacity (room_for h s c e g cl q) in
      stored_moves h c (with_cells h c (omega arith)) e'
  send_moves c e e' g false cl (w ∷ ws) q = still h (leaves w.routine h) (λ c. refl)

  with_element : (c : ℕ) (e : Item) (es : List Item) → (channel h c).buffer ≡ e ∷ es → c < length h.channels
  with_element c e es b = with_cells h c (omega (arith, ap length b, s.few c))

  receive_moves : (c : ℕ) (es : List Item) → (channel h c).buffer ≡ es → (ws : List (Entry Item)) → let d = receive_on h c es ws in Moves h d.hub d.drawn d.stored
  receive_moves c [] b [] = unmoved h
  receive_moves c [] b (w ∷ ws) = still h (leaves w.routine h) (λ c. refl)
  receive_moves c (e ∷ es) b [] = drawn_moves h c (with_element c e es b) e es b
  receive_moves c (e ∷ es) b (w ∷ ws) =
      let m = both_move h c (with_element c e es b) e (offered h c w) es b in
      record { lengths = m.lengths; some = m.some; there = m.there }

  take_moves : (w : Option (Wish Item)) → can_go h w ≡ true → let d = take_case h w in Moves h d.hub d.drawn d.stored
  take_moves None g = unmoved h
  take_moves (Some (wish.Send c e)) g = send_moves c e (as_kind (channel h c).kind e) g (channel h c).closed refl (queued h Receivers c) refl
  take_moves (Some (wish.Receive c)) g = receive_moves c (channel h c).buffer refl (queued h Senders c)

-- ---- a step
abbrev StepMoves : Run → Step → Type 0
StepMoves run t = Moves run.hub t.run.hub t.drawn t.stored

passing_moves : (old : Run) (m : Meaning) (r n k : ℕ) (b : Branch) (pk : Option Picked) (t : Taken) (q : Passed)
    → Moves old.hub t.run.hub t.drawn t.stored → StepMoves old (passing old m r n k b pk t q)
passing_moves old m r n k b pk t (Sent c e) f = f
passing_moves old m r n k b pk t (Received c e) f = f
passing_moves old m r n k b pk t (Drained c) f = f
passing_moves old m r n k b pk t Broken f = unmoved old.hub

ending_moves : (run : Run) (m : Meaning) (r : ℕ) (b : Bool) → StepMoves run (ending run m r (routine run r) b)
ending_moves run m r true = unmoved run.hub
ending_moves run m r false = unmoved run.hub

closing_still : (run : Run) (c d : ℕ) → length (channel (closing_run c run).hub d).buffer ≡ length (channel run.hub d).buffer
closing_still run c d =
    ap (λ h. length (channel h d).buffer) (release_all_hub (dismissals run.hub c) (record run { hub = closed_at run.hub c }))
    ∙ elim (set_cases run.hub.channels c (record (channel run.hub c) { closed = true }) d) [
      | inl e ↦ ap (λ (x : Channel). length x.buffer) e
      | inr e ↦ ap (λ (x : Channel). length x.buffer) e.1 ∙ ap (λ i. length (channel run.hub i).buffer) (sym e.0)
    ]

step_moves : (p : Program) (run : Run) (m : Meaning) → Lawful m → Settled p run → StepMoves run (step p run m)
step_moves p run m l s = by_ways p run m (StepMoves run) (λ e. unmoved run.hub) (λ r rest e. record {
  resumes = λ k q st. passing_moves run m r (text_line p (routine run r)) k (branch_at (branches p (routine run r)) k) None (nothing_moved q run) q (unmoved run.hub);
  stays = λ n d after c q l. unmoved run.hub;
  goes = λ n d x after c q l. unmoved run.hub;
  waits = λ n bs c h ch df. still run.hub _ (λ c. refl);
  takes = λ n bs k pk c h t.
      let v = wish_of run.hub.channels (routine run r) (branch_at bs k).exchange in
      let d = take_case run.hub v in
      passing_moves run _ r n k (branch_at bs k) pk (taken_by r d run) d.passed
      (subst (λ g. Moves run.hub g d.drawn d.stored) (sym (released_hub p run d.released d.hub))
      (take_moves run.hub s.hub v (taken_goes run m r (routine run r) bs k l t)));
  closes = λ n c q h. still run.hub _ (closing_still run c);
  starts = λ n b q room. unmoved run.hub;
  ends = λ q b. ending_moves run m r b;
})

-- ---- all channels of a board in turn, when those elements were buffered
record InTurns (ds : List Declared) (before : List Buffered) (h : Hub) (ps : List Port) : Type 0 where
  as_many : length ps ≡ length ds
  kept : kinds h.channels ≡ kinds (map new_channel ds)
  turns : (c : ℕ) → c < length ds → InTurn (first_cell ds c) (declared ds c).capacity (how_many c before) (length (channel h c).buffer) (ring_at ps c)

as_many_channels : (ds : List Declared) (cs : List Channel) → kinds cs ≡ kinds (map new_channel ds) → length cs ≡ length ds
as_many_channels ds cs k = sym (length-map cs _) ∙ ap length k ∙ length-map (map new_channel ds) _ ∙ length-map ds new_channel

capacity_kept : (ds : List Declared) (cs : List Channel) → kinds cs ≡ kinds (map new_channel ds) → (c : ℕ) → (channel_in cs c).capacity ≡ (declared ds c).capacity
capacity_kept ds cs k c =
    let at : Channel → Kind × ℕ = λ x. (x.kind, x.capacity) in
    ap (λ (x : Kind × ℕ). x.1)
    (sym (get_or-map at cs c no_channel) ∙ ap (λ l. get_or l c (at no_channel)) k ∙ get_or-map at (map new_channel ds) c no_channel)
    ∙ ap (λ (x : Channel). x.capacity) (get_or-map new_channel ds c no_declared)

-- at the start
more_base : (k : Kind) (v h : ℕ) (d : Declared) → base_for k (v + cells_for ValueKind d) (h + cells_for HandleKind d) ≡ base_for k v h + cells_for k d
more_base ValueKind v h d = refl
more_base HandleKind v h d = refl

base_zero : (k : Kind) (n : ℕ) → n ≡ base_for k 0 0 + n
base_zero ValueKind n = omega arith
base_zero HandleKind n = omega arith

ring_laid : (n v h : ℕ) (ds : List Declared) (c : ℕ) → c < length ds
    → ring_at (laid n v h ds) c ≡ fresh (base_for (declared ds c).kind v h + first_cell ds c) (declared ds c).capacity
ring_laid n v h [] c l = absurd (omega arith)
ring_laid n v h (d ∷ ds) zero l = ap (λ b. fresh b d.capacity) (omega arith)
ring_laid n v h (d ∷ ds) (suc c) l =
    let x : Declared = declared ds c in
    ring_laid (n + 1) (v + cells_for ValueKind d) (h + cells_for HandleKind d) ds c (omega arith)
    ∙ ap (λ b. fresh b x.capacity) (omega (arith, more_base x.kind v h d, sum_by-cons (cells_for x.kind) d (take c ds)))

as_many_laid : (n v h : ℕ) (ds : List Declared) → length (laid n v h ds) ≡ length ds
as_many_laid n v h [] = refl
as_many_laid n v h (d ∷ ds) = ap suc (as_many_laid (n + 1) (v + cells_for ValueKind d) (h + cells_for HandleKind d) ds)

begins_in_turn : (p : Program) → InTurns p.channels [] (started p).hub (laid 0 0 0 p.channels)
begins_in_turn p =
    let ds = p.channels in
    record {
      as_many = as_many_laid 0 0 0 ds;
      kept = refl;
      turns = λ c l.
          let base = first_cell ds c in
          let size = (declared ds c).capacity in
          let new : InTurn base size 0 0 (fresh base size) = record { takes = 0; turned = turned_fresh base size; count = refl } in
          let lies : fresh base size ≡ ring_at (laid 0 0 0 ds) c = ap (λ b. fresh b size) (base_zero (declared ds c).kind base) ∙ sym (ring_laid 0 0 0 ds c l) in
          subst (λ n. InTurn base size 0 n (ring_at (laid 0 0 0 ds) c)) (sym (ap length (new_empty ds c))) (subst (InTurn base size 0 0) lies new);
    }

-- a step
module _ (ds : List Declared) (before : List Buffered) (old new : Hub) (ps : List Port) (t : InTurns ds before old ps) where
  when_drawn : (d : Option ℕ) (s : Option Buffered) → Moves old new d s → (c : ℕ) → c < length ds
      → InTurn (first_cell ds c) (declared ds c).capacity (how_many c before) (length (channel old c).buffer - one (draws d c)) (ring_at (drawn_from d ps) c)
  when_drawn d s m c l =
      subst (InTurn (first_cell ds c) (declared ds c).capacity (how_many c before) (length (channel old c).buffer - one (draws d c)))
      (sym (ring_drawn d ps c (omega (arith, t.as_many))))
      (taken_out (ring_at ps c) (draws d c) (m.some c) (t.turns c l))

  -- so what is stored goes to the cell that its number says
  cell_is : (d : Option ℕ) (s : Option Buffered) → Moves old new d s → IfSome s (λ e. cell_of (drawn_from d ps) e.0 ≡ cell_for ds e.0 (how_many e.0 before))
  cell_is d None m = tt
  cell_is d (Some e) m =
      let l : e.0 < length ds = omega (arith, m.there, as_many_channels ds old.channels t.kept) in
      next_is (ring_at (drawn_from d ps) e.0) (when_drawn d (Some e) m e.0 l).turned

  stays_in_turn : (d : Option ℕ) (s : Option Buffered) → Moves old new d s → SettledHub new → kinds new.channels ≡ kinds old.channels
      → InTurns ds (before ++ if_any s) new (marked new.channels (stored_in s (drawn_from d ps)))
  stays_in_turn d s m few same =
      let qs = drawn_from d ps in
      let kept = same ∙ t.kept in
      record {
        as_many = as_many_marked new.channels (stored_in s qs) ∙ as_many_stored s qs ∙ as_many_drawn d ps ∙ t.as_many;
        kept = kept;
        turns = λ c l.
            let base = first_cell ds c in
            let size = (declared ds c).capacity in
            let left = length (channel old c).buffer - one (draws d c) in
            let holds : left + one (stores s c) ≡ length (channel new c).buffer = omega (arith, m.lengths c, m.some c) in
            let room : left + one (stores s c) ≤ size = omega (arith, holds, few.few c, capacity_kept ds new.channels kept c) in
            let put = put_in (ring_at qs c) (stores s c) room (when_drawn d s m c l) in
            let lies : cond (stores s c) (one_more (ring_at qs c)) (ring_at qs c) ≡ ring_at (marked new.channels (stored_in s qs)) c =
            sym (ring_stored s qs c (omega (arith, t.as_many, as_many_drawn d ps))) ∙ sym (ring_marked new.channels (stored_in s qs) c) in
            subst (λ n. InTurn base size n (length (channel new c).buffer) (ring_at (marked new.channels (stored_in s qs)) c)) (sym (how_many_more c before s))
            (subst (λ n. InTurn base size (how_many c before + one (stores s c)) n (ring_at (marked new.channels (stored_in s qs)) c)) holds
            (subst (InTurn base size (how_many c before + one (stores s c)) (left + one (stores s c))) lies put));
      }

-- ---- along a list of calls
-- one that is buffered first, and the rest after it
module _ (ds : List Declared) (before later : List Buffered) (d : Option ℕ) (ps : List Port) where
  values_next : (s : Option Buffered) (vs : List Value) → IfSome s (λ e. cell_of (drawn_from d ps) e.0 ≡ cell_for ds e.0 (how_many e.0 before))
      → values_filled ds (before ++ if_any s) later (values_after ps d s vs) ≡ values_filled ds before (if_any s ++ later) vs
  values_next None vs c = ap (λ b. values_filled ds b later vs) (append-nil before)
  values_next (Some e) vs c = ap (λ i. values_filled ds (before ++ (e ∷ [])) later (value_written i e.1 vs)) c

  handles_next : (s : Option Buffered) (hs : List Handle) → IfSome s (λ e. cell_of (drawn_from d ps) e.0 ≡ cell_for ds e.0 (how_many e.0 before))
      → handles_filled ds (before ++ if_any s) later (handles_after ps d s hs) ≡ handles_filled ds before (if_any s ++ later) hs
  handles_next None hs c = ap (λ b. handles_filled ds b later hs) (append-nil before)
  handles_next (Some e) hs c = ap (λ i. handles_filled ds (before ++ (e ∷ [])) later (handle_written i e.1 hs)) c

record Filled (ds : List Declared) (before more : List Buffered) (old new : Kept) : Type 0 where
  values : new.values ≡ values_filled ds before more old.values
  handles : new.handles ≡ handles_filled ds before more old.handles

module _ (p : Program) (few : FewCases p) where
  abbrev From : List Call → Type 0
  From cs = (at : Played) → Fine p at → (before : List Buffered) (k : Kept) → InTurns p.channels before at.run.hub k.memory.hub.ports
      → Filled p.channels before (all_buffered p at cs) k (kept_after p at cs k)

  module _ (cs : List Call) (rest : From cs) (at : Played) (f : Fine p at) (before : List Buffered) (k : Kept) (t : InTurns p.channels before at.run.hub k.memory.hub.ports) where
    step_filled : let s = step p at.run at.meaning in let next = (granted s).after in Fine p next
        → Filled p.channels before (if_any s.stored ++ all_buffered p next cs) k (kept_after p next cs (stepped s k))
    step_filled g =
        let s = step p at.run at.meaning in
        let next = (granted s).after in
        let ps = k.memory.hub.ports in
        let m = step_moves p at.run at.meaning f.lawful f.settled in
        let cell = cell_is p.channels before at.run.hub s.run.hub ps t s.drawn s.stored m in
        let turns = stays_in_turn p.channels before at.run.hub s.run.hub ps t s.drawn s.stored m g.settled.hub (channels_stay p at.run at.meaning) in
        let r = rest next g (before ++ if_any s.stored) (stepped s k) turns in
        let later = all_buffered p next cs in
        record {
          values = r.values ∙ values_next p.channels before later s.drawn ps s.stored k.values cell;
          handles = r.handles ∙ handles_next p.channels before later s.drawn ps s.stored k.handles cell;
        }

    call_filled : (b over : Bool) → Fine p (stepping p at (step_refused b over)).after
        → let s = step p at.run at.meaning in let go = is_none (step_refused b over) in let next = (stepping p at (step_refused b over)).after in
        Filled p.channels before (cond go (if_any s.stored) [] ++ all_buffered p next cs) k (kept_after p next cs (cond go (stepped s k) k))
    call_filled false over g = rest at f before k t
    call_filled true true g = rest at f before k t
    call_filled true false g = step_filled g

    told_filled : {A : Type 0} (a : A → Answer) (r : Result A Refusal) → let next = (tells a r at).after in Filled p.channels before (all_buffered p next cs) k (kept_after p next cs k)
    told_filled a (Ok x) = rest at f before k t
    told_filled a (Err why) = rest at f before k t

  filled : (cs : List Call) → From cs
  filled [] at f before k t = record { values = refl; handles = refl }
  filled (Stepping cells ∷ cs) at f before k t = call_filled cs (filled cs) at f before k t (enough cells) at.run.over (along p few at f (Stepping cells ∷ [])).1
  filled (Routine r ∷ cs) at f before k t = told_filled cs (filled cs) at f before k t answer.Routine (routine_question p at.run r)
  filled (Asking c ∷ cs) at f before k t = told_filled cs (filled cs) at f before k t answer.Channel (channel_question at.run.hub c)
  filled (Element c i cells ∷ cs) at f before k t = told_filled cs (filled cs) at f before k t answer.Element (element_question at.run.hub c i (enough cells))

pub cells_filled : (p : Program) → FewCases p → (m : Meaning) → Lawful m → (vs : List Value) (hs : List Handle) (calls : List Call)
    → EachInItsCell p m calls vs hs (kept_after p (begun p m) calls (first_kept p vs hs))
cells_filled p few m l vs hs calls =
    let r = filled p few calls (begun p m) (record { settled = begins_settled p; lawful = l }) [] (first_kept p vs hs) (begins_in_turn p) in
    record { values = r.values; handles = r.handles }
