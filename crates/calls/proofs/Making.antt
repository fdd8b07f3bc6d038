-- A call that is handed some of the cells, as a call of the run that all of them stand for.
use Rattle.std.specs.Option.{is_none}
use Rattle.std.proofs.Common.{◌≡◌, ℕ, ◌+◌, ◌<◌, ◌≤◌, min, Bool, true, false, leb, List, [], ◌∷◌, ◌++◌, map, length, take, drop, Some, None, Option, Result, IfSome, sym, refl, ap, ap₂, ◌∙◌, subst, inl, inr, arith}
use Rattle.std.specs.Prelude.{cond, ◌&&◌}
use Rattle.std.specs.List.{between}
use Rattle.std.proofs.Math.Nat.{zero-mod}
use Rattle.std.proofs.lemmas.Nat.{mod_below}
use Rattle.std.proofs.lemmas.List.{take-append-drop, take-append-le, set-append_left, get_or_past, length-set, length-take}
use Rattle.std.proofs.lemmas.Slice.{between_is}
use Rattle.std.proofs.lemmas.Bool.{cases_lt, eq-eqb}
use Rattle.std.proofs.lemmas.Bool.Decides.{nat_tests}
use Rattle.words.specs.declared.refusal.Refusal.{Refusal}
use Rattle.words.specs.declared.refusal.Refusal.TheVariants.{Small, Over}
use Rattle.lines.specs.declared.line.Kind.TheVariants.{Value as ValueKind, Handle as HandleKind}
use Rattle.lines.specs.declared.line.Kind.{Kind}
use Rattle.elements.specs.declared.value.Value.{Value as Number}
use Rattle.elements.specs.declared.handle.Handle.{Handle as Holder}
use Rattle.rings.specs.Contents.{contents}
use Rattle.rings.specs.Layouts.{Layout, Sound, held, one_more, one_less}
use Rattle.linking.specs.Sound.{cells_for}
use Rattle.linking.specs.Programs.{Program}
use Rattle.waiting.specs.declared.wish.Wish.{Wish}
use Rattle.waiting.specs.declared.wish.Wish.TheVariants as wish
use Rattle.waiting.specs.declared.wish.Side.TheVariants.{Receivers, Senders}
use Rattle.waiting.specs.declared.wish.Entry.{Entry}
use Rattle.pickers.specs.Meaning.{Meaning}
use Rattle.reports.specs.declared.report.Picked.{Picked}
use Rattle.reports.specs.declared.report.Report.{Report}
use Rattle.routines.specs.declared.item.Item.{Item}
use Rattle.routines.specs.declared.item.Item.TheVariants.{Value, Handle}
use Rattle.routines.specs.declared.routine.Passed.{Passed}
use Rattle.routines.specs.declared.routine.Passed.TheVariants.{Sent, Received, Drained, Broken}
use Rattle.routines.specs.Items.{as_value, as_handle, as_kind}
use Rattle.runs.specs.Runs.{Parts, Run, Hub, Channel, channel, routine, queued, text_line}
use Rattle.runs.specs.Cases.{Branch, wish_of}
use Rattle.runs.specs.Taking.{take as take_case, send_on, receive_on, offer}
use Rattle.runs.specs.Steps.{Step, Taken, taken_by, nothing_moved, passing, branch_at, branches, ending, step}
use Rattle.runs.specs.Questions.{step_refused, element_question}
use Rattle.run_laws.proofs.Ways.{by_ways}
use Rattle.hub.specs.declared.port.Port.{Port}
use Rattle.hub.specs.Boards.{Board, Enough, Placed, buffered, cells_of, declared, enough as has_cells, seen, seen_port}
use Rattle.hub.specs.Deals.{port, no_port, drawn_from, stored_in, cell_of, value_written, handle_written, values_after, handles_after}
use Rattle.hub.proofs.Boards.{stands, channel_seen}
use Rattle.machine.specs.Memory.{Stepped, refused, seen_run, marked}
use Rattle.calls.specs.declared.call.Cells.{Cells}
use Rattle.calls.specs.declared.call.Call.TheVariants.{Step as Stepping}
use Rattle.calls.specs.declared.answer.Answer.{Answer}
use Rattle.calls.specs.declared.answer.Answer.TheVariants.{Report as OfReport, Refused}
use Rattle.calls.specs.Calls.{Played, enough, told, granted, stepping}
use Rattle.calls.specs.Carried.{Kept, Made, played, stepped, seen as kept_run}
use Rattle.calls.specs.Filled.{Buffered}
use Rattle.calls.proofs.Filled.{ring_at, draws, ring_marked, ring_drawn, ring_stored, as_many_marked, as_many_drawn, as_many_stored}

-- ---- what lies within the first cells
between_first : {X : Type 0} (i j : ℕ) (xs ys : List X) → j ≤ length xs → between i j (xs ++ ys) ≡ between i j xs
between_first i j xs ys l = between_is (xs ++ ys) i j ∙ ap (drop i) (take-append-le j xs ys l) ∙ sym (between_is xs i j)

held_first : {X : Type 0} (l : Layout) (xs ys : List X) → l.base + l.capacity ≤ length xs → held l (xs ++ ys) ≡ held l xs
held_first l xs ys f = ap (λ part. contents part l.first l.count) (between_first l.base (l.base + l.capacity) xs ys f)

module _ (vs us : List Number) (hs gs : List Holder) (e : Enough vs hs) where
  buffered_first : (k : Kind) (l : Layout) → l.base + l.capacity ≤ cells_of k → buffered k l (vs ++ us) (hs ++ gs) ≡ buffered k l vs hs
  buffered_first ValueKind l f = let m = e.values in ap (map Value) (held_first l vs us (omega arith))
  buffered_first HandleKind l f = let m = e.handles in ap (map Handle) (held_first l hs gs (omega arith))

  ports_first : (c v h : ℕ) (ps : List Port) → Placed c v h ps → map (seen_port (vs ++ us) (hs ++ gs)) ps ≡ map (seen_port vs hs) ps
  ports_first c v h [] k = refl
  ports_first c v h (p ∷ ps) k =
      let s = stands c v h (p ∷ ps) 0 p k (omega arith) in
      ap₂ (λ b qs. record (seen_port vs hs p) { buffer = b } ∷ qs) (buffered_first p.kind p.channel.ring s.fits)
      (ports_first (c + 1) (v + cells_for ValueKind (declared p)) (h + cells_for HandleKind (declared p)) ps k.3)

  -- enough cells stand for what more cells stand for
  pub seen_first : (b : Board) → Placed 0 0 0 b.ports → seen b (vs ++ us) (hs ++ gs) ≡ seen b vs hs
  seen_first b k = ap (λ cs. record { channels = cs; line = b.line; wishes = b.wishes }) (ports_first 0 0 0 b.ports k)

-- ---- how many cells are handed
least_of_less : (c a n : ℕ) → c ≤ n → leb c (min a n) ≡ leb c a
least_of_less c a n l = grind (arith, nat_tests)

module _ (vs : List Number) (hs : List Holder) (e : Enough vs hs) (cells : Cells) (v h : ℕ) (vm : v ≡ min cells.values (length vs)) (hm : h ≡ min cells.handles (length hs)) where
  handed_values : length (take v vs) ≡ v
  handed_values = length-take v vs ∙ omega (arith, vm)

  handed_handles : length (take h hs) ≡ h
  handed_handles = length-take h hs ∙ omega (arith, hm)

  -- handed all of them, it is handed enough just when it is handed enough of them
  pub handed_enough : has_cells (take v vs) (take h hs) ≡ enough cells
  handed_enough = ap₂ (λ a b. a && b)
      (ap (leb 512) (handed_values ∙ vm) ∙ least_of_less 512 cells.values (length vs) e.values)
      (ap (leb 128) (handed_handles ∙ hm) ∙ least_of_less 128 cells.handles (length hs) e.handles)

  module _ (b : Board) (k : Placed 0 0 0 b.ports) where
    pub seen_handed : has_cells (take v vs) (take h hs) ≡ true → seen b (take v vs) (take h hs) ≡ seen b vs hs
    seen_handed t = sym (seen_first (take v vs) (drop v vs) (take h hs) (drop h hs) (record { values = grind (arith, nat_tests); handles = grind (arith, nat_tests) }) b k)
        ∙ ap₂ (seen b) (take-append-drop v vs) (take-append-drop h hs)

    -- ---- the code of an element
    pub code_handed : (c i : ℕ) → element_question (seen b (take v vs) (take h hs)) c i (has_cells (take v vs) (take h hs)) ≡ element_question (seen b vs hs) c i (enough cells)
    code_handed c i = go (has_cells (take v vs) (take h hs)) refl ∙ ap (element_question (seen b vs hs) c i) handed_enough
      where
        go : (t : Bool) → has_cells (take v vs) (take h hs) ≡ t → element_question (seen b (take v vs) (take h hs)) c i (has_cells (take v vs) (take h hs)) ≡ element_question (seen b vs hs) c i (has_cells (take v vs) (take h hs))
        go false q = rw (q) refl
        go true q = ap (λ s. element_question s c i (has_cells (take v vs) (take h hs))) (seen_handed q)

-- ---- what a step stores is of the kind of its channel
abbrev OfKind : Hub → Option Buffered → Type 0
OfKind h s = IfSome s (λ e. as_kind (channel h e.0).kind e.1 ≡ e.1)

as_kind_twice : (k : Kind) (e : Item) → as_kind k (as_kind k e) ≡ as_kind k e
as_kind_twice ValueKind e = refl
as_kind_twice HandleKind e = refl

module _ (h : Hub) (c : ℕ) where
  send_kind : (e : Item) → as_kind (channel h c).kind e ≡ e → (closed : Bool) (ws : List (Entry Item)) → OfKind h (send_on h c e closed ws).stored
  send_kind e q true ws = tt
  send_kind e q false [] = q
  send_kind e q false (w ∷ ws) = tt

  receive_kind : (es : List Item) (ws : List (Entry Item)) → OfKind h (receive_on h c es ws).stored
  receive_kind [] [] = tt
  receive_kind [] (w ∷ ws) = tt
  receive_kind (e ∷ es) [] = tt
  receive_kind (e ∷ es) (w ∷ ws) = as_kind_twice (channel h c).kind (offer w.wish)

take_kind : (h : Hub) (w : Option (Wish Item)) → OfKind h (take_case h w).stored
take_kind h None = tt
take_kind h (Some (wish.Send c e)) = let k = (channel h c).kind in send_kind h c (as_kind k e) (as_kind_twice k e) (channel h c).closed (queued h Receivers c)
take_kind h (Some (wish.Receive c)) = receive_kind h c (channel h c).buffer (queued h Senders c)

passing_kind : (old : Run) (m : Meaning) (r n k : ℕ) (b : Branch) (pk : Option Picked) (t : Taken) (q : Passed)
    → OfKind old.hub t.stored → OfKind old.hub (passing old m r n k b pk t q).stored
passing_kind old m r n k b pk t (Sent c e) f = f
passing_kind old m r n k b pk t (Received c e) f = f
passing_kind old m r n k b pk t (Drained c) f = f
passing_kind old m r n k b pk t Broken f = tt

ending_kind : (run : Run) (m : Meaning) (r : ℕ) (b : Bool) → OfKind run.hub (ending run m r (routine run r) b).stored
ending_kind run m r true = tt
ending_kind run m r false = tt

step_kind : (p : Program) (run : Run) (m : Meaning) → OfKind run.hub (step p run m).stored
step_kind p run m = by_ways p run m (λ s. OfKind run.hub s.stored) (λ e. tt) (λ r rest e. record {
  resumes = λ k q st. passing_kind run m r (text_line p (routine run r)) k (branch_at (branches p (routine run r)) k) None (nothing_moved q run) q tt;
  stays = λ n d after c q l. tt;
  goes = λ n d x after c q l. tt;
  waits = λ n bs c h ch df. tt;
  takes = λ n bs k pk c h t.
      let v = wish_of run.hub.channels (routine run r) (branch_at bs k).exchange in
      let d = take_case run.hub v in
      passing_kind run _ r n k (branch_at bs k) pk (taken_by r d run) d.passed (take_kind run.hub v);
  closes = λ n c q h. tt;
  starts = λ n b q room. tt;
  ends = λ q b. ending_kind run m r b;
})

-- ---- and it is written within the cells of its kind
base_stays : (b : Bool) (l : Layout) → (cond b (one_less l) l).base ≡ l.base
base_stays false l = refl
base_stays true l = refl

capacity_stays : (b : Bool) (l : Layout) → (cond b (one_less l) l).capacity ≡ l.capacity
capacity_stays false l = refl
capacity_stays true l = refl

module _ (ps : List Port) (k : Placed 0 0 0 ps) (d : Option ℕ) (e : Buffered) (cs : List Channel) (after : Placed 0 0 0 (marked cs (stored_in (Some e) (drawn_from d ps)))) where
  cell_there : e.0 < length ps → cell_of (drawn_from d ps) e.0 < cells_of (port ps e.0).kind
  cell_there l =
      let c = e.0 in
      let qs = drawn_from d ps in
      let more = stored_in (Some e) qs in
      let r : Layout = ring_at qs c in
      let lies : r ≡ cond (draws d c) (one_less (ring_at ps c)) (ring_at ps c) = ring_drawn d ps c l in
      let same : ring_at (marked cs more) c ≡ one_more r =
      ring_marked cs more c ∙ ring_stored (Some e) qs c (omega (arith, as_many_drawn d ps)) ∙ ap (λ b. cond b (one_more r) r) (eq-eqb c c refl) in
      let s = stands 0 0 0 (marked cs more) c no_port after (omega (arith, as_many_marked cs more, as_many_stored (Some e) qs, as_many_drawn d ps)) in
      let room : r.count + 1 ≤ r.capacity = (subst Sound same s.sound).counted in
      let base : r.base ≡ (ring_at ps c).base = ap (λ (x : Layout). x.base) lies ∙ base_stays (draws d c) (ring_at ps c) in
      let size : r.capacity ≡ (ring_at ps c).capacity = ap (λ (x : Layout). x.capacity) lies ∙ capacity_stays (draws d c) (ring_at ps c) in
      omega (arith, mod_below (r.first + r.count) r.capacity (omega (arith, room)), base, size, (stands 0 0 0 ps c no_port k l).fits)

  cell_missing : length ps ≤ e.0 → cell_of (drawn_from d ps) e.0 < cells_of (port ps e.0).kind
  cell_missing g = rw (get_or_past ps e.0 no_port g, get_or_past (drawn_from d ps) e.0 no_port (omega (arith, as_many_drawn d ps))) (omega (arith, zero-mod 0))

  cell_within : cell_of (drawn_from d ps) e.0 < cells_of (port ps e.0).kind
  cell_within = elim (cases_lt e.0 (length ps)) [
    | inl l ↦ cell_there l
    | inr g ↦ cell_missing g
  ]

module _ (vs us : List Number) (hs gs : List Holder) (n : Enough vs hs) where
  -- a write within the first cells
  record WrittenFirst (i : ℕ) (x : Item) : Type 0 where
    values : value_written i x vs ++ us ≡ value_written i x (vs ++ us)
    handles : handle_written i x hs ++ gs ≡ handle_written i x (hs ++ gs)
    enough : Enough (value_written i x vs) (handle_written i x hs)

  written_first : (k : Kind) (x : Item) (i : ℕ) → i < cells_of k → WrittenFirst i (as_kind k x)
  written_first ValueKind x i l = record {
    values = sym (set-append_left vs us i (as_value x) (omega (arith, n.values)));
    handles = refl;
    enough = record { values = omega (arith, length-set vs i (as_value x), n.values); handles = n.handles };
  }
  written_first HandleKind x i l = record {
    values = refl;
    handles = sym (set-append_left hs gs i (as_handle x) (omega (arith, n.handles)));
    enough = record { values = n.values; handles = omega (arith, length-set hs i (as_handle x), n.handles) };
  }

  record AfterFirst (ps : List Port) (d : Option ℕ) (s : Option Buffered) : Type 0 where
    values : values_after ps d s vs ++ us ≡ values_after ps d s (vs ++ us)
    handles : handles_after ps d s hs ++ gs ≡ handles_after ps d s (hs ++ gs)
    enough : Enough (values_after ps d s vs) (handles_after ps d s hs)

  module _ (b : Board) (k : Placed 0 0 0 b.ports) (d : Option ℕ) (cs : List Channel) where
    after_first : (s : Option Buffered) → OfKind (seen b (vs ++ us) (hs ++ gs)) s → Placed 0 0 0 (marked cs (stored_in s (drawn_from d b.ports))) → AfterFirst b.ports d s
    after_first None q after = record { values = refl; handles = refl; enough = n }
    after_first (Some e) q after =
        let kind = ap (λ (x : Channel). x.kind) (channel_seen (vs ++ us) (hs ++ gs) b e.0) in
        let same = ap (λ j. as_kind j e.1) (sym kind) ∙ q in
        let i = cell_of (drawn_from d b.ports) e.0 in
        let w = subst (WrittenFirst i) same (written_first (port b.ports e.0).kind e.1 i (cell_within b.ports k d e cs after)) in
        record { values = w.values; handles = w.handles; enough = w.enough }

-- ---- a step
module _ (m m' : Meaning) (old new : Parts Board) (a : Result Report Refusal) (vs vs' us : List Number) (hs hs' gs : List Holder) where
  abbrev before : Kept
  before = record { memory = old; values = vs ++ us; handles = hs ++ gs }

  abbrev after : Kept
  after = record { memory = new; values = vs' ++ us; handles = hs' ++ gs }

  record Became (w : Answer) (k : Kept) (at : Played) : Type 0 where
    answer : told OfReport a ≡ w
    left : after ≡ k
    run : played after m' ≡ at

  refused_first : (s : Step) (why : Refusal) → Stepped (Some why) s m old vs hs a m' new vs' hs' → Became (Refused why) before (played before m)
  refused_first s why t =
      let left : after ≡ before = rw (t.memory, t.values, t.handles) refl in
      record { answer = ap (told OfReport) t.answer; left = left; run = ap₂ (λ k n. played k n) left t.meaning }

  granted_first : (s : Step) → Placed 0 0 0 old.hub.ports → Placed 0 0 0 new.hub.ports → Enough vs hs → OfKind (seen old.hub (vs ++ us) (hs ++ gs)) s.stored
      → Stepped None s m old vs hs a m' new vs' hs' → Became (OfReport s.report) (stepped s before) (granted s).after
  granted_first s k k' n q t =
      let placed = subst (λ (x : Parts Board). Placed 0 0 0 x.hub.ports) t.memory k' in
      let f = after_first vs us hs gs n old.hub k s.drawn s.run.hub.channels s.stored q placed in
      let enough' : Enough vs' hs' = rw (t.values, t.handles) f.enough in
      let same : seen_run new (vs' ++ us) (hs' ++ gs) ≡ s.run =
      ap (λ b. record { routines = new.routines; hub = b; turns = new.turns; over = new.over }) (seen_first vs' us hs' gs enough' new.hub k') ∙ t.run in
      record {
        answer = ap (told OfReport) t.answer;
        left = rw (t.memory, t.values, t.handles, f.values, f.handles) refl;
        run = ap₂ (λ (r : Run) n. record { run = r; meaning = n }) same t.meaning;
      }

  module _ (p : Program) (k : Placed 0 0 0 old.hub.ports) (k' : Placed 0 0 0 new.hub.ports) where
    abbrev MadeIf : Bool → Bool → Type 0
    MadeIf b over = let r = stepping p (played before m) (step_refused b over) in Became r.answer (cond (is_none (step_refused b over)) (stepped (step p (kept_run before) m) before) before) r.after

    made_if : (b over : Bool) → has_cells vs hs ≡ b
        → Stepped (cond b (cond over (Some Over) None) (Some Small)) (step p (seen_run old vs hs) m) m old vs hs a m' new vs' hs' → MadeIf b over
    made_if false over q t = refused_first (step p (seen_run old vs hs) m) Small t
    made_if true true q t = refused_first (step p (seen_run old vs hs) m) Over t
    made_if true false q t =
        let n : Enough vs hs = record { values = grind (arith, nat_tests); handles = grind (arith, nat_tests) } in
        let same : seen_run old vs hs ≡ kept_run before = ap (λ b. record { routines = old.routines; hub = b; turns = old.turns; over = old.over }) (sym (seen_first vs us hs gs n old.hub k)) in
        granted_first (step p (kept_run before) m) k k' n (step_kind p (kept_run before) m)
        (subst (λ r. Stepped None (step p r m) m old vs hs a m' new vs' hs') same t)

    made_first : (cells : Cells) → has_cells vs hs ≡ enough cells → Stepped (refused (seen_run old vs hs) vs hs) (step p (seen_run old vs hs) m) m old vs hs a m' new vs' hs'
        → Made p (Stepping cells) before m (told OfReport a) after m'
    made_first cells q t =
        let r = subst (λ b. MadeIf b old.over) q (made_if (has_cells vs hs) old.over refl t) in
        record { answer = r.answer; left = r.left; run = r.run }

module _ (vs : List Number) (hs : List Holder) (e : Enough vs hs) (cells : Cells) (v h : ℕ) (vm : v ≡ min cells.values (length vs)) (hm : h ≡ min cells.handles (length hs)) where
  pub step_made : (p : Program) (m m' : Meaning) (old new : Parts Board) (a : Result Report Refusal) (vs' : List Number) (hs' : List Holder)
      → Placed 0 0 0 old.hub.ports → Placed 0 0 0 new.hub.ports
      → Stepped (refused (seen_run old (take v vs) (take h hs)) (take v vs) (take h hs)) (step p (seen_run old (take v vs) (take h hs)) m) m old (take v vs) (take h hs) a m' new vs' hs'
      → Made p (Stepping cells) (record { memory = old; values = vs; handles = hs }) m (told OfReport a) (record { memory = new; values = vs' ++ drop v vs; handles = hs' ++ drop h hs }) m'
  step_made p m m' old new a vs' hs' k k' t =
      let r = made_first m m' old new a (take v vs) vs' (drop v vs) (take h hs) hs' (drop h hs) p k k' cells (handed_enough vs hs e cells v h vm hm) t in
      rw (take-append-drop v vs, take-append-drop h hs) at r
