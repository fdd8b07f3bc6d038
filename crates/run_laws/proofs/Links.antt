-- The routines, the run queue, the line and the table of cases stay linked.
use Rattle.std.proofs.Common.{◌≡◌, ℕ, zero, suc, ◌<◌, ◌≤◌, Bool, true, false, cond, not, ◌&&◌, ltb, leb, List, [], ◌∷◌, ◌++◌, map, length, Some, None, Option, sym, refl, ap, ◌∙◌, subst, arith, inl, inr}
use Rattle.std.specs.Prelude.{◌⊎◌, slice_set, slice_index_or, slice_get}
use Rattle.std.specs.Option.{option_map}
use Rattle.std.proofs.lemmas.List.{get_or-set_same, get_or-set_other}
use Rattle.std.proofs.lemmas.Bool.{cases_eq, and_from, lt-ltb, le-leb, not_from_false}
use Rattle.waiting.specs.Laws.{may_join}
use Rattle.std.proofs.lemmas.Bool.Decides.{nat_tests}
use Rattle.lines.specs.declared.line.Kind.{Kind}
use Rattle.lines.specs.declared.line.Operand.{Operand}
use Rattle.lines.specs.declared.line.Operand.TheVariants.{Named, Held}
use Rattle.elements.specs.Codes.{handle_number}
use Rattle.linking.specs.Programs.{Program}
use Rattle.linking.specs.declared.operation.Exchange.{Exchange}
use Rattle.linking.specs.declared.operation.Exchange.TheVariants.{Send, Receive, SendHandle, ReceiveHandle}
use Rattle.waiting.specs.declared.wish.Wish.{Wish}
use Rattle.waiting.specs.declared.wish.Wish.TheVariants as wish
use Rattle.waiting.specs.declared.wish.Entry.{Entry}
use Rattle.waiting.specs.Queues.{cases, first, waits, without}
use Rattle.channels.specs.Closes.{freed, without_all}
use Rattle.channels.proofs.Freed.{first_freed, freed_more}
use Rattle.routines.specs.declared.item.Item.{Item}
use Rattle.routines.specs.declared.item.Item.TheVariants.{Value}
use Rattle.routines.specs.declared.routine.Release.{Release}
use Rattle.routines.specs.declared.routine.Routine.{Routine}
use Rattle.routines.specs.declared.routine.State.TheVariants.{Ready, Waiting, Released}
use Rattle.routines.specs.Registers.{value_at, handle_at, in_state}
use Rattle.runs.specs.Runs.{Channel, Hub, Run, nobody, routine, release, release_all}
use Rattle.runs.specs.Cases.{Branch, is_value, carries_values, meant, channel_for, wish_of, wishes_of}
use Rattle.runs.specs.Taking.{dismissed}
use Rattle.routines.specs.Registers.{born}
use Rattle.runs.specs.Steps.{branches}
use Rattle.runs.specs.Orderly.{Orderly}
use Rattle.run_laws.specs.Orderly.{kinds}
use Rattle.run_laws.specs.Settled.{is_waiting, has_turn, Linked}
use Rattle.run_laws.proofs.Counts.{times, times-append, times-own, times-without, counted, times_waits}
use Rattle.run_laws.proofs.Orderly.{OrderlyAt, both_wait, release_orderly}

-- ---- who stands in a list that has changed
pub waits_rotated : (q r : ℕ) (rest : List ℕ) → waits q (rest ++ r ∷ []) ≡ waits q (r ∷ rest)
waits_rotated q r [] = refl
waits_rotated q r (x ∷ rest) = grind (arith, nat_tests, waits_rotated q r rest)

pub waits_beyond : (q r : ℕ) (rest : List ℕ) → (q ≡ r → ⊥) → waits q (r ∷ rest) ≡ waits q rest
waits_beyond q r rest n = grind (arith, nat_tests)

pub waits_added : (q r : ℕ) (xs : List ℕ) → (q ≡ r → ⊥) → waits q (xs ++ r ∷ []) ≡ waits q xs
waits_added q r xs n = waits_rotated q r xs ∙ waits_beyond q r xs n

pub waits_last : (r : ℕ) (xs : List ℕ) → waits r (xs ++ r ∷ []) ≡ true
waits_last r xs = times_waits r (xs ++ r ∷ []) (omega (arith, times-append r xs (r ∷ []), times-own r []))

pub waits_left : (q w : ℕ) (line : List ℕ) → (q ≡ w → ⊥) → waits q (without w line) ≡ waits q line
waits_left q w [] n = refl
waits_left q w (x ∷ line) n = grind (arith, nat_tests, waits_left q w line n)

waits_never : (r : ℕ) (xs : List ℕ) → times r xs ≡ 0 → waits r xs ≡ false
waits_never r [] h = refl
waits_never r (x ∷ xs) h = grind (arith, nat_tests, waits_never r xs)

pub waits_gone : (w : ℕ) (line : List ℕ) → waits w (without w line) ≡ false
waits_gone w line = waits_never w (without w line) (grind (arith, nat_tests, times-without w w line))

module _ (n : ℕ) (turns line : List ℕ) (o : Orderly n turns line) where
  pub waiter_has_no_turn : (w : ℕ) → 1 ≤ times w line → waits w turns ≡ false
  waiter_has_no_turn w there = waits_never w turns (grind (arith, nat_tests, counted n turns line o w))

  pub waiter_is_there : (w : ℕ) → 1 ≤ times w line → w < n
  waiter_is_there w there = grind (arith, nat_tests, counted n turns line o w)

module _ (n r : ℕ) (rest line : List ℕ) (o : Orderly n (r ∷ rest) line) where
  pub front_does_not_wait : waits r line ≡ false
  front_does_not_wait = waits_never r line (grind (arith, nat_tests, counted n (r ∷ rest) line o r, times-own r rest))

  pub front_once : waits r rest ≡ false
  front_once = waits_never r rest (grind (arith, nat_tests, counted n (r ∷ rest) line o r, times-own r rest))

  pub front_is_there : r < n
  front_is_there = grind (arith, nat_tests, counted n (r ∷ rest) line o r, times-own r rest)

  pub front_may_join : (k : ℕ) → k ≤ 8 → may_join r k line ≡ true
  front_may_join k few =
      let there : r < 64 = omega (arith, o.few, front_is_there) in
      and_from (ltb r 64) (leb k 8 && not (waits r line)) (lt-ltb r 64 there) (and_from (leb k 8) (not (waits r line)) (le-leb k 8 few) (not_from_false (waits r line) front_does_not_wait))

-- ---- what a case waits for rests on the kinds of the channels alone
abbrev kind_carries : Option (Kind × ℕ) → Bool
kind_carries None = false
kind_carries (Some k) = is_value k.0

carries_by_kind : (cs : List Channel) (c : ℕ) → carries_values (slice_get cs c) ≡ kind_carries (slice_get (kinds cs) c)
carries_by_kind [] c = refl
carries_by_kind (x ∷ cs) zero = refl
carries_by_kind (x ∷ cs) (suc c) = carries_by_kind cs c

module _ (cs ds : List Channel) (same : kinds cs ≡ kinds ds) where
  carries_same : (c : ℕ) → carries_values (slice_get cs c) ≡ carries_values (slice_get ds c)
  carries_same c = carries_by_kind cs c ∙ ap (λ l. kind_carries (slice_get l c)) same ∙ sym (carries_by_kind ds c)

  meant_same : (o : Option ℕ) → meant cs o ≡ meant ds o
  meant_same None = refl
  meant_same (Some c) = ap (λ b. cond b (Some c) None) (carries_same c)

  pub channel_for_same : (x : Routine) (o : Operand ℕ) → channel_for cs x o ≡ channel_for ds x o
  channel_for_same x (Named c) = refl
  channel_for_same x (Held h) = meant_same (handle_number (handle_at x h))

  pub wish_of_same : (x : Routine) (e : Option (Exchange ℕ)) → wish_of cs x e ≡ wish_of ds x e
  wish_of_same x None = refl
  wish_of_same x (Some (Send o v)) = ap (option_map (λ c. wish.Send c (Value (value_at x v)))) (channel_for_same x o)
  wish_of_same x (Some (Receive o v w)) = ap (option_map wish.Receive) (channel_for_same x o)
  wish_of_same x (Some (SendHandle c h)) = refl
  wish_of_same x (Some (ReceiveHandle c h w)) = refl

  pub wishes_of_same : (x : Routine) (bs : List Branch) → wishes_of cs x bs ≡ wishes_of ds x bs
  wishes_of_same x [] = refl
  wishes_of_same x (b ∷ bs) = ap (λ w. w ∷ wishes_of cs x bs) (wish_of_same x b.exchange) ∙ ap (λ l. wish_of ds x b.exchange ∷ l) (wishes_of_same x bs)

abbrev at : List Routine → ℕ → Routine
at xs r = slice_index_or xs r nobody

-- ---- other channels of the same kinds
pub rehubs : (p : Program) (xs : List Routine) (turns : List ℕ) (h h' : Hub) → h'.line ≡ h.line → h'.wishes ≡ h.wishes → kinds h'.channels ≡ kinds h.channels
    → Linked p xs turns h → Linked p xs turns h'
rehubs p xs turns h h' e f k l = record {
  waiters = λ r. ap (waits r) e ∙ l.waiters r;
  takers = l.takers;
  rows = λ r w. ap (cases r) f ∙ l.rows r w ∙ sym (wishes_of_same h'.channels h.channels k (at xs r) (branches p (at xs r)));
}

-- ---- one routine has changed
module _ (p : Program) (xs : List Routine) (turns : List ℕ) (h : Hub) (l : Linked p xs turns h) (r : ℕ) (y : Routine) (here : r < length xs) where
  own : at (slice_set xs r y) r ≡ y
  own = get_or-set_same xs r y nobody here

  other : (q : ℕ) → (q ≡ r → ⊥) → at (slice_set xs r y) q ≡ at xs q
  other q n = get_or-set_other xs r q y nobody n

  abbrev Row_fits : Hub → ℕ → Type 0
  Row_fits g i = (at (slice_set xs r y) i).state ≡ Waiting → cases i g.wishes ≡ wishes_of g.channels (at (slice_set xs r y) i) (branches p (at (slice_set xs r y) i))

  pub relinks : (turns' : List ℕ) (h' : Hub)
      → ((q : ℕ) → (q ≡ r → ⊥) → waits q turns' ≡ waits q turns) → waits r turns' ≡ has_turn y.state
      → ((q : ℕ) → (q ≡ r → ⊥) → waits q h'.line ≡ waits q h.line) → waits r h'.line ≡ is_waiting y.state
      → ((q : ℕ) → (q ≡ r → ⊥) → cases q h'.wishes ≡ cases q h.wishes)
      → (y.state ≡ Waiting → cases r h'.wishes ≡ wishes_of h'.channels y (branches p y))
      → kinds h'.channels ≡ kinds h.channels
      → Linked p (slice_set xs r y) turns' h'
  relinks turns' h' t t' w w' c c' k = record {
    waiters = λ q. elim (cases_eq q r) [
      | inl e ↦ subst (λ i. waits i h'.line ≡ is_waiting (at (slice_set xs r y) i).state) (sym e) (w' ∙ ap (λ (x : Routine). is_waiting x.state) (sym own))
      | inr n ↦ w q n ∙ l.waiters q ∙ ap (λ (x : Routine). is_waiting x.state) (sym (other q n))
    ];
    takers = λ q. elim (cases_eq q r) [
      | inl e ↦ subst (λ i. waits i turns' ≡ has_turn (at (slice_set xs r y) i).state) (sym e) (t' ∙ ap (λ (x : Routine). has_turn x.state) (sym own))
      | inr n ↦ t q n ∙ l.takers q ∙ ap (λ (x : Routine). has_turn x.state) (sym (other q n))
    ];
    rows = λ q. elim (cases_eq q r) [
      | inl e ↦ subst (Row_fits h') (sym e) (λ s. subst (λ x. cases r h'.wishes ≡ wishes_of h'.channels x (branches p x)) (sym own) (c' (sym (ap (λ (x : Routine). x.state) own) ∙ s)))
      | inr n ↦ λ s. subst (λ x. cases q h'.wishes ≡ wishes_of h'.channels x (branches p x)) (sym (other q n))
          (c q n ∙ l.rows q (sym (ap (λ (x : Routine). x.state) (other q n)) ∙ s) ∙ sym (wishes_of_same h'.channels h.channels k (at xs q) (branches p (at xs q))))
    ];
  }

-- ---- one who waited is released
pub release_linked : (p : Program) (w : Release) (run : Run) (h : Hub) → 1 ≤ times w.routine h.line → OrderlyAt run.routines run.turns h.line
    → Linked p run.routines run.turns h → Linked p (release w run).routines (release w run).turns (record h { line = without w.routine h.line })
release_linked p w run h there o l =
    relinks p run.routines run.turns h l w.routine (in_state (Released w.case w.passed) (routine run w.routine)) (waiter_is_there (length run.routines) run.turns h.line o w.routine there)
    (run.turns ++ w.routine ∷ []) (record h { line = without w.routine h.line })
    (λ q n. waits_added q w.routine run.turns n) (waits_last w.routine run.turns)
    (λ q n. waits_left q w.routine h.line n) (waits_gone w.routine h.line)
    (λ q n. refl) (λ e. cc) refl

-- ---- a close releases all who wait there
pub dismissed_routine : (e : Entry Item) (c : ℕ) (v : Wish Item) → (dismissed e c v).routine ≡ e.routine
dismissed_routine e c (wish.Send d x) = refl
dismissed_routine e c (wish.Receive d) = refl

pub closes_linked : (p : Program) (c : ℕ) (es : List (Entry Item)) (run : Run) (h : Hub) → freed c h.line h.wishes ≡ es → OrderlyAt run.routines run.turns h.line
    → Linked p run.routines run.turns h
    → Linked p (release_all (map (λ w. dismissed w c w.wish) es) run).routines (release_all (map (λ w. dismissed w c w.wish) es) run).turns (record h { line = without_all es h.line })
closes_linked p c [] run h f o l = l
closes_linked p c (e ∷ es) run h f o l =
    let w : Release = dismissed e c e.wish in
    let same : w.routine ≡ e.routine = dismissed_routine e c e.wish in
    let front : first (Rattle.channels.specs.Closes.both c h.line h.wishes) ≡ Some e = sym (first_freed c h.line h.wishes) ∙ ap first f in
    let there : 1 ≤ times w.routine h.line = subst (λ i. 1 ≤ times i h.line) (sym same) (both_wait c h.wishes h.line e front) in
    let more : freed c (without e.routine h.line) h.wishes ≡ es = cc (freed_more c h.line h.wishes e front) in
    closes_linked p c es (release w run) (record h { line = without e.routine h.line }) more
    (subst (λ i. OrderlyAt (release w run).routines (release w run).turns (without i h.line)) same (release_orderly w (record run { hub = h }) (record h { line = without w.routine h.line }) there refl o))
    (subst (λ i. Linked p (release w run).routines (release w run).turns (record h { line = without i h.line })) same (release_linked p w run h there o l))

-- ---- one who is started
pub pushed : (xs : List Routine) (y : Routine) (q : ℕ) → ((q ≡ length xs) × (at (xs ++ y ∷ []) q ≡ y)) ⊎ ((q ≡ length xs → ⊥) × (at (xs ++ y ∷ []) q ≡ at xs q))
pushed [] y zero = inl (refl, refl)
pushed [] y (suc q) = inr (λ e. absurd (omega arith), refl)
pushed (x ∷ xs) y zero = inr (λ e. absurd (omega arith), refl)
pushed (x ∷ xs) y (suc q) = elim (pushed xs y q) [
  | inl e ↦ inl (ap suc e.0, e.1)
  | inr e ↦ inr ((λ f. e.0 (omega arith)), e.1)
]

pub past_end : (xs : List Routine) → at xs (length xs) ≡ nobody
past_end [] = refl
past_end (x ∷ xs) = past_end xs

pub routine_past : (xs : List Routine) (r : ℕ) → length xs ≤ r → at xs r ≡ nobody
routine_past [] r l = refl
routine_past (x ∷ xs) zero l = absurd (omega arith)
routine_past (x ∷ xs) (suc r) l = routine_past xs r (omega arith)

pub born_linked : (p : Program) (xs : List Routine) (turns : List ℕ) (h : Hub) (b : ℕ) (x : Routine) → Linked p xs turns h
    → Linked p (xs ++ (born b x ∷ [])) (turns ++ (length xs ∷ [])) h
born_linked p xs turns h b x l = record {
  waiters = λ q. elim (pushed xs (born b x) q) [
    | inl e ↦ subst (λ i. waits i h.line ≡ false) (sym e.0) (l.waiters (length xs) ∙ ap (λ (y : Routine). is_waiting y.state) (past_end xs)) ∙ ap (λ (y : Routine). is_waiting y.state) (sym e.1)
    | inr e ↦ l.waiters q ∙ ap (λ (y : Routine). is_waiting y.state) (sym e.1)
  ];
  takers = λ q. elim (pushed xs (born b x) q) [
    | inl e ↦ subst (λ i. waits i (turns ++ length xs ∷ []) ≡ true) (sym e.0) (waits_last (length xs) turns) ∙ ap (λ (y : Routine). has_turn y.state) (sym e.1)
    | inr e ↦ waits_added q (length xs) turns e.0 ∙ l.takers q ∙ ap (λ (y : Routine). has_turn y.state) (sym e.1)
  ];
  rows = λ q s. elim (pushed xs (born b x) q) [
    | inl e ↦ let z : Ready ≡ Waiting = sym (ap (λ (y : Routine). y.state) e.1) ∙ s in cc
    | inr e ↦ subst (λ y. cases q h.wishes ≡ wishes_of h.channels y (branches p y)) (sym e.1) (l.rows q (sym (ap (λ (y : Routine). y.state) e.1) ∙ s))
  ];
}
