-- Who is ahead in the line is served first.
use Rattle.std.proofs.Common.{◌≡◌, ℕ, true, false, cond, not, ◌||◌, eqb, List, [], ◌∷◌, ◌++◌, length, Some, None, Option, sym, refl, ap, ◌∙◌, arith, length-set}
use Rattle.std.proofs.lemmas.Bool.{eqb-true, ne_eqb, and_parts, true≢false}
use Rattle.std.proofs.lemmas.List.Folds.{list_any-append}
use Rattle.std.proofs.lemmas.Map.Views.{any-filter_same}
use Rattle.std.proofs.lemmas.Bool.Decides.{nat_tests}
use Rattle.waiting.specs.declared.wish.Side.{Side}
use Rattle.waiting.specs.declared.wish.Entry.{Entry}
use Rattle.waiting.specs.Queues.{Row, places, queue, cases, first, waits, without, written, released}
use Rattle.waiting.specs.Lines.{State}
use Rattle.waiting.specs.Laws.{among, others, may_join}
use Rattle.waiting.specs.Runs.{Step, joins, leaves, releases, step, run, remains, ahead, fronts, EarlierIsAhead, FirstComeFirstServed}
use Rattle.waiting.proofs.Lines.{may_join_parts, waits_without}
use Rattle.waiting.proofs.Orders.{others_places, among_others, queue_without, queue_joined}

-- whoever is not r stays among the others
among_other : {X : Type 0} (a r : ℕ) → (r ≡ a → ⊥) → (es : List (Entry X)) → among a (others r es) ≡ among a es
among_other {X} a r ne es =
    any-filter_same (λ (e : Entry X). eqb e.routine a) (λ e. not (eqb e.routine r)) true
    (λ e h. ap not (ne_eqb e.routine r (λ f. ne (sym f ∙ eqb-true e.routine a h)))) es

among_append : {X : Type 0} (r : ℕ) (xs ys : List (Entry X)) → among r (xs ++ ys) ≡ (among r xs || among r ys)
among_append {X} r xs ys = list_any-append (λ (e : Entry X). eqb e.routine r) xs ys

ahead_push : (a b r : ℕ) (line : List ℕ) → ahead a b line ≡ true → ahead a b (line ++ r ∷ []) ≡ true
ahead_push a b r [] h = absurd (true≢false (sym h))
ahead_push a b r (q ∷ line) h = grind (arith, nat_tests, ahead_push a b r line)

waits_ahead : (a b : ℕ) (line : List ℕ) → waits a line ≡ true → waits b line ≡ false → ahead a b line ≡ true
waits_ahead a b [] w n = absurd (true≢false (sym w))
waits_ahead a b (q ∷ line) w n = grind (arith, nat_tests, waits_ahead a b line)

pub earlier_is_ahead : EarlierIsAhead
earlier_is_ahead a b line w n = ahead_push a b b line (waits_ahead a b line w n)

ahead_without : (a b r : ℕ) → (r ≡ a → ⊥) → (line : List ℕ) → ahead a b line ≡ true → ahead a b (without r line) ≡ true
ahead_without a b r ne [] h = h
ahead_without a b r ne (q ∷ line) h = grind (arith, nat_tests, ahead_without a b r ne line)

-- past entries that are not b's
front_past : {X : Type 0} (b : ℕ) (xs ys : List (Entry X)) → among b xs ≡ false → (xs ≡ [] → fronts b (first ys) ≡ false) → fronts b (first (xs ++ ys)) ≡ false
front_past b [] ys n h = h refl
front_past b (x ∷ xs) ys n h = grind (arith, nat_tests)

module _ {X : Type 0} (s : Side) (c : ℕ) where
  strange : (q r k : ℕ) (ws : Row X) → eqb q r ≡ false → among r (places s c q k ws) ≡ false
  strange q r k ws e =
      ap (among r) (sym (others_places s c q r k ws ∙ ap (λ b. cond b [] (places s c q k ws)) e)) ∙ among_others r (places s c q k ws)

  -- a routine without a place has none wherever it stands in the line
  placeless : (a : ℕ) (t : List (Row X)) (line : List ℕ) → places s c a 0 (cases a t) ≡ [] → among a (queue s c line t) ≡ false
  placeless a t [] h = refl
  placeless a t (q ∷ line) h =
      grind (arith, nat_tests, among_append a (places s c q 0 (cases q t)) (queue s c line t), strange q a 0 (cases q t), placeless a t line h)

  -- while a is ahead and stands in the queue, b is not its front
  front_ahead : (a b : ℕ) → (a ≡ b → ⊥) → (t : List (Row X)) (line : List ℕ) → ahead a b line ≡ true → among a (queue s c line t) ≡ true → fronts b (first (queue s c line t)) ≡ false
  front_ahead a b ne t [] h m = refl
  front_ahead a b ne t (q ∷ line) h m =
      let own = places s c q 0 (cases q t) in
      let both : among a (own ++ queue s c line t) ≡ (among a own || among a (queue s c line t)) = among_append a own (queue s c line t) in
      front_past b own (queue s c line t) (grind (arith, nat_tests, strange q b 0 (cases q t)))
      (λ z. grind (arith, nat_tests, both, z, ap (among a) z, placeless a t line, front_ahead a b ne t line))

  -- a is ahead of b, and stands in the queue
  abbrev Holds : ℕ → ℕ → State X → Type 0
  Holds a b st = (length st.table ≡ 64) × (ahead a b st.line ≡ true) × (among a (queue s c st.line st.table) ≡ true)

  left_holds : (a b r : ℕ) (line : List ℕ) (t : List (Row X)) → waits a (without r line) ≡ true → Holds a b (record { line = line; table = t }) → Holds a b (record { line = without r line; table = t })
  left_holds a b r line t w h =
      let other : r ≡ a → ⊥ = λ e. true≢false (sym w ∙ ap (λ n. waits n (without r line)) (sym e) ∙ waits_without r line) in
      (h.0, ahead_without a b r other line h.1, ap (among a) (queue_without s c r line t) ∙ among_other a r other (queue s c line t) ∙ h.2)

  released_holds : (a b : ℕ) (o : Option (Entry X)) (line : List ℕ) (t : List (Row X)) → waits a (released o line) ≡ true → Holds a b (record { line = line; table = t }) → Holds a b (record { line = released o line; table = t })
  released_holds a b None line t w h = h
  released_holds a b (Some e) line t w h = left_holds a b e.routine line t w h

  joined_holds : (a b r : ℕ) (ws : Row X) (st : State X) → Holds a b st → Holds a b (step (joins r ws) st)
  joined_holds a b r ws st h =
      let after : State X = record { line = st.line ++ r ∷ []; table = written r ws st.table } in
      let joined : may_join r (length ws) st.line ≡ true → Holds a b after = λ e.
      let p = may_join_parts r (length ws) st.line e in
      let stands : among a (queue s c (st.line ++ r ∷ []) (written r ws st.table)) ≡ true =
      grind (arith, nat_tests, queue_joined s c r ws st.table st.line, among_append a (queue s c st.line st.table) (places s c r 0 ws)) in
      (length-set st.table r ws ∙ h.0, ahead_push a b r st.line h.1, stands) in
      elim (may_join r (length ws) st.line) as (λ v. (v ≡ true → Holds a b after) → Holds a b (cond v after st)) [ true ↦ λ k. k refl | false ↦ λ k. h ] joined

  step_holds : (a b : ℕ) (e : Step X) (st : State X) → waits a (step e st).line ≡ true → Holds a b st → Holds a b (step e st)
  step_holds a b (joins r ws) st w h = joined_holds a b r ws st h
  step_holds a b (leaves r) st w h = left_holds a b r st.line st.table w h
  step_holds a b (releases q) st w h = released_holds a b (first (queue q.side q.channel st.line st.table)) st.line st.table w h

  run_fronts : (a b : ℕ) → (a ≡ b → ⊥) → (es : List (Step X)) (st : State X) → Holds a b st → remains a es st ≡ true → fronts b (first (queue s c (run es st).line (run es st).table)) ≡ false
  run_fronts a b ne [] st h k = front_ahead a b ne st.table st.line h.1 h.2
  run_fronts a b ne (e ∷ es) st h k =
      let p = and_parts (waits a (step e st).line) (remains a es (step e st)) k in
      run_fronts a b ne es (step e st) (step_holds a b e st p.0 h) p.1

pub first_come_first_served : {X : Type 0} → FirstComeFirstServed X
first_come_first_served s c a b es st long ne h m k = run_fronts s c a b ne es st (long, h, m) k
