-- The line when a routine joins or leaves it.
use Rattle.std.proofs.Common.{Vec, map, replicate, vec_items, vec_capacity, ap₂, ◌≡◌, ℕ, zero, suc, ◌<◌, ◌≤◌, Bool, true, false, cond, not, eqb, List, [], ◌∷◌, ◌++◌, length, get_or, sym, refl, ap, arith, length-append}
use Rattle.std.specs.List.{All, AllByRecursion, IsDistinct}
use Rattle.std.proofs.lemmas.Bool.{eqb-true, eq-eqb}
use Rattle.std.proofs.lemmas.List.Folds.{Any-from_list_any}
use Rattle.std.proofs.lemmas.List.Elements.{All-filter, All-append, All-nil}
use Rattle.std.proofs.lemmas.Map.Keys.{IsDistinct-push}
use Rattle.std.proofs.lemmas.Map.Steps.{length-le_from_distinct_below}
use Rattle.std.proofs.lemmas.Map.Views.{any-filter_same}
use Rattle.std.specs.List.{filter, remove}
use Rattle.std.specs.Cmp.{nat_eq_equiv}
use Rattle.waiting.specs.Queues.{waits, without, Orderly}
use Rattle.waiting.specs.Laws.{may_join}
use Rattle.std.proofs.lemmas.Bool.Decides.{nat_tests}

kept : (P : ℕ → Type 0) (p : ℕ → Bool) (xs : List ℕ) → AllByRecursion P xs → AllByRecursion P (filter p xs)
kept P p [] h = tt
kept P p (x ∷ xs) h =
    let ih = kept P p xs h.1 in
    elim (p x) as (λ b. AllByRecursion P (cond b (x ∷ filter p xs) (filter p xs))) [ true ↦ (h.0, ih) | false ↦ ih ]

distinct : (p : ℕ → Bool) (xs : List ℕ) → IsDistinct eqb xs → IsDistinct eqb (filter p xs)
unfolding IsDistinct
distinct p [] h = tt
distinct p (x ∷ xs) h =
    let ih = distinct p xs h.1 in
    elim (p x) as (λ b. IsDistinct eqb (cond b (x ∷ filter p xs) (filter p xs))) [ true ↦ (kept _ p xs h.0, ih) | false ↦ ih ]

-- who does not wait is not struck off
pub without_absent : (r : ℕ) (line : List ℕ) → waits r line ≡ false → without r line ≡ line
without_absent r [] e = refl
without_absent r (q ∷ line) e = grind (arith, nat_tests, without_absent r line)

apart : (r : ℕ) (xs : List ℕ) → AllByRecursion (λ y. eqb r y ≡ false) xs → waits r xs ≡ false
apart r [] h = refl
apart r (x ∷ xs) h = grind (arith, nat_tests, h.0, apart r xs h.1)

apart_at : (x : ℕ) (xs : List ℕ) (i d : ℕ) → AllByRecursion (λ y. eqb x y ≡ false) xs → i < length xs → eqb x (get_or xs i d) ≡ false
apart_at x [] i d h l = absurd (omega arith)
apart_at x (y ∷ xs) zero d h l = h.0
apart_at x (y ∷ xs) (suc i) d h l = apart_at x xs i d h.1 (omega arith)

-- to take one out of a line without doubles is to strike it off
removed : (r i d : ℕ) (line : List ℕ) → IsDistinct eqb line → i < length line → get_or line i d ≡ r → remove line i ≡ without r line
unfolding IsDistinct
removed r i d [] h l e = absurd (omega arith)
removed r zero d (x ∷ xs) h l e = grind (arith, nat_tests, e, h.0, apart x xs h.0, without_absent x xs)
removed r (suc i) d (x ∷ xs) h l e = grind (arith, nat_tests, e, apart_at x xs i d h.0 (omega arith), removed r i d xs h.1 (omega arith) e)

pub orderly_removed : (n r i d : ℕ) (line : List ℕ) → Orderly n line → i < length line → get_or line i d ≡ r → remove line i ≡ without r line
orderly_removed n r i d line h l e = removed r i d line h.1 l e

-- who waits is one of them
pub below : (n r : ℕ) (line : List ℕ) → Orderly n line → waits r line ≡ true → r < n
below n r line h e = let a = Any-from_list_any (eqb r) line e in omega (arith, h.0 a.0 a.1 a.2, a.3, eqb-true r a.1 a.4)

pub orderly_without : (n r : ℕ) (line : List ℕ) → Orderly n line → Orderly n (without r line)
orderly_without n r line h = (All-filter _ (λ q. q < n) line h.0, distinct _ line h.1)

pub waits_without : (r : ℕ) (line : List ℕ) → waits r (without r line) ≡ false
waits_without r line = any-filter_same (eqb r) (λ q. not (eqb q r)) false (λ q e. ap not (eq-eqb q r (sym (eqb-true r q e)))) line

-- a line in order is no longer than there are routines
pub crowd : (n : ℕ) (line : List ℕ) → Orderly n line → length line ≤ n
crowd n line h =
    length-le_from_distinct_below line n h.1
    (λ q e. let a = Any-from_list_any (eqb q) line e in omega (arith, h.0 a.0 a.1 a.2, a.3, eqb-true q a.1 a.4))

single : (n r : ℕ) → r < n → All (λ q. q < n) (r ∷ [])
single n r h zero d l = h
single n r h (suc k) d l = absurd (omega arith)

pub orderly_push : (n r : ℕ) (line : List ℕ) → r < n → waits r line ≡ false → Orderly n line → Orderly n (line ++ r ∷ [])
orderly_push n r line h w o = (All-append (λ q. q < n) line (r ∷ []) o.0 (single n r h), IsDistinct-push nat_eq_equiv line r o.1 w)

-- what it takes to join
pub may_join_parts : (r n : ℕ) (line : List ℕ) → may_join r n line ≡ true → (r < 64) × (n ≤ 8) × (waits r line ≡ false)
may_join_parts r n line e = grind (arith, nat_tests)

-- who may join finds room, and the line stays in order
pub room_to_join : (r n : ℕ) (line : List ℕ) → may_join r n line ≡ true → Orderly 64 line → (length line < 64) × Orderly 64 (line ++ r ∷ [])
room_to_join r n line e o =
    let p = may_join_parts r n line e in
    let next = orderly_push 64 r line p.0 p.2 o in
    (omega (arith, crowd 64 (line ++ r ∷ []) next, length-append line (r ∷ [])), next)

pub orderly_none : (n : ℕ) → Orderly n []
unfolding IsDistinct
orderly_none n = (All-nil (λ q. q < n), tt)

-- a table of empty rows
pub empty_rows : {A Z : Type 0} (n : ℕ) (rows : List (Vec A Z)) → length rows ≡ n → All (λ row. (vec_items row ≡ []) × (8 ≤ vec_capacity row)) rows → map vec_items rows ≡ replicate n []
empty_rows zero [] l h = refl
empty_rows zero (row ∷ rows) l h = absurd (omega arith)
empty_rows (suc n) [] l h = absurd (omega arith)
empty_rows (suc n) (row ∷ rows) l h = ap₂ ◌∷◌ (h 0 row (omega arith)).0 (empty_rows n rows (omega arith) (λ k d i. h (suc k) d (omega arith)))
