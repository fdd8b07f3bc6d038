-- Which cell of the bank has which element held, and what is held after a put and after a take.
use Rattle.std.proofs.Common.{◌≡◌, ℕ, ◌+◌, ◌-◌, ◌<◌, ◌≤◌, ◌⊎◌, List, [], ◌∷◌, ◌++◌, length, get_or, take, drop, set, ap, ◌∙◌, inl, inr, mod-eq_of_lt, arith, length-append, length-drop, length-set, get_or-drop, get_or-take}
use native.Mathlib.Nat.{mod-eq-sub-mod, mod-add-mod}
use Rattle.std.specs.List.{between}
use Rattle.std.proofs.lemmas.List.{same_lists, length-take, get_or_append_left, get_or-append_right}
use Rattle.std.proofs.lemmas.List.Edits.{length-between, get_or-between}
use Rattle.std.proofs.lemmas.Bool.{cases_lt}
use Rattle.std.proofs.lemmas.Nat.{mod_below}
use Rattle.std.proofs.lemmas.Option.{slice_get-get_or, slice_get_past}
use Rattle.std.proofs.lemmas.Grind.{common_steps}
use Rattle.rings.specs.Contents.{around, contents}
use Rattle.rings.specs.Layouts.{Layout, held, next_cell, one_more, one_less}

-- the cell at an offset, with and without going round
pub around_cases : (f k n : ℕ) → f < n → k ≤ n → ((f + k < n) × (around f k n ≡ f + k)) ⊎ ((n ≤ f + k) × (around f k n ≡ f + k - n))
around_cases f k n hf hk = elim (cases_lt (f + k) n) [
  | inl l ↦ inl (l, mod-eq_of_lt l)
  | inr h ↦ inr (h, mod-eq-sub-mod h ∙ mod-eq_of_lt (omega arith))
]

-- nothing is held where nothing is counted
pub contents_none : {X : Type 0} (part : List X) (first count : ℕ) → count ≡ 0 → contents part first count ≡ []
unfolding contents
contents_none part first count none = ap (λ n. take n (drop first part ++ part)) none

-- at most as many are held as are counted, whatever the bank
pub held_most : {X : Type 0} (l : Layout) (bank : List X) → length (held l bank) ≤ l.count
unfolding contents
held_most l bank = simp length-take (omega arith)

-- a ring holds as many elements as it counts, in every bank that has its cells
pub length_held : {X : Type 0} (l : Layout) (bank : List X) → l.base + l.capacity ≤ length bank → l.first ≤ l.capacity - 1 → l.count ≤ l.capacity
    → length (held l bank) ≡ l.count
unfolding contents
length_held l bank fits starts below = simp (length-take, length-append, length-drop) (omega arith)

-- the cell of the bank that has the element at a place
pub get_or_held : {X : Type 0} (l : Layout) (bank : List X) (n : ℕ) (d : X) → l.base + l.capacity ≤ length bank → l.first ≤ l.capacity - 1 → n < l.count → l.count ≤ l.capacity
    → get_or (held l bank) n d ≡ get_or bank (l.base + around l.first n l.capacity) d
unfolding contents
get_or_held l bank n d fits starts some below =
    let part = between l.base (l.base + l.capacity) bank in
    let s = length-between bank l.base (l.base + l.capacity) fits in
    let t = length-drop l.first part in
    get_or-take l.count (drop l.first part ++ part) n d some
    ∙ elim (around_cases l.first n l.capacity (omega arith) (omega arith)) [
      | inl w ↦ get_or_append_left (drop l.first part) part d n (omega arith) ∙ get_or-drop l.first part n d
          ∙ get_or-between bank l.base (l.base + l.capacity) (l.first + n) d (omega arith) ∙ ap (λ i. get_or bank i d) (omega (arith, w.1))
      | inr w ↦ get_or-append_right (drop l.first part) part (l.capacity - l.first) n d (omega arith) (omega arith)
          ∙ get_or-between bank l.base (l.base + l.capacity) (n - (l.capacity - l.first)) d (omega arith) ∙ ap (λ i. get_or bank i d) (omega (arith, w.1))
    ]

-- an element that is put is held last
pub held_put : {X : Type 0} (l : Layout) (bank : List X) (e : X) → l.base + l.capacity ≤ length bank → l.first ≤ l.capacity - 1 → l.count < l.capacity
    → held (one_more l) (set bank (next_cell l) e) ≡ held l bank ++ (e ∷ [])
held_put l bank e fits starts room =
    let s = length-set bank (next_cell l) e in
    let before = length_held l bank fits starts (omega arith) in
    let after = length_held (one_more l) (set bank (next_cell l) e) (omega arith) starts (omega arith) in
    same_lists _ _ (grind (arith, common_steps)) (λ k d h. grind (
      arith,
      common_steps,
      around_cases l.first k l.capacity,
      around_cases l.first l.count l.capacity,
      get_or_held l bank k d,
      get_or_held (one_more l) (set bank (next_cell l) e) k d,
    ))

-- what is held is the oldest and then what is held without it
pub held_take : {X : Type 0} (l : Layout) (bank : List X) (x : X) → l.base + l.capacity ≤ length bank → l.first ≤ l.capacity - 1 → 0 < l.count → l.count ≤ l.capacity
    → held l bank ≡ get_or bank (l.base + l.first) x ∷ held (one_less l) bank
held_take l bank x fits starts some below =
    let next = mod_below (l.first + 1) l.capacity (omega arith) in
    let before = length_held l bank fits starts below in
    let after = length_held (one_less l) bank fits (omega arith) (omega arith) in
    same_lists _ _ (grind (arith, common_steps)) (λ k d h. grind (
      arith,
      common_steps,
      mod-add-mod (l.first + 1) l.capacity (k - 1),
      around_cases l.first 0 l.capacity,
      get_or_held l bank k d,
      get_or_held (one_less l) bank (k - 1) d,
    ))

-- the element at a place that is there, and at one that is not
pub ruleset places = (length_held, get_or_held, slice_get-get_or, slice_get_past)
