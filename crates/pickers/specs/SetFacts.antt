-- Facts on ready sets: their cases in order against the binary digits of the number. They stand here, and not in
-- proofs/, since the laws of the two pickers, which their `lawful` members cite, rest on them.
use Rattle.std.specs.Prelude.{◌≡◌, ℕ, zero, suc, ◌+◌, ◌-◌, ◌/◌, ◌%◌, ◌^◌, ◌<◌, ◌≤◌, Bool, true, false, cond, ◌&&◌, refl}
use Rattle.std.specs.Prelude.{List, [], ◌∷◌, length, Some, None, ◌==◌, nat_le, nat_lt, filter, count_ones, All}
use Rattle.std.proofs.Common.{sym, ap, ◌∙◌, subst, inl, inr, suc-le-suc, le_trans, arith, pow_mono, map}
use Rattle.std.proofs.Math.Nat.{div-eq_of_lt}
use Rattle.std.specs.Int.{bit_at, trailing_zeros, w8}
use Rattle.std.specs.List.{range_with_len}
use Rattle.std.specs.Simd.Lanes.{mask_l}
use Rattle.std.proofs.lemmas.Nat.{shr-shr, shr_le}
use Rattle.std.proofs.lemmas.Nat.Bits.{bit_at-zero, bit_at-trailing_zeros, bit_at-lt, bit_at_above, same_from_bits_below}
use Rattle.std.proofs.lemmas.Simd.{bit_mask_l, mask_l-lt, ones-mask_l}
use Rattle.std.proofs.lemmas.List.Elements.{All-head, All-filter, filter_passes}
use Rattle.std.proofs.lemmas.List.Sums.{length-filter}
use Rattle.std.proofs.lemmas.List.FromFn.{get_or-map-range_with_len}
use Rattle.std.proofs.lemmas.Bool.{cases_lt, eq-eqb, ne_eqb, and_from, and_left, and_right, lt-ltb, le-leb, lt-leb}
use Rattle.pickers.specs.Sets.{has, cases, onward, first, OneOf}

-- a case is in a set, or it is not
pub has_in : (s k : ℕ) → k < 8 → bit_at s k ≡ 1 → has s k ≡ true
unfolding has
has_in s k l e = and_from _ _ (lt-ltb _ _ l) (eq-eqb _ _ e)

pub has_out : (s k : ℕ) → bit_at s k ≡ 0 → has s k ≡ false
unfolding has
has_out s k e = and_right (nat_lt k 8) (bit_at s k == 1) (ne_eqb (bit_at s k) 1 (λ o. omega (arith, o)))

pub has_none : (k : ℕ) → has 0 k ≡ false
has_none k = has_out 0 k (bit_at-zero k)

-- the numbers from a on that pass a test: there are none, or the first is known
none_pass : (p : ℕ → Bool) (n a : ℕ) → ((k : ℕ) → a ≤ k → k < a + n → p k ≡ false) → filter p (range_with_len a n) ≡ []
none_pass p zero a h = refl
none_pass p (suc n) a h = rw (h a (omega arith) (omega arith)) (none_pass p n (a + 1) (λ k l m. h k (omega arith) (omega arith)))

first_passes : (p : ℕ → Bool) (n a k : ℕ) → a ≤ k → k < a + n → ((i : ℕ) → a ≤ i → i < k → p i ≡ false) → p k ≡ true
    → first (filter p (range_with_len a n)) ≡ Some k
first_passes p zero a k l m h e = absurd (omega arith)
first_passes p (suc n) a k l m h e = elim (cases_lt a k) [
  | inl b ↦ rw (h a (omega arith) b) (first_passes p n (a + 1) k (omega arith) (omega arith) (λ i c d. h i (omega arith) d) e)
  | inr b ↦ let q : a ≡ k = omega arith in rw q (rw e refl)
]

-- a test after a test is both tests
both_tests : (p q : ℕ → Bool) (ks : List ℕ) → filter q (filter p ks) ≡ filter (λ k. p k && q k) ks
both_tests p q [] = refl
both_tests p q (k ∷ ks) = grind (arith, both_tests p q ks)

-- the first of a list of cases of a set is none or a case of the set
first_within : (s : ℕ) (ks : List ℕ) → All (λ k. has s k ≡ true) ks → OneOf s (first ks)
first_within s [] h = tt
first_within s (k ∷ ks) h = All-head (λ k. has s k ≡ true) k ks h

pub lowest_within : (s : ℕ) → OneOf s (first (cases s))
unfolding cases
lowest_within s = first_within s (cases s) (filter_passes (has s) (range_with_len 0 8))

pub onward_within : (s j : ℕ) → OneOf s (first (onward j (cases s)))
unfolding cases onward
onward_within s j =
    first_within s (onward j (cases s))
    (All-filter (nat_le j) (λ k. has s k ≡ true) (cases s) (filter_passes (has s) (range_with_len 0 8)))

pub onward_all : (ks : List ℕ) → onward 0 ks ≡ ks
unfolding onward
onward_all [] = refl
onward_all (k ∷ ks) = rw (le-leb 0 k (omega arith)) (ap (λ l. k ∷ l) (onward_all ks))

pub onward_empty : (j : ℕ) → onward j [] ≡ []
unfolding onward
onward_empty j = refl

-- an empty set has no case
pub cases_empty : cases 0 ≡ []
unfolding cases
cases_empty = none_pass (has 0) 8 0 (λ k _ _. has_none k)

-- the digits of a number from place j on
bit_from : (s j k : ℕ) → j ≤ k → bit_at s k ≡ bit_at (s / 2 ^ j) (k - j)
bit_from s j k l = let q : k ≡ j + (k - j) = omega arith in ap (bit_at s) q ∙ sym (ap (λ m. m % 2) (shr-shr s j (k - j)))

-- a case below j, or one that is not ready, is passed over
passed_over : (s j k : ℕ) → (j ≤ k → bit_at s k ≡ 0) → has s k && nat_le j k ≡ false
passed_over s j k h = elim (cases_lt k j) [
  | inl l ↦ and_right (has s k) (nat_le j k) (lt-leb j k l)
  | inr l ↦ and_left (has s k) (nat_le j k) (has_out s k (h l))
]

-- the lowest ready case on from j, by the lowest 1
pub from_found : (s j : ℕ) → 0 < s / 2 ^ j → s < 2 ^ 8 → first (onward j (cases s)) ≡ Some (j + trailing_zeros w8 (s / 2 ^ j))
unfolding cases onward
from_found s j p l =
    let t = trailing_zeros w8 (s / 2 ^ j) in
    let low = bit_at-trailing_zeros w8 (s / 2 ^ j) p (le_trans (suc-le-suc (shr_le s j)) l) in
    let bit : bit_at s (j + t) ≡ 1 = sym (ap (λ m. m % 2) (shr-shr s j t)) ∙ low.1 in
    let short : j + t < 8 = elim (cases_lt (j + t) 8) [
      | inl h ↦ h
      | inr h ↦ absurd (omega (arith, bit_at_above s 8 (j + t) l h, bit))
    ] in
    ap first (both_tests (has s) (nat_le j) (range_with_len 0 8))
    ∙ first_passes (λ k. has s k && nat_le j k) 8 0 (j + t) (omega arith) short
    (λ i _ m. passed_over s j i (λ n. bit_from s j i n ∙ low.2 (i - j) (omega arith)))
    (and_from _ _ (has_in s (j + t) short bit) (le-leb j (j + t) (omega arith)))

pub from_within : (s j : ℕ) → 0 < s / 2 ^ j → s < 2 ^ 8 → has s (j + trailing_zeros w8 (s / 2 ^ j)) ≡ true
from_within s j p l = subst (OneOf s) (from_found s j p l) (onward_within s j)

pub from_none : (s j : ℕ) → s / 2 ^ j ≡ 0 → onward j (cases s) ≡ []
unfolding cases onward
from_none s j e =
    both_tests (has s) (nat_le j) (range_with_len 0 8)
    ∙ none_pass (λ k. has s k && nat_le j k) 8 0
    (λ k _ _. passed_over s j k (λ l. bit_from s j k l ∙ ap (λ n. bit_at n (k - j)) e ∙ bit_at-zero (k - j)))

pub from_past : (s j : ℕ) → s < 2 ^ 8 → 8 ≤ j → first (onward j (cases s)) ≡ None
from_past s j l h = ap first (from_none s j (div-eq_of_lt (le_trans l (pow_mono h))))

-- what is found from a place on
pub ruleset found_from = (from_found, from_within, from_none, from_past)

-- the number is made of its digits, so that it has a 1 for each ready case
digit_of : (s k b : ℕ) → k < 8 → bit_at s k ≡ b → b < 2 → cond (has s k) 1 0 ≡ b
digit_of s k zero l e m = rw (has_out s k e) refl
digit_of s k (suc zero) l e m = rw (has_in s k l e) refl
digit_of s k (suc (suc b)) l e m = absurd (omega arith)

made_of_digits : (s : ℕ) → s < 2 ^ 8 → mask_l (map (has s) (range_with_len 0 8)) ≡ s
made_of_digits s l =
    same_from_bits_below 8 (mask_l (map (has s) (range_with_len 0 8))) s (mask_l-lt (map (has s) (range_with_len 0 8))) l
    (λ k m. bit_mask_l (map (has s) (range_with_len 0 8)) k
    ∙ ap (λ b. cond b 1 0) (get_or-map-range_with_len (has s) 0 8 k k false m (omega arith))
    ∙ digit_of s k (bit_at s k) m refl (bit_at-lt s k))

pub cases_ones : (s : ℕ) → s < 2 ^ 8 → length (cases s) ≡ count_ones s
unfolding cases
cases_ones s l =
    length-filter (has s) (range_with_len 0 8)
    ∙ sym (ones-mask_l (has s) (range_with_len 0 8))
    ∙ ap count_ones (made_of_digits s l)
