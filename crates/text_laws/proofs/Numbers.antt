-- A numeral and its number, both ways.
use Rattle.std.proofs.Common.{◌≡◌, ℕ, zero, suc, ◌^◌, ◌<◌, ◌≤◌, Bool, true, false, cond, ◌&&◌, eqb, leb, ◌⊎◌, List, [], ◌∷◌, length, get_or, drop, ℤ, pos, negsuc, Some, None, decimal, Option, sym, refl, ap, ◌∙◌, subst, inl, inr, ⊎_elim, arith}
use Rattle.std.specs.Fmt.{signed_decimal}
use Rattle.std.specs.Str.{all_ascii_digits}
use Rattle.std.proofs.lemmas.Fmt.{decimal_digit, decimal_nonempty, first_decimal, digits_decimal, digits_value-decimal, decimal-digits_value}
use Rattle.std.proofs.lemmas.Str.Parse.{digit_at}
use Rattle.std.proofs.lemmas.Option.{none-some}
use Rattle.std.proofs.lemmas.Bool.{cases_lt, and_parts, and_from, cond-true, cond-false, ne_eqb, eqb-true, leb-true, le-leb}
use Rattle.std.proofs.lemmas.Bool.Decides.{nat_tests}
use Rattle.words.specs.Words.{read_on, plain, digits_within, numeral_within, negated, posited, number_of, number, Sound}
use Rattle.words.proofs.Numerals.{own}
use Rattle.words.proofs.Same.{some_same}

-- a choice that came out as an answer
pub either : {X : Type 0} (b : Bool) (x y z : X) → cond b x y ≡ z → ((b ≡ true) × (x ≡ z)) ⊎ ((b ≡ false) × (y ≡ z))
either true x y z e = inl (refl, e)
either false x y z e = inr (refl, e)

-- ---- from a text to its number
numeral_back : (limit : ℕ) (ds : List ℕ) (m : ℕ) → limit < 2 ^ 64 → numeral_within limit ds ≡ Some m → (m ≤ limit) × (decimal m ≡ ds)
numeral_back limit ds m small e =
    ⊎_elim
    (λ p. ⊎_elim
    (λ q.
    let parts = and_parts (all_ascii_digits ds) (leb (read_on 0 ds) limit) q.0 in
    let same : read_on 0 ds ≡ m = some_same q.1 in
    let le = leb-true (read_on 0 ds) limit parts.1 in
    let pl : plain ds ≡ true = p.0 in
    let some : 0 < length ds = grind (arith, nat_tests) in
    let lead : get_or ds 0 0 ≡ 48 → length ds ≡ 1 = λ z. grind (arith, nat_tests) in
    (omega arith, ap decimal (sym same) ∙ decimal-digits_value own ds parts.0 some lead (omega arith)))
    (λ q. absurd (none-some _ q.1))
    (either (all_ascii_digits ds && leb (read_on 0 ds) limit) (Some (read_on 0 ds)) None (Some m) p.1))
    (λ p. absurd (none-some _ p.1))
    (either (plain ds) (digits_within limit ds) None (Some m) e)

first_rest : (t : List ℕ) (c : ℕ) → get_or t 0 0 ≡ suc c → suc c ∷ drop 1 t ≡ t
first_rest [] c e = absurd (omega arith)
first_rest (x ∷ t) c e = ap (λ y. y ∷ t) (sym e)

posited_back : (t : List ℕ) (o : Option ℕ) (z : ℤ) → o ≡ numeral_within 2147483647 t → posited o ≡ Some z → Sound (number z) × (signed_decimal z ≡ t)
posited_back t None z from e = absurd (none-some _ e)
posited_back t (Some m) z from e =
    let b = numeral_back 2147483647 t m (omega arith) (sym from) in
    let P : ℤ → Type 0 = λ y. Sound (number y) × (signed_decimal y ≡ t) in
    subst P (some_same e) (omega (arith, b.0), b.1)

negated_back : (t : List ℕ) (o : Option ℕ) (z : ℤ) → get_or t 0 0 ≡ 45 → o ≡ numeral_within 2147483648 (drop 1 t) → negated o ≡ Some z → Sound (number z) × (signed_decimal z ≡ t)
negated_back t None z minus from e = absurd (none-some _ e)
negated_back t (Some zero) z minus from e = absurd (none-some _ e)
negated_back t (Some (suc k)) z minus from e =
    let b = numeral_back 2147483648 (drop 1 t) (suc k) (omega arith) (sym from) in
    let P : ℤ → Type 0 = λ y. Sound (number y) × (signed_decimal y ≡ t) in
    let f : cond (eqb (suc k) 0) None (Some (negsuc k)) ≡ Some (negsuc k) = cond-false (eqb (suc k) 0) None (Some (negsuc k)) (ne_eqb (suc k) 0 (λ n. omega arith)) in
    subst P (some_same (sym f ∙ e)) (omega (arith, b.0), ap (λ l. 45 ∷ l) b.1 ∙ first_rest t 44 minus)

pub number_back : (t : List ℕ) (z : ℤ) → number_of t ≡ Some z → Sound (number z) × (signed_decimal z ≡ t)
number_back t z e =
    ⊎_elim
    (λ p. negated_back t (numeral_within 2147483648 (drop 1 t)) z (eqb-true (get_or t 0 0) 45 p.0) refl p.1)
    (λ p. posited_back t (numeral_within 2147483647 t) z refl p.1)
    (either (eqb (get_or t 0 0) 45) (negated (numeral_within 2147483648 (drop 1 t))) (posited (numeral_within 2147483647 t)) (Some z) e)

-- ---- from a number to its text
cases_zero : (n : ℕ) → (n ≡ 0) ⊎ (0 < n)
cases_zero n = ⊎_elim (λ l. inr l) (λ l. inl (omega arith)) (cases_lt 0 n)

-- a decimal begins with a digit, and with 0 only if it is 0
pub lead_decimal : (n : ℕ) → n < 2 ^ 32 → (0 < length (decimal n)) × (48 ≤ get_or (decimal n) 0 0) × (get_or (decimal n) 0 0 ≤ 57) × (get_or (decimal n) 0 0 ≡ 48 → length (decimal n) ≡ 1)
lead_decimal n h =
    let some = decimal_nonempty n (omega arith) in
    let digit = digit_at (decimal n) 0 (own.to (decimal n) (digits_decimal own n (omega arith))) some in
    (some, digit.0, digit.1, λ e. ⊎_elim (λ z. ap length (decimal_digit n (omega arith))) (λ m. absurd (omega (arith, first_decimal n m (omega arith)))) (cases_zero n))

numeral_there : (limit n : ℕ) → n ≤ limit → limit < 2 ^ 32 → numeral_within limit (decimal n) ≡ Some n
numeral_there limit n le small =
    let digits = digits_decimal own n (omega arith) in
    let same = digits_value-decimal own n (omega arith) in
    let lead = lead_decimal n (omega arith) in
    let pl : plain (decimal n) ≡ true = grind (arith, nat_tests) in
    let test : (all_ascii_digits (decimal n) && leb (read_on 0 (decimal n)) limit) ≡ true = and_from _ _ digits (le-leb (read_on 0 (decimal n)) limit (omega arith)) in
    cond-true (plain (decimal n)) (digits_within limit (decimal n)) None pl
    ∙ cond-true (all_ascii_digits (decimal n) && leb (read_on 0 (decimal n)) limit) (Some (read_on 0 (decimal n))) None test
    ∙ ap Some same

pub number_there : (z : ℤ) → Sound (number z) → number_of (signed_decimal z) ≡ Some z
number_there (pos n) h =
    let lead = lead_decimal n (omega arith) in
    cond-false (eqb (get_or (decimal n) 0 0) 45) (negated (numeral_within 2147483648 (drop 1 (decimal n)))) (posited (numeral_within 2147483647 (decimal n))) (ne_eqb (get_or (decimal n) 0 0) 45 (λ e. omega arith))
    ∙ ap posited (numeral_there 2147483647 n (omega arith) (omega arith))
number_there (negsuc n) h =
    ap negated (numeral_there 2147483648 (suc n) (omega arith) (omega arith))
    ∙ cond-false (eqb (suc n) 0) None (Some (negsuc n)) (ne_eqb (suc n) 0 (λ e. omega arith))
