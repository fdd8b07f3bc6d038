-- What joining a set of routines and leaving it do to it, digit by digit.
use Rattle.std.proofs.Common.{◌≡◌, ℕ, ◌-◌, ◌*◌, ◌%◌, ◌^◌, ◌<◌, not, eqb, ◌&&◌, ◌||◌, bit_and, bit_or, w64, ◌∙◌, arith}
use Rattle.std.proofs.lemmas.Bool.Decides.{nat_tests}
use Rattle.std.proofs.lemmas.Nat.Bits.{bit_at_set_same, bit_at_set_other, bit_at_clear_same, bit_at_clear_other, bit_at-pow_same, bit_at-pow_other}
use Rattle.std.proofs.lemmas.Nat.{shl_whole}
use Rattle.waiting.specs.Marks.{has}

pub has_with : (set r : ℕ) → r < 64 → (k : ℕ) → has (bit_or set (1 * 2 ^ r % 2 ^ 64)) k ≡ (has set k || eqb k r)
has_with set r l k = grind (arith, nat_tests, bit_at_set_same w64 set r l, bit_at_set_other w64 set r l k)

pub has_without : (set r : ℕ) → r < 64 → (k : ℕ) → has (bit_and set (2 ^ 64 - 1 - 1 * 2 ^ r % 2 ^ 64)) k ≡ (has set k && not (eqb k r))
has_without set r l k = grind (arith, nat_tests, bit_at_clear_same w64 set r l, bit_at_clear_other w64 set r l k)

pub has_only : (set r : ℕ) → r < 64 → set ≡ 1 * 2 ^ r % 2 ^ 64 → (k : ℕ) → has set k ≡ eqb k r
has_only set r l e k =
    let whole : 1 * 2 ^ r ≡ 2 ^ r = omega arith in
    let power : set ≡ 2 ^ r = e ∙ shl_whole 1 1 r 64 (omega arith) (omega arith) ∙ whole in
    grind (arith, nat_tests, power, bit_at-pow_same r, bit_at-pow_other r k)
