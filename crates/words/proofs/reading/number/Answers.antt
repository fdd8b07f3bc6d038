use Rattle.std.proofs.Common.{rules, ◌≡◌, false, Some, pos, neg_ℤ, ◌-ℤ◌, to_z, of_z, w32, w64, get_or, drop, sym, ap, ◌∙◌, arith}
use Rattle.std.proofs.lemmas.List.{take_rest}
use Rattle.words.specs.Words.{loose, digits_within}
use Rattle.words.proofs.Numerals.{minus_some, within_le}
use Rattle.words.proofs.reading.number.Goals as goal

pub returns-in_ok-digits_value-in-45 : goal.returns-in_ok-digits_value-in-45
returns-in_ok-digits_value-in-45 c =
    let first : get_or c.args.bytes.now 0 0 ≡ 45 = omega arith in
    let strict : loose c.args.bytes.now ≡ false = sym c.if-is_loose.ensures in
    let m = c.in_ok-digits_value-in-45.field-0 in
    let value : Some m ≡ digits_within 2147483648 (drop 1 c.args.bytes.now) = sym c.in_ok-digits_value-in-45.was ∙ simp take_rest at c.digits_value.ensures in
    let small = within_le 2147483648 m (drop 1 c.args.bytes.now) value in
    let casts : to_z w32 (of_z w32 (to_z w64 (of_z w64 (pos 0 -ℤ to_z w64 m)))) ≡ neg_ℤ (pos m) = search rules in
    ap Some casts ∙ minus_some c.args.bytes.now m strict first (omega arith) value
