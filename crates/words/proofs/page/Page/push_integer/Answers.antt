use Rattle.std.proofs.Common.{◌≡◌, [], ◌∷◌, ℤ, pos, negsuc, nat_abs, ◌<ℤ◌, ◌≤ℤ◌, decimal, sym, refl, arith}
use Rattle.std.proofs.lemmas.Int.{ints, to_z-of_z}
use Rattle.std.specs.Fmt.{signed_decimal}
use Rattle.words.proofs.Pages.{wrote_then}
use Rattle.words.proofs.page.Page.push_integer.Goals as goal
use Rattle.words.proofs.page.Page.push_integer.Goals.{then-z-lt0, else-z-lt0}

-- a negative number, by a minus and its magnitude; another by its magnitude alone
minus : (z : ℤ) → z <ℤ pos 0 → signed_decimal z ≡ 45 ∷ decimal (nat_abs z)
minus (pos n) h = absurd (omega (arith, ints))
minus (negsuc n) h = refl

plain : (z : ℤ) → pos 0 ≤ℤ z → signed_decimal z ≡ decimal (nat_abs z)
plain (pos n) h = refl
plain (negsuc n) h = absurd (omega (arith, ints))

pub returns : goal.returns
returns c =
    let fits = c.ranges.z in
    let size : c.unsigned_abs.result ≡ nat_abs c.args.z = simp to_z-of_z at c.unsigned_abs.ensures.value in
    elim c.if-z-lt0.branch [
      | then-z-lt0 w ↦
          rw (minus c.args.z (omega (arith, ints)), sym size)
          (wrote_then c.args.self.now (45 ∷ []) c.if-z-lt0.self (decimal c.unsigned_abs.result) c.push_number.new.self (rw w.self-is w.push_byte.ensures) c.push_number.ensures)
      | else-z-lt0 w ↦ rw (plain c.args.z (omega (arith, ints)), sym size, sym w.self-is) c.push_number.ensures
    ]
