-- What the wrapping sums and differences of the code are.
use Rattle.std.proofs.Common.{◌≡◌, ap}
use Rattle.std.specs.Int.{int_wrapping_add, int_wrapping_sub, w32}
use Rattle.std.specs.Int.RustNames.{FitsSigned}
use Rattle.std.proofs.lemmas.Int.{wrapping_add_is, wrapping_sub_is}
use Rattle.elements.specs.declared.value.Value.{Value}
use Rattle.routines.specs.Registers.{plus, minus}

module _ (a b : Value) (f : FitsSigned w32 a.number) (g : FitsSigned w32 b.number) where
  pub sum_is : record { number = int_wrapping_add w32 a.number b.number } ≡ plus a b
  sum_is = ap (λ n. record { number = n }) (wrapping_add_is w32 a.number b.number f g)

  pub difference_is : record { number = int_wrapping_sub w32 a.number b.number } ≡ minus a b
  difference_is = ap (λ n. record { number = n }) (wrapping_sub_is w32 a.number b.number f g)
