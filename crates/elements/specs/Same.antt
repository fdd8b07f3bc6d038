-- What the code of an element tells of it.
use Rattle.std.specs.Prelude.{◌≡◌, ℕ, ◌^◌, ◌<◌, Bool, true}

-- when a test tells whether a fact holds
abbrev pub Tells : Bool → Type 0 → Type 0
Tells b P = (b ≡ true → P) × (P → b ≡ true)

-- what the codes of a kind owe: one for each element that a variable can hold, and 0 for the zero element
pub record OneCodeEach {E : Type 0} (nought : E) (coded : E → ℕ) (holds : E → Type 0) : Type 0 where
  pub zero_is_held : holds nought
  pub zero_has_code_zero : coded nought ≡ 0
  pub code_fits : (x : E) → holds x → coded x < 2 ^ 32
  pub one_code_one_element : (x y : E) → holds x → holds y → coded x ≡ coded y → x ≡ y
