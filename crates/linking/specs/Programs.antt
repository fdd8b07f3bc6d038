-- A linked script in its own words.
use Rattle.std.specs.Prelude.{ℕ, List, []}
use Rattle.linking.specs.declared.declared.Declared.{Declared}
use Rattle.linking.specs.declared.operation.Operation.{Operation}

-- a body: the text line that opens it, and its operations
pub record Block : Type 0 where
  pub line : ℕ
  pub operations : List Operation

-- where there is no body: nothing of it
abbrev pub no_block : Block
no_block = record { line = 0; operations = [] }

-- channels and bodies by their numbers, and the number of the body `main`
pub record Program : Type 0 where
  pub channels : List Declared
  pub bodies : List Block
  pub main : ℕ
