-- The letters of a name, in eight bytes.
use Rattle.std.specs.Prelude.{◌≡◌, ℕ, ◌-◌, List, ◌++◌, length, take, replicate}
use Rattle.words.specs.Words.{span}

-- what stands before the first zero
abbrev pub spelled : List ℕ → List ℕ
spelled letters = take (span 0 letters) letters

abbrev pub padded : List ℕ → List ℕ
padded name = name ++ replicate (8 - length name) 0

-- after the first zero there are zeros only
abbrev pub Padded : List ℕ → Type 0
Padded letters = padded (spelled letters) ≡ letters
