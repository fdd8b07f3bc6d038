-- What a reader of the code does, by the reader of the specification.
use Rattle.std.specs.Prelude.{◌≡◌, ℕ, true, List, Ok, Err, Option, Result, MatchResult, IsOkAnd}
use Rattle.words.specs.declared.refusal.Fault.{Fault}
use Rattle.words.specs.declared.reading.Word.{Word}
use Rattle.words.specs.Names.{is_name}
use Rattle.words.specs.Refusals.{broken}
use Rattle.std.specs.Option.{ok_or}
use Rattle.words.specs.Words.{Said, name, number, value, handle, said, said_word}
use Rattle.lines.specs.Lines.{Reader, read_field, then, ended}
use Rattle.line_reader.specs.declared.fields.Fields.{Fields}

-- an answer, and what is left after it; what a refusal leaves is open, since nothing more is read
abbrev pub with_left : {X : Type 0} → Result X Fault → List ℕ → Result (X × List ℕ) Fault
with_left (Ok x) left = Ok (x, left)
with_left (Err e) left = Err e

-- p says of the fields what was answered and what is left of them
pub record Reads {X : Type 0} (p : Reader X) (before : Fields) (answer : Result X Fault) (after : Fields) : Type 0 where
  pub same_line : after.line ≡ before.line
  pub read : with_left answer after.rest.now ≡ p before.line before.rest.now

-- p, and then the line ends
abbrev pub to_the_end : {X : Type 0} → Reader X → ℕ → List ℕ → Result X Fault
to_the_end p n s = then (p n s) (λ x left. ended n x left)

-- the answer is made of what p says of the whole line
pub record Makes {X Y : Type 0} (p : Reader X) (made : X → Y → Type 0) (before : Fields) (answer : Result Y Fault) : Type 0 where
  pub all : Result X Fault
  pub read : all ≡ to_the_end p before.line before.rest.now
  pub answered : MatchResult all (λ x. IsOkAnd answer (made x)) (λ e. answer ≡ Err e)

-- a name is spelt as one
abbrev pub Spelt : Said → Type 0
Spelt (name x) = is_name x ≡ true
Spelt (number z) = Unit {0}
Spelt (value k) = Unit {0}
Spelt (handle k) = Unit {0}

-- a word is read, and the answer is what was picked from it, if anything was
pub record ReadsPicked {X : Type 0} (picked : Word → Option X → Type 0) (before : Fields) (answer : Result X Fault) (after : Fields) : Type 0 where
  pub word : Result Word Fault
  pub read : Reads read_field before (said_word word) after
  pub answered : MatchResult word (λ w. Spelt (said w) × ((o : Option X) × picked w o × (answer ≡ ok_or o (broken before.line)))) (λ e. answer ≡ Err e)
