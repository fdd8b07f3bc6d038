-- A script's text: how it is read, and what is listed of it.
use Rattle.std.specs.Prelude.{ℕ, suc, ◌+◌, Bool, true, false, cond, List, [], ◌∷◌, ◌++◌, length, take, Some, None, Ok, Err, Option, Result, ◌==◌, nat_lt}
use Rattle.words.specs.declared.refusal.Refusal.{Refusal}
use Rattle.words.specs.declared.refusal.Refusal.TheVariants.{Overlong}
use Rattle.words.specs.declared.refusal.Fault.{Fault}
use Rattle.words.specs.Refusals.{fault, broken}
use Rattle.words.specs.Words.{span}
use Rattle.lines.specs.declared.line.Line.{Line}
use Rattle.lines.specs.Lines.{read_line}
use Rattle.lines.specs.Roles.{role}
use Rattle.lines.specs.Shows.{show_line}
use Rattle.script.specs.Rules.{Standing, fresh, standing, judge}

-- ---- reading
abbrev pub onto : ℕ → List (List ℕ) → List (List ℕ)
onto c [] = (c ∷ []) ∷ []
onto c (p ∷ ps) = (c ∷ p) ∷ ps

-- the text cut after each byte 10
unfoldable pub pieces : List ℕ → List (List ℕ)
pieces [] = []
pieces (c ∷ cs) = cond (c == 10) ((c ∷ []) ∷ pieces cs) (onto c (pieces cs))

abbrev pub none_left : {X : Type 0} → List X → Bool
none_left [] = true
none_left (x ∷ xs) = false

-- line n with its end: its first byte 10 is its last byte
abbrev pub read_piece : ℕ → List ℕ → Result (Line (List ℕ)) Fault
read_piece n p = cond (suc (span 10 p) == length p) (read_line n (take (span 10 p) p)) (Err (broken n))

-- a in front of the others, or their fault
abbrev pub in_front : {A : Type 0} → A → Result (List A) Fault → Result (List A) Fault
in_front a (Ok as') = Ok (a ∷ as')
in_front a (Err e) = Err e

-- the lines after a line that is admitted, or why line n is not
abbrev pub admitted : Option Refusal → ℕ → Line (List ℕ) → Result (List (Line (List ℕ))) Fault → Result (List (Line (List ℕ))) Fault
admitted (Some why) n l rest = Err (fault why n)
admitted None n l rest = in_front l rest

abbrev pub judged : ℕ → Standing → Bool → Result (Line (List ℕ)) Fault → (Line (List ℕ) → Result (List (Line (List ℕ))) Fault) → Result (List (Line (List ℕ))) Fault
judged n s last (Err e) rest = Err e
judged n s last (Ok l) rest = admitted (judge s (role l) last) n l (rest l)

-- the lines that pieces are, from line n on, after lines that left s
unfoldable pub read_on : ℕ → Standing → List (List ℕ) → Result (List (Line (List ℕ))) Fault
read_on n s [] = Ok []
read_on n s (p ∷ ps) = judged n s (none_left ps) (read_piece n p) (λ l. read_on (n + 1) (standing s (role l)) ps)

-- the lines of a text of at most 32768 bytes, or its first fault
abbrev pub read_script : List ℕ → Result (List (Line (List ℕ))) Fault
read_script t = cond (nat_lt 32768 (length t)) (Err (fault Overlong 0)) (read_on 1 fresh (pieces t))

-- ---- listing
-- each line with a byte 10 after it
unfoldable pub show : List (Line (List ℕ)) → List ℕ
show [] = []
show (l ∷ ls) = show_line l ++ (10 ∷ show ls)
