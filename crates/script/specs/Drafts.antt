-- What a draft stands for.
use Rattle.std.specs.Prelude.{◌≡◌, ℕ, ◌+◌, ◌≤◌, Bool, List, [], ◌∷◌, ◌++◌, Some, None, Ok, Err, Result}
use Rattle.words.specs.declared.refusal.Refusal.{Refusal}
use Rattle.words.specs.declared.refusal.Fault.{Fault}
use Rattle.words.specs.Refusals.{fault}
use Rattle.lines.specs.declared.line.Line.{Line}
use Rattle.lines.specs.Roles.{role}
use Rattle.script.specs.declared.tally.Tally.{Tally}
use Rattle.script.specs.Rules.{Standing, fresh, standing, judge}
use Rattle.script.specs.Texts.{pieces, read_piece, judged, read_on}

-- the lines that were read, and what they leave
pub record Made : Type 0 where
  pub lines : List (Line (List ℕ))
  pub standing : Standing

abbrev pub blank : Made
blank = record { lines = []; standing = fresh }

-- one line more
abbrev pub added : Made → Line (List ℕ) → Made
added d l = record { lines = d.lines ++ (l ∷ []); standing = standing d.standing (role l) }

-- n lines add up to t, which passes no limit
pub record Within (t : Tally) (n : ℕ) : Type 0 where
  pub counted : n ≡ t.channels + t.bodies + t.lines
  pub channels : t.channels ≤ 32
  pub bodies : t.bodies ≤ 32
  pub lines : t.lines ≤ 512

-- ---- reading into a draft
-- what was made before stands in front of what comes of the rest
abbrev pub behind : {A : Type 0} → List A → Result (List A) Fault → Result (List A) Fault
behind done (Ok more) = Ok (done ++ more)
behind done (Err e) = Err e

-- what comes of a text from here on, its first line being line n
abbrev pub reading : Made → ℕ → List ℕ → Result (List (Line (List ℕ))) Fault
reading d n t = behind d.lines (read_on n d.standing (pieces t))

-- all of the text is in it, or this fault was met
abbrev pub outcome : Result (Unit {0}) Fault → Made → Result (List (Line (List ℕ))) Fault
outcome (Ok u) d = Ok d.lines
outcome (Err e) d = Err e

-- a line was admitted as the rules say, or refused
abbrev pub Admits : Made → Line (List ℕ) → ℕ → Bool → Made → Result (Unit {0}) Fault → Type 0
Admits d l n last d' (Ok u) = (judge d.standing (role l) last ≡ None) × (d' ≡ added d l)
Admits d l n last d' (Err e) = (why : Refusal) × (judge d.standing (role l) last ≡ Some why) × (e ≡ fault why n)

-- a line was read and admitted, or refused, whatever comes after it
abbrev pub Reads : Made → ℕ → List ℕ → Bool → Made → Result (Unit {0}) Fault → Type 0
Reads d n p last d' (Ok u) = (l : Line (List ℕ)) × (read_piece n p ≡ Ok l) × (judge d.standing (role l) last ≡ None) × (d' ≡ added d l)
Reads d n p last d' (Err e) = (rest : Line (List ℕ) → Result (List (Line (List ℕ))) Fault) → judged n d.standing last (read_piece n p) rest ≡ Err e
