-- Which line may follow the lines before it.
use Rattle.std.specs.Prelude.{◌≡◌, ℕ, ◌+◌, ◌-◌, Bool, true, false, cond, ◌&&◌, ◌||◌, List, [], ◌++◌, is_some, position, Some, None, Ok, Err, Option, Result, ◌==◌, nat_le, nat_lt}
use Rattle.std.specs.Str.{bytes_eq}
use Rattle.std.specs.Option.{option_to_list}
use Rattle.words.specs.declared.refusal.Refusal.{Refusal}
use Rattle.words.specs.declared.refusal.Refusal.TheVariants.{Misplaced, Full, Twice}
use Rattle.lines.specs.declared.line.Kind.{Kind}
use Rattle.lines.specs.declared.line.Kind.TheVariants.{Value, Handle}
use Rattle.lines.specs.declared.line.Role.{Role}
use Rattle.lines.specs.declared.line.Role.TheVariants.{Declares, Opens, Selects, Acts, Case, Default}
use Rattle.script.specs.declared.tally.Tally.{Tally}

-- ---- counts
abbrev pub nothing : Tally
nothing = record { channels = 0; bodies = 0; lines = 0; values = 0; handles = 0; due = 0; defaulted = false }

-- the cells that channels of a kind share
abbrev pub cells : Kind → ℕ
cells Value = 512
cells Handle = 128

-- how many of them are taken
abbrev pub total : Tally → Kind → ℕ
total t Value = t.values
total t Handle = t.handles

-- declarations stand before the first body, all else in a body;
-- where case lines are due only a case line stands, and nowhere else; a select has one default at most
abbrev pub misplaced : {N : Type 0} → Tally → Role N → Bool
misplaced t (Declares k x n) = nat_lt 0 t.bodies
misplaced t (Opens x) = nat_lt 0 t.due
misplaced t (Selects n) = t.bodies == 0 || nat_lt 0 t.due
misplaced t Acts = t.bodies == 0 || nat_lt 0 t.due
misplaced t Case = t.due == 0
misplaced t Default = t.due == 0 || t.defaulted

-- 32 channels and 32 bodies, 512 lines of bodies, capacities to 64 and together within the cells, 8 cases
abbrev pub full : {N : Type 0} → Tally → Role N → Bool
full t (Declares k x n) = nat_le 32 t.channels || (nat_lt 64 n || nat_lt (cells k) (total t k + n))
full t (Opens x) = nat_le 32 t.bodies
full t (Selects n) = nat_le 512 t.lines || nat_lt 8 n
full t Acts = nat_le 512 t.lines
full t Case = nat_le 512 t.lines
full t Default = nat_le 512 t.lines

abbrev pub declaring : Tally → Kind → ℕ → Tally
declaring t Value n = record { channels = t.channels + 1; bodies = t.bodies; lines = t.lines; values = t.values + n; handles = t.handles; due = t.due; defaulted = t.defaulted }
declaring t Handle n = record { channels = t.channels + 1; bodies = t.bodies; lines = t.lines; values = t.values; handles = t.handles + n; due = t.due; defaulted = t.defaulted }

-- a body line: how many cases are due after it, and whether the default came
abbrev pub acting : Tally → ℕ → Bool → Tally
acting t due default = record { channels = t.channels; bodies = t.bodies; lines = t.lines + 1; values = t.values; handles = t.handles; due = due; defaulted = default }

abbrev pub after : {N : Type 0} → Tally → Role N → Tally
after t (Declares k x n) = declaring t k n
after t (Opens x) = record { channels = t.channels; bodies = t.bodies + 1; lines = t.lines; values = t.values; handles = t.handles; due = 0; defaulted = t.defaulted }
after t (Selects n) = acting t n false
after t Acts = acting t 0 t.defaulted
after t Case = acting t (t.due - 1) t.defaulted
after t Default = acting t (t.due - 1) true

-- ---- names
-- the first place at which a name stands
abbrev pub place : List ℕ → List (List ℕ) → Option ℕ
place x xs = position (λ y. bytes_eq y x) xs

-- ---- what the lines before leave
pub record Standing : Type 0 where
  pub tally : Tally
  pub channels : List (List ℕ)
  pub bodies : List (List ℕ)

abbrev pub fresh : Standing
fresh = record { tally = nothing; channels = []; bodies = [] }

-- the name that a line declares for a channel, and for a body
abbrev pub declares : {N : Type 0} → Role N → Option N
declares (Declares k x n) = Some x
declares (Opens x) = None
declares (Selects n) = None
declares Acts = None
declares Case = None
declares Default = None

abbrev pub opens : {N : Type 0} → Role N → Option N
opens (Declares k x n) = None
opens (Opens x) = Some x
opens (Selects n) = None
opens Acts = None
opens Case = None
opens Default = None

abbrev pub known : Option (List ℕ) → List (List ℕ) → Bool
known None xs = false
known (Some x) xs = is_some (place x xs)

-- channels have one space of names, bodies another
abbrev pub twice : Standing → Role (List ℕ) → Bool
twice s r = known (declares r) s.channels || known (opens r) s.bodies

abbrev pub standing : Standing → Role (List ℕ) → Standing
standing s r = record { tally = after s.tally r; channels = s.channels ++ option_to_list (declares r); bodies = s.bodies ++ option_to_list (opens r) }

-- the lowest refusal of a line; case lines still due after the last line are a fault of that line
abbrev pub judge : Standing → Role (List ℕ) → Bool → Option Refusal
judge s r last =
    cond (misplaced s.tally r || (last && nat_lt 0 (after s.tally r).due)) (Some Misplaced)
    (cond (full s.tally r) (Some Full) (cond (twice s r) (Some Twice) None))

-- a line is taken in, or refused, and then nothing changed
abbrev pub AdmitsRole : Standing → Role (List ℕ) → Bool → Standing → Result (Unit {0}) Refusal → Type 0
AdmitsRole s r last s' (Ok u) = (judge s r last ≡ None) × (s' ≡ standing s r)
AdmitsRole s r last s' (Err why) = (judge s r last ≡ Some why) × (s' ≡ s)
