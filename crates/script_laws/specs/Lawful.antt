-- The rules of a whole script, by how its lines stand in it.
use Rattle.std.specs.Prelude.{◌≡◌, ℕ, ◌≤◌, Bool, true, false, cond, not, ◌||◌, List, [], ◌∷◌, map, length, take, Ok, sum_by, count_by, ◌≢◌}
use Rattle.std.specs.Option.{option_to_list}
use Rattle.std.specs.List.{prefix_len, flat_map, AllByRecursion}
use Rattle.lines.specs.declared.line.Line.{Line}
use Rattle.lines.specs.declared.line.Kind.{Kind}
use Rattle.lines.specs.declared.line.Kind.TheVariants.{Value, Handle}
use Rattle.lines.specs.declared.line.Role.{Role}
use Rattle.lines.specs.declared.line.Role.TheVariants.{Declares, Opens, Selects, Acts, Case, Default}
use Rattle.lines.specs.Roles.{role}
use Rattle.lines.specs.Shows.{Good}
use Rattle.script.specs.Rules.{declares, opens}
use Rattle.script.specs.Texts.{read_script, show}
use Rattle.script.specs.Kept.{Kept}

-- ---- what a line is
abbrev pub is_declares : {N : Type 0} → Role N → Bool
is_declares (Declares k x n) = true
is_declares (Opens x) = false
is_declares (Selects n) = false
is_declares Acts = false
is_declares Case = false
is_declares Default = false

abbrev pub is_opens : {N : Type 0} → Role N → Bool
is_opens (Declares k x n) = false
is_opens (Opens x) = true
is_opens (Selects n) = false
is_opens Acts = false
is_opens Case = false
is_opens Default = false

-- any other line is one of a body
abbrev pub is_body : {N : Type 0} → Role N → Bool
is_body r = not (is_declares r || is_opens r)

abbrev pub is_default : {N : Type 0} → Role N → Bool
is_default (Declares k x n) = false
is_default (Opens x) = false
is_default (Selects n) = false
is_default Acts = false
is_default Case = false
is_default Default = true

-- a case line, the default too
abbrev pub is_case : {N : Type 0} → Role N → Bool
is_case (Declares k x n) = false
is_case (Opens x) = false
is_case (Selects n) = false
is_case Acts = false
is_case Case = true
is_case Default = true

-- ---- what a line says
-- the name that it declares for a channel, and for a body
abbrev pub channel_name : {N : Type 0} → Role N → List N
channel_name r = option_to_list (declares r)

abbrev pub body_name : {N : Type 0} → Role N → List N
body_name r = option_to_list (opens r)

-- the capacity of the channel that it declares
abbrev pub capacity : {N : Type 0} → Role N → ℕ
capacity (Declares k x n) = n
capacity (Opens x) = 0
capacity (Selects n) = 0
capacity Acts = 0
capacity Case = 0
capacity Default = 0

-- n at a kind, and nothing at the other
abbrev pub at_kind : Kind → Kind → ℕ → ℕ
at_kind Value Value n = n
at_kind Value Handle n = 0
at_kind Handle Value n = 0
at_kind Handle Handle n = n

-- the part of it that counts for a kind
abbrev pub capacity_of : {N : Type 0} → Kind → Role N → ℕ
capacity_of c (Declares k x n) = at_kind c k n
capacity_of c (Opens x) = 0
capacity_of c (Selects n) = 0
capacity_of c Acts = 0
capacity_of c Case = 0
capacity_of c Default = 0

-- how many case lines it asks for
abbrev pub asks : {N : Type 0} → Role N → ℕ
asks (Declares k x n) = 0
asks (Opens x) = 0
asks (Selects n) = n
asks Acts = 0
asks Case = 0
asks Default = 0

-- ---- how lines stand
-- the lines before the first that opens a body, and those from it on
abbrev pub heading : {N : Type 0} → List (Role N) → List (Role N)
heading [] = []
heading (r ∷ rs) = cond (is_opens r) [] (r ∷ heading rs)

abbrev pub bodies : {N : Type 0} → List (Role N) → List (Role N)
bodies [] = []
bodies (r ∷ rs) = cond (is_opens r) (r ∷ rs) (bodies rs)

-- P holds of each line and the lines after it
abbrev pub Everywhere : {N : Type 0} → (Role N → List (Role N) → Type 0) → List (Role N) → Type 0
Everywhere P [] = Unit {0}
Everywhere P (r ∷ rs) = P r rs × Everywhere P rs

-- exactly the case lines that a line asks for follow it, or it is one of them
abbrev pub Followed : {N : Type 0} → Role N → List (Role N) → Type 0
Followed r rest = is_case r ≡ false → prefix_len is_case rest ≡ asks r

-- among them is one default at most
abbrev pub Once : {N : Type 0} → Role N → List (Role N) → Type 0
Once r rest = count_by is_default (take (asks r) rest) ≤ 1

-- no two are equal
abbrev pub Distinct : {X : Type 0} → List X → Type 0
Distinct [] = Unit {0}
Distinct (x ∷ xs) = AllByRecursion (λ y. x ≢ y) xs × Distinct xs

abbrev pub roles : List (Line (List ℕ)) → List (Role (List ℕ))
roles ls = map role ls

-- ---- the rules
pub record Lawful (ls : List (Line (List ℕ))) : Type 0 where
  -- before the first body stand only declarations, and after it none
  pub channels_first : AllByRecursion (λ r. is_declares r ≡ true) (heading (roles ls))
  pub bodies_last : AllByRecursion (λ r. is_declares r ≡ false) (bodies (roles ls))
  -- 32 channels, 32 bodies, 512 lines of bodies
  pub few_channels : count_by is_declares (roles ls) ≤ 32
  pub few_bodies : count_by is_opens (roles ls) ≤ 32
  pub few_lines : count_by is_body (roles ls) ≤ 512
  -- capacities to 64, and together to 512 for values and to 128 for handles
  pub small_channels : AllByRecursion (λ r. capacity r ≤ 64) (roles ls)
  pub value_cells : sum_by (capacity_of Value) (roles ls) ≤ 512
  pub handle_cells : sum_by (capacity_of Handle) (roles ls) ≤ 128
  -- no two channels have one name, and no two bodies
  pub channels_differ : Distinct (flat_map channel_name (roles ls))
  pub bodies_differ : Distinct (flat_map body_name (roles ls))
  -- a select asks for 8 cases at most; they follow it, and stand nowhere else; one is the default at most
  pub small_selects : AllByRecursion (λ r. asks r ≤ 8) (roles ls)
  pub cases_follow : Everywhere Followed (roles ls)
  pub one_default : Everywhere Once (roles ls)

-- every script that is read keeps them
abbrev pub AcceptsLawful : Type 0
AcceptsLawful = (t : List ℕ) (ls : List (Line (List ℕ))) → read_script t ≡ Ok ls → Lawful ls

-- and one that keeps them, of good lines and with a short listing, is one that is read
abbrev pub LawfulKept : Type 0
LawfulKept = (ls : List (Line (List ℕ))) → Lawful ls → AllByRecursion Good ls → length (show ls) ≤ 32768 → Kept ls
