-- As many channels and bodies are linked as are declared, with as many cells.
use Rattle.std.proofs.Common.{◌≡◌, ℕ, ◌+◌, ◌≤◌, Bool, true, false, cond, List, [], ◌∷◌, map, length, sum_by, count_by, sym, refl, ◌∙◌, arith}
use Rattle.std.specs.List.{AllByRecursion, cons_option}
use Rattle.std.proofs.lemmas.List.Sums.{sum_by-cons}
use Rattle.lines.specs.declared.line.Kind.{Kind}
use Rattle.lines.specs.declared.line.Line.{Line}
use Rattle.lines.specs.declared.line.Role.{Role}
use Rattle.lines.specs.declared.line.Role.TheVariants.{Declares, Opens}
use Rattle.lines.specs.Roles.{role}
use Rattle.script.specs.Rules.{opens}
use Rattle.script_laws.specs.Lawful.{is_declares, is_opens, capacity, capacity_of, roles}
use Rattle.linking.specs.declared.declared.Channel.{Channel}
use Rattle.linking.specs.Naming.{declared, named_channels, channels, body_names}
use Rattle.linking.specs.Parts.{own, parts}
use Rattle.linking.specs.Sound.{cells_for}

-- ---- one line, before channels, and before names
counted_one : (r : Role (List ℕ)) (cs : List Channel) → length (map (λ c. c.declared) (cons_option (declared r) cs)) ≡ cond (is_declares r) 1 0 + length (map (λ c. c.declared) cs)
counted_one (Declares k x n) cs = omega arith
counted_one _ cs = omega arith

opened_one : (r : Role (List ℕ)) (xs : List (List ℕ)) → length (cons_option (opens r) xs) ≡ cond (is_opens r) 1 0 + length xs
opened_one (Opens x) xs = omega arith
opened_one _ xs = omega arith

small_one : (r : Role (List ℕ)) (cs : List Channel) → capacity r ≤ 64 → AllByRecursion (λ d. d.capacity ≤ 64) (map (λ c. c.declared) cs) → AllByRecursion (λ d. d.capacity ≤ 64) (map (λ c. c.declared) (cons_option (declared r) cs))
small_one (Declares k x n) cs h a = (h, a)
small_one _ cs h a = a

cells_one : (c : Kind) (r : Role (List ℕ)) (cs : List Channel) → sum_by (cells_for c) (map (λ d. d.declared) (cons_option (declared r) cs)) ≡ capacity_of c r + sum_by (cells_for c) (map (λ d. d.declared) cs)
cells_one c (Declares k x n) cs = omega (arith, sum_by-cons (cells_for c) (record { kind = k; capacity = n }) (map (λ d. d.declared) cs))
cells_one c _ cs = omega arith

-- ---- all lines
pub channels_counted : (ls : List (Line (List ℕ))) → length (channels ls) ≡ count_by is_declares (roles ls)
channels_counted [] = refl
channels_counted (l ∷ ls) =
    omega (arith, counted_one (role l) (named_channels ls), channels_counted ls, sum_by-cons (λ r. cond (is_declares r) 1 0) (role l) (roles ls))

pub names_counted : (ls : List (Line (List ℕ))) → length (body_names ls) ≡ count_by is_opens (roles ls)
names_counted [] = refl
names_counted (l ∷ ls) =
    omega (arith, opened_one (role l) (body_names ls), names_counted ls, sum_by-cons (λ r. cond (is_opens r) 1 0) (role l) (roles ls))

pub parts_counted : (n : ℕ) (ls : List (Line (List ℕ))) → length (parts n ls) ≡ count_by is_opens (roles ls)
parts_counted n [] = refl
parts_counted n (l ∷ ls) = go (is_opens (role l)) (parts_counted (n + 1) ls) ∙ sym (sum_by-cons (λ r. cond (is_opens r) 1 0) (role l) (roles ls))
  where
    go : (b : Bool) → length (parts (n + 1) ls) ≡ count_by is_opens (roles ls) → length (cond b (record { line = n; lines = own ls } ∷ parts (n + 1) ls) (parts (n + 1) ls)) ≡ cond b 1 0 + count_by is_opens (roles ls)
    go true more = omega arith
    go false more = omega arith

pub channels_small : (ls : List (Line (List ℕ))) → AllByRecursion (λ r. capacity r ≤ 64) (roles ls) → AllByRecursion (λ d. d.capacity ≤ 64) (channels ls)
channels_small [] a = tt
channels_small (l ∷ ls) a = small_one (role l) (named_channels ls) a.0 (channels_small ls a.1)

pub cells_counted : (c : Kind) (ls : List (Line (List ℕ))) → sum_by (cells_for c) (channels ls) ≡ sum_by (capacity_of c) (roles ls)
cells_counted c [] = refl
cells_counted c (l ∷ ls) = omega (arith, cells_one c (role l) (named_channels ls), cells_counted c ls, sum_by-cons (capacity_of c) (role l) (roles ls))
