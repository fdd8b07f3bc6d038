-- Where the bodies lie in the text: a script has 576 lines at most.
use Rattle.std.proofs.Common.{◌≡◌, ℕ, ◌+◌, ◌≤◌, cond, not, List, [], ◌∷◌, length, count_by, refl, arith}
use Rattle.std.specs.List.{prefix_len, AllByRecursion}
use Rattle.std.proofs.lemmas.List.{length-take}
use Rattle.std.proofs.lemmas.List.Sums.{sum_by-cons}
use Rattle.std.proofs.lemmas.Bool.{cond_both}
use Rattle.lines.specs.declared.line.Line.{Line}
use Rattle.lines.specs.declared.line.Role.{Role}
use Rattle.lines.specs.declared.line.Role.TheVariants.{Declares}
use Rattle.lines.specs.Roles.{role}
use Rattle.script_laws.specs.Lawful.{is_declares, is_opens, is_body, roles, Lawful}
use Rattle.linking.specs.Parts.{own, parts}

own_short : (ls : List (Line (List ℕ))) → length (own ls) ≤ length ls
own_short ls = omega (arith, length-take (prefix_len (λ l. not (is_opens (role l))) ls) ls)

pub parts_placed : (m n : ℕ) (ls : List (Line (List ℕ))) → n + length ls ≤ m + 1 → AllByRecursion (λ p. p.line + length p.lines ≤ m) (parts n ls)
parts_placed m n [] h = tt
parts_placed m n (l ∷ ls) h =
    let more = parts_placed m (n + 1) ls (omega arith) in
    cond_both (is_opens (role l)) (record { line = n; lines = own ls } ∷ parts (n + 1) ls) (parts (n + 1) ls) (AllByRecursion (λ p. p.line + length p.lines ≤ m))
    (λ t. (omega (arith, own_short ls), more)) (λ t. more)

-- each line declares a channel, opens a body or is one of a body
one_each : (r : Role (List ℕ)) → cond (is_declares r) 1 0 + cond (is_opens r) 1 0 + cond (is_body r) 1 0 ≡ 1
one_each (Declares k x n) = refl
one_each _ = refl

all_counted : (ls : List (Line (List ℕ))) → count_by is_declares (roles ls) + count_by is_opens (roles ls) + count_by is_body (roles ls) ≡ length ls
all_counted [] = refl
all_counted (l ∷ ls) =
    omega
    (arith, all_counted ls, one_each (role l), sum_by-cons (λ r. cond (is_declares r) 1 0) (role l) (roles ls), sum_by-cons (λ r. cond (is_opens r) 1 0) (role l) (roles ls), sum_by-cons (λ r. cond (is_body r) 1 0) (role l) (roles ls))

pub lines_few : (ls : List (Line (List ℕ))) → Lawful ls → length ls ≤ 576
lines_few ls law = omega (arith, all_counted ls, law.few_channels, law.few_bodies, law.few_lines)
