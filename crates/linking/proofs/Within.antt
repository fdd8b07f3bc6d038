-- What holds of all lines of a script holds in each of its bodies.
use Rattle.std.proofs.Common.{◌≡◌, ℕ, suc, ◌+◌, ◌≤◌, Bool, true, false, cond, not, List, [], ◌∷◌, take, sym, refl, ap, ◌∙◌, subst, arith}
use Rattle.std.specs.List.{prefix_len, AllByRecursion}
use Rattle.std.proofs.ByRecursion.{All-take}
use Rattle.std.proofs.lemmas.Bool.{cond_both, false≢true}
use Rattle.lines.specs.declared.line.Line.{Line}
use Rattle.lines.specs.declared.line.Role.{Role}
use Rattle.lines.specs.declared.line.Role.TheVariants.{Opens}
use Rattle.lines.specs.Roles.{role}
use Rattle.lines.specs.Shows.{Good}
use Rattle.script_laws.specs.Lawful.{is_opens, is_case, asks, Everywhere, Followed, roles}
use Rattle.linking.specs.Parts.{own, parts}

-- ---- a line that opens a body is no case and asks for none
opens_no_case : (r : Role (List ℕ)) → is_opens r ≡ true → is_case r ≡ false
opens_no_case (Opens x) e = refl
opens_no_case _ e = absurd (false≢true e)

opens_asks_none : (r : Role (List ℕ)) → is_opens r ≡ true → asks r ≡ 0
opens_asks_none (Opens x) e = refl
opens_asks_none _ e = absurd (false≢true e)

-- ---- the lines of one body, in front of others
own_more : (l : Line (List ℕ)) (ls : List (Line (List ℕ))) → own (l ∷ ls) ≡ cond (is_opens (role l)) [] (l ∷ own ls)
own_more l ls = go (is_opens (role l))
  where
    go : (b : Bool) → take (cond (not b) (1 + prefix_len (λ m. not (is_opens (role m))) ls) 0) (l ∷ ls) ≡ cond b [] (l ∷ own ls)
    go true = refl
    go false = let e : 1 + prefix_len (λ m. not (is_opens (role m))) ls ≡ suc (prefix_len (λ m. not (is_opens (role m))) ls) = omega arith in ap (λ n. take n (l ∷ ls)) e

-- as many cases stand in front of a body's lines as in front of all that follow
leading_own : (ls : List (Line (List ℕ))) → prefix_len is_case (roles (own ls)) ≡ prefix_len is_case (roles ls)
leading_own [] = refl
leading_own (l ∷ ls) = ap (λ b. prefix_len is_case (roles b)) (own_more l ls) ∙ go (is_opens (role l)) refl (leading_own ls)
  where
    go : (b : Bool) → is_opens (role l) ≡ b → prefix_len is_case (roles (own ls)) ≡ prefix_len is_case (roles ls) → prefix_len is_case (roles (cond b [] (l ∷ own ls))) ≡ prefix_len is_case (roles (l ∷ ls))
    go true t more = ap (λ b. cond b (1 + prefix_len is_case (roles ls)) 0) (sym (opens_no_case (role l) t))
    go false t more = ap (λ n. cond (is_case (role l)) (1 + n) 0) more

follows_own : (ls : List (Line (List ℕ))) → Everywhere Followed (roles ls) → Everywhere Followed (roles (own ls))
follows_own [] h = tt
follows_own (l ∷ ls) h =
    let P : List (Line (List ℕ)) → Type 0 = λ b. Everywhere Followed (roles b) in
    subst P (sym (own_more l ls)) (cond_both (is_opens (role l)) [] (l ∷ own ls) P (λ t. tt) (λ t. (λ z. leading_own ls ∙ h.0 z, follows_own ls h.1)))

-- ---- each body
-- a line by itself: its words are sound, and it asks for 8 cases at most
abbrev pub Fit : Line (List ℕ) → Type 0
Fit l = Good l × (asks (role l) ≤ 8)

-- a body's lines: they begin with no case, and just the cases follow that are asked for
pub record Well (body : List (Line (List ℕ))) : Type 0 where
  pub fit : AllByRecursion Fit body
  pub begins : prefix_len is_case (roles body) ≡ 0
  pub follows : Everywhere Followed (roles body)

pub parts_well : (n : ℕ) (ls : List (Line (List ℕ))) → AllByRecursion Fit ls → Everywhere Followed (roles ls) → AllByRecursion (λ p. Well p.lines) (parts n ls)
parts_well n [] a h = tt
parts_well n (l ∷ ls) a h =
    let more = parts_well (n + 1) ls a.1 h.1 in
    cond_both (is_opens (role l)) (record { line = n; lines = own ls } ∷ parts (n + 1) ls) (parts (n + 1) ls) (AllByRecursion (λ p. Well p.lines))
    (λ t. (
      record {
        fit = All-take Fit _ ls a.1;
        begins = leading_own ls ∙ h.0 (opens_no_case (role l) t) ∙ opens_asks_none (role l) t;
        follows = follows_own ls h.1;
      },
      more,
    ))
    (λ t. more)

-- the rules of the script give this of every line
pub all_fit : (ls : List (Line (List ℕ))) → AllByRecursion Good ls → AllByRecursion (λ r. asks r ≤ 8) (roles ls) → AllByRecursion Fit ls
all_fit [] g a = tt
all_fit (l ∷ ls) g a = ((g.0, a.0), all_fit ls g.1 a.1)
