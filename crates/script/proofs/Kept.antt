-- A text that is read is what is listed of its lines, and they keep the rules.
use Rattle.std.proofs.Common.{◌≡◌, ℕ, suc, ◌+◌, ◌≤◌, Bool, true, false, eqb, ltb, List, [], ◌∷◌, ◌++◌, length, take, Some, None, Ok, Err, Option, Result, sym, refl, ap, ◌∙◌, subst, ⊎_elim, arith}
use Rattle.std.specs.List.{concat, AllByRecursion}
use Rattle.std.proofs.lemmas.List.{append_assoc}
use Rattle.std.proofs.lemmas.Bool.{cond-false, le-ltb, ltb-false, eqb-true}
use Rattle.words.specs.declared.refusal.Refusal.{Refusal}
use Rattle.words.specs.declared.refusal.Refusal.TheVariants.{Overlong}
use Rattle.words.specs.declared.refusal.Fault.{Fault}
use Rattle.words.specs.Refusals.{fault, broken}
use Rattle.words.specs.Words.{span}
use Rattle.words.proofs.Same.{ok_same}
use Rattle.lines.specs.declared.line.Line.{Line}
use Rattle.lines.specs.Lines.{read_line}
use Rattle.lines.specs.Roles.{role}
use Rattle.lines.specs.Shows.{show_line, Good}
use Rattle.text_laws.proofs.Numbers.{either}
use Rattle.text_laws.proofs.WordLaws.{err_ok}
use Rattle.text_laws.proofs.LineLaws.{lists_back}
use Rattle.script.specs.Rules.{Standing, fresh, standing, judge}
use Rattle.script.specs.Texts.{onto, pieces, none_left, read_piece, admitted, judged, read_on, read_script, show}
use Rattle.script.specs.Drafts.{blank, behind, reading}
use Rattle.script.specs.States.{ListedBack}
use Rattle.script.specs.Kept.{Admitted, Kept}
use Rattle.script.proofs.Pieces.{piece_ended}

-- ---- pieces put together again
concat_onto : (c : ℕ) (ps : List (List ℕ)) → concat (onto c ps) ≡ c ∷ concat ps
concat_onto c [] = refl
concat_onto c (p ∷ ps) = refl

concat_pieces : (t : List ℕ) → concat (pieces t) ≡ t
unfolding pieces
concat_pieces [] = refl
concat_pieces (c ∷ cs) = go (eqb c 10) refl (concat_pieces cs)
  where
    go : (b : Bool) → eqb c 10 ≡ b → concat (pieces cs) ≡ cs → concat (pieces (c ∷ cs)) ≡ c ∷ cs
    go true e more = rw e (ap (λ l. c ∷ l) more)
    go false e more = rw e (concat_onto c (pieces cs) ∙ ap (λ l. c ∷ l) more)

-- ---- one line, and those after it
piece_back : (n : ℕ) (p : List ℕ) (l : Line (List ℕ)) → read_piece n p ≡ Ok l → Good l × (show_line l ++ (10 ∷ []) ≡ p)
piece_back n p l e =
    ⊎_elim
    (λ q.
    let b = lists_back n (take (span 10 p) p) l q.1 in
    (b.0, ap (λ x. x ++ (10 ∷ [])) b.1 ∙ piece_ended p (eqb-true (suc (span 10 p)) (length p) q.0)))
    (λ q. absurd (err_ok q.1))
    (either (eqb (suc (span 10 p)) (length p)) (read_line n (take (span 10 p) p)) (Err (broken n)) (Ok l) e)

admitted_back : (o : Option Refusal) (n : ℕ) (l : Line (List ℕ)) (rest : Result (List (Line (List ℕ))) Fault) (ls : List (Line (List ℕ))) → admitted o n l rest ≡ Ok ls → (ms : List (Line (List ℕ))) × (o ≡ None) × (rest ≡ Ok ms) × (l ∷ ms ≡ ls)
admitted_back (Some why) n l rest ls e = absurd (err_ok e)
admitted_back None n l (Ok ms) ls e = (ms, refl, refl, ok_same e)
admitted_back None n l (Err d) ls e = absurd (err_ok e)

judged_back : (n : ℕ) (s : Standing) (last : Bool) (o : Result (Line (List ℕ)) Fault) (k : Line (List ℕ) → Result (List (Line (List ℕ))) Fault) (ls : List (Line (List ℕ))) → judged n s last o k ≡ Ok ls → (l : Line (List ℕ)) × (ms : List (Line (List ℕ))) × (o ≡ Ok l) × (judge s (role l) last ≡ None) × (k l ≡ Ok ms) × (l ∷ ms ≡ ls)
judged_back n s last (Err d) k ls e = absurd (err_ok e)
judged_back n s last (Ok l) k ls e = let a = admitted_back (judge s (role l) last) n l (k l) ls e in (l, a.0, refl, a.1, a.2, a.3)

-- what is read of the pieces ps, after lines that left s
record Taken (s : Standing) (ps : List (List ℕ)) (ls : List (Line (List ℕ))) : Type 0 where
  good : AllByRecursion Good ls
  admitted : Admitted s ls
  as_many : none_left ps ≡ none_left ls
  listed : show ls ≡ concat ps

taken : (n : ℕ) (s : Standing) (ps : List (List ℕ)) (ls : List (Line (List ℕ))) → read_on n s ps ≡ Ok ls → Taken s ps ls
unfolding read_on show
taken n s [] ls e = subst (Taken s []) (ok_same e) (record { good = tt; admitted = tt; as_many = refl; listed = refl })
taken n s (p ∷ ps) ls e =
    let j = judged_back n s (none_left ps) (read_piece n p) (λ l. read_on (n + 1) (standing s (role l)) ps) ls e in
    let b = piece_back n p j.0 j.2 in
    let more = taken (n + 1) (standing s (role j.0)) ps j.1 j.4 in
    subst (Taken s (p ∷ ps)) j.5
    (record {
      good = (b.0, more.good);
      admitted = (ap (judge s (role j.0)) (sym more.as_many) ∙ j.3, more.admitted);
      as_many = refl;
      listed = ap (λ x. show_line j.0 ++ (10 ∷ x)) more.listed ∙ sym (append_assoc (show_line j.0) (10 ∷ []) (concat ps)) ∙ ap (λ x. x ++ concat ps) b.1;
    })

-- ---- the whole text
module _ (t : List ℕ) (ls : List (Line (List ℕ))) where
  all_taken : read_script t ≡ Ok ls → (length t ≤ 32768) × Taken fresh (pieces t) ls
  all_taken e =
      ⊎_elim (λ q. absurd (err_ok q.1)) (λ q. (ltb-false 32768 (length t) q.0, taken 1 fresh (pieces t) ls q.1))
      (either (ltb 32768 (length t)) (Err (fault Overlong 0)) (read_on 1 fresh (pieces t)) (Ok ls) e)

  pub script_lists_back : read_script t ≡ Ok ls → show ls ≡ t
  script_lists_back e = (all_taken e).1.listed ∙ concat_pieces t

  pub read_kept : read_script t ≡ Ok ls → Kept ls
  read_kept e =
      let k = all_taken e in
      record { good = k.1.good; admitted = k.1.admitted; short = omega (arith, k.0, ap length (script_lists_back e)) }

  -- so it has the size of its text, which it is listed as
  pub kept_whole : Ok ls ≡ read_script t → (length t ≡ length (show ls)) × ∥ Kept ls ∥₁
  kept_whole e = (ap length (sym (script_lists_back (sym e))), ∣ read_kept (sym e) ∣₁)

  pub listed_back : Ok ls ≡ read_script t → ListedBack ls t
  listed_back e =
      let same = script_lists_back (sym e) in
      record { same_text = same; same_script = ap read_script same ∙ sym e }

-- ---- from an empty script
behind_none : (o : Result (List (Line (List ℕ))) Fault) → behind [] o ≡ o
behind_none (Ok ls) = refl
behind_none (Err e) = refl

pub from_blank : (t : List ℕ) → length t ≤ 32768 → reading blank 1 t ≡ read_script t
from_blank t h = behind_none (read_on 1 fresh (pieces t)) ∙ sym (cond-false (ltb 32768 (length t)) _ _ (le-ltb 32768 (length t) h))
