-- A script that keeps the rules is read, and one that is read keeps them.
use Rattle.std.proofs.Common.{◌≡◌, ℕ, ◌+◌, eqb, ltb, List, [], ◌∷◌, ◌++◌, length, None, Ok, Result, refl, ap, ◌∙◌}
use Rattle.std.specs.List.{AllByRecursion}
use Rattle.std.proofs.lemmas.Bool.{cond-false, le-ltb, ne_eqb}
use Rattle.words.specs.declared.refusal.Fault.{Fault}
use Rattle.words.proofs.Spans.{Free}
use Rattle.lines.specs.declared.line.Line.{Line}
use Rattle.lines.specs.Roles.{role}
use Rattle.lines.specs.Shows.{show_line, Good}
use Rattle.text_laws.proofs.LineLaws.{reads_back, no_end}
use Rattle.script.specs.Rules.{Standing, fresh, standing}
use Rattle.script.specs.Texts.{onto, pieces, none_left, read_piece, admitted, judged, read_on, show}
use Rattle.script.proofs.Pieces.{piece_line}
use Rattle.script.specs.Kept.{Admitted}
use Rattle.script.proofs.Kept.{script_lists_back, read_kept}
use Rattle.script_laws.specs.Laws.{AcceptsKept, AcceptsOnly}

-- ---- from lines to their listing and back
-- the first line of a text is its first piece
cut : (a r : List ℕ) → Free 10 a → pieces (a ++ (10 ∷ r)) ≡ (a ++ (10 ∷ [])) ∷ pieces r
unfolding pieces
cut [] r f = refl
cut (c ∷ a) r f = cond-false (eqb c 10) _ _ (ne_eqb c 10 f.0) ∙ ap (onto c) (cut a r f.1)

cut_show : (l : Line (List ℕ)) (ls : List (Line (List ℕ))) → Good l → pieces (show (l ∷ ls)) ≡ (show_line l ++ (10 ∷ [])) ∷ pieces (show ls)
unfolding show
cut_show l ls g = cut (show_line l) (show ls) (no_end l g)

-- a piece is left where a line is left
none_shown : (ls : List (Line (List ℕ))) → AllByRecursion Good ls → none_left (pieces (show ls)) ≡ none_left ls
unfolding pieces show
none_shown [] g = refl
none_shown (l ∷ ls) g = ap none_left (cut_show l ls g.0)

read_shown : (n : ℕ) (s : Standing) (ls : List (Line (List ℕ))) → AllByRecursion Good ls → Admitted s ls → read_on n s (pieces (show ls)) ≡ Ok ls
unfolding pieces read_on show
read_shown n s [] g a = refl
read_shown n s (l ∷ ls) g a =
    let line = show_line l in
    let next : Line (List ℕ) → Result (List (Line (List ℕ))) Fault = λ m. read_on (n + 1) (standing s (role m)) (pieces (show ls)) in
    ap (read_on n s) (cut_show l ls g.0)
    ∙ ap (λ b. judged n s b (read_piece n (line ++ (10 ∷ []))) next) (none_shown ls g.1)
    ∙ ap (λ r. judged n s (none_left ls) r next) (piece_line n line (no_end l g.0) ∙ reads_back n l g.0)
    ∙ ap (λ o. admitted o n l (next l)) a.0
    ∙ ap (admitted None n l) (read_shown (n + 1) (standing s (role l)) ls g.1 a.1)

pub accepts_kept : AcceptsKept
accepts_kept ls k =
    cond-false (ltb 32768 (length (show ls))) _ _ (le-ltb 32768 (length (show ls)) k.short)
    ∙ read_shown 1 fresh ls k.good k.admitted

pub accepts_only : AcceptsOnly
accepts_only t ls e = (read_kept t ls e, script_lists_back t ls e)
