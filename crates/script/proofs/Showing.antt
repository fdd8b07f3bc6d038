-- Listing one line more.
use Rattle.std.proofs.Common.{◌≡◌, ℕ, ◌+◌, ◌<◌, ◌≤◌, true, List, [], ◌∷◌, ◌++◌, length, get_or, flat_map, Ok, Result, sym, refl, ap, ◌∙◌, subst, arith}
use Rattle.std.proofs.lemmas.List.{append_assoc}
use Rattle.std.proofs.lemmas.Bool.{leb-true}
use Rattle.words.specs.declared.refusal.Refusal.{Refusal}
use Rattle.words.specs.declared.page.Page.{Page}
use Rattle.words.specs.Pages.{Wrote, Prints, fits}
use Rattle.words.proofs.Pages.{wrote_then, prints}
use Rattle.words.proofs.Shown.{shown, shown_all, shown_more, shown_room}
use Rattle.lines.specs.declared.line.Line.{Line}
use Rattle.lines.specs.Shows.{show_line}
use Rattle.script.specs.Texts.{show}

-- the text of one line
abbrev pub ended : Line (List ℕ) → List ℕ
ended l = show_line l ++ (10 ∷ [])

pub show_is : (ls : List (Line (List ℕ))) → show ls ≡ flat_map ended ls
unfolding show
show_is [] = refl
show_is (l ∷ ls) = ap (λ t. show_line l ++ (10 ∷ t)) (show_is ls) ∙ sym (append_assoc (show_line l) (10 ∷ []) (flat_map ended ls))

-- the first i lines
abbrev pub first : List (Line (List ℕ)) → ℕ → List ℕ
first ls i = shown ended ls i

-- the line x at place i is printed next, where there is room for all of them
module _ (ls : List (Line (List ℕ))) (i : ℕ) (h : i < length ls) (x : Line (List ℕ)) (e : x ≡ get_or ls i x) where
  pub next : (p q r : Page) (done : Result (Unit {0}) Refusal) → (fits p (show ls) ≡ true → Wrote p (first ls i) q) → Prints q (ended x) r done → fits p (show ls) ≡ true → (done ≡ Ok tt) × Wrote p (first ls (i + 1)) r
  next p q r done sofar line f =
      let room = leb-true (p.len + length (show ls)) (length p.out.now) f in
      let before = sofar f in
      let here = prints q (ended x) r done line (omega (arith, shown_room ended ls i h x e, ap length (show_is ls))) in
      let P : List ℕ → Type 0 = λ t. Wrote p t r in
      (here.0, subst P (sym (shown_more ended ls i h x e)) (wrote_then p (first ls i) q (ended x) r before here.1))

pub first_all : (ls : List (Line (List ℕ))) (i : ℕ) → length ls ≤ i → first ls i ≡ show ls
first_all ls i h = shown_all ended ls i h ∙ sym (show_is ls)
