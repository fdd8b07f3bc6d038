-- How long the texts are, and one text after another.
use Rattle.std.proofs.Common.{append-nil, ◌≡◌, ℕ, ◌+◌, ◌≤◌, List, [], ◌∷◌, ◌++◌, length, Ok, codes, Result, sym, refl, ap, ◌∙◌, arith}
use Rattle.std.proofs.lemmas.List.{append_assoc, length-append}
use Rattle.std.proofs.lemmas.Grind.{flat_map-append}
use Rattle.words.specs.declared.refusal.Refusal.{Refusal}
use Rattle.words.specs.declared.page.Page.{Page}
use Rattle.words.specs.Words.{Said}
use Rattle.words.specs.Shows.{show_word, show_field, show_fields}
use Rattle.words.specs.Pages.{Wrote, Prints}
use Rattle.words.proofs.Pages.{wrote_then, prints}
use Rattle.reports.specs.declared.report.Pass.{Pass}
use Rattle.reports.specs.declared.report.Deed.TheVariants.{Passes}
use Rattle.reports.specs.Shows.{natural, text_line, way, show_turn}
use Rattle.reports.specs.Prints.{PrintsShort}

-- how many bytes the words take, each with its space
abbrev pub width : List Said → ℕ
width [] = 0
width (w ∷ ws) = 1 + length (show_word w) + width ws

fields_width : (ws : List Said) → length (show_fields ws) ≡ width ws
fields_width [] = refl
fields_width (w ∷ ws) = omega (arith, length-append (show_word w) (show_fields ws), fields_width ws)

pub text_line_width : (mark : List ℕ) (ws : List Said) → length (text_line mark ws) ≡ length mark + width ws + 1
text_line_width mark ws = omega (arith, length-append (mark ++ show_fields ws) (10 ∷ []), length-append mark (show_fields ws), fields_width ws)

-- a passed case is written in two parts
pub pass_text : (r p k : ℕ) (w : Pass) (turn : List Said) → turn ≡ natural r ∷ (natural p ∷ (natural k ∷ [])) → (codes "ps" ++ show_fields turn) ++ (show_fields (way w) ++ (10 ∷ [])) ≡ show_turn r p (Passes k w)
pass_text r p k w turn e =
    sym (append_assoc (codes "ps" ++ show_fields turn) (show_fields (way w)) (10 ∷ []))
    ∙ ap (λ l. (codes "ps" ++ l) ++ (10 ∷ [])) (sym (flat_map-append show_field turn (way w)))
    ∙ ap (λ t. text_line (codes "ps") (t ++ way w)) e

-- ---- one text after another
pub no_room : (p : Page) (ys : List ℕ) (q : Page) (r : Result (Unit {0}) Refusal) → (p.len + 128 ≤ length p.out.now → ⊥) → PrintsShort p ys q r
no_room p ys q r n = record { answer = λ h. absurd (n h); after = λ h. absurd (n h); short = λ h. absurd (n h) }

module _ (p : Page) (a : List ℕ) (q : Page) (b : List ℕ) (r : Page) (c : List ℕ) (s : Page) (d : List ℕ) (t : Page) (w x y z : Result (Unit {0}) Refusal) where
  pub in_turn : Prints p a q w → Prints q b r x → Prints r c s y → Prints s d t z → length a + length b + length c + length d ≤ 128 → PrintsShort p (a ++ (b ++ (c ++ (d ++ [])))) t z
  in_turn f g h i l = record { answer = λ room. (all room).0; after = λ room. (all room).1; short = λ room. simp length-append (omega arith) }
    where
      all : p.len + 128 ≤ length p.out.now → (z ≡ Ok tt) × Wrote p (a ++ (b ++ (c ++ (d ++ [])))) t
      all room =
          let one = (prints p a q w f (omega arith)).1 in
          let two = (prints q b r x g (omega arith)).1 in
          let three = (prints r c s y h (omega arith)).1 in
          let four = prints s d t z i (omega arith) in
          let tail : Wrote s (d ++ []) t = rw append-nil four.1 in
          (four.0, wrote_then p a q _ t one (wrote_then q b r _ t two (wrote_then r c s _ t three tail)))
