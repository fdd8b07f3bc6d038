-- The line in front of a text, and the pieces after it.
use Rattle.std.proofs.Common.{◌≡◌, ℕ, suc, ◌+◌, ◌<◌, Bool, true, false, eqb, ◌≤◌, List, [], ◌∷◌, ◌++◌, length, Err, take, drop, min, sym, refl, ap, ◌∙◌, subst, arith, zero, true≢false}
use Rattle.std.specs.List.{IsFirstMatchOrLen}
use Rattle.std.proofs.lemmas.List.{take_min, drop_min, length-append, take_at, drop_at, nil_from_length}
use Rattle.std.proofs.lemmas.Bool.{cond-true, cond-false, eq-eqb, ne_eqb, eqb-true}
use Rattle.words.specs.Refusals.{broken}
use Rattle.words.specs.Words.{span}
use Rattle.words.proofs.Spans.{Free, span_front}
use Rattle.lines.specs.Lines.{read_line}
use Rattle.script.specs.Texts.{onto, pieces, none_left, read_piece}

-- ---- pieces
-- the first goes to the first byte 10, or to the end
pub first_piece : (t : List ℕ) → 0 < length t → pieces t ≡ take (suc (span 10 t)) t ∷ pieces (drop (suc (span 10 t)) t)
unfolding pieces
first_piece [] h = absurd (omega arith)
first_piece (c ∷ []) h = go (eqb c 10) refl
  where
    go : (b : Bool) → eqb c 10 ≡ b → pieces (c ∷ []) ≡ take (suc (span 10 (c ∷ []))) (c ∷ []) ∷ pieces (drop (suc (span 10 (c ∷ []))) (c ∷ []))
    go true e = rw e refl
    go false e = rw e refl
first_piece (c ∷ d ∷ ds) h = go (eqb c 10) refl (first_piece (d ∷ ds) (omega arith))
  where
    go : (b : Bool) → eqb c 10 ≡ b → (pieces (d ∷ ds) ≡ take (suc (span 10 (d ∷ ds))) (d ∷ ds) ∷ pieces (drop (suc (span 10 (d ∷ ds))) (d ∷ ds))) → pieces (c ∷ d ∷ ds) ≡ take (suc (span 10 (c ∷ d ∷ ds))) (c ∷ d ∷ ds) ∷ pieces (drop (suc (span 10 (c ∷ d ∷ ds))) (c ∷ d ∷ ds))
    go true e more = rw e refl
    go false e more = rw e (ap (onto c) more)

-- the first byte 10, however it is found
first_span : (t : List ℕ) (i : ℕ) → IsFirstMatchOrLen (λ b. eqb b 10) t i → min (suc i) (length t) ≡ min (suc (span 10 t)) (length t)
first_span [] i f = omega arith
first_span (c ∷ cs) zero f = go (eqb c 10) refl
  where
    go : (b : Bool) → eqb c 10 ≡ b → min 1 (suc (length cs)) ≡ min (suc (span 10 (c ∷ cs))) (suc (length cs))
    go true e = rw e refl
    go false e = absurd (true≢false (sym (f.1 (omega arith) 0) ∙ e))
first_span (c ∷ cs) (suc i) f =
    let more = first_span cs i ((λ k d low high. f.0 (suc k) d (omega arith) (omega arith)), λ h d. f.1 (omega arith) d) in
    rw (f.0 0 0 (omega arith) (omega arith)) (omega (arith, more))

-- in the piece up to the first byte 10 no byte but the last is one
short_span : (t : List ℕ) → length (take (suc (span 10 t)) t) ≤ suc (span 10 (take (suc (span 10 t)) t))
short_span [] = omega arith
short_span (c ∷ cs) = go (eqb c 10) refl (short_span cs)
  where
    go : (b : Bool) → eqb c 10 ≡ b → length (take (suc (span 10 cs)) cs) ≤ suc (span 10 (take (suc (span 10 cs)) cs)) → length (take (suc (span 10 (c ∷ cs))) (c ∷ cs)) ≤ suc (span 10 (take (suc (span 10 (c ∷ cs))) (c ∷ cs)))
    go true e more = rw e (omega arith)
    go false e more = rw e (omega (arith, more))

-- the same, of what was cut
module _ (t piece rest : List ℕ) (i : ℕ) (cut : t ≡ piece ++ rest) (len : length piece ≡ min (i + 1) (length t)) (f : IsFirstMatchOrLen (λ b. eqb b 10) t i) where
  same : length piece ≡ min (suc (span 10 t)) (length t)
  same = omega (arith, len, first_span t i f)

  front : piece ≡ take (suc (span 10 t)) t
  front = sym (take_at piece rest (min (suc (span 10 t)) (length t)) same) ∙ ap (take (min (suc (span 10 t)) (length t))) (sym cut) ∙ take_min (suc (span 10 t)) t

  back : rest ≡ drop (suc (span 10 t)) t
  back = sym (drop_at piece rest (min (suc (span 10 t)) (length t)) same) ∙ ap (drop (min (suc (span 10 t)) (length t))) (sym cut) ∙ drop_min (suc (span 10 t)) t

  pub cut_piece : 0 < length t → pieces t ≡ piece ∷ pieces rest
  cut_piece some = first_piece t some ∙ ap (λ l. l ∷ pieces (drop (suc (span 10 t)) t)) (sym front) ∙ ap (λ l. piece ∷ pieces l) (sym back)

  pub cut_short : length piece ≤ span 10 piece + 1
  cut_short = let P : List ℕ → Type 0 = λ l. length l ≤ span 10 l + 1 in subst P (sym front) (omega (arith, short_span t))

pub no_piece : (t : List ℕ) → length t ≡ 0 → pieces t ≡ []
unfolding pieces
no_piece [] h = refl
no_piece (c ∷ t) h = absurd (omega arith)

none_onto : (c : ℕ) (ps : List (List ℕ)) → none_left (onto c ps) ≡ false
none_onto c [] = refl
none_onto c (p ∷ ps) = refl

pub none_pieces : (t : List ℕ) → none_left (pieces t) ≡ eqb (length t) 0
unfolding pieces
none_pieces [] = refl
none_pieces (c ∷ cs) = go (eqb c 10) refl ∙ sym (ne_eqb (suc (length cs)) 0 (λ e. omega arith))
  where
    go : (b : Bool) → eqb c 10 ≡ b → none_left (pieces (c ∷ cs)) ≡ false
    go true e = rw e refl
    go false e = rw e (none_onto c (pieces cs))

-- ---- one piece
-- a line and its end
pub piece_line : (n : ℕ) (line : List ℕ) → Free 10 line → read_piece n (line ++ (10 ∷ [])) ≡ read_line n line
piece_line n line f =
    let t = line ++ (10 ∷ []) in
    let k : span 10 t ≡ length line = span_front 10 line (10 ∷ []) f refl in
    let test : eqb (suc (span 10 t)) (length t) ≡ true = eq-eqb _ _ (omega (arith, length-append line (10 ∷ []))) in
    cond-true (eqb (suc (span 10 t)) (length t)) _ _ test ∙ ap (read_line n) (take_at line (10 ∷ []) (span 10 t) (sym k))

-- a piece that is read ends with its byte 10
pub piece_ended : (p : List ℕ) → suc (span 10 p) ≡ length p → take (span 10 p) p ++ (10 ∷ []) ≡ p
piece_ended [] h = absurd (omega arith)
piece_ended (c ∷ cs) h = go (eqb c 10) refl (piece_ended cs)
  where
    go : (b : Bool) → eqb c 10 ≡ b → (suc (span 10 cs) ≡ length cs → take (span 10 cs) cs ++ (10 ∷ []) ≡ cs) → take (span 10 (c ∷ cs)) (c ∷ cs) ++ (10 ∷ []) ≡ c ∷ cs
    go true e more = rw e (ap (λ x. x ∷ []) (sym (eqb-true c 10 e)) ∙ ap (λ l. c ∷ l) (sym (nil_from_length cs (omega (arith, rw e at h)))))
    go false e more = rw e (ap (λ l. c ∷ l) (more (omega (arith, rw e at h))))

span_before : (line : List ℕ) → span 10 (line ++ (10 ∷ [])) ≤ length line
span_before [] = omega arith
span_before (c ∷ cs) = go (eqb c 10) refl (span_before cs)
  where
    go : (b : Bool) → eqb c 10 ≡ b → span 10 (cs ++ (10 ∷ [])) ≤ length cs → span 10 (c ∷ (cs ++ (10 ∷ []))) ≤ suc (length cs)
    go true e more = rw e (omega arith)
    go false e more = rw e (omega (arith, more))

-- a piece whose last byte is a byte 10, and none before it
pub short_piece : (n : ℕ) (p line : List ℕ) → p ≡ line ++ (10 ∷ []) → length p ≤ span 10 p + 1 → read_line n line ≡ read_piece n p
short_piece n p line e short =
    let k : span 10 p ≡ length line = omega (arith, short, ap length e, length-append line (10 ∷ []), ap (span 10) e, span_before line) in
    let test : eqb (suc (span 10 p)) (length p) ≡ true = eq-eqb _ _ (omega (arith, k, ap length e, length-append line (10 ∷ []))) in
    let front : take (span 10 p) p ≡ line = ap (take (span 10 p)) e ∙ take_at line (10 ∷ []) (span 10 p) (sym k) in
    ap (read_line n) (sym front) ∙ sym (cond-true (eqb (suc (span 10 p)) (length p)) _ _ test)

-- a piece whose last byte is another
span_open : (line : List ℕ) (x : ℕ) → (x ≡ 10 → ⊥) → suc (span 10 (line ++ (x ∷ []))) ≡ length (line ++ (x ∷ [])) → ⊥
span_open [] x h e = omega (arith, rw (ne_eqb x 10 h) at e)
span_open (c ∷ cs) x h e = go (eqb c 10) refl (span_open cs x h)
  where
    go : (b : Bool) → eqb c 10 ≡ b → (suc (span 10 (cs ++ (x ∷ []))) ≡ length (cs ++ (x ∷ [])) → ⊥) → ⊥
    go true q more = omega (arith, rw q at e, length-append cs (x ∷ []))
    go false q more = more (omega (arith, rw q at e))

pub open_piece : (n : ℕ) (p line : List ℕ) (x : ℕ) → p ≡ line ++ (x ∷ []) → (x ≡ 10 → ⊥) → read_piece n p ≡ Err (broken n)
open_piece n p line x e other =
    rw e (cond-false (eqb (suc (span 10 (line ++ (x ∷ [])))) (length (line ++ (x ∷ [])))) _ _ (ne_eqb _ _ (span_open line x other)))
