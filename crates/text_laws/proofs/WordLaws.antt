-- A word and its bytes, both ways.
use Rattle.std.proofs.Common.{◌≡◌, ℕ, suc, ◌+◌, ◌-◌, ◌^◌, ◌<◌, ◌≤◌, true, false, cond, ◌&&◌, eqb, leb, List, [], ◌∷◌, ◌++◌, length, get_or, take, drop, ℤ, pos, negsuc, Some, None, Ok, Err, decimal, Option, Result, sym, refl, ap, ◌∙◌, subst, ⊎_elim, arith}
use Rattle.std.specs.Fmt.{signed_decimal}
use Rattle.std.specs.Char.{is_ascii_lowercase, is_ascii_digit}
use Rattle.std.specs.Str.{all_ascii_digits}
use Rattle.std.proofs.lemmas.Fmt.{digits_decimal, decimal_digit}
use Rattle.std.proofs.lemmas.List.{take_at, drop_at, take-append-drop}
use Rattle.std.proofs.lemmas.Bool.{and_parts, cond-true, cond-false, cond_both, eqb-true}
use Rattle.std.proofs.lemmas.Bool.Decides.{nat_tests}
use Rattle.words.specs.declared.refusal.Fault.{Fault}
use Rattle.words.specs.Names.{lowers, is_name}
use Rattle.words.specs.Words.{Said, name, number, value, handle, span, register, numbered, number_of, word_of, with_rest, read_word, Sound}
use Rattle.words.specs.Shows.{show_word}
use Rattle.words.proofs.Spans.{Free, Stops, span_front, free_lowers}
use Rattle.words.proofs.Numerals.{own}
use Rattle.words.proofs.Same.{ok_same}
use Rattle.text_laws.proofs.Numbers.{either, number_there, number_back, lead_decimal}

pub err_ok : {X : Type 0} {e : Fault} {x : X} → ◌≡◌ {A = Result X Fault} (Err e) (Ok x) → ⊥
err_ok p = let z : ◌≡◌ {A = ℕ} 0 1 = cc in omega arith

-- ---- a word alone
-- what a register is written as
register_back : (letter count : ℕ) (t : List ℕ) → count ≤ 10 → register letter count t ≡ true → (get_or t 1 0 - 48 < count) × (letter ∷ decimal (get_or t 1 0 - 48) ≡ t)
register_back letter count [] h e = absurd (grind (arith, nat_tests))
register_back letter count (a ∷ []) h e = absurd (grind (arith, nat_tests))
register_back letter count (a ∷ b ∷ []) h e =
    let p : a ≡ letter = grind (arith, nat_tests) in
    let lo : 48 ≤ b = grind (arith, nat_tests) in
    let hi : b < 48 + count = grind (arith, nat_tests) in
    let q : 48 + (b - 48) ≡ b = omega arith in
    let d = decimal_digit (b - 48) (omega arith) in
    (omega arith, cc)
register_back letter count (a ∷ b ∷ c ∷ r) h e = absurd (grind (arith, nat_tests))

numbered_back : (n : ℕ) (t : List ℕ) (o : Option ℤ) (w : Said) → o ≡ number_of t → numbered n o ≡ Ok w → Sound w × (show_word w ≡ t)
numbered_back n t None w from e = absurd (err_ok e)
numbered_back n t (Some z) w from e = let P : Said → Type 0 = λ y. Sound y × (show_word y ≡ t) in subst P (ok_same e) (number_back t z (sym from))

pub word_back : (n : ℕ) (t : List ℕ) (w : Said) → word_of n t ≡ Ok w → Sound w × (show_word w ≡ t)
word_back n t w e =
    let P : Said → Type 0 = λ y. Sound y × (show_word y ≡ t) in
    ⊎_elim
    (λ p. subst P (ok_same p.1) (register_back 118 8 t (omega arith) p.0))
    (λ p. ⊎_elim
    (λ q. subst P (ok_same q.1) (register_back 104 4 t (omega arith) q.0))
    (λ q. ⊎_elim (λ r. subst P (ok_same r.1) (r.0, refl)) (λ r. numbered_back n t (number_of t) w refl r.1) (either (is_name t) (Ok (name t)) (numbered n (number_of t)) (Ok w) q.1))
    (either (register 104 4 t) (Ok (handle (get_or t 1 0 - 48))) (cond (is_name t) (Ok (name t)) (numbered n (number_of t))) (Ok w) p.1))
    (either (register 118 8 t) (Ok (value (get_or t 1 0 - 48))) (cond (register 104 4 t) (Ok (handle (get_or t 1 0 - 48))) (cond (is_name t) (Ok (name t)) (numbered n (number_of t)))) (Ok w) e)

name_lowers : (t : List ℕ) → is_name t ≡ true → lowers t ≡ true
name_lowers t e = (and_parts (leb (length t) 8) (lowers t) (and_parts (leb 1 (length t)) (leb (length t) 8 && lowers t) e).1).1

-- a name is no register, since its second byte is no digit
name_not_register : (letter count : ℕ) (t : List ℕ) → count ≤ 10 → lowers t ≡ true → register letter count t ≡ false
name_not_register letter count [] h e = grind (arith, nat_tests)
name_not_register letter count (a ∷ []) h e = grind (arith, nat_tests)
name_not_register letter count (a ∷ b ∷ r) h e =
    let p = (and_parts (is_ascii_lowercase b) (lowers r) (and_parts (is_ascii_lowercase a) (lowers (b ∷ r)) e).1).0 in
    let q : 97 ≤ b = grind (arith, nat_tests) in
    grind (arith, nat_tests)

-- what begins below the letters is neither a register nor a name
low_not_register : (letter count : ℕ) (t : List ℕ) → get_or t 0 0 < 97 → 97 ≤ letter → register letter count t ≡ false
low_not_register letter count t h l = grind (arith, nat_tests)

low_not_name : (t : List ℕ) → get_or t 0 0 < 97 → is_name t ≡ false
low_not_name [] h = grind (arith, nat_tests)
low_not_name (a ∷ t) h = grind (arith, nat_tests)

low_signed : (z : ℤ) → Sound (number z) → get_or (signed_decimal z) 0 0 < 97
low_signed (pos n) h = omega (arith, (lead_decimal n (omega arith)).2)
low_signed (negsuc n) h = omega arith

module _ (n : ℕ) (t : List ℕ) where
  -- the last two ways of `word_of`
  past_registers : register 118 8 t ≡ false → register 104 4 t ≡ false → word_of n t ≡ cond (is_name t) (Ok (name t)) (numbered n (number_of t))
  past_registers v h = cond-false (register 118 8 t) _ _ v ∙ cond-false (register 104 4 t) _ _ h

module _ (n : ℕ) where
  pub word_there : (w : Said) → Sound w → word_of n (show_word w) ≡ Ok w
  word_there (name x) h =
      let l = name_lowers x h in
      past_registers n x (name_not_register 118 8 x (omega arith) l) (name_not_register 104 4 x (omega arith) l) ∙ cond-true (is_name x) _ _ h
  word_there (number z) h =
      let low = low_signed z h in
      past_registers n (signed_decimal z) (low_not_register 118 8 (signed_decimal z) low (omega arith)) (low_not_register 104 4 (signed_decimal z) low (omega arith))
      ∙ cond-false (is_name (signed_decimal z)) _ _ (low_not_name (signed_decimal z) low)
      ∙ ap (numbered n) (number_there z h)
  word_there (value k) h =
      let r : register 118 8 (118 ∷ ((48 + k) ∷ [])) ≡ true = grind (arith, nat_tests) in
      let e : 48 + k - 48 ≡ k = omega arith in
      ap (λ t. word_of n (118 ∷ t)) (decimal_digit k (omega arith)) ∙ cond-true (register 118 8 (118 ∷ ((48 + k) ∷ []))) _ _ r ∙ ap (λ m. Ok (value m)) e
  word_there (handle k) h =
      let r : register 104 4 (104 ∷ ((48 + k) ∷ [])) ≡ true = grind (arith, nat_tests) in
      let e : 48 + k - 48 ≡ k = omega arith in
      ap (λ t. word_of n (104 ∷ t)) (decimal_digit k (omega arith)) ∙ cond-true (register 104 4 (104 ∷ ((48 + k) ∷ []))) _ _ r ∙ ap (λ m. Ok (handle m)) e

-- ---- a word at the front of a line
stops_after : (s : List ℕ) → Stops 32 (drop (span 32 s) s)
stops_after [] = refl
stops_after (c ∷ s) = cond_both (eqb c 32) 0 (suc (span 32 s)) (λ n. Stops 32 (drop n (c ∷ s))) (λ e. eqb-true c 32 e) (λ e. stops_after s)

-- neither a space nor the end of a line stands in a word
module _ (p : ℕ) (small : p < 45) where
  free_digits : (t : List ℕ) → all_ascii_digits t ≡ true → Free p t
  free_digits [] e = tt
  free_digits (c ∷ t) e =
      let q = and_parts (is_ascii_digit c) (all_ascii_digits t) e in
      let d = q.0 in
      (λ z. absurd (grind (arith, nat_tests)), free_digits t q.1)

  free_decimal : (n : ℕ) → n < 2 ^ 32 → Free p (decimal n)
  free_decimal n h = free_digits (decimal n) (digits_decimal own n (omega arith))

  pub free_word : (w : Said) → Sound w → Free p (show_word w)
  free_word (name x) h = free_lowers p x (omega arith) (name_lowers x h)
  free_word (number (pos n)) h = free_decimal n (omega arith)
  free_word (number (negsuc n)) h = (λ z. absurd (omega arith), free_decimal (suc n) (omega arith))
  free_word (value n) h = (λ z. absurd (omega arith), free_decimal n (omega arith))
  free_word (handle n) h = (λ z. absurd (omega arith), free_decimal n (omega arith))

pub read_word_there : (n : ℕ) (w : Said) (r : List ℕ) → Sound w → Stops 32 r → read_word n (show_word w ++ r) ≡ Ok (w, r)
read_word_there n w r h s =
    let t = show_word w in
    let k = span_front 32 t r (free_word 32 (omega arith) w h) s in
    ap (λ m. with_rest (drop m (t ++ r)) (word_of n (take m (t ++ r)))) k
    ∙ ap (λ l. with_rest l (word_of n (take (length t) (t ++ r)))) (drop_at t r (length t) refl)
    ∙ ap (λ l. with_rest r (word_of n l)) (take_at t r (length t) refl)
    ∙ ap (with_rest r) (word_there n w h)

with_rest_back : (rest : List ℕ) (o : Result Said Fault) (w : Said) (r : List ℕ) → with_rest rest o ≡ Ok (w, r) → (o ≡ Ok w) × (rest ≡ r)
with_rest_back rest (Ok v) w r e = let p = ok_same e in (ap (λ q. Ok q.0) p, ap (λ q. q.1) p)
with_rest_back rest (Err d) w r e = absurd (err_ok e)

pub read_word_back : (n : ℕ) (s : List ℕ) (w : Said) (r : List ℕ) → read_word n s ≡ Ok (w, r) → Sound w × (show_word w ++ r ≡ s) × Stops 32 r
read_word_back n s w r e =
    let p = with_rest_back (drop (span 32 s) s) (word_of n (take (span 32 s) s)) w r e in
    let b = word_back n (take (span 32 s) s) w p.0 in
    (b.0, ap (λ l. l ++ r) b.1 ∙ ap (λ l. take (span 32 s) s ++ l) (sym p.1) ∙ take-append-drop (span 32 s) s, subst (Stops 32) p.1 (stops_after s))
