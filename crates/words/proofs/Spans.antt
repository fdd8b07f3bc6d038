-- Where the first separator stands.
use Rattle.std.proofs.Common.{◌≡◌, ℕ, zero, suc, ◌<◌, true, one-add, cond, eqb, ◌==◌, List, [], ◌∷◌, ◌++◌, length, get_or, take, drop, replicate, sym, refl, ap, ◌∙◌, arith}
use Rattle.std.specs.Char.{is_ascii_lowercase}
use Rattle.std.specs.List.{AllByRecursion, position_or_len}
use Rattle.std.proofs.lemmas.List.Recursion.{is_position_or_len}
use Rattle.std.proofs.lemmas.List.{take_at, take_all, drop_all, drop-replicate}
use Rattle.std.proofs.lemmas.Bool.{and_parts, cond-true, cond-false, eq-eqb, ne_eqb}
use Rattle.std.proofs.lemmas.Bool.Decides.{nat_tests}
use Rattle.words.specs.Names.{lowers}
use Rattle.words.specs.Words.{span}
use Rattle.words.specs.Spelled.{spelled, padded, Padded}

module _ (p : ℕ) where
  pub span_position : (xs : List ℕ) → span p xs ≡ position_or_len (λ c. c == p) xs
  span_position = is_position_or_len (span p) (λ c. c == p) refl (λ x xs. ap (cond (x == p) 0) (sym (one-add (span p xs))))

  -- the separator does not stand in it
  abbrev pub Free : List ℕ → Type 0
  Free t = AllByRecursion (λ c. c ≡ p → ⊥) t

  -- the text ends here, or a separator stands here
  abbrev pub Stops : List ℕ → Type 0
  Stops r = get_or r 0 p ≡ p

  pub span_front : (t r : List ℕ) → Free t → Stops r → span p (t ++ r) ≡ length t
  span_front [] [] u s = refl
  span_front [] (c ∷ r) u s = cond-true (eqb c p) _ _ (eq-eqb c p s)
  span_front (c ∷ t) r u s = cond-false (eqb c p) _ _ (ne_eqb c p u.0) ∙ ap suc (span_front t r u.1 s)

  -- what stands before a separator is cut off there
  pub front : (t r : List ℕ) → Free t → Stops r → take (span p (t ++ r)) (t ++ r) ≡ t
  front t r u s = take_at t r (span p (t ++ r)) (sym (span_front t r u s))

-- what a cut needs
pub ruleset cuts = (span_position, take_all, drop_all)

-- no letter is a zero
pub free_lowers : (p : ℕ) (t : List ℕ) → p < 97 → lowers t ≡ true → Free p t
free_lowers p [] h e = tt
free_lowers p (c ∷ t) h e =
    let q = and_parts (is_ascii_lowercase c) (lowers t) e in
    let r = q.0 in
    (λ z. absurd (grind (arith, nat_tests)), free_lowers p t h q.1)

-- zeros go on as zeros
zero_at : (n k : ℕ) → ◌≡◌ {A = ℕ} (get_or (replicate n 0) k 0) 0
zero_at zero k = refl
zero_at (suc n) zero = refl
zero_at (suc n) (suc k) = zero_at n k

pub stops_zeros : (n k : ℕ) → Stops 0 (drop k (replicate n 0))
stops_zeros n zero = zero_at n 0
stops_zeros zero (suc k) = refl
stops_zeros (suc n) (suc k) = stops_zeros n k

-- a name's letters at the front of eight bytes
module _ (s : List ℕ) (low : lowers s ≡ true) where
  pub spelled_front : spelled (s ++ drop (length s) (replicate 8 0)) ≡ s
  spelled_front = front 0 s _ (free_lowers 0 s (omega arith) low) (stops_zeros 8 (length s))

  pub padded_front : Padded (s ++ drop (length s) (replicate 8 0))
  padded_front = ap padded spelled_front ∙ ap (λ l. s ++ l) (sym (drop-replicate (length s) 8 0))
