-- One routine more is released by a close.
use Rattle.std.proofs.Common.{◌≡◌, ℕ, suc, ◌<◌, Bool, true, false, cond, not, eqb, ◌⊎◌, List, [], ◌∷◌, ◌++◌, length, Some, None, sym, refl, ap, ◌∙◌, inl, inr, ⊎_elim, arith}
use Rattle.std.proofs.lemmas.List.Elements.{filter-append}
use Rattle.std.proofs.lemmas.List.Sums.{length-filter, count_by-le-length}
use Rattle.std.proofs.lemmas.Bool.{eqb-true, eq-eqb}
use Rattle.waiting.specs.declared.wish.Entry.{Entry}
use Rattle.waiting.specs.declared.wish.Side.TheVariants.{Receivers, Senders}
use Rattle.waiting.specs.Queues.{Row, queue, first, without}
use Rattle.waiting.specs.Laws.{others}
use Rattle.waiting.proofs.Orders.{queue_without}
use Rattle.channels.specs.Closes.{both, firsts, freed}

-- ---- two routines may be taken out in either order, and once is enough
module _ {X : Type 0} where
  others_swap : (q r : ℕ) (es : List (Entry X)) → others q (others r es) ≡ others r (others q es)
  others_swap q r [] = refl
  others_swap q r (e ∷ es) = go (eqb e.routine q) refl (eqb e.routine r) refl (others_swap q r es)
    where
      go : (a : Bool) → eqb e.routine q ≡ a → (b : Bool) → eqb e.routine r ≡ b → others q (others r es) ≡ others r (others q es) → others q (others r (e ∷ es)) ≡ others r (others q (e ∷ es))
      go true s true t ih = simp (s, t) ih
      go true s false t ih = simp (s, t) ih
      go false s true t ih = simp (s, t) ih
      go false s false t ih = simp (s, t) (ap (λ l. e ∷ l) ih)

  others_twice : (r : ℕ) (es : List (Entry X)) → others r (others r es) ≡ others r es
  others_twice r [] = refl
  others_twice r (e ∷ es) = go (eqb e.routine r) refl (others_twice r es)
    where
      go : (b : Bool) → eqb e.routine r ≡ b → others r (others r es) ≡ others r es → others r (others r (e ∷ es)) ≡ others r (e ∷ es)
      go true t ih = simp t ih
      go false t ih = simp t (ap (λ l. e ∷ l) ih)

  others_own : (e : Entry X) (es : List (Entry X)) → others e.routine (e ∷ es) ≡ others e.routine es
  others_own e es = simp (eq-eqb e.routine e.routine refl)

  firsts_others : (r : ℕ) (es : List (Entry X)) → firsts (others r es) ≡ others r (firsts es)
  firsts_others r [] = refl
  firsts_others r (e ∷ es) = go (eqb e.routine r) refl (firsts_others r es)
    where
      go : (b : Bool) → eqb e.routine r ≡ b → firsts (others r es) ≡ others r (firsts es) → firsts (others r (e ∷ es)) ≡ others r (firsts (e ∷ es))
      go true t ih = simp t (ih ∙ sym (others_twice r (firsts es)) ∙ ap (λ q. others r (others q (firsts es))) (sym (eqb-true e.routine r t)))
      go false t ih = simp t (ap (λ l. e ∷ others e.routine l) ih ∙ ap (λ l. e ∷ l) (others_swap e.routine r (firsts es)))

module _ {X : Type 0} (c : ℕ) (line : List ℕ) (table : List (Row X)) where
  pub first_freed : first (freed c line table) ≡ first (both c line table)
  first_freed = go (both c line table)
    where
      go : (es : List (Entry X)) → first (firsts es) ≡ first es
      go [] = refl
      go (e ∷ es) = refl

  pub freed_none : first (both c line table) ≡ None → freed c line table ≡ []
  freed_none = go (both c line table)
    where
      go : (es : List (Entry X)) → first es ≡ None → firsts es ≡ []
      go [] h = refl
      go (e ∷ es) h = cc

module _ {X : Type 0} (c : ℕ) (line : List ℕ) (table : List (Row X)) (e : Entry X) where
  both_without : both c (without e.routine line) table ≡ others e.routine (both c line table)
  both_without =
      ap (λ l. l ++ queue Senders c (without e.routine line) table) (queue_without Receivers c e.routine line table)
      ∙ ap (λ l. others e.routine (queue Receivers c line table) ++ l) (queue_without Senders c e.routine line table)
      ∙ sym (filter-append (λ (x : Entry X). not (eqb x.routine e.routine)) (queue Receivers c line table) (queue Senders c line table))

  -- the next one, and then those of the line that he has left
  pub freed_more : first (both c line table) ≡ Some e → freed c line table ≡ e ∷ freed c (without e.routine line) table
  freed_more h = go (both c line table) h ∙ ap (λ l. e ∷ firsts l) (sym both_without)
    where
      go : (es : List (Entry X)) → first es ≡ Some e → firsts es ≡ e ∷ firsts (others e.routine es)
      go [] h = cc
      go (x ∷ xs) h = let s : x ≡ e = cc in rw s (ap (λ l. e ∷ l) (sym (ap firsts (others_own e xs) ∙ firsts_others e.routine xs)))

  -- whoever is released waited: without him the line is shorter
  pub freed_less : first (both c line table) ≡ Some e → length (without e.routine line) < length line
  freed_less h = ⊎_elim (λ s. absurd (go (both c line table) h (sym both_without ∙ ap (λ l. both c l table) s))) (λ less. less) (shorter line)
    where
      go : (es : List (Entry X)) → first es ≡ Some e → others e.routine es ≡ es → ⊥
      go [] h s = cc
      go (x ∷ xs) h s =
          let own : x ≡ e = cc in
          let same : others e.routine (x ∷ xs) ≡ others e.routine xs = ap (λ y. others e.routine (y ∷ xs)) own ∙ others_own e xs in
          omega (arith, ap length s, ap length same, length-filter (λ (y : Entry X). not (eqb y.routine e.routine)) xs, count_by-le-length (λ (y : Entry X). not (eqb y.routine e.routine)) xs)

      shorter : (qs : List ℕ) → (without e.routine qs ≡ qs) ⊎ (length (without e.routine qs) < length qs)
      shorter [] = inl refl
      shorter (q ∷ qs) = at (eqb q e.routine) (shorter qs)
        where
          at : (b : Bool) → (without e.routine qs ≡ qs) ⊎ (length (without e.routine qs) < length qs) → (cond (not b) (q ∷ without e.routine qs) (without e.routine qs) ≡ q ∷ qs) ⊎ (length (cond (not b) (q ∷ without e.routine qs) (without e.routine qs)) < suc (length qs))
          at true ih = inr (⊎_elim (λ s. omega (arith, ap length s)) (λ less. omega arith) ih)
          at false ih = ⊎_elim (λ s. inl (ap (λ l. q ∷ l) s)) (λ less. inr (omega arith)) ih
