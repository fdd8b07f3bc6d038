-- What `find_map` finds of a chain, and the front of lists that follow one another.
use Rattle.std.proofs.Common.{◌≡◌, ℕ, zero, suc, ◌+◌, ◌<◌, Bool, true, false, cond, List, [], ◌∷◌, ◌++◌, Some, None, Option, sym, refl, ap, ◌∙◌, subst, length, length-append, arith}
use Rattle.std.specs.Fn.{Called}
use Rattle.std.specs.Bool.{IsTrue}
use Rattle.std.specs.Iterator.{AlwaysYields, Yields}
use Rattle.std.specs.Iterator.Runs.{SomeRun, YieldsRun, AllItemsGive, IsFirstToGive}
use Rattle.std.specs.Option.{MatchOption, IfSome, IsSomeAnd}
use Rattle.std.specs.List.{filter, filter_map, flat_map, cons_option, slice_get, sum_by}
use Rattle.std.proofs.lemmas.Iterator.{YieldsList}
use Rattle.std.proofs.lemmas.List.Sums.{sum_by-cons}
use denote.Param.Members.{Mut}
use Rattle.waiting.specs.Queues.{first}

module _ {S A B C F : Type 0} (steps : S → Option A → S → Type 0) (v : A → B) (g : Mut F (A × Unit {0}) (Option C)) (h : B → Option C) (f : F)
    (pure : (x : A) (y : Option C) (q : F) → Called g f (x, tt) y q → (q ≡ f) × (y ≡ h (v x))) where
  none_found : (xs : List A) (s t u : S) (all : List B) → Yields steps s xs t → steps t None u → AlwaysYields steps v s all → ((k : ℕ) → IfSome (slice_get xs k) (λ x. None ≡ h (v x))) → None ≡ first (filter_map h all)
  none_found [] s t u [] y e a n = refl
  none_found [] s t u (b ∷ bs) y e a n = absurd (a.0 u (subst (λ z. steps z None u) (sym y) e))
  none_found (x ∷ xs) s t u [] y e a n = absurd (a x y.0 y.1)
  none_found (x ∷ xs) s t u (b ∷ bs) y e a n =
      let w = a.1 x y.0 y.1 in
      none_found xs y.0 t u bs y.2 e w.1 (λ k. n (suc k)) ∙ ap (λ o. first (cons_option o (filter_map h bs))) (n 0 ∙ ap h w.0)

  some_found : (i : ℕ) (xs : List A) (s t : S) (all : List B) (z : C) → Yields steps s xs t → AlwaysYields steps v s all → IsSomeAnd (slice_get xs i) (λ x. Some z ≡ h (v x)) → ((k : ℕ) → k < i → IsSomeAnd (slice_get xs k) (λ x. None ≡ h (v x))) → Some z ≡ first (filter_map h all)
  some_found i [] s t all z y a e n = absurd e
  some_found i (x ∷ xs) s t [] z y a e n = absurd (a x y.0 y.1)
  some_found zero (x ∷ xs) s t (b ∷ bs) z y a e n = ap (λ o. first (cons_option o (filter_map h bs))) (e ∙ ap h (a.1 x y.0 y.1).0)
  some_found (suc i) (x ∷ xs) s t (b ∷ bs) z y a e n =
      let w = a.1 x y.0 y.1 in
      some_found i xs y.0 t bs z y.2 w.1 e (λ k l. n (suc k) (omega arith)) ∙ ap (λ o. first (cons_option o (filter_map h bs))) (n 0 (omega arith) ∙ ap h w.0)

  keeps : (a : A × Unit {0}) (y : Option C) (q : F) → Called g f a y q → q ≡ f
  keeps a y q k = (pure a.0 y q k).0

  each : (o : Option A) → IfSome o (λ x. Called g f (x, tt) None f) → IfSome o (λ x. None ≡ h (v x))
  each None k = tt
  each (Some x) k = (pure x None f k).1

  here : (z : Option C) (o : Option A) → IsSomeAnd o (λ x. Called g f (x, tt) z f) → IsSomeAnd o (λ x. z ≡ h (v x))
  here z None k = k
  here z (Some x) k = (pure x z f k).1

  -- the first that `find_map` finds
  pub found : {s : S} {all : List B} (r : Option C) → SomeRun steps s (λ p. MatchOption r (IsTrue p.whole × AllItemsGive p g f None) (λ y. (i : ℕ) × (i < p.len) × (p.len ≡ i + 1) × IsFirstToGive p g f (Some y) None i)) → YieldsList steps v s all → r ≡ first (filter_map h all)
  unfolding YieldsRun
  found {s} {all} None d e =
      let p = d.0 in
      let end = p.gave.0.2 d.2.0 in
      none_found p.items p.from p.gave.0.0 end.0 all p.gave.0.1 end.1 (subst (λ z. AlwaysYields steps v z all) (sym d.1) e.runs)
      (λ k. subst (λ o. IfSome o (λ x. None ≡ h (v x))) (p.gave.1 k) (each (p.at k) (d.2.1 keeps k)))
  found {s} {all} (Some z) d e =
      let p = d.0 in
      let hit = d.2.3 keeps in
      some_found d.2.0 p.items p.from p.gave.0.0 all z p.gave.0.1 (subst (λ z. AlwaysYields steps v z all) (sym d.1) e.runs)
      (subst (λ o. IsSomeAnd o (λ x. Some z ≡ h (v x))) (p.gave.1 d.2.0) (here (Some z) (p.at d.2.0) hit.0))
      (λ k l. subst (λ o. IsSomeAnd o (λ x. None ≡ h (v x))) (p.gave.1 k) (here None (p.at k) (hit.1 k l)))

-- the first of the firsts, of those that pass a test, is the first of all theirs
pub first_of_passing : {A B : Type 0} (p : A → Bool) (f : A → List B) (xs : List A) → first (filter_map (λ x. cond (p x) (first (f x)) None) xs) ≡ first (flat_map f (filter p xs))
first_of_passing p f [] = refl
first_of_passing {A} {B} p f (x ∷ xs) =
    let ih = first_of_passing p f xs in
    elim (p x) as (λ b. first (cons_option (cond b (first (f x)) None) (filter_map (λ x. cond (p x) (first (f x)) None) xs)) ≡ first (flat_map f (cond b (x ∷ filter p xs) (filter p xs)))) [
      | false ↦ ih
      | true ↦ elim (f x) as (λ (l : List B). first (cons_option (first l) (filter_map (λ x. cond (p x) (first (f x)) None) xs)) ≡ first (l ++ flat_map f (filter p xs))) [ [] ↦ ih | y ∷ ys ↦ refl ]
    ]

-- how many places those have who pass a test
pub length_of_passing : {A B : Type 0} (p : A → Bool) (f : A → List B) (xs : List A) → sum_by (λ x. cond (p x) (length (f x)) 0) xs ≡ length (flat_map f (filter p xs))
length_of_passing p f [] = refl
length_of_passing {A} {B} p f (x ∷ xs) =
    let ih = length_of_passing p f xs in
    sum_by-cons (λ y. cond (p y) (length (f y)) 0) x xs
    ∙ elim (p x) as (λ b. cond b (length (f x)) 0 + sum_by (λ y. cond (p y) (length (f y)) 0) xs ≡ length (flat_map f (cond b (x ∷ filter p xs) (filter p xs)))) [
      | false ↦ omega (arith, ih)
      | true ↦ ap (λ n. length (f x) + n) ih ∙ sym (length-append (f x) (flat_map f (filter p xs)))
    ]
