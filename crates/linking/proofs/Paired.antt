-- Two lists, element by element.
use Rattle.std.proofs.Common.{◌≡◌, List, [], ◌∷◌, map, refl, ap, ◌∙◌}
use Rattle.std.specs.List.{AllByRecursion, AllZip}

module _ {A B : Type 0} (R : A → B → Type 0) where
  -- what holds of the firsts gives what holds of the seconds
  pub pairs_all : (P : A → Type 0) (Q : B → Type 0) → ((x : A) (y : B) → R x y → P x → Q y) → (xs : List A) (ys : List B) → AllZip R xs ys → AllByRecursion P xs → AllByRecursion Q ys
  pairs_all P Q f [] [] p a = tt
  pairs_all P Q f (x ∷ xs) (y ∷ ys) p a = (f x y p.0 a.0, pairs_all P Q f xs ys p.1 a.1)
  pairs_all P Q f _ _ p a = absurd p

  -- the seconds give the firsts back
  pub pairs_map : (f : B → A) → ((x : A) (y : B) → R x y → f y ≡ x) → (xs : List A) (ys : List B) → AllZip R xs ys → map f ys ≡ xs
  pairs_map f h [] [] p = refl
  pairs_map f h (x ∷ xs) (y ∷ ys) p = ap (λ a. a ∷ map f ys) (h x y p.0) ∙ ap (λ l. x ∷ l) (pairs_map f h xs ys p.1)
  pairs_map f h _ _ p = absurd p

  pub pairs_weaker : (S : A → B → Type 0) → ((x : A) (y : B) → R x y → S x y) → (xs : List A) (ys : List B) → AllZip R xs ys → AllZip S xs ys
  pairs_weaker S f [] [] p = tt
  pairs_weaker S f (x ∷ xs) (y ∷ ys) p = (f x y p.0, pairs_weaker S f xs ys p.1)
  pairs_weaker S f _ _ p = absurd p
