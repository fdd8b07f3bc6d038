-- A name that was found stands where it was found.
use Rattle.std.proofs.Common.{◌≡◌, ℕ, ◌<◌, List, [], length, get_or, Some, None, Option, refl}
use Rattle.std.specs.Option.{option_map}
use Rattle.std.specs.Str.{bytes_eq}
use Rattle.std.proofs.lemmas.List.Quantifiers.{position-Some}
use Rattle.std.proofs.lemmas.Option.{none-some, same_Some}
use Rattle.std.proofs.lemmas.Slice.Eq.{bytes_eq-Decides}
use Rattle.script.specs.Rules.{place}

-- what an option that is something was made of
pub mapped_back : {A B : Type 0} (f : A → B) (o : Option A) (b : B) → option_map f o ≡ Some b → (a : A) × (o ≡ Some a) × (f a ≡ b)
mapped_back f None b e = absurd (none-some b e)
mapped_back f (Some a) b e = (a, refl, same_Some (f a) b e)

-- the name x stands in xs at place i
abbrev pub StandsAt : List ℕ → List (List ℕ) → ℕ → Type 0
StandsAt x xs i = (i < length xs) × (get_or xs i [] ≡ x)

pub place_back : (x : List ℕ) (xs : List (List ℕ)) (i : ℕ) → place x xs ≡ Some i → StandsAt x xs i
place_back x xs i e =
    let at = position-Some (λ y. bytes_eq y x) xs i [] e in
    (at.0, (bytes_eq-Decides (get_or xs i []) x).0 at.1)
