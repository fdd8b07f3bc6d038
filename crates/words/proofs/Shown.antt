-- Texts one after another: that of the next, and what they leave room for.
use Rattle.std.proofs.Common.{◌≡◌, ℕ, ◌+◌, ◌<◌, ◌≤◌, List, [], ◌++◌, length, get_or, take, flat_map, sym, ap, ◌∙◌, arith}
use Rattle.std.proofs.lemmas.List.{take_more, take_all, flat_map_more}
use Rattle.std.proofs.lemmas.List.Folds.{length-flat_map-take}

-- f is the text of each of xs
module _ {X : Type 0} (f : X → List ℕ) (xs : List X) (i : ℕ) where
  -- those of the first i
  abbrev pub shown : List ℕ
  shown = flat_map f (take i xs)

  pub shown_all : length xs ≤ i → shown ≡ flat_map f xs
  shown_all h = ap (flat_map f) (take_all i xs h)

  -- x stands at place i
  module _ (h : i < length xs) (x : X) (e : x ≡ get_or xs i x) where
    pub shown_more : flat_map f (take (i + 1) xs) ≡ shown ++ f x
    shown_more = ap (flat_map f) (take_more xs i x h) ∙ sym (flat_map_more f [] (take i xs) (get_or xs i x)) ∙ ap (λ y. shown ++ f y) (sym e)

    -- there is room for its text
    pub shown_room : length shown + length (f x) ≤ length (flat_map f xs)
    shown_room = let here = ap (λ y. length (f y)) e in omega (arith, length-flat_map-take f xs i x h)
