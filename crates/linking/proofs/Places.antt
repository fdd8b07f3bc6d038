-- What running meets at a place of a sound program: body n of it, which has nothing where there is none, and line i.
use Rattle.std.proofs.Common.{◌≡◌, ℕ, zero, suc, ◌+◌, ◌^◌, ◌<◌, ◌≤◌, Bool, true, false, cond, List, [], ◌∷◌, length, take, drop, slice_index_or, Some, refl, subst, arith}
use Rattle.std.specs.List.{slice_get, prefix_len, AllByRecursion}
use Rattle.std.proofs.lemmas.List.{length-take}
use Rattle.std.proofs.lemmas.List.Sums.{prefix_len-le-length}
use Rattle.std.proofs.lemmas.Option.{none-some, same_Some, slice_get_within}
use Rattle.linking.specs.declared.operation.Operation.{Operation}
use Rattle.linking.specs.declared.operation.Operation.TheVariants.{Select}
use Rattle.linking.specs.Programs.{Block, Program, no_block}
use Rattle.linking.specs.Sound.{is_case, leads, SoundOperation, Lands, Everywhere, Followed, SoundBlock, Sound}

-- ---- what holds of all holds at a place
all_or : {X : Type 0} (P : X → Type 0) (xs : List X) (n : ℕ) (d : X) → P d → AllByRecursion P xs → P (slice_index_or xs n d)
all_or P [] n d h a = h
all_or P (x ∷ xs) zero d h a = a.0
all_or P (x ∷ xs) (suc n) d h a = all_or P xs n d h a.1

all_got : {X : Type 0} (P : X → Type 0) (xs : List X) (i : ℕ) (x : X) → AllByRecursion P xs → slice_get xs i ≡ Some x → P x
all_got P [] i x a e = absurd (none-some x e)
all_got P (y ∷ xs) zero x a e = subst P (same_Some y x e) a.0
all_got P (y ∷ xs) (suc i) x a e = all_got P xs i x a.1 e

everywhere_got : {X : Type 0} (P : X → List X → Type 0) (xs : List X) (i : ℕ) (x : X) → Everywhere P xs → slice_get xs i ≡ Some x → P x (drop (i + 1) xs)
everywhere_got P [] i x h e = absurd (none-some x e)
everywhere_got P (y ∷ xs) zero x h e = subst (λ z. P z xs) (same_Some y x e) h.0
everywhere_got P (y ∷ xs) (suc i) x h e = let on : suc (i + 1) ≡ suc i + 1 = omega arith in subst (λ m. P x (drop m (y ∷ xs))) on (everywhere_got P xs i x h.1 e)

-- as many as stand in front pass the test
front_passes : {X : Type 0} (q : X → Bool) (xs : List X) → AllByRecursion (λ x. q x ≡ true) (take (prefix_len q xs) xs)
front_passes q [] = tt
front_passes q (x ∷ xs) = by (q x) refl (front_passes q xs)
  where
    by : (b : Bool) → q x ≡ b → AllByRecursion (λ y. q y ≡ true) (take (prefix_len q xs) xs) → AllByRecursion (λ y. q y ≡ true) (take (cond b (1 + prefix_len q xs) 0) (x ∷ xs))
    by true e more = let on : suc (prefix_len q xs) ≡ 1 + prefix_len q xs = omega arith in subst (λ m. AllByRecursion (λ y. q y ≡ true) (take m (x ∷ xs))) on (e, more)
    by false e more = tt

module _ (p : Program) (n : ℕ) (sound : Sound p) where
  abbrev body : Block
  body = slice_index_or p.bodies n no_block

  pub block_sound : SoundBlock p.channels (length p.bodies) body
  block_sound = all_or (SoundBlock p.channels (length p.bodies)) p.bodies n no_block (record { in_range = tt; targets = tt; begins = refl; selects = tt }) sound.blocks

  pub block_placed : body.line + length body.operations ≤ 576
  block_placed = all_or (λ b. b.line + length b.operations ≤ 576) p.bodies n no_block (omega arith) sound.placed

  module _ (i : ℕ) (o : Operation) (got : slice_get body.operations i ≡ Some o) where
    -- its numbers are in range
    pub operation_sound : SoundOperation p.channels (length p.bodies) o
    operation_sound = all_got (SoundOperation p.channels (length p.bodies)) body.operations i o block_sound.in_range got

    -- it leads to the body's end or to a line of it that is no case
    pub operation_lands : Lands body.operations (leads o)
    operation_lands = all_got (λ x. Lands body.operations (leads x)) body.operations i o block_sound.targets got

    -- its text line is a number of 32 bits, and so is the next
    pub line_placed : body.line + 1 + i ≤ 576
    line_placed = omega (arith, block_placed, slice_get_within body.operations i o got)

    pub line_fits : body.line + 1 + i < 2 ^ 32
    line_fits = omega (arith, line_placed)

    -- if it is no case, just the cases follow that it asks for
    pub operation_followed : Followed o (drop (i + 1) body.operations)
    operation_followed = everywhere_got Followed body.operations i o block_sound.selects got

  -- a select
  module _ (i k : ℕ) (got : slice_get body.operations i ≡ Some (Select k)) where
    pub select_small : k ≤ 8
    select_small = operation_sound i (Select k) got

    pub select_followed : prefix_len is_case (drop (i + 1) body.operations) ≡ k
    select_followed = operation_followed i (Select k) got refl

    pub select_whole : length (take k (drop (i + 1) body.operations)) ≡ k
    select_whole = omega (arith, length-take k (drop (i + 1) body.operations), prefix_len-le-length is_case (drop (i + 1) body.operations), select_followed)

    pub select_cases : AllByRecursion (λ x. is_case x ≡ true) (take k (drop (i + 1) body.operations))
    select_cases = subst (λ m. AllByRecursion (λ x. is_case x ≡ true) (take m (drop (i + 1) body.operations))) select_followed (front_passes is_case (drop (i + 1) body.operations))
