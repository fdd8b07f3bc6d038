-- The row of a select and its ready set, one case more at each turn.
use Rattle.std.proofs.Common.{◌≡◌, ℕ, suc, ◌+◌, ◌*◌, ◌^◌, ◌<◌, ◌≤◌, Bool, true, false, cond, List, [], ◌∷◌, ◌++◌, Option, length, map, reverse, take, get_or, slice_set, arith, ap, ◌∙◌, refl, subst}
use Rattle.std.proofs.Math.Nat.{pow-succ'}
use Rattle.std.proofs.Math.Pow.{pow_mono}
use mir.Val.{bool_byte}
use Rattle.std.proofs.lemmas.List.{take_all, take_more_set, map_more, map-append, reverse-append, length-append, length-reverse}
use Rattle.linking.specs.declared.operation.Operation.{Operation}
use Rattle.linking.specs.declared.operation.Exchange.{Exchange}
use Rattle.waiting.specs.declared.wish.Wish.{Wish}
use Rattle.waiting.specs.Queues.{Row}
use Rattle.routines.specs.declared.item.Item.{Item}
use Rattle.routines.specs.declared.routine.Routine.{Routine}
use Rattle.runs.specs.Runs.{Channel, Hub}
use Rattle.runs.specs.Cases.{branch, wish_of, wishes_of, can_go, ready_set}

module _ (cs : List Channel) (x : Routine) (row : Row Item) (ops : List Operation) (k : ℕ) (so_far : take k row ≡ wishes_of cs x (map branch (take k ops))) where
  -- one more is written
  pub wishes_more : (w : Option (Wish Item)) (e : Option (Exchange ℕ)) (d : Operation) → k < length row → k < length ops → e ≡ (branch (get_or ops k d)).exchange → w ≡ wish_of cs x e → take (k + 1) (slice_set row k w) ≡ wishes_of cs x (map branch (take (k + 1) ops))
  wishes_more w e d h l i t =
      let m = map-append (λ b. wish_of cs x b.exchange) (map branch (take k ops)) (branch (get_or ops k d) ∷ []) in
      rw (take_more_set row k w h, map_more branch ops k d l, m, so_far, t, i) refl

  -- all are written
  pub wishes_all : k ≤ length ops → length ops ≤ k → take (length ops) row ≡ wishes_of cs x (map branch ops)
  wishes_all h l =
      let n : k ≡ length ops = omega arith in
      subst (λ m. take m row ≡ wishes_of cs x (map branch ops)) n (so_far ∙ ap (λ os. wishes_of cs x (map branch os)) (take_all k ops l))

-- ---- the ready set, from the last case on
bit : (b : Bool) → bool_byte b ≤ 1
bit true = omega arith
bit false = omega arith

lowest : (b : Bool) (s : ℕ) → 2 * s + bool_byte b ≡ cond b 1 0 + 2 * s
lowest true s = omega arith
lowest false s = omega arith

-- the digits of fewer cases than there are leave room for one more
pub room : (row : Row Item) (s n : ℕ) (b : Bool) → s < 2 ^ n → n < length (reverse row) → length row ≤ 8 → 2 * s + bool_byte b < 256
room row s n b h l e =
    let p : suc n ≤ 8 = omega (arith, length-reverse row) in
    omega (arith, pow-succ' 2 n, bit b, pow_mono {i = suc n} {j = 8} p)

module _ {A : Type 0} (v : A → Option (Wish Item)) (xs : List A) (x : A) (s : ℕ) (b : Bool) where
  pub small_more : s < 2 ^ length xs → 2 * s + bool_byte b < 2 ^ length (xs ++ x ∷ [])
  small_more h =
      let e : length (xs ++ x ∷ []) ≡ suc (length xs) = omega (arith, length-append xs (x ∷ [])) in
      rw e (omega (arith, pow-succ' 2 (length xs), bit b))

  pub digits_more : (h : Hub) → s ≡ ready_set h (reverse (map v xs)) → b ≡ can_go h (v x) → 2 * s + bool_byte b ≡ ready_set h (reverse (map v (xs ++ x ∷ [])))
  digits_more h e i = rw (map-append v xs (x ∷ []), reverse-append (map v xs) (v x ∷ []), e, i) (lowest (can_go h (v x)) (ready_set h (reverse (map v xs))))
