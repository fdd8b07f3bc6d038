-- A case of a ready set can go.
use Rattle.std.proofs.Common.{◌≡◌, ℕ, zero, suc, ◌+◌, ◌*◌, ◌/◌, ◌<◌, ◌≤◌, Bool, true, false, cond, eqb, ltb, List, [], ◌∷◌, Option, None, length, map, refl, ap, sym, ◌∙◌, arith}
use Rattle.std.specs.Prelude.{slice_index_or}
use Rattle.std.specs.Int.{bit_at}
use Rattle.std.proofs.Math.ListN.{get_or-map}
use Rattle.std.proofs.lemmas.List.{length-map}
use Rattle.std.proofs.lemmas.List as lists
use Rattle.std.proofs.lemmas.Bool.{and_parts, eqb-true}
use Rattle.std.proofs.lemmas.Nat.Bits.{bit_at-zero, bit_at_lowest, bit_at-suc}
use Rattle.linking.specs.declared.operation.Operation.{Operation}
use Rattle.pickers.specs.Sets.{has}
use Rattle.waiting.specs.declared.wish.Wish.{Wish}
use Rattle.waiting.specs.Queues.{Row}
use Rattle.routines.specs.declared.item.Item.{Item}
use Rattle.routines.specs.declared.routine.Routine.{Routine}
use Rattle.runs.specs.Runs.{Hub}
use Rattle.runs.specs.Cases.{Branch, branch, wish_of, wishes_of, can_go, ready_set}
use Rattle.runs.specs.Steps.{branch_at, no_branch}

-- ---- the digits of a number that begins with that of b
lowest : (b : Bool) (s : ℕ) → bit_at (cond b 1 0 + 2 * s) 0 ≡ 1 → b ≡ true
lowest true s e = refl
lowest false s e = absurd (omega (arith, bit_at_lowest (0 + 2 * s), e))

half : (b : Bool) (s : ℕ) → (cond b 1 0 + 2 * s) / 2 ≡ s
half true s = omega arith
half false s = omega arith

later : (b : Bool) (s k : ℕ) → bit_at (cond b 1 0 + 2 * s) (suc k) ≡ bit_at s k
later b s k = bit_at-suc (cond b 1 0 + 2 * s) k ∙ ap (λ n. bit_at n k) (half b s)

-- ---- a case whose digit is 1 is one of the row and can go
digit : (h : Hub) (ws : Row Item) (k : ℕ) → bit_at (ready_set h ws) k ≡ 1 → (k < length ws) × (can_go h (slice_index_or ws k None) ≡ true)
digit h [] k e = absurd (omega (arith, bit_at-zero k, e))
digit h (w ∷ ws) zero e = (omega arith, lowest (can_go h w) (ready_set h ws) e)
digit h (w ∷ ws) (suc k) e =
    let d = digit h ws k (sym (later (can_go h w) (ready_set h ws) k) ∙ e) in
    (omega (arith, d.0), d.1)

pub member : (h : Hub) (ws : Row Item) (k : ℕ) → length ws ≤ 8 → has (ready_set h ws) k ≡ true → (k < length ws) × (can_go h (slice_index_or ws k None) ≡ true)
unfolding has
member h ws k l e = digit h ws k (eqb-true (bit_at (ready_set h ws) k) 1 (and_parts (ltb k 8) (eqb (bit_at (ready_set h ws) k) 1) e).1)

-- ---- the same of branches, and of the case lines ops
pub goes_branch : (h : Hub) (x : Routine) (bs : List Branch) (k : ℕ) → length bs ≤ 8 → has (ready_set h (wishes_of h.channels x bs)) k ≡ true → (k < length bs) × (can_go h (wish_of h.channels x (branch_at bs k).exchange) ≡ true)
goes_branch h x bs k l e =
    let f : Branch → Option (Wish Item) = λ b. wish_of h.channels x b.exchange in
    let n = length-map bs f in
    let m = member h (map f bs) k (omega (arith, n, l)) e in
    (omega (arith, n, m.0), ap (can_go h) (sym (get_or-map f bs k no_branch)) ∙ m.1)

pub goes : (h : Hub) (x : Routine) (ops : List Operation) (k : ℕ) → length ops ≤ 8 → has (ready_set h (wishes_of h.channels x (map branch ops))) k ≡ true → (k < length ops) × (can_go h (wish_of h.channels x (branch_at (map branch ops) k).exchange) ≡ true)
goes h x ops k l e =
    let n = length-map ops branch in
    let m = goes_branch h x (map branch ops) k (omega (arith, n, l)) e in
    (omega (arith, n, m.0), m.1)

pub branch_here : (ops : List Operation) (k : ℕ) (d : Operation) → k < length ops → branch_at (map branch ops) k ≡ branch (slice_index_or ops k d)
branch_here ops k d l = lists.get_or-map branch ops k d no_branch l
