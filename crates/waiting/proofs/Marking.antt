-- The marks while routines join and leave, and what they say of a queue.
use Rattle.std.proofs.Common.{◌≡◌, ℕ, ◌+◌, ◌<◌, Bool, true, false, cond, not, eqb, ◌&&◌, ◌||◌, List, [], ◌∷◌, ◌++◌, length, replicate, get_or, Some, None, sym, refl, ap, ◌∙◌, inl, inr, take, drop, Vec, vec_items, map, arith}
use Rattle.std.specs.List.{filter}
use Rattle.std.proofs.lemmas.Bool.{cases_lt}
use Rattle.std.proofs.lemmas.Bool.Decides.{nat_tests}
use Rattle.std.proofs.Math.ListN.{get_or-eq_default}
use Rattle.std.proofs.Math.Seq.{take-append_seam}
use Rattle.std.proofs.lemmas.List.{get_or-set_same, get_or-set_other, get_or-replicate, get_or-map, length-replicate}
use Rattle.waiting.specs.declared.wish.Side.{Side}
use Rattle.waiting.specs.Queues.{Row, places, queue, cases, first, waits, without, written}
use Rattle.waiting.specs.Marks.{has, slot, any_stands, Marked, Unmarked, IsPresent, IsSetOf, Exact}

-- who waits when r has joined, and when r has left
pub waits_push : (k r : ℕ) (line : List ℕ) → waits k (line ++ r ∷ []) ≡ (waits k line || eqb k r)
waits_push k r [] = grind (arith, nat_tests)
waits_push k r (q ∷ line) = grind (arith, nat_tests, waits_push k r line)

pub waits_less : (k r : ℕ) (line : List ℕ) → waits k (without r line) ≡ (waits k line && not (eqb k r))
waits_less k r [] = refl
waits_less k r (q ∷ line) = grind (arith, nat_tests, waits_less k r line)

pub present_joined : (r : ℕ) (set set' : ℕ) (line : List ℕ) → IsPresent line set → ((k : ℕ) → has set' k ≡ (has set k || eqb k r)) → IsPresent (line ++ r ∷ []) set'
present_joined r set set' line e m k = m k ∙ ap (λ b. b || eqb k r) (e k) ∙ sym (waits_push k r line)

pub present_left : (r : ℕ) (set set' : ℕ) (line : List ℕ) → IsPresent line set → ((k : ℕ) → has set' k ≡ (has set k && not (eqb k r))) → IsPresent (without r line) set'
present_left r set set' line e m k = m k ∙ ap (λ b. b && not (eqb k r)) (e k) ∙ sym (waits_less k r line)

pub exact_joined : {X : Type 0} (r : ℕ) (ws : Row X) (marks marks' line : List ℕ) (table : List (Row X))
    → r < length table → waits r line ≡ false → Exact line table marks → Marked r ws marks marks' → Exact (line ++ r ∷ []) (written r ws table) marks'
exact_joined r ws marks marks' line table room no' e m s c k =
    grind (arith, nat_tests, no', e s c k, m s c k, waits_push k r line, get_or-set_same table r ws [] room, get_or-set_other table r k ws [])

pub exact_left : {X : Type 0} (r : ℕ) (marks marks' line : List ℕ) (table : List (Row X))
    → Exact line table marks → Unmarked r (cases r table) marks marks' → Exact (without r line) table marks'
exact_left r marks marks' line table e m s c k = grind (arith, nat_tests, e s c k, m s c k, waits_less k r line)

pub has_nobody : (r : ℕ) → has 0 r ≡ false
has_nobody r = grind (arith, nat_tests)

nothing : (n i : ℕ) → get_or {A = ℕ} (replicate n 0) i 0 ≡ 0
nothing n i = elim (cases_lt i n) [ inl l ↦ get_or-replicate n i 0 0 l | inr l ↦ get_or-eq_default (replicate n 0) 0 (omega (arith, l, length-replicate {A = ℕ} n 0)) ]

pub exact_none : {X : Type 0} (table : List (Row X)) → Exact [] table (replicate 512 0)
exact_none table s c r = ap (λ set. has set r) (nothing 512 (slot s c)) ∙ has_nobody r

-- what a slice of marks that was lent writes back
pub written_back : (n : ℕ) (new old : List ℕ) → length new ≡ n → take n (new ++ drop (length new) old) ≡ new
written_back n new old e = ap (λ k. take k (new ++ drop (length new) old)) (sym e) ∙ take-append_seam new (drop (length new) old)

-- the row of a routine, as its cases
pub row_of : {A Z : Type 0} (table : List (Vec A Z)) (r : ℕ) (v : Vec A Z) → r < length table → v ≡ get_or table r v → vec_items v ≡ get_or (map vec_items table) r []
row_of table r v l e = ap vec_items e ∙ sym (get_or-map vec_items table r v [] l)

-- what stands first stands first before its like
first_again : {A : Type 0} (es rest : List A) (b : Bool) → first rest ≡ cond b (first es) None → first (es ++ rest) ≡ first es
first_again [] rest true e = e
first_again [] rest false e = e
first_again (x ∷ es) rest b e = refl

module _ {X : Type 0} (s : Side) (c : ℕ) where
  -- a routine of which no case stands there has no place there
  no_places : (r k : ℕ) (ws : Row X) → any_stands s c ws ≡ false → places s c r k ws ≡ []
  no_places r k [] e = refl
  no_places r k (None ∷ ws) e = no_places r (k + 1) ws e
  no_places r k (Some w ∷ ws) e = grind (arith, nat_tests, no_places r (k + 1) ws)

  passing : (set : ℕ) (line : List ℕ) (table : List (Row X)) → ((r : ℕ) → waits r line ≡ true → has set r ≡ any_stands s c (cases r table)) → queue s c (filter (has set) line) table ≡ queue s c line table
  passing set [] table e = refl
  passing set (q ∷ line) table e = grind (arith, nat_tests, e q, no_places q 0 (cases q table), passing set line table (λ r h. e r (grind (arith, nat_tests, h))))

  -- the queue is that of the routines of its set
  pub queue_of_set : (set : ℕ) (line : List ℕ) (table : List (Row X)) → IsSetOf s c line table set → queue s c (filter (has set) line) table ≡ queue s c line table
  queue_of_set set line table e = passing set line table (λ r w. e r ∙ ap (λ b. b && any_stands s c (cases r table)) w)

  -- the set of nobody
  pub queue_of_nobody : (line : List ℕ) (table : List (Row X)) → queue s c (filter (has 0) line) table ≡ []
  queue_of_nobody [] table = refl
  queue_of_nobody (q ∷ line) table = grind (arith, nat_tests, has_nobody q, queue_of_nobody line table)

  -- the set of one routine
  pub front_of_one : (set r : ℕ) (line : List ℕ) (table : List (Row X)) → ((k : ℕ) → has set k ≡ eqb k r) → first (queue s c (filter (has set) line) table) ≡ cond (waits r line) (first (places s c r 0 (cases r table))) None
  front_of_one set r [] table e = refl
  front_of_one set r (q ∷ line) table e =
      grind (arith, nat_tests, e q, front_of_one set r line table e, first_again (places s c r 0 (cases r table)) (queue s c (filter (has set) line) table) (waits r line))

  pub front_of_nobody : (set : ℕ) (line : List ℕ) (table : List (Row X)) → IsSetOf s c line table set → set ≡ 0 → None ≡ first (queue s c line table)
  front_of_nobody set line table e z =
      sym (ap first (queue_of_nobody line table)) ∙ ap (λ m. first (queue s c (filter (has m) line) table)) (sym z) ∙ ap first (queue_of_set set line table e)

  pub front_of_only : (set r : ℕ) (line : List ℕ) (table : List (Row X)) → IsSetOf s c line table set → ((k : ℕ) → has set k ≡ eqb k r) → first (places s c r 0 (cases r table)) ≡ first (queue s c line table)
  front_of_only set r line table e o =
      let there : waits r line ≡ true = grind (arith, nat_tests, o r, e r) in
      sym (front_of_one set r line table o ∙ ap (λ b. cond b (first (places s c r 0 (cases r table))) None) there) ∙ ap first (queue_of_set set line table e)
