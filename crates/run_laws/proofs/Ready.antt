-- Which cases a ready set holds, and what a choice says of them.
use Rattle.std.proofs.Common.{◌≡◌, ℕ, zero, suc, ◌+◌, ◌*◌, ◌/◌, ◌%◌, ◌<◌, ◌≤◌, Bool, true, false, cond, eqb, ltb, List, [], ◌∷◌, length, Some, None, Option, sym, refl, ap, ◌∙◌, subst, arith, inl, inr}
use Rattle.std.specs.Prelude.{filter}
use Rattle.std.specs.List.{range_with_len}
use Rattle.std.specs.Int.{bit_at}
use Rattle.std.proofs.lemmas.Bool.{eqb-true, lt-ltb, eq-eqb, and_parts, and_from, cases_lt, false_from_ne_true}
use Rattle.std.proofs.lemmas.List.{length-map}
use Rattle.std.proofs.lemmas.Nat.Bits.{bit_at_lowest, bit_at-suc, bit_at-zero}
use Rattle.waiting.specs.Queues.{Row}
use Rattle.pickers.specs.Sets.{has, cases, first, OneOf}
use Rattle.pickers.specs.SetFacts.{lowest_within}
use Rattle.pickers.specs.Meaning.{Meaning, Lawful}
use Rattle.pickers.specs.Choosing.{chosen, several, taken, only}
use Rattle.pickers.specs.declared.picker.Query.{Query}
use Rattle.pickers.specs.declared.choosing.Choice.TheVariants.{NoneReady, Asked}
use Rattle.routines.specs.declared.item.Item.{Item}
use Rattle.routines.specs.declared.routine.Routine.{Routine}
use Rattle.runs.specs.Runs.{Channel, Hub, Run}
use Rattle.runs.specs.Cases.{Branch, can_go, ready_set, wish_of, wishes_of}
use Rattle.runs.specs.Steps.{branch_at, query}
use Rattle.run_laws.specs.Settled.{case_in}

-- ---- the digits of a ready set
low : (b : Bool) (n : ℕ) → (cond b 1 0 + 2 * n) % 2 ≡ cond b 1 0
low true n = omega arith
low false n = omega arith

high : (b : Bool) (n : ℕ) → (cond b 1 0 + 2 * n) / 2 ≡ n
high true n = omega arith
high false n = omega arith

pub ready_digit : (h : Hub) (ws : Row Item) (k : ℕ) → bit_at (ready_set h ws) k ≡ cond (can_go h (case_in ws k)) 1 0
ready_digit h [] k = bit_at-zero k
ready_digit h (w ∷ ws) zero = bit_at_lowest (ready_set h (w ∷ ws)) ∙ low (can_go h w) (ready_set h ws)
ready_digit h (w ∷ ws) (suc k) =
    bit_at-suc (ready_set h (w ∷ ws)) k ∙ ap (λ n. bit_at n k) (high (can_go h w) (ready_set h ws)) ∙ ready_digit h ws k

one : (b : Bool) → ◌≡◌ {A = ℕ} (cond b 1 0) 1 → b ≡ true
one true e = refl
one false e = absurd (omega arith)

-- a case that the set holds can go, and of the first 8 it holds all that can
pub in_set : (h : Hub) (ws : Row Item) (k : ℕ) → has (ready_set h ws) k ≡ true → can_go h (case_in ws k) ≡ true
unfolding has
in_set h ws k e = one (can_go h (case_in ws k)) (sym (ready_digit h ws k) ∙ eqb-true (bit_at (ready_set h ws) k) 1 (and_parts (ltb k 8) (eqb (bit_at (ready_set h ws) k) 1) e).1)

pub set_has : (h : Hub) (ws : Row Item) (k : ℕ) → k < 8 → can_go h (case_in ws k) ≡ true → has (ready_set h ws) k ≡ true
unfolding has
set_has h ws k l e =
    and_from (ltb k 8) (eqb (bit_at (ready_set h ws) k) 1) (lt-ltb k 8 l)
    (eq-eqb (bit_at (ready_set h ws) k) 1 (ready_digit h ws k ∙ ap (λ b. cond b 1 0) e))

-- ---- choices
-- a named case is in the set
pub named_ready : (m : Meaning) (q : Query) (k : ℕ) → Lawful m → taken (chosen m q) ≡ Some k → has q.ready k ≡ true
named_ready m q k l e = go (several q) e
  where
    lone : (o : Option ℕ) → OneOf q.ready o → taken (only o) ≡ Some k → has q.ready k ≡ true
    lone None f e = cc
    lone (Some j) f e = let s : j ≡ k = cc in subst (λ i. has q.ready i ≡ true) s f

    asked : (o : Option ℕ) → OneOf q.ready o → o ≡ Some k → has q.ready k ≡ true
    asked None f e = cc
    asked (Some j) f e = let s : j ≡ k = cc in subst (λ i. has q.ready i ≡ true) s f

    go : (b : Bool) → taken (cond b (Asked (m [] q)) (only (first (cases q.ready)))) ≡ Some k → has q.ready k ≡ true
    go true e = asked (m [] q) ((l []).within q) e
    go false e = lone (first (cases q.ready)) (lowest_within q.ready) e

-- where no case is ready the set is empty
empty_front : (ks : List ℕ) → first ks ≡ None → ks ≡ []
empty_front [] e = refl
empty_front (k ∷ ks) e = cc

none_left : (t : ℕ → Bool) (n a : ℕ) → filter t (range_with_len a n) ≡ [] → (k : ℕ) → a ≤ k → k < a + n → t k ≡ false
none_left t zero a e k l m = absurd (omega arith)
none_left t (suc n) a e k l m = go (none_left t n (a + 1)) (t a) refl e
  where
    go : (filter t (range_with_len (a + 1) n) ≡ [] → (i : ℕ) → a + 1 ≤ i → i < a + 1 + n → t i ≡ false)
        → (b : Bool) → t a ≡ b → cond b (a ∷ filter t (range_with_len (a + 1) n)) (filter t (range_with_len (a + 1) n)) ≡ [] → t k ≡ false
    go ih true s f = cc
    go ih false s f = elim (cases_lt a k) [
      | inl c ↦ ih f k (omega arith) (omega arith)
      | inr c ↦ let q : a ≡ k = omega arith in subst (λ i. t i ≡ false) q s
    ]

no_asking : (m : Meaning) (q : Query) → chosen m q ≡ NoneReady → first (cases q.ready) ≡ None
no_asking m q e = go (several q) (first (cases q.ready)) e
  where
    go : (b : Bool) (o : Option ℕ) → cond b (Asked (m [] q)) (only o) ≡ NoneReady → o ≡ None
    go true o e = cc
    go false None e = refl
    go false (Some k) e = cc

none_ready_none : (m : Meaning) (q : Query) → chosen m q ≡ NoneReady → (k : ℕ) → k < 8 → has q.ready k ≡ false
unfolding cases
none_ready_none m q e k l = none_left (has q.ready) 8 0 (empty_front (cases q.ready) (no_asking m q e)) k (omega arith) (omega arith)

-- ---- the cases of a routine
pub case_past : (ws : Row Item) (k : ℕ) → length ws ≤ k → case_in ws k ≡ None
case_past [] k l = refl
case_past (w ∷ ws) zero l = absurd (omega arith)
case_past (w ∷ ws) (suc k) l = case_past ws k (omega arith)

pub case_of : (cs : List Channel) (x : Routine) (bs : List Branch) (k : ℕ) → case_in (wishes_of cs x bs) k ≡ wish_of cs x (branch_at bs k).exchange
case_of cs x [] k = refl
case_of cs x (b ∷ bs) zero = refl
case_of cs x (b ∷ bs) (suc k) = case_of cs x bs k

-- the case that is taken can go
pub taken_goes : (run : Run) (m : Meaning) (r : ℕ) (x : Routine) (bs : List Branch) (k : ℕ) → Lawful m
    → taken (chosen m (query run r x bs)) ≡ Some k → can_go run.hub (wish_of run.hub.channels x (branch_at bs k).exchange) ≡ true
taken_goes run m r x bs k l e =
    subst (λ w. can_go run.hub w ≡ true) (case_of run.hub.channels x bs k)
    (in_set run.hub (wishes_of run.hub.channels x bs) k (named_ready m (query run r x bs) k l e))

-- of 8 cases at most, none can go where none is ready
pub none_goes : (run : Run) (m : Meaning) (r : ℕ) (x : Routine) (bs : List Branch) → length bs ≤ 8
    → chosen m (query run r x bs) ≡ NoneReady → (k : ℕ) → can_go run.hub (case_in (wishes_of run.hub.channels x bs) k) ≡ false
none_goes run m r x bs few e k = elim (cases_lt k 8) [
  | inl l ↦ false_from_ne_true (can_go run.hub (case_in (wishes_of run.hub.channels x bs) k))
      (λ g. let c : true ≡ false = sym (set_has run.hub (wishes_of run.hub.channels x bs) k l g) ∙ none_ready_none m (query run r x bs) e k l in cc)
  | inr l ↦ ap (can_go run.hub) (case_past (wishes_of run.hub.channels x bs) k (omega (arith, length-map bs (λ b. wish_of run.hub.channels x b.exchange))))
]
