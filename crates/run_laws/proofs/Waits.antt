-- In a settled run nobody waits who can go, and only where all who live wait does it stall.
use Rattle.std.proofs.Common.{◌≡◌, ℕ, zero, suc, ◌+◌, ◌<◌, ◌≤◌, Bool, true, false, cond, eqb, ltb, List, [], ◌∷◌, ◌++◌, map, length, take, min, Some, None, Option, sym, refl, ap, ◌∙◌, subst, arith, inl, inr}
use Rattle.std.specs.Prelude.{slice_index_or, slice_get}
use Rattle.std.specs.List.{AllByRecursion}
use Rattle.std.proofs.lemmas.List.{length-map, length-take}
use Rattle.std.proofs.lemmas.Bool.{both_ways, eqb-true, ltb-false}
use Rattle.linking.specs.Programs.{Block, Program}
use Rattle.linking.specs.Sound.{SoundBlock, SoundOperation}
use Rattle.linking.specs.declared.declared.Declared.{Declared}
use Rattle.linking.specs.declared.operation.Operation.{Operation}
use Rattle.linking.specs.declared.operation.Operation.TheVariants.{Set, Add, Sub, Jump, JumpNegative, Hold, Clear, Alone, Select, Case, Default, Close, Start, Print}
use Rattle.waiting.specs.declared.wish.Wish.{Wish}
use Rattle.waiting.specs.declared.wish.Wish.TheVariants as wish
use Rattle.waiting.specs.declared.wish.Side.TheVariants.{Receivers, Senders}
use Rattle.waiting.specs.declared.wish.Entry.{Entry}
use Rattle.waiting.specs.Queues.{stands, waits}
use Rattle.pickers.specs.Meaning.{Meaning}
use Rattle.reports.specs.declared.report.Picked.{Picked}
use Rattle.routines.specs.declared.item.Item.{Item}
use Rattle.routines.specs.declared.routine.Passed.{Passed}
use Rattle.routines.specs.declared.routine.Passed.TheVariants.{Sent, Received, Drained, Broken}
use Rattle.routines.specs.declared.routine.State.{State}
use Rattle.routines.specs.declared.routine.State.TheVariants.{Ready, Waiting, Released, Ended}
use Rattle.linking.specs.Programs.{no_block}
use Rattle.runs.specs.Runs.{Run, channel, routine, queued, lives, block_of, operation_at, text_line}
use Rattle.runs.specs.Cases.{Branch, branch, wish_of}
use Rattle.channels.specs.Settled.{some}
use Rattle.runs.specs.Taking.{take as deal_of}
use Rattle.runs.specs.Steps.{Taken, taken_by, nothing_moved, passing, branch_at, branches, branches_at, after_line, ending, step}
use Rattle.run_laws.specs.Settled.{is_waiting, has_turn, case_in, case_at, goes_alone, serve, Settled}
use Rattle.run_laws.specs.Waits.{wish_at, CanGo, NobodyWaitsIdly, a_stall, AllWait, StallsWhenAllWait, ChannelsGuarded, SoundHasFewCases}
use Rattle.run_laws.proofs.Ways.{by_ways}
use Rattle.run_laws.proofs.Ready.{case_of}
use Rattle.run_laws.proofs.Queues.{front_placed, some_first}
use Rattle.run_laws.proofs.Hubs.{receiver_stuck, sender_stuck}

module _ (p : Program) (run : Run) (s : Settled p run) where
  -- the table holds the cases of the line that one waits at
  pub case_is : (r k : ℕ) → (routine run r).state ≡ Waiting → case_at run.hub r k ≡ wish_at p run r k
  case_is r k w = ap (λ ws. case_in ws k) (s.linked.rows r w) ∙ case_of run.hub.channels (routine run r) (branches p (routine run r)) k

  pub in_line : (r : ℕ) → (routine run r).state ≡ Waiting → waits r run.hub.line ≡ true
  in_line r w = s.linked.waiters r ∙ ap is_waiting w

pub nobody_waits_idly : NobodyWaitsIdly
nobody_waits_idly p run s r k w g = go (wish_at p run r k) refl g
  where
    go : (o : Option (Wish Item)) → wish_at p run r k ≡ o → CanGo p run r o → ⊥
    go None e g = g
    go (Some v) e (inl t) =
        both_ways (goes_alone run.hub.channels (Some v))
        (subst (λ o. goes_alone run.hub.channels o ≡ false) (case_is p run s r k w ∙ e) (s.hub.stuck r k (in_line p run s r w))) t
    go (Some v) e (inr q) =
        both_ways (serve (Some v) (wish_at p run q.by q.case))
        (subst (λ o. serve (Some v) o ≡ false) (case_is p run s q.by q.case q.waits)
        (subst (λ o. serve o (case_at run.hub q.by q.case) ≡ false) (case_is p run s r k w ∙ e)
        (s.hub.apart r q.by k q.case (in_line p run s r w) (in_line p run s q.by q.waits) (λ f. q.another (sym f)))))
        q.serves

-- ---- stalls
passing_event : (old : Run) (m : Meaning) (r n k : ℕ) (b : Branch) (pk : Option Picked) (t : Taken) (q : Passed) → a_stall (passing old m r n k b pk t q).report.event ≡ false
passing_event old m r n k b pk t (Sent c e) = refl
passing_event old m r n k b pk t (Received c e) = refl
passing_event old m r n k b pk t (Drained c) = refl
passing_event old m r n k b pk t Broken = refl

ending_event : (run : Run) (m : Meaning) (r : ℕ) (b : Bool) → a_stall (ending run m r (routine run r) b).report.event ≡ false
ending_event run m r true = refl
ending_event run m r false = refl

abbrev empty : List ℕ → Bool
empty [] = true
empty (x ∷ xs) = false

pub stalls_when_empty : (p : Program) (run : Run) (m : Meaning) → a_stall (step p run m).report.event ≡ empty run.turns
stalls_when_empty p run m = by_ways p run m (λ t. a_stall t.report.event ≡ empty run.turns) (λ e. sym (ap empty e)) (λ r rest e.
    let busy : false ≡ empty run.turns = sym (ap empty e) in
    record {
      resumes = λ k q st. passing_event run m r (text_line p (routine run r)) k (branch_at (branches p (routine run r)) k) None (nothing_moved q run) q ∙ busy;
      stays = λ n d after c q l. busy;
      goes = λ n d x after c q l. busy;
      waits = λ n bs c h ch df. busy;
      takes = λ n bs k pk c h t.
          let d = deal_of run.hub (wish_of run.hub.channels (routine run r) (branch_at bs k).exchange) in
          passing_event run _ r n k (branch_at bs k) pk (taken_by r d run) d.passed ∙ busy;
      closes = λ n c q h. busy;
      starts = λ n b q room. busy;
      ends = λ q b. ending_event run m r b ∙ busy;
    })

rests : (s : State) → has_turn s ≡ false → lives s ≡ true → s ≡ Waiting
rests Ready t l = cc
rests Waiting t l = refl
rests (Released k q) t l = cc
rests Ended t l = cc

takes_part : (s : State) → has_turn s ≡ true → (lives s ≡ true → s ≡ Waiting) → ⊥
takes_part Ready t w = let z : Ready ≡ Waiting = w refl in cc
takes_part Waiting t w = cc
takes_part (Released k q) t w = let z : Released k q ≡ Waiting = w refl in cc
takes_part Ended t w = cc

module _ (p : Program) (run : Run) (s : Settled p run) where
  all_wait : run.turns ≡ [] → AllWait run
  all_wait e r l = rests (routine run r).state (sym (s.linked.takers r) ∙ ap (waits r) e) l

  nobody_turns : AllWait run → empty run.turns ≡ true
  nobody_turns w = go run.turns refl
    where
      go : (ts : List ℕ) → run.turns ≡ ts → empty ts ≡ true
      go [] e = refl
      go (r ∷ rest) e = absurd (takes_part (routine run r).state (sym (s.linked.takers r) ∙ ap (waits r) e ∙ front r rest) (w r))
        where
          front : (r : ℕ) (rest : List ℕ) → waits r (r ∷ rest) ≡ true
          front r rest = ap (λ b. Rattle.std.proofs.Common.◌||◌ b (waits r rest)) (Rattle.std.proofs.lemmas.Bool.eq-eqb r r refl)

empty_is : (ts : List ℕ) → empty ts ≡ true → ts ≡ []
empty_is [] e = refl
empty_is (t ∷ ts) e = cc

pub stalls_when_all_wait : StallsWhenAllWait
stalls_when_all_wait p run m s = (
  λ e. all_wait p run s (empty_is run.turns (sym (stalls_when_empty p run m) ∙ e)),
  λ w. stalls_when_empty p run m ∙ nobody_turns p run s w,
)

-- ---- channels
no_more : {A : Type 0} (xs : List A) → some xs ≡ false → xs ≡ []
no_more [] e = refl
no_more (x ∷ xs) e = cc

pub receives_there : (c : ℕ) (w : Wish Item) → stands Receivers c w ≡ true → w ≡ wish.Receive c
receives_there c (wish.Send d f) h = cc
receives_there c (wish.Receive d) h = ap wish.Receive (eqb-true d c h)

pub sends_there : (c : ℕ) (w : Wish Item) → stands Senders c w ≡ true → (f : Item) × (w ≡ wish.Send c f)
sends_there c (wish.Send d f) h = (f, ap (λ i. wish.Send i f) (eqb-true d c h))
sends_there c (wish.Receive d) h = cc

pub channels_guarded : ChannelsGuarded
channels_guarded p run s c = record {
  few = s.hub.few c;
  receivers_wait = λ h.
      let front = some_first (queued run.hub Receivers c) h in
      let e : Entry Item = front.0 in
      let at = front_placed Receivers c run.hub.line run.hub.wishes e front.1 in
      let stuck = receiver_stuck run.hub s.hub e.routine e.case c at.there (at.found ∙ ap Some (receives_there c e.wish at.side)) in
      (stuck.0, no_more (channel run.hub c).buffer stuck.1);
  senders_wait = λ h.
      let front = some_first (queued run.hub Senders c) h in
      let e : Entry Item = front.0 in
      let at = front_placed Senders c run.hub.line run.hub.wishes e front.1 in
      let sent = sends_there c e.wish at.side in
      let stuck = sender_stuck run.hub s.hub e.routine e.case c sent.0 at.there (at.found ∙ ap Some sent.1) in
      (stuck.0, omega (arith, s.hub.few c, ltb-false (length (channel run.hub c).buffer) (channel run.hub c).capacity stuck.1));
}

-- ---- programs
of_element : {A : Type 0} (P : A → Type 0) (xs : List A) (i : ℕ) (d : A) → AllByRecursion P xs → P d → P (slice_index_or xs i d)
of_element P [] i d h k = k
of_element P (x ∷ xs) zero d h k = h.0
of_element P (x ∷ xs) (suc i) d h k = of_element P xs i d h.1 k

of_found : {A : Type 0} (P : A → Type 0) (xs : List A) (i : ℕ) (x : A) → AllByRecursion P xs → slice_get xs i ≡ Some x → P x
of_found P [] i x h e = cc
of_found P (y ∷ xs) zero x h e = let q : y ≡ x = cc in subst P q h.0
of_found P (y ∷ xs) (suc i) x h e = of_found P xs i x h.1 e

all_weaker : {A : Type 0} (P Q : A → Type 0) → ((x : A) → P x → Q x) → (xs : List A) → AllByRecursion P xs → AllByRecursion Q xs
all_weaker P Q f [] h = tt
all_weaker P Q f (x ∷ xs) h = (f x h.0, all_weaker P Q f xs h.1)

few_branches : (ds : List Declared) (n i : ℕ) (rest : List Operation) (o : Operation) → SoundOperation ds n o → length (branches_at i rest (Some o)) ≤ 8
few_branches ds n i rest (Alone e) h = omega arith
few_branches ds n i rest (Select k) h = omega (arith, length-map (take k rest) branch, length-take k rest, h)
few_branches ds n i rest (Set v a) h = omega arith
few_branches ds n i rest (Add v a) h = omega arith
few_branches ds n i rest (Sub v a) h = omega arith
few_branches ds n i rest (Jump t) h = omega arith
few_branches ds n i rest (JumpNegative v t) h = omega arith
few_branches ds n i rest (Hold a c) h = omega arith
few_branches ds n i rest (Clear a) h = omega arith
few_branches ds n i rest (Case e t) h = omega arith
few_branches ds n i rest (Default t) h = omega arith
few_branches ds n i rest (Close a) h = omega arith
few_branches ds n i rest (Start b) h = omega arith
few_branches ds n i rest (Print v) h = omega arith

pub sound_has_few_cases : SoundHasFewCases
sound_has_few_cases p s x = go (operation_at p x) refl
  where
    in_range : AllByRecursion (SoundOperation p.channels (length p.bodies)) (block_of p x).operations
    in_range = of_element (λ (b : Block). AllByRecursion (SoundOperation p.channels (length p.bodies)) b.operations) p.bodies x.body no_block
        (all_weaker (SoundBlock p.channels (length p.bodies)) (λ (b : Block). AllByRecursion (SoundOperation p.channels (length p.bodies)) b.operations) (λ b k. k.in_range) p.bodies s.blocks) tt

    go : (o : Option Operation) → operation_at p x ≡ o → length (branches_at x.line (after_line p x) o) ≤ 8
    go None e = omega arith
    go (Some o) e = few_branches p.channels (length p.bodies) x.line (after_line p x) o (of_found (SoundOperation p.channels (length p.bodies)) (block_of p x).operations x.line o in_range e)
