-- The ways that a step can go: what is shown of each of them holds of every step.
use Rattle.std.proofs.Common.{◌≡◌, ℕ, ◌+◌, ◌<◌, Bool, true, false, cond, eqb, ltb, List, [], ◌∷◌, length, Some, None, Option, refl, ap}
use Rattle.std.proofs.lemmas.Bool.{ltb-true}
use Rattle.linking.specs.declared.operation.Operation.{Operation}
use Rattle.linking.specs.declared.operation.Operation.TheVariants.{Set, Add, Sub, Jump, JumpNegative, Hold, Clear, Alone, Select, Case, Default, Close, Start, Print}
use Rattle.linking.specs.Programs.{Program}
use Rattle.pickers.specs.Meaning.{Meaning, Lawful}
use Rattle.pickers.specs.Choosing.{chosen, after_choice, several, taken}
use Rattle.pickers.specs.declared.picker.Query.{Query}
use Rattle.pickers.specs.declared.choosing.Choice.{Choice}
use Rattle.pickers.specs.declared.choosing.Choice.TheVariants.{NoneReady, OneReady, Asked}
use Rattle.routines.specs.declared.routine.Passed.{Passed}
use Rattle.routines.specs.declared.routine.State.{State}
use Rattle.routines.specs.declared.routine.State.TheVariants.{Ready, Waiting, Released, Ended}
use Rattle.routines.specs.declared.routine.Routine.{Routine}
use Rattle.routines.specs.Registers.{at_line, plain, value_at}
use Rattle.reports.specs.declared.report.Panic.TheVariants.{ClosedTwice, NilClose, Crowded}
use Rattle.reports.specs.declared.report.Pass.TheVariants as pass
use Rattle.reports.specs.declared.report.Deed.{Deed}
use Rattle.reports.specs.declared.report.Deed.TheVariants.{Plain, Waits, Passes, Prints, Panics, Departs}
use Rattle.reports.specs.declared.report.Picked.{Picked}
use Rattle.runs.specs.Runs.{Run, routine, channel, operation_at, text_line, stopped, goes_on}
use Rattle.runs.specs.Cases.{Branch, branches_of, channel_for, default_from}
use Rattle.runs.specs.Steps.{Step, only, passing, nothing_moved, branch_at, branches, branches_at, after_line, waiting, none_ready, taking, chosen_case, query, selecting, close_channel, closing, starting, ending, at_operation, turn_in, turn, step}

-- a state of one who was not released
abbrev pub calm : State → Bool
calm (Released k q) = false
calm _ = true

-- what is done without a move
abbrev pub quiet : Deed → Bool
quiet (Passes k (pass.Sent c e)) = false
quiet (Passes k (pass.Received c e)) = false
quiet _ = true

-- routine r takes its turn
pub record Ways (p : Program) (run : Run) (m : Meaning) (P : Step → Type 0) (r : ℕ) : Type 0 where
  pub resumes : (k : ℕ) (q : Passed) → (routine run r).state ≡ Released k q
      → P (passing run m r (text_line p (routine run r)) k (branch_at (branches p (routine run r)) k) None (nothing_moved q run) q)
  pub stays : (n : ℕ) (d : Deed) (after : Meaning) → calm (routine run r).state ≡ true → quiet d ≡ true → (Lawful m → Lawful after)
      → P (only r n d (stopped run) after)
  pub goes : (n : ℕ) (d : Deed) (x : Routine) (after : Meaning) → calm (routine run r).state ≡ true → quiet d ≡ true → (Lawful m → Lawful after)
      → P (only r n d (goes_on r x run) after)
  pub waits : (n : ℕ) (bs : List Branch) → calm (routine run r).state ≡ true → branches p (routine run r) ≡ bs
      → chosen m (query run r (routine run r) bs) ≡ NoneReady → default_from 0 bs ≡ None
      → P (only r n Waits (waiting r (routine run r) bs run) (after_choice m (query run r (routine run r) bs)))
  pub takes : (n : ℕ) (bs : List Branch) (k : ℕ) (pk : Option Picked) → calm (routine run r).state ≡ true → branches p (routine run r) ≡ bs
      → taken (chosen m (query run r (routine run r) bs)) ≡ Some k
      → P (taking run (after_choice m (query run r (routine run r) bs)) r n (routine run r) bs k pk)
  pub closes : (n c : ℕ) → calm (routine run r).state ≡ true → (channel run.hub c).closed ≡ false
      → P (close_channel run m r n (routine run r) c false)
  pub starts : (n b : ℕ) → calm (routine run r).state ≡ true → length run.routines < 64
      → P (starting run m r n (routine run r) b true)
  pub ends : calm (routine run r).state ≡ true → (b : Bool) → P (ending run m r (routine run r) b)

pub lawful_after : (m : Meaning) (q : Query) → Lawful m → Lawful (after_choice m q)
lawful_after m q l = go (several q)
  where
    go : (b : Bool) → Lawful (cond b (λ qs. m (q ∷ qs)) m)
    go true = λ qs. l (q ∷ qs)
    go false = l

module _ (p : Program) (run : Run) (m : Meaning) (P : Step → Type 0) (r : ℕ) (w : Ways p run m P r) (rested : calm (routine run r).state ≡ true) where
  by_choice : (n : ℕ) (bs : List Branch) → branches p (routine run r) ≡ bs → P (selecting run m r n (routine run r) bs)
  by_choice n bs h = go (chosen m (query run r (routine run r) bs)) refl
    where
      none : chosen m (query run r (routine run r) bs) ≡ NoneReady → (d : Option (ℕ × ℕ)) → default_from 0 bs ≡ d
          → P (none_ready run (after_choice m (query run r (routine run r) bs)) r n (routine run r) bs d)
      none e None f = w.waits n bs rested h e f
      none e (Some d) f = w.goes n (Passes d.0 pass.Default) (at_line d.1 (routine run r)) _ rested refl (lawful_after m (query run r (routine run r) bs))

      go : (c : Choice) → chosen m (query run r (routine run r) bs) ≡ c
          → P (chosen_case run (after_choice m (query run r (routine run r) bs)) r n (routine run r) bs c)
      go NoneReady e = none e (default_from 0 bs) refl
      go (OneReady k) e = w.takes n bs k None rested h (ap taken e)
      go (Asked None) e = w.stays n Departs _ rested refl (lawful_after m (query run r (routine run r) bs))
      go (Asked (Some k)) e = w.takes n bs k (Some (record { routine = r; case = k })) rested h (ap taken e)

  by_closing : (n : ℕ) (o : Option ℕ) → P (closing run m r n (routine run r) o)
  by_closing n None = w.stays n (Panics NilClose) m rested refl (λ l. l)
  by_closing n (Some c) = go (channel run.hub c).closed refl
    where
      go : (b : Bool) → (channel run.hub c).closed ≡ b → P (close_channel run m r n (routine run r) c b)
      go true e = w.stays n (Panics ClosedTwice) m rested refl (λ l. l)
      go false e = w.closes n c rested e

  by_starting : (n b : ℕ) (room : Bool) → ltb (length run.routines) 64 ≡ room → P (starting run m r n (routine run r) b room)
  by_starting n b false e = w.stays n (Panics Crowded) m rested refl (λ l. l)
  by_starting n b true e = w.starts n b rested (ltb-true (length run.routines) 64 e)

  by_line : (n : ℕ) (o : Option Operation) → operation_at p (routine run r) ≡ o
      → P (at_operation run m r n (routine run r) (after_line p (routine run r)) o)
  by_line n None e = w.ends rested (eqb r 0)
  by_line n (Some (Alone x)) e = by_choice n (branches_of (Alone x) (routine run r).line (after_line p (routine run r))) (ap (branches_at (routine run r).line (after_line p (routine run r))) e)
  by_line n (Some (Select k)) e = by_choice n (branches_of (Select k) (routine run r).line (after_line p (routine run r))) (ap (branches_at (routine run r).line (after_line p (routine run r))) e)
  by_line n (Some (Close o)) e = by_closing n (channel_for run.hub.channels (routine run r) o)
  by_line n (Some (Start b)) e = by_starting n b (ltb (length run.routines) 64) refl
  by_line n (Some (Print v)) e = w.goes n (Prints (value_at (routine run r) v).number) (at_line ((routine run r).line + 1) (routine run r)) m rested refl (λ l. l)
  by_line n (Some (Set v a)) e = w.goes n Plain (plain (Set v a) (routine run r)) m rested refl (λ l. l)
  by_line n (Some (Add v a)) e = w.goes n Plain (plain (Add v a) (routine run r)) m rested refl (λ l. l)
  by_line n (Some (Sub v a)) e = w.goes n Plain (plain (Sub v a) (routine run r)) m rested refl (λ l. l)
  by_line n (Some (Jump t)) e = w.goes n Plain (plain (Jump t) (routine run r)) m rested refl (λ l. l)
  by_line n (Some (JumpNegative v t)) e = w.goes n Plain (plain (JumpNegative v t) (routine run r)) m rested refl (λ l. l)
  by_line n (Some (Hold h c)) e = w.goes n Plain (plain (Hold h c) (routine run r)) m rested refl (λ l. l)
  by_line n (Some (Clear h)) e = w.goes n Plain (plain (Clear h) (routine run r)) m rested refl (λ l. l)
  by_line n (Some (Case x t)) e = w.goes n Plain (plain (Case x t) (routine run r)) m rested refl (λ l. l)
  by_line n (Some (Default t)) e = w.goes n Plain (plain (Default t) (routine run r)) m rested refl (λ l. l)

module _ (p : Program) (run : Run) (m : Meaning) (P : Step → Type 0) where
  by_turn : (r : ℕ) → Ways p run m P r → (s : State) → (routine run r).state ≡ s → P (turn_in p run m r (routine run r) s)
  by_turn r w (Released k q) e = w.resumes k q e
  by_turn r w Ready e = by_line p run m P r w (ap calm e) (text_line p (routine run r)) (operation_at p (routine run r)) refl
  by_turn r w Waiting e = by_line p run m P r w (ap calm e) (text_line p (routine run r)) (operation_at p (routine run r)) refl
  by_turn r w Ended e = by_line p run m P r w (ap calm e) (text_line p (routine run r)) (operation_at p (routine run r)) refl

  -- an empty run queue, or the turn of its first routine
  pub by_ways : (run.turns ≡ [] → P (turn p run m [])) → ((r : ℕ) (rest : List ℕ) → run.turns ≡ r ∷ rest → Ways p run m P r) → P (step p run m)
  by_ways stall ways = go run.turns refl
    where
      go : (ts : List ℕ) → run.turns ≡ ts → P (turn p run m ts)
      go [] e = stall e
      go (r ∷ rest) e = by_turn r (ways r rest e) (routine run r).state refl
