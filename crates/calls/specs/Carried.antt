-- What carrying out calls answers and leaves: of memory, of what the picker means, and of every cell.
use Rattle.std.specs.Prelude.{◌≡◌, ℕ, Bool, cond, ◌&&◌, List, [], ◌∷◌, ◌++◌, length, nat_le, Ok, Err, Result}
use Rattle.std.specs.Option.{is_none}
use Rattle.words.specs.declared.refusal.Refusal.{Refusal}
use Rattle.words.specs.declared.refusal.Refusal.TheVariants.{Small}
use Rattle.elements.specs.declared.value.Value.{Value}
use Rattle.elements.specs.declared.handle.Handle.{Handle}
use Rattle.linking.specs.Programs.{Program}
use Rattle.pickers.specs.Meaning.{Meaning, Lawful}
use Rattle.runs.specs.Runs.{Parts, Run}
use Rattle.runs.specs.Questions.{step_refused}
use Rattle.runs.specs.Steps.{Step, step}
use Rattle.hub.specs.Boards.{Board, enough as has_cells}
use Rattle.hub.specs.Deals.{values_after, handles_after}
use Rattle.machine.specs.Memory.{seen_run, memory_of}
use Rattle.calls.specs.declared.call.Cells.{Cells}
use Rattle.calls.specs.declared.call.Call.{Call}
use Rattle.calls.specs.declared.call.Call.TheVariants.{Step as Stepping}
use Rattle.calls.specs.declared.answer.Answer.{Answer}
use Rattle.calls.specs.Calls.{Played, begun, enough, answered, answers, after_calls}
use Rattle.calls.specs.Laws.{LawsHold}

-- the memory of a run, and the cells of both kinds
pub record Kept : Type 0 where
  pub memory : Parts Board
  pub values : List Value
  pub handles : List Handle

-- the run that it stands for
abbrev pub seen : Kept → Run
seen k = seen_run k.memory k.values k.handles

abbrev pub played : Kept → Meaning → Played
played k m = record { run = seen k; meaning = m }

-- ---- what calls leave of memory and of the cells, made of that run
abbrev pub stepped : Step → Kept → Kept
stepped s k = record {
  memory = memory_of s k.memory;
  values = values_after k.memory.hub.ports s.drawn s.stored k.values;
  handles = handles_after k.memory.hub.ports s.drawn s.stored k.handles;
}

-- only a step that is granted changes anything
abbrev pub is_granted : Cells → Played → Bool
is_granted cells at = is_none (step_refused (enough cells) at.run.over)

abbrev pub kept_by : Program → Played → Call → Kept → Kept
kept_by p at (Stepping cells) k = cond (is_granted cells at) (stepped (step p at.run at.meaning) k) k
kept_by p at _ k = k

abbrev pub kept_after : Program → Played → List Call → Kept → Kept
kept_after p at [] k = k
kept_after p at (c ∷ cs) k = kept_after p (answered p at c).after cs (kept_by p at c k)

-- what the calls of two lists leave, one after the other, is what the list of both leaves
abbrev pub KeptFollow : Type 0
KeptFollow = (p : Program) (at : Played) (xs ys : List Call) (k : Kept)
    → kept_after p at (xs ++ ys) k ≡ kept_after p (after_calls p at xs) ys (kept_after p at xs k)

-- a call that was made
pub record Made (p : Program) (c : Call) (old : Kept) (m : Meaning) (a : Answer) (new : Kept) (m' : Meaning) : Type 0 where
  pub answer : a ≡ (answered p (played old m) c).answer
  pub left : new ≡ kept_by p (played old m) c old
  pub run : played new m' ≡ (answered p (played old m) c).after

-- a list of calls that was made
pub record Carried (p : Program) (calls : List Call) (old : Kept) (m : Meaning) (items : List Answer) (new : Kept) (m' : Meaning) (items' : List Answer) : Type 0 where
  pub answers : items' ≡ items ++ answers p (played old m) calls
  pub left : new ≡ kept_after p (played old m) calls old
  pub run : played new m' ≡ after_calls p (played old m) calls

-- The calls are carried out in order. Nothing is done where there are too few cells, or no room for the answers.
abbrev pub may_begin : List Value → List Handle → ℕ → List Call → Bool
may_begin vs hs room calls = has_cells vs hs && nat_le (length calls) room

pub record CarriedOut (p : Program) (may : Bool) (calls : List Call) (old : Kept) (m : Meaning) (items : List Answer) (result : Result (Unit {0}) Refusal) (new : Kept) (m' : Meaning) (items' : List Answer) : Type 0 where
  pub answer : result ≡ cond may (Ok tt) (Err Small)
  pub answers : items' ≡ items ++ cond may (answers p (played old m) calls) []
  pub left : new ≡ cond may (kept_after p (played old m) calls old) old
  pub run : played new m' ≡ cond may (after_calls p (played old m) calls) (played old m)

-- Whatever calls led from the start to this run: the laws hold now, and after each of these calls, of all the answers given since
-- the start, with any picker that kept its laws then.
abbrev pub LawsFromStart : Program → Played → List Call → Type 0
LawsFromStart p at calls = (m : Meaning) → Lawful m → (earlier : List Call) → after_calls p (begun p m) earlier ≡ at
    → (done rest : List Call) → calls ≡ done ++ rest
    → LawsHold p (answers p (begun p m) earlier ++ answers p at done) (after_calls p at done)
