-- The laws that hold at the start and after each call, over the answers given since the start.
use Rattle.std.specs.Prelude.{◌≡◌, ℕ, ◌<◌, ◌≤◌, true, false, ◌↔◌, List, [], ◌∷◌, ◌++◌, map, Ok, Err, Result}
use Rattle.std.specs.List.{flat_map, range_with_len}
use Rattle.words.specs.declared.refusal.Refusal.{Refusal}
use Rattle.linking.specs.Programs.{Program}
use Rattle.linking.specs.Sound.{Sound}
use Rattle.pickers.specs.Meaning.{Meaning, Lawful}
use Rattle.reports.specs.declared.report.Report.{Report}
use Rattle.routines.specs.declared.routine.State.TheVariants.{Waiting}
use Rattle.runs.specs.declared.answer.RoutineAnswer.{RoutineAnswer}
use Rattle.runs.specs.declared.answer.ChannelAnswer.{ChannelAnswer}
use Rattle.runs.specs.Runs.{Run, routine}
use Rattle.runs.specs.Questions.{routine_question, channel_question, element_question}
use Rattle.run_laws.specs.Elements.{accepted_on, received_on}
use Rattle.run_laws.specs.Moves.{Moved, due_in, all_moves, all_passed}
use Rattle.run_laws.specs.Waits.{a_stall, AllWait, CanGo, wish_at}
use Rattle.calls.specs.declared.call.Cells.{Cells}
use Rattle.calls.specs.declared.call.Call.{Call}
use Rattle.calls.specs.declared.call.Call.TheVariants as call
use Rattle.calls.specs.declared.answer.Answer.{Answer}
use Rattle.calls.specs.declared.answer.Answer.TheVariants as answer
use Rattle.calls.specs.Calls.{Played, begun, answered, answers, after_calls}

-- the reports among the answers
abbrev pub report_in : Answer → List Report
report_in (answer.Report t) = t ∷ []
report_in _ = []

abbrev pub reports_in : List Answer → List Report
reports_in given = flat_map report_in given

-- ---- what the questions tell
-- how many elements a channel buffers, and none where there is no such channel
abbrev pub count : Result ChannelAnswer Refusal → ℕ
count (Ok t) = t.count
count (Err why) = 0

abbrev pub code : Result ℕ Refusal → ℕ
code (Ok e) = e
code (Err why) = 0

-- the codes at the places below the count of channel c, the oldest first
abbrev pub buffer_told : Run → ℕ → List ℕ
buffer_told run c = map (λ i. code (element_question run.hub c i true)) (range_with_len 0 (count (channel_question run.hub c)))

-- the move that a routine was released with, while its turn is still to come
abbrev pub due_told : Result RoutineAnswer Refusal → List Moved
due_told (Ok t) = due_in t.state
due_told (Err why) = []

-- what the channel question tells of a channel that is guarded
pub record Guarded (t : ChannelAnswer) : Type 0 where
  pub few : t.count ≤ t.capacity
  pub receivers_wait : 0 < t.receivers → (t.closed ≡ false) × (t.count ≡ 0)
  pub senders_wait : 0 < t.senders → (t.closed ≡ false) × (t.count ≡ t.capacity)

-- ---- the laws, when these answers have been given and the run stands so
pub record LawsHold (p : Program) (given : List Answer) (at : Played) : Type 0 where
  -- a channel's accepted codes are its received ones, in order, and then what it buffers
  pub elements : (c : ℕ) → accepted_on c (reports_in given) ≡ received_on c (reports_in given) ++ buffer_told at.run c
  -- the moves naming a routine are those it reported passing by, in order, and then the one it was released with
  pub moves : (r : ℕ) → all_moves r (reports_in given) ≡ all_passed r (reports_in given) ++ due_told (routine_question p at.run r)
  -- a channel buffers at most its capacity; receivers wait only where it is open and empty, senders only where it is open and full
  pub channels : (c : ℕ) (t : ChannelAnswer) → channel_question at.run.hub c ≡ Ok t → Guarded t
  -- nobody waits who can go
  pub idle : (r k : ℕ) → (routine at.run r).state ≡ Waiting → CanGo p at.run r (wish_at p at.run r k) → ⊥
  -- a step that is granted next stalls just when all who live wait
  pub stalls : (cells : Cells) (t : Report) → (answered p at (call.Step cells)).answer ≡ answer.Report t → (a_stall t.event ≡ true) ↔ AllWait at.run

-- of every program that running can take and every picker that keeps its laws, after every list of calls
abbrev pub AlwaysLawful : Type 0
AlwaysLawful = (p : Program) → Sound p → (m : Meaning) → Lawful m → (calls : List Call)
    → LawsHold p (answers p (begun p m) calls) (after_calls p (begun p m) calls)

-- the calls of two lists, one after the other, answer what the list of both answers
abbrev pub CallsFollow : Type 0
CallsFollow = (p : Program) (at : Played) (xs ys : List Call)
    → (answers p at (xs ++ ys) ≡ answers p at xs ++ answers p (after_calls p at xs) ys) × (after_calls p at (xs ++ ys) ≡ after_calls p (after_calls p at xs) ys)
