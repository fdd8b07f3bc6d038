-- What each call answers, and a list of calls.
use Rattle.std.specs.Prelude.{Bool, List, Some, None, Option, [], ◌∷◌, Ok, Err, Result}
use Rattle.words.specs.declared.refusal.Refusal.{Refusal}
use Rattle.linking.specs.Programs.{Program}
use Rattle.pickers.specs.Meaning.{Meaning}
use Rattle.runs.specs.Runs.{Run, started}
use Rattle.runs.specs.Questions.{step_refused, routine_question, channel_question, element_question}
use Rattle.runs.specs.Steps.{Step, step}
use Rattle.hub.specs.Boards.{enough_of}
use Rattle.calls.specs.declared.call.Cells.{Cells}
use Rattle.calls.specs.declared.call.Call.{Call}
use Rattle.calls.specs.declared.call.Call.TheVariants as call
use Rattle.calls.specs.declared.answer.Answer.{Answer}
use Rattle.calls.specs.declared.answer.Answer.TheVariants as answer

-- a step and an element need 512 value cells and 128 handle cells
abbrev pub enough : Cells → Bool
enough c = enough_of c.values c.handles

-- a run, and what its picker means then
pub record Played : Type 0 where
  pub run : Run
  pub meaning : Meaning

abbrev pub begun : Program → Meaning → Played
begun p m = record { run = started p; meaning = m }

-- what a call answers, and the run afterwards
pub record Answered : Type 0 where
  pub answer : Answer
  pub after : Played

-- what is told or refused leaves the run as it is
abbrev pub told : {A : Type 0} → (A → Answer) → Result A Refusal → Answer
told f (Ok a) = f a
told f (Err why) = answer.Refused why

abbrev pub tells : {A : Type 0} → (A → Answer) → Result A Refusal → Played → Answered
tells f r at = record { answer = told f r; after = at }

-- a step that is granted
abbrev pub granted : Step → Answered
granted t = record { answer = answer.Report t.report; after = record { run = t.run; meaning = t.meaning } }

abbrev pub stepping : Program → Played → Option Refusal → Answered
stepping p at (Some why) = tells answer.Report (Err why) at
stepping p at None = granted (step p at.run at.meaning)

abbrev pub answered : Program → Played → Call → Answered
answered p at (call.Step cells) = stepping p at (step_refused (enough cells) at.run.over)
answered p at (call.Routine r) = tells answer.Routine (routine_question p at.run r) at
answered p at (call.Channel c) = tells answer.Channel (channel_question at.run.hub c) at
answered p at (call.Element c i cells) = tells answer.Element (element_question at.run.hub c i (enough cells)) at

-- a list of calls, in order: the answers, and the run afterwards
abbrev pub answers : Program → Played → List Call → List Answer
answers p at [] = []
answers p at (c ∷ cs) = (answered p at c).answer ∷ answers p (answered p at c).after cs

abbrev pub after_calls : Program → Played → List Call → Played
after_calls p at [] = at
after_calls p at (c ∷ cs) = after_calls p (answered p at c).after cs
