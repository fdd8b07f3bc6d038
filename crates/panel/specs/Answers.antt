-- What the calls of an input answer.
use Rattle.std.specs.Prelude.{ℕ, List, Ok, Err, Result}
use Rattle.words.specs.declared.refusal.Fault.{Fault}
use Rattle.script.specs.Texts.{pieces}
use Rattle.linking.specs.Programs.{Program}
use Rattle.loading.specs.Loads.{load_text}
use Rattle.pickers.specs.Turning.{fresh_turning}
use Rattle.calls.specs.declared.call.Call.{Call}
use Rattle.calls.specs.declared.answer.Answer.{Answer}
use Rattle.calls.specs.Calls.{begun, answers}
use Rattle.panel.specs.Forms.{script_part, calls_part, read_calls}

-- the program is started, on a new turning picker
abbrev pub program_answers : Program → List Call → List Answer
program_answers p calls = answers p (begun p fresh_turning) calls

-- the calls that were read, or their first fault
abbrev pub answer_read : Program → Result (List Call) Fault → Result (List Answer) Fault
answer_read p (Ok calls) = Ok (program_answers p calls)
answer_read p (Err f) = Err f

-- a fault of the script comes first
abbrev pub answer_loaded : Result Program Fault → Result (List Call) Fault → Result (List Answer) Fault
answer_loaded (Ok p) calls = answer_read p calls
answer_loaded (Err f) calls = Err f

-- of the whole input: the script, and the calls behind it
abbrev pub answer_text : List ℕ → Result (List Answer) Fault
answer_text t = answer_loaded (load_text (script_part t)) (read_calls 1 (pieces (calls_part t)))
