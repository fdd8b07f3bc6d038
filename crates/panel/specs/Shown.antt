-- What is printed of the answers to questions.
use Rattle.std.specs.Prelude.{ℕ, Bool, true, false, List, ◌++◌, Some, None, Option, codes}
use Rattle.std.specs.List.{flat_map}
use Rattle.std.specs.Fmt.{decimal, signed_decimal}
use Rattle.elements.specs.declared.value.Value.{Value}
use Rattle.elements.specs.declared.handle.Handle.{Handle}
use Rattle.elements.specs.Codes.{handle_number}
use Rattle.lines.specs.declared.line.Kind.{Kind}
use Rattle.lines.specs.declared.line.Kind.TheVariants as kind
use Rattle.routines.specs.States.{state_word}
use Rattle.runs.specs.declared.answer.RoutineAnswer.{RoutineAnswer}
use Rattle.runs.specs.declared.answer.ChannelAnswer.{ChannelAnswer}

abbrev pub kind_word : Kind → List ℕ
kind_word kind.Value = codes "value"
kind_word kind.Handle = codes "handle"

abbrev pub closed_word : Bool → List ℕ
closed_word true = codes "closed"
closed_word false = codes "open"

-- the channel's number, or nil
abbrev pub numbered : Option ℕ → List ℕ
numbered None = codes "nil"
numbered (Some c) = decimal c

-- registers, each behind a space
abbrev pub show_value : Value → List ℕ
show_value v = codes " " ++ signed_decimal v.number

abbrev pub show_handle : Handle → List ℕ
show_handle h = codes " " ++ numbered (handle_number h)

-- state, line, values and handles
abbrev pub show_routine : RoutineAnswer → List ℕ
show_routine x =
    codes "ro " ++ (state_word x.state ++ (codes " " ++ (decimal x.line ++ (flat_map show_value x.values ++ flat_map show_handle x.handles))))

-- kind, capacity, count, whether it is closed, receivers and senders
abbrev pub show_channel : ChannelAnswer → List ℕ
show_channel x =
    codes "ch " ++ (kind_word x.kind ++ (codes " " ++ (decimal x.capacity ++ (codes " " ++ (decimal x.count ++ (codes " " ++ (closed_word x.closed ++ (codes " " ++ (decimal x.receivers ++ (codes " " ++ decimal x.senders))))))))))
