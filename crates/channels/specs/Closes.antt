-- Closing.
use Rattle.std.specs.Prelude.{ℕ, Bool, cond, List, [], ◌∷◌, ◌++◌, Ok, Err, Result, nat_le}
use Rattle.waiting.specs.declared.wish.Entry.{Entry}
use Rattle.waiting.specs.declared.wish.Side.TheVariants.{Receivers, Senders}
use Rattle.waiting.specs.Lines.{State}
use Rattle.waiting.specs.Queues.{Row, queue, without}
use Rattle.waiting.specs.Laws.{others}
use Rattle.channels.specs.declared.channel.Channel.{Channel}
use Rattle.channels.specs.declared.errors.CloseError.{CloseError}
use Rattle.channels.specs.declared.errors.CloseError.TheVariants.{AlreadyClosed, NoRoom}

-- the receivers, and after them the senders
abbrev pub both : {X : Type 0} → ℕ → List ℕ → List (Row X) → List (Entry X)
both c line table = queue Receivers c line table ++ queue Senders c line table

-- of each routine the first entry met
abbrev pub firsts : {X : Type 0} → List (Entry X) → List (Entry X)
firsts [] = []
firsts (e ∷ es) = e ∷ others e.routine (firsts es)

-- who is released, in order
abbrev pub freed : {X : Type 0} → ℕ → List ℕ → List (Row X) → List (Entry X)
freed c line table = firsts (both c line table)

-- the line when these have left it
abbrev pub without_all : {X : Type 0} → List (Entry X) → List ℕ → List ℕ
without_all [] line = line
without_all (e ∷ es) line = without_all es (without e.routine line)

-- who leaves when a channel is closed, and the line without them
abbrev pub freed_at : {X : Type 0} → Channel → State X → List (Entry X)
freed_at c st = freed c.number st.line st.table

abbrev pub line_closed : {X : Type 0} → Channel → State X → State X
line_closed c st = record st { line = without_all (freed_at c st) st.line }

-- how many a close releases, where there is room to note so many
abbrev pub closing : Bool → ℕ → ℕ → Result ℕ CloseError
closing closed room n = cond closed (Err AlreadyClosed) (cond (nat_le 64 room) (Ok n) (Err NoRoom))
