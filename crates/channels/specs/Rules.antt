-- The rules of a channel.
use Rattle.std.specs.Prelude.{ℕ, Bool, cond, List, [], ◌∷◌, ◌++◌, length, Some, None, Option, Ok, Err, Result, nat_lt, slice_set}
use Rattle.waiting.specs.declared.wish.Entry.{Entry}
use Rattle.waiting.specs.declared.wish.Wish.{Wish}
use Rattle.waiting.specs.declared.wish.Wish.TheVariants.{Send, Receive}
use Rattle.waiting.specs.Lines.{State}
use Rattle.waiting.specs.Queues.{first, without}
use Rattle.waiting.specs.Laws.{others}
use Rattle.rings.specs.Layouts.{Layout, next_cell, one_more}
use Rattle.channels.specs.declared.channel.Sent.{Sent}
use Rattle.channels.specs.declared.channel.Sent.TheVariants.{Handed, Buffered}
use Rattle.channels.specs.declared.errors.SendError.{SendError}
use Rattle.channels.specs.declared.errors.SendError.TheVariants.{ShortBank, Closed, Full}
use Rattle.channels.specs.declared.channel.Channel.{Channel}
use Rattle.channels.specs.Seen.{Told}

-- the first queued receiver gets the element; else it is buffered, if there is room
abbrev pub sent_to : {X : Type 0} → Option (Entry X) → Bool → Result (Sent X) SendError
sent_to (Some w) room = Ok (Handed w)
sent_to None room = cond room (Ok Buffered) (Err Full)

abbrev pub sent : {E X : Type 0} → Told E X → Result (Sent X) SendError
sent c = cond c.there (cond c.closed (Err Closed) (sent_to (first c.receivers) (nat_lt (length c.buffer) c.capacity))) (Err ShortBank)

-- the waiting line afterwards: who was served leaves every queue
abbrev pub line_sent : {X : Type 0} → Result (Sent X) SendError → State X → State X
line_sent (Ok (Handed w)) st = record st { line = without w.routine st.line }
line_sent (Ok Buffered) st = st
line_sent (Err why) st = st

-- the channel afterwards: who was served is in none of its queues, and the others keep their order
abbrev pub parted : {E X : Type 0} → ℕ → Told E X → Told E X
parted r c = record c { receivers = others r c.receivers; senders = others r c.senders }

abbrev pub after_sent : {E X : Type 0} → Result (Sent X) SendError → E → Told E X → Told E X
after_sent (Ok (Handed w)) e c = parted w.routine c
after_sent (Ok Buffered) e c = record c { buffer = c.buffer ++ (e ∷ []) }
after_sent (Err why) e c = c

-- the bank afterwards: one cell is written where the element was buffered
abbrev pub cells_sent : {E X : Type 0} → Result (Sent X) SendError → Layout → E → List E → List E
cells_sent (Ok (Handed w)) l e bank = bank
cells_sent (Ok Buffered) l e bank = slice_set bank (next_cell l) e
cells_sent (Err why) l e bank = bank

-- the channel as it lies afterwards: its ring has one element more where the element was buffered
abbrev pub laid_sent : {X : Type 0} → Result (Sent X) SendError → Channel → Channel
laid_sent (Ok (Handed w)) c = c
laid_sent (Ok Buffered) c = record c { ring = one_more c.ring }
laid_sent (Err why) c = c

-- the element that a case offers to send
abbrev pub offer : {E X : Type 0} → (X → E) → E → Wish X → E
offer f z (Send d x) = f x
offer f z (Receive d) = z

-- and a queued sender
abbrev pub offered : {E X : Type 0} → (X → E) → E → Entry X → E
offered f z w = offer f z w.wish
