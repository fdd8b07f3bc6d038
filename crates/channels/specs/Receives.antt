-- Taking a receive.
use Rattle.std.specs.Prelude.{Bool, cond, List, [], ◌∷◌, ◌++◌, drop, Some, None, Option, Ok, Err, Result, slice_set}
use Rattle.waiting.specs.declared.wish.Entry.{Entry}
use Rattle.waiting.specs.Lines.{State}
use Rattle.waiting.specs.Queues.{first, without, released}
use Rattle.rings.specs.Layouts.{Layout, next_cell, one_more, one_less}
use Rattle.channels.specs.declared.channel.Received.{Received}
use Rattle.channels.specs.declared.channel.Received.TheVariants.{Taken, Handed, Drained}
use Rattle.channels.specs.declared.errors.ReceiveError.{ReceiveError}
use Rattle.channels.specs.declared.errors.ReceiveError.TheVariants.{ShortBank, Empty}
use Rattle.channels.specs.declared.channel.Channel.{Channel}
use Rattle.channels.specs.Seen.{Told}
use Rattle.channels.specs.Rules.{offered, parted}

-- with an empty buffer: the first queued sender's element, or nothing
abbrev pub got_from : {E X : Type 0} → (X → E) → E → Option (Entry X) → Bool → Result (Received E X) ReceiveError
got_from f z (Some w) closed = Ok (Handed (offered f z w) w)
got_from f z None closed = cond closed (Ok Drained) (Err Empty)

-- the oldest buffered element, and then the first queued sender's element is buffered
abbrev pub got_in : {E X : Type 0} → (X → E) → E → List E → Option (Entry X) → Bool → Result (Received E X) ReceiveError
got_in f z [] sender closed = got_from f z sender closed
got_in f z (e ∷ es) sender closed = Ok (Taken e sender)

abbrev pub got : {E X : Type 0} → (X → E) → E → Told E X → Result (Received E X) ReceiveError
got f z c = cond c.there (got_in f z c.buffer (first c.senders) c.closed) (Err ShortBank)

-- the channel when the first queued sender's element, if there is one, has come into its buffer
abbrev pub after_filled : {E X : Type 0} → (X → E) → E → Option (Entry X) → Told E X → Told E X
after_filled f z None c = c
after_filled f z (Some w) c = parted w.routine (record c { buffer = c.buffer ++ (offered f z w ∷ []) })

abbrev pub after_got : {E X : Type 0} → (X → E) → E → Result (Received E X) ReceiveError → Told E X → Told E X
after_got f z (Ok (Taken e sender)) c = after_filled f z sender (record c { buffer = drop 1 c.buffer })
after_got f z (Ok (Handed e w)) c = parted w.routine c
after_got f z (Ok Drained) c = c
after_got f z (Err why) c = c

abbrev pub line_got : {E X : Type 0} → Result (Received E X) ReceiveError → State X → State X
line_got (Ok (Taken e sender)) st = record st { line = released sender st.line }
line_got (Ok (Handed e w)) st = record st { line = without w.routine st.line }
line_got (Ok Drained) st = st
line_got (Err why) st = st

-- one cell is written where a queued sender's element was buffered
abbrev pub cells_filled : {E X : Type 0} → (X → E) → E → Option (Entry X) → Layout → List E → List E
cells_filled f z None l bank = bank
cells_filled f z (Some w) l bank = slice_set bank (next_cell l) (offered f z w)

abbrev pub cells_got : {E X : Type 0} → (X → E) → E → Result (Received E X) ReceiveError → Layout → List E → List E
cells_got f z (Ok (Taken e sender)) l bank = cells_filled f z sender (one_less l) bank
cells_got f z (Ok (Handed e w)) l bank = bank
cells_got f z (Ok Drained) l bank = bank
cells_got f z (Err why) l bank = bank

-- its ring has one element less, and one more where a queued sender's element was buffered
abbrev pub laid_filled : {X : Type 0} → Option (Entry X) → Channel → Channel
laid_filled None c = c
laid_filled (Some w) c = record c { ring = one_more c.ring }

abbrev pub laid_got : {E X : Type 0} → Result (Received E X) ReceiveError → Channel → Channel
laid_got (Ok (Taken e sender)) c = laid_filled sender (record c { ring = one_less c.ring })
laid_got (Ok (Handed e w)) c = c
laid_got (Ok Drained) c = c
laid_got (Err why) c = c
