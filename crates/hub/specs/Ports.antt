-- A channel of either kind: its elements are items, and its cells are those of its kind.
use Rattle.std.specs.Prelude.{ℕ, Bool, List, Some, None, Option, Ok, Err, Result}
use Rattle.lines.specs.declared.line.Kind.{Kind}
use Rattle.lines.specs.declared.line.Kind.TheVariants.{Value as ValueKind, Handle as HandleKind}
use Rattle.elements.specs.declared.value.Value.{Value as Number}
use Rattle.elements.specs.declared.handle.Handle.{Handle as Holder}
use Rattle.elements.specs.Codes.{value_zero, nil_handle}
use Rattle.rings.specs.Layouts.{Layout, covers, one_less}
use Rattle.waiting.specs.declared.wish.Entry.{Entry}
use Rattle.waiting.specs.declared.wish.Side.TheVariants.{Receivers, Senders}
use Rattle.waiting.specs.Lines.{State}
use Rattle.channels.specs.declared.channel.Sent.{Sent}
use Rattle.channels.specs.declared.errors.SendError.{SendError}
use Rattle.channels.specs.declared.channel.Sent.TheVariants.{Handed as To, Buffered}
use Rattle.channels.specs.declared.errors.SendError.TheVariants.{Closed}
use Rattle.channels.specs.declared.channel.Received.{Received}
use Rattle.channels.specs.declared.channel.Received.TheVariants.{Taken, Handed, Drained}
use Rattle.channels.specs.declared.errors.ReceiveError.{ReceiveError}
use Rattle.channels.specs.Seen.{Told, queued}
use Rattle.channels.specs.Rules.{cells_sent}
use Rattle.channels.specs.Receives.{cells_filled}
use Rattle.routines.specs.declared.item.Item.{Item}
use Rattle.routines.specs.declared.item.Item.TheVariants.{Value}
use Rattle.routines.specs.declared.routine.Passed.TheVariants.{Sent as Passes, Received as Gets, Drained as Nothing, Broken}
use Rattle.routines.specs.declared.routine.Release.{Release}
use Rattle.routines.specs.Items.{as_value, as_handle, as_kind}
use Rattle.runs.specs.declared.answer.ChannelAnswer.{ChannelAnswer}
use Rattle.runs.specs.Taking.{offer, released_by}
use Rattle.hub.specs.declared.port.Port.{Port}
use Rattle.hub.specs.declared.deal.Deal.{Deal as Answer}
use Rattle.hub.specs.Boards.{buffered}

abbrev pub there : Kind → Layout → List Number → List Holder → Bool
there ValueKind l vs hs = covers l vs
there HandleKind l vs hs = covers l hs

-- the channel in its own words, with the cells of both kinds and who waits
abbrev pub seen_in : Port → List Number → List Holder → State Item → Told Item Item
seen_in p vs hs st = record {
  there = there p.kind p.channel.ring vs hs;
  capacity = p.channel.ring.capacity;
  closed = p.channel.closed;
  buffer = buffered p.kind p.channel.ring vs hs;
  receivers = queued Receivers p.channel st;
  senders = queued Senders p.channel st;
}

-- how it stands, with so many entries in its two queues
abbrev pub told_of : Port → ℕ → ℕ → ChannelAnswer
told_of p receivers senders = record {
  kind = p.kind;
  capacity = p.channel.ring.capacity;
  count = p.channel.ring.count;
  closed = p.channel.closed;
  receivers = receivers;
  senders = senders;
}

abbrev pub zero_of : Kind → Item
zero_of k = as_kind k (Value value_zero)

-- what a receive came by, its element as an item
abbrev pub as_item : {E : Type 0} → (E → Item) → Result (Received E Item) ReceiveError → Result (Received Item Item) ReceiveError
as_item f (Ok (Taken e s)) = Ok (Taken (f e) s)
as_item f (Ok (Handed e w)) = Ok (Handed (f e) w)
as_item f (Ok Drained) = Ok Drained
as_item f (Err why) = Err why

-- the cells of both kinds after a send and after a receive
abbrev pub values_sent : Kind → Result (Sent Item) SendError → Layout → Item → List Number → List Number
values_sent ValueKind r l e vs = cells_sent r l (as_value e) vs
values_sent HandleKind r l e vs = vs

abbrev pub handles_sent : Kind → Result (Sent Item) SendError → Layout → Item → List Holder → List Holder
handles_sent ValueKind r l e hs = hs
handles_sent HandleKind r l e hs = cells_sent r l (as_handle e) hs

-- the sender whose element came into the buffer, if one's did
abbrev pub refilled : Result (Received Item Item) ReceiveError → Option (Entry Item)
refilled (Ok (Taken e s)) = s
refilled (Ok (Handed e w)) = None
refilled (Ok Drained) = None
refilled (Err why) = None

abbrev pub values_got : Kind → Result (Received Item Item) ReceiveError → Layout → List Number → List Number
values_got ValueKind r l vs = cells_filled as_value value_zero (refilled r) (one_less l) vs
values_got HandleKind r l vs = vs

abbrev pub handles_got : Kind → Result (Received Item Item) ReceiveError → Layout → List Holder → List Holder
handles_got ValueKind r l hs = hs
handles_got HandleKind r l hs = cells_filled as_handle nil_handle (refilled r) (one_less l) hs

-- ---- what taking a case does to routines, c being the channel; nothing where the case cannot go
abbrev pub sent_answer : ℕ → Item → Result (Sent Item) SendError → Option Answer
sent_answer c e (Ok (To w)) = Some (record { passed = Passes c e; released = Some (released_by w (Gets c e)) })
sent_answer c e (Ok Buffered) = Some (record { passed = Passes c e; released = None })
sent_answer c e (Err Closed) = Some (record { passed = Broken; released = None })
sent_answer c e (Err _) = None

abbrev pub sender_released : Kind → ℕ → Option (Entry Item) → Option Release
sender_released k c None = None
sender_released k c (Some w) = Some (released_by w (Passes c (as_kind k (offer w.wish))))

abbrev pub got_answer : Kind → ℕ → Result (Received Item Item) ReceiveError → Option Answer
got_answer k c (Ok (Taken e s)) = Some (record { passed = Gets c e; released = sender_released k c s })
got_answer k c (Ok (Handed e w)) = Some (record { passed = Gets c e; released = sender_released k c (Some w) })
got_answer k c (Ok Drained) = Some (record { passed = Nothing c; released = None })
got_answer k c (Err why) = None
