-- What a taken case, a join and a close leave in memory.
use Rattle.std.specs.Prelude.{◌≡◌, ℕ, Bool, false, cond, ◌&&◌, List, [], ◌∷◌, ◌++◌, length, Some, None, Option, nat_lt, nat_le, not, Result, slice_index_or, slice_set}
use Rattle.lines.specs.declared.line.Kind.TheVariants.{Value as ValueKind}
use Rattle.elements.specs.declared.value.Value.{Value as Number}
use Rattle.elements.specs.declared.handle.Handle.{Handle as Holder}
use Rattle.rings.specs.Layouts.{Layout, fresh, next_cell, one_more, one_less}
use Rattle.waiting.specs.declared.wish.Wish.{Wish}
use Rattle.waiting.specs.declared.wish.Side.TheVariants.{Receivers, Senders}
use Rattle.waiting.specs.Queues.{Row, queue, written}
use Rattle.waiting.specs.declared.wish.Entry.{Entry}
use Rattle.channels.specs.Seen.{shut}
use Rattle.channels.specs.Closes.{freed, without_all}
use Rattle.routines.specs.declared.item.Item.{Item}
use Rattle.routines.specs.declared.item.Item.TheVariants.{Value, Handle}
use Rattle.words.specs.declared.refusal.Refusal.{Refusal}
use Rattle.runs.specs.declared.answer.ChannelAnswer.{ChannelAnswer}
use Rattle.runs.specs.Cases.{can_go, channel_of}
use Rattle.runs.specs.Questions.{if_there}
use Rattle.runs.specs.Taking.{Deal, take}
use Rattle.hub.specs.declared.port.Port.{Port}
use Rattle.hub.specs.declared.deal.Deal.{Deal as Answer}
use Rattle.hub.specs.Boards.{Board, seen, enough, Placed}
use Rattle.hub.specs.Ports.{told_of}

-- ---- one channel in memory
abbrev pub no_port : Port
no_port = record { kind = ValueKind; channel = record { number = 0; ring = fresh 0 0; closed = false } }

abbrev pub port : List Port → ℕ → Port
port ps c = slice_index_or ps c no_port

abbrev pub with_ring : ℕ → (Layout → Layout) → List Port → List Port
with_ring c f ps = slice_set ps c (record (port ps c) { channel = record (port ps c).channel { ring = f (port ps c).channel.ring } })

-- without the oldest element where one was drawn, and then with one more where one was stored
abbrev pub drawn_from : Option ℕ → List Port → List Port
drawn_from None ps = ps
drawn_from (Some c) ps = with_ring c one_less ps

abbrev pub stored_in : Option (ℕ × Item) → List Port → List Port
stored_in None ps = ps
stored_in (Some s) ps = with_ring s.0 one_more ps

-- the cell that a stored element is written in
abbrev pub cell_of : List Port → ℕ → ℕ
cell_of ps c = next_cell (port ps c).channel.ring

abbrev pub value_written : ℕ → Item → List Number → List Number
value_written i (Value e) vs = slice_set vs i e
value_written i (Handle e) vs = vs

abbrev pub handle_written : ℕ → Item → List Holder → List Holder
handle_written i (Value e) hs = hs
handle_written i (Handle e) hs = slice_set hs i e

-- the cells of both kinds after something was drawn and something was stored: one is written at the most
abbrev pub values_after : List Port → Option ℕ → Option (ℕ × Item) → List Number → List Number
values_after ps d None vs = vs
values_after ps d (Some s) vs = value_written (cell_of (drawn_from d ps) s.0) s.1 vs

abbrev pub handles_after : List Port → Option ℕ → Option (ℕ × Item) → List Holder → List Holder
handles_after ps d None hs = hs
handles_after ps d (Some s) hs = handle_written (cell_of (drawn_from d ps) s.0) s.1 hs

-- ---- a case is taken, where it can go
-- there are cells enough, there is such a channel, and the case can go
abbrev pub may_take : Board → List Number → List Holder → Wish Item → Bool
may_take b vs hs w = enough vs hs && (nat_lt (channel_of w) (length b.ports) && can_go (seen b vs hs) (Some w))

abbrev pub dealt : Board → List Number → List Holder → Wish Item → Deal
dealt b vs hs w = take (seen b vs hs) (Some w)

abbrev pub answer : Deal → Answer
answer d = record { passed = d.passed; released = d.released }

abbrev pub board_after : Deal → Board → Board
board_after d b = record { ports = stored_in d.stored (drawn_from d.drawn b.ports); line = d.hub.line; wishes = d.hub.wishes }

-- what is left of a board and the cells where t says whether a case may be taken, and d is its deal
pub record Took (t : Bool) (d : Deal) (b : Board) (vs : List Number) (hs : List Holder) (a : Option Answer) (after : Board) (us : List Number) (gs : List Holder) : Type 0 where
  pub answered : a ≡ cond t (Some (answer d)) None
  pub board : after ≡ cond t (board_after d b) b
  pub values : us ≡ cond t (values_after b.ports d.drawn d.stored vs) vs
  pub handles : gs ≡ cond t (handles_after b.ports d.drawn d.stored hs) hs
  pub seen : seen after us gs ≡ cond t d.hub (seen b vs hs)
  pub placed : Placed 0 0 0 after.ports

-- ---- a routine joins
abbrev pub board_joined : ℕ → Row Item → Board → Board
board_joined r ws b = record b { line = b.line ++ (r ∷ []); wishes = written r ws b.wishes }

-- ---- a channel is closed
abbrev pub shut_in : ℕ → List Port → List Port
shut_in c ps = slice_set ps c (record (port ps c) { channel = shut (port ps c).channel })

-- there is such a channel, it was not closed before, and there is room to note 64
abbrev pub may_close : ℕ → ℕ → Board → Bool
may_close c room b = nat_lt c (length b.ports) && (not (port b.ports c).channel.closed && nat_le 64 room)

-- who is released, in order
abbrev pub leaving_from : ℕ → Board → List (Entry Item)
leaving_from c b = freed c b.line b.wishes

abbrev pub board_closed : ℕ → Board → Board
board_closed c b = record b { ports = shut_in c b.ports; line = without_all (leaving_from c b) b.line }

-- ---- how a channel stands
abbrev pub channel_answer : Board → ℕ → Result ChannelAnswer Refusal
channel_answer b c = if_there (nat_lt c (length b.ports)) (told_of (port b.ports c) (length (queue Receivers c b.line b.wishes)) (length (queue Senders c b.line b.wishes)))
