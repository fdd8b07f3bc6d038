-- The cases of a line, and which of them can go.
use Rattle.std.specs.Prelude.{ℕ, ◌+◌, ◌*◌, Bool, true, false, cond, ◌||◌, List, [], ◌∷◌, map, length, take, Some, None, Option, nat_lt}
use Rattle.std.specs.List.{slice_get}
use Rattle.std.specs.Option.{option_map}
use Rattle.lines.specs.declared.line.Kind.{Kind}
use Rattle.lines.specs.declared.line.Kind.TheVariants.{Value as ValueKind, Handle as HandleKind}
use Rattle.lines.specs.declared.line.Operand.{Operand}
use Rattle.lines.specs.declared.line.Operand.TheVariants.{Named, Held}
use Rattle.elements.specs.Codes.{handle_number}
use Rattle.linking.specs.declared.operation.Operation.{Operation}
use Rattle.linking.specs.declared.operation.Operation.TheVariants.{Alone, Select, Case, Default}
use Rattle.linking.specs.declared.operation.Exchange.{Exchange}
use Rattle.linking.specs.declared.operation.Exchange.TheVariants.{Send, Receive, SendHandle, ReceiveHandle}
use Rattle.channels.specs.Settled.{some}
use Rattle.waiting.specs.declared.wish.Wish.{Wish}
use Rattle.waiting.specs.declared.wish.Wish.TheVariants as wish
use Rattle.waiting.specs.declared.wish.Side.TheVariants.{Receivers, Senders}
use Rattle.waiting.specs.Queues.{Row}
use Rattle.routines.specs.declared.item.Item.{Item}
use Rattle.routines.specs.declared.item.Item.TheVariants.{Value, Handle}
use Rattle.routines.specs.declared.routine.Routine.{Routine}
use Rattle.routines.specs.Registers.{value_at, handle_at}
use Rattle.runs.specs.Runs.{Channel, Hub, channel, queued}

-- ---- the cases of a line
-- a case: what it exchanges, or nothing where it is the default, and the line that it goes on to
pub record Branch : Type 0 where
  pub exchange : Option (Exchange ℕ)
  pub target : ℕ

abbrev pub branch : Operation → Branch
branch (Case e t) = record { exchange = Some e; target = t }
branch (Default t) = record { exchange = None; target = t }
branch _ = record { exchange = None; target = 0 }

-- the cases at an operation, line i of a body, before the operations rest: an exchange alone is a select of one case
abbrev pub branches_of : Operation → ℕ → List Operation → List Branch
branches_of (Alone e) i rest = record { exchange = Some e; target = i + 1 } ∷ []
branches_of (Select n) i rest = map branch (take n rest)
branches_of _ i rest = []

-- ---- which channel is meant
abbrev pub is_value : Kind → Bool
is_value ValueKind = true
is_value HandleKind = false

abbrev pub carries_values : Option Channel → Bool
carries_values None = false
carries_values (Some c) = is_value c.kind

-- a handle that names no value channel acts as nil
abbrev pub meant : List Channel → Option ℕ → Option ℕ
meant cs None = None
meant cs (Some c) = cond (carries_values (slice_get cs c)) (Some c) None

abbrev pub channel_for : List Channel → Routine → Operand ℕ → Option ℕ
channel_for cs x (Named c) = Some c
channel_for cs x (Held h) = meant cs (handle_number (handle_at x h))

-- ---- what a case waits for: on a nil channel for nothing, and so does the default
abbrev pub wish_of : List Channel → Routine → Option (Exchange ℕ) → Option (Wish Item)
wish_of cs x None = None
wish_of cs x (Some (Send o v)) = option_map (λ c. wish.Send c (Value (value_at x v))) (channel_for cs x o)
wish_of cs x (Some (Receive o v w)) = option_map wish.Receive (channel_for cs x o)
wish_of cs x (Some (SendHandle c h)) = Some (wish.Send c (Handle (handle_at x h)))
wish_of cs x (Some (ReceiveHandle c h w)) = Some (wish.Receive c)

abbrev pub wishes_of : List Channel → Routine → List Branch → Row Item
wishes_of cs x bs = map (λ b. wish_of cs x b.exchange) bs

-- ---- when a case can go: its channel is closed, or has room or an element, or another routine waits on the other side.
-- The routine whose turn it is does not wait, so whoever waits is another.
abbrev pub channel_of : Wish Item → ℕ
channel_of (wish.Send c e) = c
channel_of (wish.Receive c) = c

abbrev pub can_go : Hub → Option (Wish Item) → Bool
can_go h None = false
can_go h (Some (wish.Send c e)) = (channel h c).closed || (nat_lt (length (channel h c).buffer) (channel h c).capacity || some (queued h Receivers c))
can_go h (Some (wish.Receive c)) = (channel h c).closed || (some (channel h c).buffer || some (queued h Senders c))

-- the ready set, as a number: its binary digit k is 1 where case k can go
abbrev pub ready_set : Hub → Row Item → ℕ
ready_set h [] = 0
ready_set h (w ∷ ws) = cond (can_go h w) 1 0 + 2 * ready_set h ws

-- the number and the target of the default, the cases being numbered from k on
abbrev pub or_default : Option (Exchange ℕ) → ℕ × ℕ → Option (ℕ × ℕ) → Option (ℕ × ℕ)
or_default None here later = Some here
or_default (Some e) here later = later

abbrev pub default_from : ℕ → List Branch → Option (ℕ × ℕ)
default_from k [] = None
default_from k (b ∷ bs) = or_default b.exchange (k, b.target) (default_from (k + 1) bs)
