-- What memory keeps of the channels of a run, and what it stands for with the cells of both kinds.
use Rattle.std.specs.Prelude.{sum_by, ◌≡◌, ℕ, ◌+◌, ◌≤◌, Bool, false, List, [], ◌∷◌, map, length, replicate, ◌&&◌, ◌||◌, nat_le, nat_lt}
use Rattle.lines.specs.declared.line.Kind.{Kind}
use Rattle.lines.specs.declared.line.Kind.TheVariants.{Value as ValueKind, Handle as HandleKind}
use Rattle.elements.specs.declared.value.Value.{Value as Number}
use Rattle.elements.specs.declared.handle.Handle.{Handle as Holder}
use Rattle.rings.specs.Layouts.{Layout, Sound, fresh, held}
use Rattle.waiting.specs.Queues.{Row}
use Rattle.channels.specs.declared.channel.Channel.{Channel}
use Rattle.linking.specs.declared.declared.Declared.{Declared}
use Rattle.linking.specs.Sound.{cells_for}
use Rattle.routines.specs.declared.item.Item.{Item}
use Rattle.routines.specs.declared.item.Item.TheVariants.{Value, Handle}
use Rattle.runs.specs.Runs.{Hub, Channel as Told}
use Rattle.hub.specs.declared.port.Port.{Port}

-- the channels by their numbers, and who waits at them
pub record Board : Type 0 where
  pub ports : List Port
  pub line : List ℕ
  pub wishes : List (Row Item)

-- both kinds have all cells that a script can need
pub record Enough (vs : List Number) (hs : List Holder) : Type 0 where
  pub values : 512 ≤ length vs
  pub handles : 128 ≤ length hs

-- whether so many cells of each kind are
abbrev pub enough_of : ℕ → ℕ → Bool
enough_of v h = nat_le 512 v && nat_le 128 h

abbrev pub enough : List Number → List Holder → Bool
enough vs hs = enough_of (length vs) (length hs)

abbrev pub cells_of : Kind → ℕ
cells_of ValueKind = 512
cells_of HandleKind = 128

-- ---- what it stands for: each buffer is read from the cells of its kind, oldest first
abbrev pub buffered : Kind → Layout → List Number → List Holder → List Item
buffered ValueKind l vs hs = map Value (held l vs)
buffered HandleKind l vs hs = map Handle (held l hs)

abbrev pub seen_port : List Number → List Holder → Port → Told
seen_port vs hs p = record { kind = p.kind; capacity = p.channel.ring.capacity; closed = p.channel.closed; buffer = buffered p.kind p.channel.ring vs hs }

abbrev pub seen : Board → List Number → List Holder → Hub
seen b vs hs = record { channels = map (seen_port vs hs) b.ports; line = b.line; wishes = b.wishes }

-- ---- what a channel is ready for with nobody waiting: it is closed, or has room, or an element
abbrev pub has_room : Channel → Bool
has_room c = c.closed || nat_lt c.ring.count c.ring.capacity

abbrev pub has_some : Channel → Bool
has_some c = c.closed || nat_lt 0 c.ring.count

-- ---- where the channels lie
-- a channel, the cells of values and of handles before it being v and h
abbrev pub base_for : Kind → ℕ → ℕ → ℕ
base_for ValueKind v h = v
base_for HandleKind v h = h

abbrev pub new_port : ℕ → ℕ → ℕ → Declared → Port
new_port c v h d = record { kind = d.kind; channel = record { number = c; ring = fresh (base_for d.kind v h) d.capacity; closed = false } }

-- from channel c on: the cells of each begin after the capacities of the earlier channels of its kind
abbrev pub laid : ℕ → ℕ → ℕ → List Declared → List Port
laid c v h [] = []
laid c v h (d ∷ ds) = new_port c v h d ∷ laid (c + 1) (v + cells_for ValueKind d) (h + cells_for HandleKind d) ds

-- whether all of them lie in the cells that there are
abbrev pub can_be_laid : ℕ → ℕ → ℕ → List Declared → Bool
can_be_laid c v h [] = nat_le c 32 && (nat_le v 512 && nat_le h 128)
can_be_laid c v h (d ∷ ds) = nat_le d.capacity 64 && can_be_laid (c + 1) (v + cells_for ValueKind d) (h + cells_for HandleKind d) ds

abbrev pub new_board : List Declared → Board
new_board ds = record { ports = laid 0 0 0 ds; line = []; wishes = replicate 64 [] }

-- ---- what holds of every board: there are 32 channels at most, each has its number, its cells follow those of the earlier
-- ones, and all of a kind together have no more than there are
abbrev pub declared : Port → Declared
declared p = record { kind = p.kind; capacity = p.channel.ring.capacity }

-- how many cells of kind k the channels have together
abbrev pub cells : Kind → List Port → ℕ
cells k ps = sum_by (λ p. cells_for k (declared p)) ps

abbrev pub Placed : ℕ → ℕ → ℕ → List Port → Type 0
Placed c v h [] = (c ≤ 32) × (v ≤ 512) × (h ≤ 128)
Placed c v h (p ∷ ps) =
    (p.channel.number ≡ c) × (p.channel.ring.base ≡ base_for p.kind v h) × Sound p.channel.ring
    × Placed (c + 1) (v + cells_for ValueKind (declared p)) (h + cells_for HandleKind (declared p)) ps
