-- One channel of a board, and what a change of it alone leaves.
use Rattle.std.proofs.Common.{◌≡◌, ℕ, ◌+◌, ◌-◌, ◌<◌, ◌≤◌, true, List, length, map, get_or, set, sym, refl, ap, ◌∙◌, subst, arith}
use Rattle.std.proofs.lemmas.List.{set-get_or}
use Rattle.std.proofs.lemmas.Bool.Decides.{nat_tests}
use Rattle.lines.specs.declared.line.Kind.{Kind}
use Rattle.lines.specs.declared.line.Kind.TheVariants.{Value as ValueKind, Handle as HandleKind}
use Rattle.elements.specs.declared.value.Value.{Value as Number}
use Rattle.elements.specs.declared.handle.Handle.{Handle as Holder}
use Rattle.rings.specs.Layouts.{Layout, next_cell}
use Rattle.rings.specs.Laws.{Apart}
use Rattle.waiting.specs.Lines.{State}
use Rattle.waiting.specs.Queues.{first}
use Rattle.routines.specs.declared.item.Item.{Item}
use Rattle.routines.specs.Items.{as_kind}
use Rattle.runs.specs.Runs.{with_buffer}
use Rattle.hub.specs.declared.port.Port.{Port}
use Rattle.hub.specs.Boards.{cells_of, Board, Enough, buffered, seen_port, seen, Placed}
use Rattle.hub.specs.Ports.{there}
use Rattle.hub.specs.Deals.{no_port, port, value_written, handle_written}
use Rattle.hub.proofs.Boards.{Stands, stands, placed_set, seen_set, apart, written_alone, channel_seen}

pub covered : (k : Kind) (l : Layout) (vs : List Number) (hs : List Holder) → l.base + l.capacity ≤ cells_of k → Enough vs hs → there k l vs hs ≡ true
covered ValueKind l vs hs f e = let m = e.values in grind (arith, nat_tests)
covered HandleKind l vs hs f e = let m = e.handles in grind (arith, nat_tests)

-- channel c of a board, which is there
module _ (vs : List Number) (hs : List Holder) (b : Board) (c : ℕ) (k : Placed 0 0 0 b.ports) (n : Enough vs hs) (i : c < length b.ports) where
  abbrev pub here : Port
  here = port b.ports c

  abbrev pub state : State Item
  state = record { line = b.line; table = b.wishes }

  pub at : Stands c here
  at = subst (λ m. Stands m here) (omega arith) (stands 0 0 0 b.ports c no_port k i)

  -- ---- nothing has changed
  pub same_ports : set b.ports c here ≡ b.ports
  same_ports = set-get_or b.ports c no_port

  pub still_placed : Placed 0 0 0 (set b.ports c here)
  still_placed = subst (Placed 0 0 0) (sym same_ports) k

  pub seen_same : (line : List ℕ) (us : List Number) (gs : List Holder) → us ≡ vs → gs ≡ hs
      → seen (record { ports = set b.ports c here; line = line; wishes = b.wishes }) us gs ≡ record (seen b vs hs) { line = line }
  seen_same line us gs p q = rw (p, q, same_ports) refl

  -- ---- its ring has turned, and nothing else of it has changed
  abbrev pub turned : ℕ → ℕ → Port
  turned first count = record here { channel = record here.channel { ring = record { base = here.channel.ring.base; capacity = here.channel.ring.capacity; first = first; count = count } } }

  pub turned_placed : (first count : ℕ) → first ≤ here.channel.ring.capacity - 1 → count ≤ here.channel.ring.capacity → Placed 0 0 0 (set b.ports c (turned first count))
  turned_placed f m within counted = placed_set 0 0 0 b.ports c (turned f m) no_port k (record {
    number = refl;
    kind = refl;
    base = refl;
    capacity = refl;
    sound = record { inside = at.sound.inside; small = at.sound.small; within = within; counted = counted };
  })

  -- the others have the elements that they had
  abbrev pub Others : List Number → List Holder → Type 0
  Others us gs = (m : ℕ) → m < length b.ports → (c ≡ m → ⊥) → seen_port us gs (get_or b.ports m no_port) ≡ seen_port vs hs (get_or b.ports m no_port)

  pub seen_turned : (first count : ℕ) (us : List Number) (gs : List Holder) (line : List ℕ) (items : List Item) → Others us gs → buffered here.kind (turned first count).channel.ring us gs ≡ items
      → seen (record { ports = set b.ports c (turned first count); line = line; wishes = b.wishes }) us gs ≡ record (with_buffer c items (seen b vs hs)) { line = line }
  seen_turned f m us gs line items others e =
      ap (λ x. record { channels = x; line = line; wishes = b.wishes })
      (seen_set vs us hs gs b.ports c (turned f m) no_port others ∙ ap (set (map (seen_port vs hs) b.ports) c) (rw (channel_seen vs hs b c) (ap (λ x. record (seen_port vs hs here) { buffer = x }) e)))

  pub others_written : (l : Layout) (e : Item) → l.base ≡ here.channel.ring.base → l.capacity ≡ here.channel.ring.capacity → l.count < l.capacity
      → Others (value_written (next_cell l) (as_kind here.kind e) vs) (handle_written (next_cell l) (as_kind here.kind e) hs)
  others_written l e base capacity room m j ne =
      let f = at.fits in
      let a : here.kind ≡ (get_or b.ports m no_port).kind → Apart l (get_or b.ports m no_port).channel.ring = λ same. rw (base, capacity) (apart 0 0 0 b.ports c m no_port k i j ne same) in
      ap (λ x. record (seen_port vs hs (get_or b.ports m no_port)) { buffer = x })
      (written_alone here.kind (get_or b.ports m no_port).kind l (get_or b.ports m no_port).channel.ring e vs hs a (omega arith) n room)
