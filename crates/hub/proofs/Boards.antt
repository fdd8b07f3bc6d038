-- What a board stands for, and a change of one channel of it.
use Rattle.std.proofs.Common.{◌≡◌, ℕ, zero, suc, ap₂, subst, ◌+◌, ◌<◌, ◌≤◌, ◌||◌, ltb, Ok, ⊎_elim, List, [], ◌∷◌, length, map, get_or, set, sym, refl, ap, ◌∙◌, inl, inr, arith}
use Rattle.std.proofs.Math.Bool.{or_assoc}
use Rattle.std.proofs.Math.ListN.{get_or-map}
use Rattle.std.proofs.lemmas.List.{get_or_past, length-map}
use Rattle.std.proofs.lemmas.List.Sums.{sum_by-cons}
use Rattle.std.proofs.lemmas.Bool.{cases_lt}
use Rattle.std.proofs.lemmas.Bool.Decides.{nat_tests}
use Rattle.lines.specs.declared.line.Kind.{Kind}
use Rattle.lines.specs.declared.line.Kind.TheVariants.{Value as ValueKind, Handle as HandleKind}
use Rattle.elements.specs.declared.value.Value.{Value as Number}
use Rattle.elements.specs.declared.handle.Handle.{Handle as Holder}
use Rattle.waiting.specs.declared.wish.Side.TheVariants.{Receivers, Senders}
use Rattle.waiting.specs.Queues.{queue}
use Rattle.rings.specs.Contents.{contents}
use Rattle.rings.specs.Layouts.{Layout, Sound, held, next_cell}
use Rattle.rings.specs.Answers.{put_answer}
use Rattle.rings.specs.Laws.{Apart}
use Rattle.rings.proofs.Holding.{length_held, held_most}
use Rattle.rings.proofs.Apart.{stays_apart}
use Rattle.linking.specs.declared.declared.Declared.{Declared}
use Rattle.linking.specs.Sound.{cells_for}
use Rattle.runs.specs.Runs.{channel, no_channel, queued}
use Rattle.channels.specs.Settled.{some}
use Rattle.hub.specs.declared.port.Port.{Port}
use Rattle.routines.specs.declared.item.Item.{Item}
use Rattle.routines.specs.declared.item.Item.TheVariants.{Value, Handle}
use Rattle.routines.specs.Items.{as_value, as_handle, as_kind}
use Rattle.hub.specs.Boards.{cells, cells_of, Board, Enough, buffered, has_room, has_some, seen_port, seen, base_for, declared, Placed}
use Rattle.hub.specs.Deals.{no_port, port, value_written, handle_written}

-- ---- a channel of what a board stands for
seen_none : (vs : List Number) (hs : List Holder) → seen_port vs hs no_port ≡ no_channel
unfolding contents
seen_none vs hs = refl

pub channel_seen : (vs : List Number) (hs : List Holder) (b : Board) (c : ℕ) → channel (seen b vs hs) c ≡ seen_port vs hs (port b.ports c)
channel_seen vs hs b c = rw (← seen_none vs hs) (get_or-map (seen_port vs hs) b.ports c no_port)

-- ---- where each channel lies
-- the channel at place n: its number is its place, and there are cells for it
pub record Stands (n : ℕ) (p : Port) : Type 0 where
  pub number : p.channel.number ≡ n
  pub sound : Sound p.channel.ring
  pub fits : p.channel.ring.base + p.channel.ring.capacity ≤ cells_of p.kind

pub ends : (c v h : ℕ) (ps : List Port) → Placed c v h ps → (c + length ps ≤ 32) × (v ≤ 512) × (h ≤ 128)
ends c v h [] k = (omega arith, k.1, k.2)
ends c v h (p ∷ ps) k =
    let r = ends (c + 1) (v + cells_for ValueKind (declared p)) (h + cells_for HandleKind (declared p)) ps k.3 in
    (omega arith, omega arith, omega arith)

fits_in : (k : Kind) (v h capacity : ℕ) → v + cells_for ValueKind (record { kind = k; capacity = capacity }) ≤ 512 → h + cells_for HandleKind (record { kind = k; capacity = capacity }) ≤ 128 → base_for k v h + capacity ≤ cells_of k
fits_in ValueKind v h n a b = a
fits_in HandleKind v h n a b = b

pub stands : (c v h : ℕ) (ps : List Port) (n : ℕ) (d : Port) → Placed c v h ps → n < length ps → Stands (c + n) (get_or ps n d)
stands c v h [] n d k l = absurd (omega arith)
stands c v h (p ∷ ps) zero d k l =
    let e = ends (c + 1) (v + cells_for ValueKind (declared p)) (h + cells_for HandleKind (declared p)) ps k.3 in
    let f = fits_in p.kind v h p.channel.ring.capacity e.1 e.2 in
    record { number = omega (arith, k.0); sound = k.2; fits = omega (arith, k.1, f) }
stands c v h (p ∷ ps) (suc n) d k l =
    let s = stands (c + 1) (v + cells_for ValueKind (declared p)) (h + cells_for HandleKind (declared p)) ps n d k.3 (omega arith) in
    record { number = omega (arith, s.number); sound = s.sound; fits = s.fits }

-- ---- channels of one kind have no cell in common
more_base : (k : Kind) (d : Kind) (v h capacity : ℕ) → base_for k v h ≤ base_for k (v + cells_for ValueKind (record { kind = d; capacity = capacity })) (h + cells_for HandleKind (record { kind = d; capacity = capacity }))
more_base ValueKind d v h n = omega arith
more_base HandleKind d v h n = omega arith

past_base : (k : Kind) (v h capacity : ℕ) → base_for k v h + capacity ≡ base_for k (v + cells_for ValueKind (record { kind = k; capacity = capacity })) (h + cells_for HandleKind (record { kind = k; capacity = capacity }))
past_base ValueKind v h n = refl
past_base HandleKind v h n = refl

bases : (c v h : ℕ) (ps : List Port) (n : ℕ) (d : Port) → Placed c v h ps → n < length ps → base_for (get_or ps n d).kind v h ≤ (get_or ps n d).channel.ring.base
bases c v h [] n d k l = absurd (omega arith)
bases c v h (p ∷ ps) zero d k l = omega (arith, k.1)
bases c v h (p ∷ ps) (suc n) d k l =
    let r = bases (c + 1) (v + cells_for ValueKind (declared p)) (h + cells_for HandleKind (declared p)) ps n d k.3 (omega arith) in
    omega (arith, r, more_base (get_or ps n d).kind p.kind v h p.channel.ring.capacity)

-- a later channel of the kind of the first
behind : (c v h : ℕ) (p : Port) (ps : List Port) (n : ℕ) (d : Port) → Placed c v h (p ∷ ps) → n < length ps → (get_or ps n d).kind ≡ p.kind
    → p.channel.ring.base + p.channel.ring.capacity ≤ (get_or ps n d).channel.ring.base
behind c v h p ps n d k l same =
    let r = bases (c + 1) (v + cells_for ValueKind (declared p)) (h + cells_for HandleKind (declared p)) ps n d k.3 l in
    let b = rw same at r in
    omega (arith, b, k.1, past_base p.kind v h p.channel.ring.capacity)

pub apart : (c v h : ℕ) (ps : List Port) (m n : ℕ) (d : Port) → Placed c v h ps → m < length ps → n < length ps → (m ≡ n → ⊥) → (get_or ps m d).kind ≡ (get_or ps n d).kind
    → Apart (get_or ps m d).channel.ring (get_or ps n d).channel.ring
apart c v h [] m n d k l j ne same = absurd (omega arith)
apart c v h (p ∷ ps) zero zero d k l j ne same = absurd (ne refl)
apart c v h (p ∷ ps) zero (suc n) d k l j ne same = inl (behind c v h p ps n d k (omega arith) (sym same))
apart c v h (p ∷ ps) (suc m) zero d k l j ne same = inr (behind c v h p ps m d k (omega arith) same)
apart c v h (p ∷ ps) (suc m) (suc n) d k l j ne same =
    apart (c + 1) (v + cells_for ValueKind (declared p)) (h + cells_for HandleKind (declared p)) ps m n d k.3 (omega arith) (omega arith) (λ e. ne (omega arith)) same

-- ---- a channel that has changed, and has the cells that it had
pub record Alike (p q : Port) : Type 0 where
  pub number : q.channel.number ≡ p.channel.number
  pub kind : q.kind ≡ p.kind
  pub base : q.channel.ring.base ≡ p.channel.ring.base
  pub capacity : q.channel.ring.capacity ≡ p.channel.ring.capacity
  pub sound : Sound q.channel.ring

pub placed_set : (c v h : ℕ) (ps : List Port) (n : ℕ) (q d : Port) → Placed c v h ps → Alike (get_or ps n d) q → Placed c v h (set ps n q)
placed_set c v h [] n q d k a = k
placed_set c v h (p ∷ ps) zero q d k a =
    let same : declared p ≡ declared q = cc (a.kind, a.capacity) in
    (a.number ∙ k.0, rw a.kind (a.base ∙ k.1), a.sound, subst (λ (x : Declared). Placed (c + 1) (v + cells_for ValueKind x) (h + cells_for HandleKind x) ps) same k.3)
placed_set c v h (p ∷ ps) (suc n) q d k a =
    (k.0, k.1, k.2, placed_set (c + 1) (v + cells_for ValueKind (declared p)) (h + cells_for HandleKind (declared p)) ps n q d k.3 a)

-- what a board stands for when the channel at place n, and no other channel's element, has changed
pub seen_set : (vs us : List Number) (hs gs : List Holder) (ps : List Port) (n : ℕ) (q d : Port)
    → ((m : ℕ) → m < length ps → (n ≡ m → ⊥) → seen_port us gs (get_or ps m d) ≡ seen_port vs hs (get_or ps m d))
    → map (seen_port us gs) (set ps n q) ≡ set (map (seen_port vs hs) ps) n (seen_port us gs q)
seen_set vs us hs gs [] n q d others = refl
seen_set vs us hs gs (p ∷ ps) zero q d others = ap (λ l. seen_port us gs q ∷ l) (all ps (λ m l. others (suc m) (omega arith) (λ e. omega arith)))
  where
    all : (xs : List Port) → ((m : ℕ) → m < length xs → seen_port us gs (get_or xs m d) ≡ seen_port vs hs (get_or xs m d)) → map (seen_port us gs) xs ≡ map (seen_port vs hs) xs
    all [] h = refl
    all (x ∷ xs) h = ap₂ ◌∷◌ (h 0 (omega arith)) (all xs (λ m l. h (suc m) (omega arith)))
seen_set vs us hs gs (p ∷ ps) (suc n) q d others =
    ap₂ ◌∷◌ (others 0 (omega arith) (λ e. omega arith)) (seen_set vs us hs gs ps n q d (λ m l ne. others (suc m) (omega arith) (λ e. ne (omega arith))))

-- ---- what is put into a channel is nothing to the others
left : {X : Type 0} (l m : Layout) (bank : List X) (e : X) → Apart l m → l.base + l.capacity ≤ length bank → l.count < l.capacity → held m (set bank (next_cell l) e) ≡ held m bank
left l m bank e a fits room =
    let few = held_most l bank in
    let granted : put_answer l bank ≡ Ok tt = grind (arith, nat_tests) in
    rw granted at (stays_apart l m bank e a).by_put

pub written_alone : (k j : Kind) (l m : Layout) (e : Item) (vs : List Number) (hs : List Holder)
    → (k ≡ j → Apart l m) → l.base + l.capacity ≤ cells_of k → Enough vs hs → l.count < l.capacity
    → buffered j m (value_written (next_cell l) (as_kind k e) vs) (handle_written (next_cell l) (as_kind k e) hs) ≡ buffered j m vs hs
written_alone ValueKind ValueKind l m e vs hs a fits enough room = ap (map Value) (left l m vs (as_value e) (a refl) (omega (arith, enough.values)) room)
written_alone ValueKind HandleKind l m e vs hs a fits enough room = refl
written_alone HandleKind ValueKind l m e vs hs a fits enough room = refl
written_alone HandleKind HandleKind l m e vs hs a fits enough room = ap (map Handle) (left l m hs (as_handle e) (a refl) (omega (arith, enough.handles)) room)

-- ---- a channel buffers as many elements as its ring counts
pub length_buffered : (k : Kind) (l : Layout) (vs : List Number) (hs : List Holder) → Sound l → l.base + l.capacity ≤ cells_of k → Enough vs hs → length (buffered k l vs hs) ≡ l.count
length_buffered ValueKind l vs hs s f e = length-map (held l vs) Value ∙ length_held l vs (omega (arith, e.values)) s.within s.counted
length_buffered HandleKind l vs hs s f e = length-map (held l hs) Handle ∙ length_held l hs (omega (arith, e.handles)) s.within s.counted

pub count_is : (vs : List Number) (hs : List Holder) (b : Board) (c : ℕ) → Placed 0 0 0 b.ports → Enough vs hs → length (channel (seen b vs hs) c).buffer ≡ (port b.ports c).channel.ring.count
count_is vs hs b c k e = ⊎_elim there missing (cases_lt c (length b.ports))
  where
    at : length (channel (seen b vs hs) c).buffer ≡ length (seen_port vs hs (port b.ports c)).buffer
    at = ap (λ x. length x.buffer) (channel_seen vs hs b c)

    there : c < length b.ports → length (channel (seen b vs hs) c).buffer ≡ (port b.ports c).channel.ring.count
    there l = let s = stands 0 0 0 b.ports c no_port k l in at ∙ length_buffered (port b.ports c).kind (port b.ports c).channel.ring vs hs s.sound s.fits e

    missing : length b.ports ≤ c → length (channel (seen b vs hs) c).buffer ≡ (port b.ports c).channel.ring.count
    missing l = at ∙ rw (get_or_past b.ports c no_port l) (ap (λ x. length x.buffer) (seen_none vs hs))

-- ---- which cases can go
some_counted : (xs : List Item) → some xs ≡ ltb 0 (length xs)
some_counted [] = refl
some_counted (x ∷ xs) = grind (arith, nat_tests)

pub send_goes : (vs : List Number) (hs : List Holder) (b : Board) (c : ℕ) → Placed 0 0 0 b.ports → Enough vs hs
    → ((channel (seen b vs hs) c).closed || (ltb (length (channel (seen b vs hs) c).buffer) (channel (seen b vs hs) c).capacity || some (queued (seen b vs hs) Receivers c))) ≡ (has_room (port b.ports c).channel || some (queue Receivers c b.line b.wishes))
send_goes vs hs b c k n = rw (count_is vs hs b c k n, channel_seen vs hs b c) (sym (or_assoc (port b.ports c).channel.closed _ _))

pub receive_goes : (vs : List Number) (hs : List Holder) (b : Board) (c : ℕ) → Placed 0 0 0 b.ports → Enough vs hs
    → ((channel (seen b vs hs) c).closed || (some (channel (seen b vs hs) c).buffer || some (queued (seen b vs hs) Senders c))) ≡ (has_some (port b.ports c).channel || some (queue Senders c b.line b.wishes))
receive_goes vs hs b c k n = rw (some_counted (channel (seen b vs hs) c).buffer, count_is vs hs b c k n, channel_seen vs hs b c) (sym (or_assoc (port b.ports c).channel.closed _ _))

pub few_channels : (b : Board) → Placed 0 0 0 b.ports → length b.ports ≤ 32
few_channels b k = let e = ends 0 0 0 b.ports k in omega arith

-- ---- all channels of a kind have no more cells than there are
total : (c v h : ℕ) (ps : List Port) → Placed c v h ps → (v + cells ValueKind ps ≤ 512) × (h + cells HandleKind ps ≤ 128)
total c v h [] k = (omega arith, omega arith)
total c v h (p ∷ ps) k =
    let r = total (c + 1) (v + cells_for ValueKind (declared p)) (h + cells_for HandleKind (declared p)) ps k.3 in
    let m = sum_by-cons (λ (q : Port). cells_for ValueKind (declared q)) p ps in
    let n = sum_by-cons (λ (q : Port). cells_for HandleKind (declared q)) p ps in
    (omega arith, omega arith)

pub cells_fit : (k : Kind) (ps : List Port) → Placed 0 0 0 ps → cells k ps ≤ cells_of k
cells_fit ValueKind ps h = let t = total 0 0 0 ps h in omega arith
cells_fit HandleKind ps h = let t = total 0 0 0 ps h in omega arith
