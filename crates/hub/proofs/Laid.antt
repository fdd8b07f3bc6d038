-- The channels of a new hub: where they lie, and what they stand for.
use Rattle.std.proofs.Common.{drop, get_or, suc, add-one, ◌≡◌, ℕ, ◌+◌, ◌<◌, ◌≤◌, true, leb, List, [], ◌∷◌, length, map, sym, refl, ap, ap₂, ◌∙◌, arith}
use Rattle.std.specs.List.{AllByRecursion, sum_by}
use Rattle.std.proofs.Math.Seq.{drop-cons}
use Rattle.std.proofs.lemmas.List.Sums.{sum_by-cons}
use Rattle.std.proofs.lemmas.Bool.{and_parts, leb-true}
use Rattle.std.proofs.lemmas.Bool.Decides.{nat_tests}
use Rattle.lines.specs.declared.line.Kind.{Kind}
use Rattle.lines.specs.declared.line.Kind.TheVariants.{Value as ValueKind, Handle as HandleKind}
use Rattle.elements.specs.declared.value.Value.{Value as Number}
use Rattle.elements.specs.declared.handle.Handle.{Handle as Holder}
use Rattle.rings.specs.Contents.{contents}
use Rattle.rings.specs.Layouts.{fresh, can_lie}
use Rattle.linking.specs.declared.declared.Channel.{Channel}
use Rattle.linking.specs.declared.declared.Declared.{Declared}
use Rattle.linking.specs.Programs.{Program}
use Rattle.linking.specs.Sound.{Sound, cells_for}
use Rattle.runs.specs.Runs.{new_channel}
use Rattle.hub.specs.Boards.{buffered, seen_port, base_for, laid, can_be_laid, Placed}

-- ---- there is room for each
base_small : (k : Kind) (v h : ℕ) → v ≤ 512 → h ≤ 128 → base_for k v h ≤ 512
base_small ValueKind v h a b = a
base_small HandleKind v h a b = omega arith

pub room_for : (k : Kind) (v h capacity : ℕ) → v ≤ 512 → h ≤ 128 → capacity ≤ 64 → can_lie (base_for k v h) capacity ≡ true
room_for k v h n a b s = let m = base_small k v h a b in grind (arith, nat_tests)

-- what it takes to be laid
pub record Fits (c v h : ℕ) (d : Declared) (ds : List Declared) : Type 0 where
  pub small : d.capacity ≤ 64
  pub rest : can_be_laid (c + 1) (v + cells_for ValueKind d) (h + cells_for HandleKind d) ds ≡ true

pub fits_parts : (c v h : ℕ) (d : Declared) (ds : List Declared) → can_be_laid c v h (d ∷ ds) ≡ true → Fits c v h d ds
fits_parts c v h d ds e =
    let t = and_parts (leb d.capacity 64) (can_be_laid (c + 1) (v + cells_for ValueKind d) (h + cells_for HandleKind d) ds) e in
    record { small = leb-true d.capacity 64 t.0; rest = t.1 }

pub ends : (c v h : ℕ) (ds : List Declared) → can_be_laid c v h ds ≡ true → (c + length ds ≤ 32) × (v ≤ 512) × (h ≤ 128)
ends c v h [] e = grind (arith, nat_tests)
ends c v h (d ∷ ds) e =
    let r = ends (c + 1) (v + cells_for ValueKind d) (h + cells_for HandleKind d) ds (fits_parts c v h d ds e).rest in
    (omega arith, omega arith, omega arith)

pub laid_placed : (c v h : ℕ) (ds : List Declared) → can_be_laid c v h ds ≡ true → Placed c v h (laid c v h ds)
laid_placed c v h [] e = let n = ends c v h [] e in (omega arith, n.1, n.2)
laid_placed c v h (d ∷ ds) e =
    let f = fits_parts c v h d ds e in
    let n = ends c v h (d ∷ ds) e in
    let m = base_small d.kind v h n.1 n.2 in
    (refl, refl, record { inside = omega (arith, f.small); small = f.small; within = omega arith; counted = omega arith }, laid_placed (c + 1) (v + cells_for ValueKind d) (h + cells_for HandleKind d) ds f.rest)

-- ---- all channels of a sound program can be laid
lays : (c v h : ℕ) (ds : List Declared) → AllByRecursion (λ d. d.capacity ≤ 64) ds → c + length ds ≤ 32 → v + sum_by (cells_for ValueKind) ds ≤ 512 → h + sum_by (cells_for HandleKind) ds ≤ 128
    → can_be_laid c v h ds ≡ true
lays c v h [] a n x y = grind (arith, nat_tests)
lays c v h (d ∷ ds) a n x y =
    let m = sum_by-cons (cells_for ValueKind) d ds in
    let o = sum_by-cons (cells_for HandleKind) d ds in
    let s : leb d.capacity 64 ≡ true = grind (arith, nat_tests, a.0) in
    rw s (lays (c + 1) (v + cells_for ValueKind d) (h + cells_for HandleKind d) ds a.1 (omega arith) (omega arith) (omega arith))

pub sound_lays : (p : Program) → Sound p → can_be_laid 0 0 0 p.channels ≡ true
sound_lays p s = lays 0 0 0 p.channels s.small_channels (omega (arith, s.few_channels)) (omega (arith, s.value_cells)) (omega (arith, s.handle_cells))

-- ---- what they stand for
none_held : (k : Kind) (base capacity : ℕ) (vs : List Number) (hs : List Holder) → buffered k (fresh base capacity) vs hs ≡ []
unfolding contents
none_held ValueKind base capacity vs hs = refl
none_held HandleKind base capacity vs hs = refl

pub seen_laid : (c v h : ℕ) (ds : List Declared) (vs : List Number) (hs : List Holder) → map (seen_port vs hs) (laid c v h ds) ≡ map new_channel ds
seen_laid c v h [] vs hs = refl
seen_laid c v h (d ∷ ds) vs hs =
    ap₂ ◌∷◌ (ap (λ b. record (new_channel d) { buffer = b }) (none_held d.kind (base_for d.kind v h) d.capacity vs hs))
    (seen_laid (c + 1) (v + cells_for ValueKind d) (h + cells_for HandleKind d) ds vs hs)

-- ---- one after another
abbrev pub own : List Channel → List Declared
own cs = map (λ c. c.declared) cs

next : (cs : List Channel) (i : ℕ) (x : Channel) → i < length cs → x ≡ get_or cs i x → own (drop i cs) ≡ x.declared ∷ own (drop (i + 1) cs)
next cs i x l e = ap own (drop-cons cs i x l) ∙ rw add-one (ap (λ (y : Channel). y.declared ∷ own (drop (suc i) cs)) (sym e))

-- the next one is laid, and then the rest
pub record Next (c v h : ℕ) (d : Declared) (now rest : List Declared) : Type 0 where
  pub is : now ≡ d ∷ rest
  pub few : c < 32
  pub values : v ≤ 512
  pub handles : h ≤ 128
  pub small : d.capacity ≤ 64
  pub fits : can_be_laid (c + 1) (v + cells_for ValueKind d) (h + cells_for HandleKind d) rest ≡ true

pub next_laid : (cs : List Channel) (i c v h : ℕ) (x : Channel) → i < length cs → x ≡ get_or cs i x → can_be_laid c v h (own (drop i cs)) ≡ true
    → Next c v h x.declared (own (drop i cs)) (own (drop (i + 1) cs))
next_laid cs i c v h x l e fits =
    let n = next cs i x l e in
    let f = rw n at fits in
    let t = fits_parts c v h x.declared (own (drop (i + 1) cs)) f in
    let b = ends c v h (x.declared ∷ own (drop (i + 1) cs)) f in
    record { is = n; few = omega arith; values = b.1; handles = b.2; small = t.small; fits = t.rest }
