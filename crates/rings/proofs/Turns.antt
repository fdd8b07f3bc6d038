-- What a granted put and a granted take need and leave of a ring's numbers.
use Rattle.std.proofs.Common.{◌≡◌, ℕ, ◌+◌, ◌-◌, ◌%◌, ◌<◌, ◌≤◌, List, [], ◌∷◌, length, drop, Ok, Err, Result, sym, refl, ap, ◌∙◌, arith}
use native.Mathlib.Nat.{mod-add-mod, zero-mod}
use Rattle.std.proofs.lemmas.List.{drop_more}
use Rattle.std.proofs.lemmas.Nat.{mod_below}
use Rattle.std.proofs.lemmas.Option.{slice_get_within}
use Rattle.rings.specs.declared.ring.RingError.{RingError}
use Rattle.rings.specs.Layouts.{Layout, fresh, held, next_cell, one_more, one_less}
use Rattle.rings.specs.Answers.{put_answer, take_answer}
use Rattle.rings.specs.Laws.{Operation, putting, taking, Call, Tally, counted_put, counted_take, counted, tally, Turns}
use Rattle.rings.proofs.Holding.{length_held, held_most}

-- a ring's numbers after so many puts and takes
pub record Turned (base capacity puts takes : ℕ) (l : Layout) : Type 0 where
  pub lies : l.base ≡ base
  pub size : l.capacity ≡ capacity
  pub starts : l.first ≤ l.capacity - 1
  pub below : l.count ≤ l.capacity
  pub turned : l.first ≡ takes % l.capacity
  pub counts : puts ≡ takes + l.count

pub turned_fresh : (base capacity : ℕ) → Turned base capacity 0 0 (fresh base capacity)
turned_fresh base capacity = record {
  lies = refl;
  size = refl;
  starts = omega arith;
  below = omega arith;
  turned = sym (zero-mod capacity);
  counts = refl;
}

pub next_is : {base capacity puts takes : ℕ} (l : Layout) → Turned base capacity puts takes l → next_cell l ≡ base + puts % capacity
next_is {base = base} {capacity = capacity} {puts = puts} {takes = takes} l k =
    grind (arith, mod-add-mod takes l.capacity l.count)

pub record CanPut {X : Type 0} (l : Layout) (bank : List X) : Type 0 where
  pub fits : l.base + l.capacity ≤ length bank
  pub room : l.count < l.capacity

pub can_put : {X : Type 0} (l : Layout) (bank : List X) (u : Unit {0}) → l.first ≤ l.capacity - 1 → l.count ≤ l.capacity
    → put_answer l bank ≡ Ok u → CanPut l bank
can_put l bank u starts below q = record { fits = grind arith; room = grind (arith, length_held l bank) }

pub record CanTake {X : Type 0} (l : Layout) (bank : List X) (e : X) : Type 0 where
  pub fits : l.base + l.capacity ≤ length bank
  pub some : 0 < l.count
  pub oldest : held l bank ≡ e ∷ drop 1 (held l bank)

pub can_take : {X : Type 0} (l : Layout) (bank : List X) (e : X) → take_answer l bank ≡ Ok e → CanTake l bank e
can_take l bank e q = record { fits = grind arith; some = grind (arith, held_most l bank, slice_get_within (held l bank) 0); oldest = grind (arith, slice_get_within (held l bank) 0, drop_more (held l bank) 0 e) }

pub turned_put : {base capacity puts takes : ℕ} (l : Layout) → Turned base capacity puts takes l → l.count < l.capacity
    → Turned base capacity (puts + 1) takes (one_more l)
turned_put l k room = record {
  lies = k.lies;
  size = k.size;
  starts = k.starts;
  below = omega arith;
  turned = k.turned;
  counts = omega (arith, k.counts);
}

pub turned_take : {base capacity puts takes : ℕ} (l : Layout) → Turned base capacity puts takes l → 0 < l.count
    → Turned base capacity puts (takes + 1) (one_less l)
turned_take {takes = takes} l k some =
    let next = mod_below (l.first + 1) l.capacity (omega (arith, k.below)) in
    record {
      lies = k.lies;
      size = k.size;
      starts = omega arith;
      below = omega (arith, k.below);
      turned = ap (λ f. (f + 1) % l.capacity) k.turned ∙ mod-add-mod takes l.capacity 1;
      counts = omega (arith, k.counts);
    }

tally_put : {X : Type 0} (base capacity : ℕ) (t : Tally) (bank : List X) → Turned base capacity t.puts t.takes t.ring
    → (r : Result (Unit {0}) RingError) → put_answer t.ring bank ≡ r
    → Turned base capacity (counted_put t r).puts (counted_put t r).takes (counted_put t r).ring
tally_put base capacity t bank k (Ok u) q = turned_put t.ring k (can_put t.ring bank u k.starts k.below q).room
tally_put base capacity t bank k (Err why) q = k

tally_take : {X : Type 0} (base capacity : ℕ) (t : Tally) (bank : List X) → Turned base capacity t.puts t.takes t.ring
    → (r : Result X RingError) → take_answer t.ring bank ≡ r
    → Turned base capacity (counted_take t r).puts (counted_take t r).takes (counted_take t r).ring
tally_take base capacity t bank k (Ok e) q = turned_take t.ring k (can_take t.ring bank e q).some
tally_take base capacity t bank k (Err why) q = k

tally_one : {X : Type 0} (base capacity : ℕ) (t : Tally) (bank : List X) (o : Operation X) → Turned base capacity t.puts t.takes t.ring
    → Turned base capacity (counted t bank o).puts (counted t bank o).takes (counted t bank o).ring
tally_one base capacity t bank (putting e) k = tally_put base capacity t bank k (put_answer t.ring bank) refl
tally_one base capacity t bank taking k = tally_take base capacity t bank k (take_answer t.ring bank) refl

tally_all : {X : Type 0} (base capacity : ℕ) (t : Tally) (cs : List (Call X)) → Turned base capacity t.puts t.takes t.ring
    → Turned base capacity (tally t cs).puts (tally t cs).takes (tally t cs).ring
tally_all base capacity t [] k = k
tally_all base capacity t (c ∷ cs) k =
    tally_all base capacity (counted t c.bank c.operation) cs (tally_one base capacity t c.bank c.operation k)

pub keeps_turns : {X : Type 0} (base capacity : ℕ) (cs : List (Call X))
    → Turns base capacity (tally (record { ring = fresh base capacity; puts = 0; takes = 0 }) cs)
keeps_turns base capacity cs =
    let none : Tally = record { ring = fresh base capacity; puts = 0; takes = 0 } in
    let k = tally_all base capacity none cs (turned_fresh base capacity) in
    record {
      next = next_is (tally none cs).ring k;
      count = k.counts;
      most = omega (arith, k.below, k.size);
    }
