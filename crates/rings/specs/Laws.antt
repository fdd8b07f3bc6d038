-- What holds of a ring after any list of puts and takes.
use Rattle.std.specs.Prelude.{◌≡◌, ℕ, ◌+◌, ◌%◌, ◌≤◌, true, cond, ◌⊎◌, List, [], ◌∷◌, ◌++◌, length, is_ok, Ok, Err, Result, slice_set}
use Rattle.rings.specs.declared.ring.RingError.{RingError}
use Rattle.rings.specs.Layouts.{Layout, Sound, fresh, covers, held, next_cell}
use Rattle.rings.specs.Answers.{put_answer, take_answer, clear_answer, grown, shrunk, stored, wiped}

pub data Operation (X : Type 0) : Type 0 where
  putting : X → Operation X
  taking : Operation X

-- a ring and its bank, with the elements that puts were granted and those that takes gave, in order
pub record History (X : Type 0) : Type 0 where
  pub ring : Layout
  pub bank : List X
  pub accepted : List X
  pub taken : List X

abbrev pub begun : {X : Type 0} → Layout → List X → History X
begun l bank = record { ring = l; bank = bank; accepted = []; taken = [] }

-- a put and a take, by what the calls answer
abbrev pub did_put : {X : Type 0} → History X → X → Result (Unit {0}) RingError → History X
did_put h e r = record {
  ring = grown r h.ring;
  bank = stored r h.ring e h.bank;
  accepted = cond (is_ok r) (h.accepted ++ (e ∷ [])) h.accepted;
  taken = h.taken;
}

abbrev pub did_take : {X : Type 0} → History X → Result X RingError → History X
did_take h (Ok e) = record { ring = shrunk (Ok e) h.ring; bank = h.bank; accepted = h.accepted; taken = h.taken ++ (e ∷ []) }
did_take h (Err why) = h

abbrev pub step : {X : Type 0} → History X → Operation X → History X
step h (putting e) = did_put h e (put_answer h.ring h.bank)
step h taking = did_take h (take_answer h.ring h.bank)

abbrev pub after : {X : Type 0} → History X → List (Operation X) → History X
after h [] = h
after h (o ∷ os) = after (step h o) os

-- a bank with the elements written one by one, the n-th of all `n % capacity` cells after `base`
abbrev pub placed : {X : Type 0} → ℕ → ℕ → ℕ → List X → List X → List X
placed base capacity n [] bank = bank
placed base capacity n (e ∷ es) bank = placed base capacity (n + 1) es (slice_set bank (base + n % capacity) e)

-- first in, first out; where each element was put, nothing else being written; how many are held
pub record Ordered {X : Type 0} (base capacity : ℕ) (bank : List X) (h : History X) : Type 0 where
  pub order : h.accepted ≡ h.taken ++ held h.ring h.bank
  pub places : h.bank ≡ placed base capacity 0 h.accepted bank
  pub most : length (held h.ring h.bank) ≤ capacity

abbrev pub KeepsOrder : Type 0 → Type 0
KeepsOrder X = (base capacity : ℕ) (bank : List X) (os : List (Operation X))
    → Ordered base capacity bank (after (begun (fresh base capacity) bank) os)

-- a put or a take with the cells that it was handed: others may have been at them since the call before
pub record Call (X : Type 0) : Type 0 where
  pub bank : List X
  pub operation : Operation X

-- a ring, and how many puts and takes were granted
pub record Tally : Type 0 where
  pub ring : Layout
  pub puts : ℕ
  pub takes : ℕ

abbrev pub counted_put : Tally → Result (Unit {0}) RingError → Tally
counted_put t r = record { ring = grown r t.ring; puts = cond (is_ok r) (t.puts + 1) t.puts; takes = t.takes }

abbrev pub counted_take : {X : Type 0} → Tally → Result X RingError → Tally
counted_take t r = record { ring = shrunk r t.ring; puts = t.puts; takes = cond (is_ok r) (t.takes + 1) t.takes }

abbrev pub counted : {X : Type 0} → Tally → List X → Operation X → Tally
counted t bank (putting e) = counted_put t (put_answer t.ring bank)
counted t bank taking = counted_take t (take_answer t.ring bank)

abbrev pub tally : {X : Type 0} → Tally → List (Call X) → Tally
tally t [] = t
tally t (c ∷ cs) = tally (counted t c.bank c.operation) cs

-- where the next put will write, and how many the ring counts
pub record Turns (base capacity : ℕ) (t : Tally) : Type 0 where
  pub next : next_cell t.ring ≡ base + t.puts % capacity
  pub count : t.puts ≡ t.takes + t.ring.count
  pub most : t.ring.count ≤ capacity

abbrev pub KeepsTurns : Type 0 → Type 0
KeepsTurns X = (base capacity : ℕ) (cs : List (Call X))
    → Turns base capacity (tally (record { ring = fresh base capacity; puts = 0; takes = 0 }) cs)

-- a ring holds as many elements as it counts
abbrev pub CountsHeld : Type 0 → Type 0
CountsHeld X = (l : Layout) (bank : List X) → Sound l → covers l bank ≡ true → length (held l bank) ≡ l.count

-- two rings without a cell in common
abbrev pub Apart : Layout → Layout → Type 0
Apart l m = (l.base + l.capacity ≤ m.base) ⊎ (m.base + m.capacity ≤ l.base)

-- what is put in one ring, and clearing it, is nothing to another
pub record LeftAlone {X : Type 0} (l m : Layout) (bank : List X) (e : X) : Type 0 where
  pub by_put : held m (stored (put_answer l bank) l e bank) ≡ held m bank
  pub by_clear : held m (wiped (clear_answer l bank) l e bank) ≡ held m bank

abbrev pub StaysApart : Type 0 → Type 0
StaysApart X = (l m : Layout) (bank : List X) (e : X) → Apart l m → LeftAlone l m bank e
