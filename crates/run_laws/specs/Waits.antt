-- Nobody waits who can go, and a run stalls just when all who live wait.
use Rattle.std.specs.Prelude.{◌≡◌, ℕ, ◌≤◌, Bool, true, false, ◌≢◌, ◌⊎◌, ◌↔◌, [], length, Some, None, Option}
use Rattle.linking.specs.Programs.{Program}
use Rattle.linking.specs.Sound.{Sound}
use Rattle.pickers.specs.Meaning.{Meaning}
use Rattle.waiting.specs.declared.wish.Wish.{Wish}
use Rattle.waiting.specs.declared.wish.Side.TheVariants.{Receivers, Senders}
use Rattle.reports.specs.declared.report.Event.{Event}
use Rattle.reports.specs.declared.report.Event.TheVariants.{Turn, Stall}
use Rattle.routines.specs.declared.item.Item.{Item}
use Rattle.routines.specs.declared.routine.State.TheVariants.{Waiting}
use Rattle.runs.specs.Runs.{Run, channel, routine, queued, lives}
use Rattle.runs.specs.Cases.{channel_of, wish_of}
use Rattle.channels.specs.Settled.{some}
use Rattle.runs.specs.Steps.{branch_at, branches, step}
use Rattle.run_laws.specs.Settled.{lets, serve, Settled, FewCases}

-- what case k of the line of routine r waits for
abbrev pub wish_at : Program → Run → ℕ → ℕ → Option (Wish Item)
wish_at p run r k = wish_of run.hub.channels (routine run r) (branch_at (branches p (routine run r)) k).exchange

-- another waiting routine has a case on the other side
pub record Served (p : Program) (run : Run) (r : ℕ) (w : Wish Item) : Type 0 where
  pub by : ℕ
  pub case : ℕ
  pub another : by ≢ r
  pub waits : (routine run by).state ≡ Waiting
  pub serves : serve (Some w) (wish_at p run by case) ≡ true

-- when a case of routine r can go: its channel is closed, or has room or an element, or another routine serves it
abbrev pub CanGo : Program → Run → ℕ → Option (Wish Item) → Type 0
CanGo p run r None = ⊥
CanGo p run r (Some w) = (lets (channel run.hub (channel_of w)) w ≡ true) ⊎ Served p run r w

abbrev pub NobodyWaitsIdly : Type 0
NobodyWaitsIdly = (p : Program) (run : Run) → Settled p run → (r k : ℕ) → (routine run r).state ≡ Waiting → CanGo p run r (wish_at p run r k) → ⊥

-- ---- stalls
abbrev pub a_stall : Event → Bool
a_stall (Turn r n d) = false
a_stall (Stall n) = true

abbrev pub AllWait : Run → Type 0
AllWait run = (r : ℕ) → lives (routine run r).state ≡ true → (routine run r).state ≡ Waiting

abbrev pub StallsWhenAllWait : Type 0
StallsWhenAllWait = (p : Program) (run : Run) (m : Meaning) → Settled p run → (a_stall (step p run m).report.event ≡ true) ↔ AllWait run

-- ---- channels: a receiver waits only where it is open and its buffer empty, a sender only where it is open and its buffer full
pub record Guarded (run : Run) (c : ℕ) : Type 0 where
  pub few : length (channel run.hub c).buffer ≤ (channel run.hub c).capacity
  pub receivers_wait : some (queued run.hub Receivers c) ≡ true → ((channel run.hub c).closed ≡ false) × ((channel run.hub c).buffer ≡ [])
  pub senders_wait : some (queued run.hub Senders c) ≡ true → ((channel run.hub c).closed ≡ false) × (length (channel run.hub c).buffer ≡ (channel run.hub c).capacity)

abbrev pub ChannelsGuarded : Type 0
ChannelsGuarded = (p : Program) (run : Run) → Settled p run → (c : ℕ) → Guarded run c

-- what running needs of a program holds of selects too
abbrev pub SoundHasFewCases : Type 0
SoundHasFewCases = (p : Program) → Sound p → FewCases p
