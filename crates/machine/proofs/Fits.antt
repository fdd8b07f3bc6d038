-- What is known at a line, and what a turn at no select leaves of a picker's meaning.
use Rattle.std.proofs.Common.{◌≡◌, ℕ, ◌+◌, ◌^◌, ◌<◌, Bool, true, false, List, length, Some, None, Option, nat_lt, ◌==◌, sym, refl, arith}
use Rattle.std.specs.Option.{IfSome}
use Rattle.linking.specs.declared.operation.Operation.{Operation}
use Rattle.linking.specs.declared.operation.Operation.TheVariants.{Set, Add, Sub, Jump, JumpNegative, Hold, Clear, Alone, Select, Case, Default, Close, Start, Print}
use Rattle.pickers.specs.Meaning.{Meaning}
use Rattle.routines.specs.declared.routine.Routine.{Routine}
use Rattle.runs.specs.Runs.{Run}
use Rattle.runs.specs.Cases.{channel_for}
use Rattle.runs.specs.Steps.{close_channel, closing, starting, ending, at_operation}
use Rattle.machine.specs.Needs.{LowOperation, Fit, Quiet}

module _ (n : ℕ) (ops : List Operation) (i : ℕ) where
  pub fit_low : (o : Option Operation) → Fit n ops i o → IfSome o (LowOperation n)
  fit_low None f = tt
  fit_low (Some o) f = f.0

  pub fit_next : (o : Option Operation) → Fit n ops i o → IfSome o (λ _. i + 1 < 2 ^ 64)
  fit_next None f = tt
  fit_next (Some o) f = omega (arith, f.1)

module _ (run : Run) (m : Meaning) (r p : ℕ) (x : Routine) (rest : List Operation) where
  close_meaning : (c : ℕ) (b : Bool) → (close_channel run m r p x c b).meaning ≡ m
  close_meaning c true = refl
  close_meaning c false = refl

  closing_meaning : (o : Option ℕ) → (closing run m r p x o).meaning ≡ m
  closing_meaning None = refl
  closing_meaning (Some c) = close_meaning c _

  starting_meaning : (b : ℕ) (c : Bool) → (starting run m r p x b c).meaning ≡ m
  starting_meaning b true = refl
  starting_meaning b false = refl

  ending_meaning : (b : Bool) → (ending run m r x b).meaning ≡ m
  ending_meaning true = refl
  ending_meaning false = refl

  pub quiet_meaning : (o : Option Operation) → Quiet o → m ≡ (at_operation run m r p x rest o).meaning
  quiet_meaning None q = sym (ending_meaning (r == 0))
  quiet_meaning (Some (Set v n)) q = refl
  quiet_meaning (Some (Add v w)) q = refl
  quiet_meaning (Some (Sub v w)) q = refl
  quiet_meaning (Some (Jump t)) q = refl
  quiet_meaning (Some (JumpNegative v t)) q = refl
  quiet_meaning (Some (Hold h c)) q = refl
  quiet_meaning (Some (Clear h)) q = refl
  quiet_meaning (Some (Alone e)) q = absurd q
  quiet_meaning (Some (Select k)) q = absurd q
  quiet_meaning (Some (Case e t)) q = refl
  quiet_meaning (Some (Default t)) q = refl
  quiet_meaning (Some (Close o)) q = sym (closing_meaning (channel_for run.hub.channels x o))
  quiet_meaning (Some (Start b)) q = sym (starting_meaning b (nat_lt (length run.routines) 64))
  quiet_meaning (Some (Print v)) q = refl
