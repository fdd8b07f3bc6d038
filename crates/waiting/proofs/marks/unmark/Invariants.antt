-- The routine has no mark for the cases so far.
use Rattle.std.proofs.Common.{◌≡◌, length, take}
use Rattle.waiting.specs.Marks.{Unmarked}
use Rattle.waiting.proofs.marks.unmark.Given as goal

abbrev pub invariant-loop-wish : goal.invariant-loop-wish
invariant-loop-wish g l = (length l.marks ≡ 512) × Unmarked l.routine (take l.wish-index l.wishes) l.initial.marks l.marks
