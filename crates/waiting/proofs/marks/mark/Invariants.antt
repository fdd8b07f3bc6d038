-- The routine is marked for the cases so far.
use Rattle.std.proofs.Common.{◌≡◌, length, take}
use Rattle.waiting.specs.Marks.{Marked}
use Rattle.waiting.proofs.marks.mark.Given as goal

abbrev pub invariant-loop-wish : goal.invariant-loop-wish
invariant-loop-wish g l = (length l.marks ≡ 512) × Marked l.routine (take l.wish-index l.wishes) l.initial.marks l.marks
