use Rattle.std.proofs.Common.{length}
use Rattle.boundaries.proofs.main.Given as goal

abbrev pub decreases-loop-text : goal.decreases-loop-text
decreases-loop-text l = length l.rest
