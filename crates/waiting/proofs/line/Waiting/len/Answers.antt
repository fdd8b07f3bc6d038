-- No more wait than there are routines.
use Rattle.std.proofs.Common.{arith}
use Rattle.waiting.proofs.Lines.{crowd}
use Rattle.waiting.proofs.line.Waiting.len.Goals as goal

pub returns-clause-few : goal.returns-clause-few
returns-clause-few g c = omega (arith, crowd 64 c.self.inside.line.items c.self.invariant.0)
