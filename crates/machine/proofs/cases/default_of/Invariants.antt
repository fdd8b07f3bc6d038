-- What is left of the cases has the default of all.
use Rattle.std.proofs.Common.{◌≡◌, drop, map}
use Rattle.runs.specs.Cases.{branch, default_from}
use Rattle.machine.proofs.cases.default_of.Given as goal

abbrev pub invariant-loop-k : goal.invariant-loop-k
invariant-loop-k l = default_from l.k (map branch (drop l.k l.cases)) ≡ default_from 0 (map branch l.cases)
