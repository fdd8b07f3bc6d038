-- A table of empty rows.
use Rattle.std.proofs.Common.{rules}
use Rattle.std.proofs.iter.runs.Sources.{ranges}
use Rattle.waiting.proofs.queues.blank.Goals as goal

pub returns-clause-len : goal.returns-clause-len
returns-clause-len g c = search (rules, ranges)
