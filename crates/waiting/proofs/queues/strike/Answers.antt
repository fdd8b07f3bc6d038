-- The one found is the only one.
use Rattle.std.proofs.Common.{◌∙◌, sym}
use Rattle.waiting.proofs.Lines.{orderly_removed, without_absent}
use Rattle.waiting.proofs.queues.strike.Goals as goal

pub returns-in-Some-clause-items : goal.returns-in-Some-clause-items
returns-in-Some-clause-items c =
    let found = rw c.deref.ensures.value at c.in-Some.ensures.some in
    c.remove.ensures.items ∙ orderly_removed 64 c.args.routine c.in-Some.i 0 c.args.line.now.items c.requires found.0 found.1

pub returns-in_default-clause-items : goal.returns-in_default-clause-items
returns-in_default-clause-items c =
    let gone = rw c.deref.ensures.value at (c.place_of.ensures.none c.in_default.is) in
    sym (without_absent c.args.routine c.args.line.now.items gone)
