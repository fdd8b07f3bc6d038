use Rattle.calls.proofs.FromStart.{laws_from_start, filled_from_start}
use Rattle.calls.proofs.carrying.carry_out.Goals as goal

pub returns-then-not-may_begin-clause-laws : goal.returns-then-not-may_begin-clause-laws
returns-then-not-may_begin-clause-laws g c = laws_from_start c.args.run.now.linked.program c.args.run.now.linked.sound _ c.args.calls.now

pub returns-then-not-may_begin-clause-cells : goal.returns-then-not-may_begin-clause-cells
returns-then-not-may_begin-clause-cells g c = filled_from_start c.args.run.now.linked.program c.args.run.now.linked.sound _ c.args.calls.now _

pub returns-clause-laws : goal.returns-clause-laws
returns-clause-laws g c = laws_from_start c.args.run.now.linked.program c.args.run.now.linked.sound _ c.args.calls.now

pub returns-clause-cells : goal.returns-clause-cells
returns-clause-cells g c = filled_from_start c.args.run.now.linked.program c.args.run.now.linked.sound _ c.args.calls.now _
