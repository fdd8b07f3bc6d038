use Rattle.std.proofs.Common.{ap}
use Rattle.calls.specs.declared.call.Cells.{Cells}
use Rattle.calls.proofs.Making.{step_made}
use Rattle.calls.proofs.carrying.step.Goals as goal

pub returns-clause-made : goal.returns-clause-made
returns-clause-made g c =
    let old = c.args.run.now in
    let s = c.step in
    let made = step_made c.args.values.now c.args.handles.now c.requires c.args.cells c.within-some.result.values c.within-some.result.handles (ap (λ (x : Cells). x.values) c.within-some.ensures) (ap (λ (x : Cells). x.handles) c.within-some.ensures)
    old.linked.program (g.P.Picker.meaning c.args.picker.now) (g.P.Picker.meaning s.new.picker) old.memory s.new.self.memory s.result s.new.values s.new.handles old.placed s.new.self.placed s.ensures.stepped in
    rw (c.report_of.ensures) made
