use Rattle.std.proofs.Common.{ap, ◌∙◌}
use Rattle.calls.specs.declared.call.Cells.{Cells}
use Rattle.calls.proofs.Making.{code_handed}
use Rattle.calls.proofs.carrying.code_at.Goals as goal

pub returns : goal.returns
returns c =
    let run = c.args.run.now in
    c.element.ensures
    ∙ code_handed c.args.values.now c.args.handles.now c.requires c.args.cells c.within-some.result.values c.within-some.result.handles (ap (λ (x : Cells). x.values) c.within-some.ensures) (ap (λ (x : Cells). x.handles) c.within-some.ensures) run.memory.hub run.placed c.args.number c.args.place
