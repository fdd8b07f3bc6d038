use Rattle.std.proofs.Common.{◌∙◌, arith}
use Rattle.std.proofs.Math.Logic.{∥∥₁_elim}
use Rattle.std.proofs.Math.Bridge.{le_prop}
use Rattle.linking.proofs.Places.{line_fits}
use Rattle.machine.proofs.turns.text_line.Goals as goal

pub overflow_add-result-in-Some : goal.overflow_add-result-in-Some
overflow_add-result-in-Some c =
    let p = c.args.linked.now.program in
    let x = c.args.x.now in
    let few = ∥∥₁_elim c.args.linked.now.sound le_prop (λ s. line_fits p x.body s x.line c.in-Some.field-0 (c.requires ∙ c.in-Some.is)) in
    omega (arith, few, c.opening_line.ensures)

pub overflow_cast-result : goal.overflow_cast-result
overflow_cast-result c =
    let p = c.args.linked.now.program in
    let x = c.args.x.now in
    let few = ∥∥₁_elim c.args.linked.now.sound le_prop (λ s. line_fits p x.body s x.line c.in-Some.field-0 (c.requires ∙ c.in-Some.is)) in
    omega (arith, few, c.opening_line.ensures)
