use Rattle.std.proofs.Common.{sym, ap, ◌∙◌, subst}
use Rattle.std.proofs.Math.Logic.{∥∥₁_map}
use Rattle.linking.specs.Links.{link_script}
use Rattle.linking.specs.Stages.{Stopped}
use Rattle.linking.proofs.Answered.{made_exactly, none_for}
use Rattle.linking.proofs.linking.link.Goals as goal

pub invariant_of-result : goal.invariant_of-result
invariant_of-result c =
    let made = made_exactly c.args.script c.in-Ok.program c.lines.ensures.kept (ap link_script (sym c.lines.ensures.lines) ∙ c.in-Ok.ensures) in
    record { kept = c.lines.ensures.kept; sound = ∥∥₁_map made (λ p. p.1) }

pub returns-in-Ok-clause-exact : goal.returns-in-Ok-clause-exact
returns-in-Ok-clause-exact c =
    made_exactly c.args.script c.in-Ok.program c.lines.ensures.kept (ap link_script (sym c.lines.ensures.lines) ∙ c.in-Ok.ensures)

pub returns-in-Err-clause-exact : goal.returns-in-Err-clause-exact
returns-in-Err-clause-exact c =
    none_for c.args.script c.in-Err.stop c.lines.ensures.kept (subst (λ ls. Stopped (link_script ls) c.in-Err.stop) c.lines.ensures.lines c.in-Err.ensures)
