use Rattle.std.proofs.Common.{ap, ◌∙◌, arith}
use Rattle.script.specs.Drafts.{reading}
use Rattle.script.proofs.Kept.{kept_whole, listed_back, from_blank}
use Rattle.script.proofs.state.Empty.read.Goals as goal

pub invariant_of-result : goal.invariant_of-result
invariant_of-result c =
    let t = c.args.text.now in
    kept_whole t c.read_text.new.self.lines (c.in-Ok.ensures ∙ ap (λ d. reading d 1 t) c.args.self.none ∙ from_blank t (omega arith))

pub returns-in-Ok-clause-listed : goal.returns-in-Ok-clause-listed
returns-in-Ok-clause-listed c =
    let t = c.args.text.now in
    listed_back t c.read_text.new.self.lines (c.in-Ok.ensures ∙ ap (λ d. reading d 1 t) c.args.self.none ∙ from_blank t (omega arith))
