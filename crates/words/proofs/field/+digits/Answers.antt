use Rattle.std.proofs.Common.{◌+◌, sym, ap, ◌∙◌, arith}
use Rattle.itoa.proofs.Decimal.{length_one, length_step_wide}
use Rattle.words.proofs.field.+digits.Goals as goal

pub returns-then-n-lt10-clause-value : goal.returns-then-n-lt10-clause-value
returns-then-n-lt10-clause-value t c = sym (length_one c.args.n c.if-n-lt10.true)

pub returns-else-n-lt10-clause-value : goal.returns-else-n-lt10-clause-value
returns-else-n-lt10-clause-value t c = ap (λ k. k + 1) c.digits.ensures.value ∙ sym (length_step_wide c.args.n c.if-n-lt10.false (omega arith))
