use Rattle.std.proofs.Common.{rules, of_calls, arith, eqb, length, sym, ap, ◌∙◌}
use Rattle.std.proofs.lemmas.List.{length-append}
use Rattle.std.proofs.lemmas.List.Sorted.{answers_always}
use Rattle.script.proofs.Pieces.{cut_piece}
use Rattle.panel.proofs.Cuts.{at_mark, past_line, script_done}
use Rattle.panel.proofs.reading.script_len.Goals as goal

pub returns-then-eq-clause-value : goal.returns-then-eq-clause-value
returns-then-eq-clause-value c =
    let step = c.in-Some.ensures.steps in
    let found = step.1.2 (λ b. eqb b 10) (answers_always _ _ _ (λ f a r g k. search (rules, of_calls))) in
    let first = cut_piece c.loop-line.line-iterator.rest.now c.in-Some.line.now c.next.new.self.rest.now step.1.0 step.0 step.1.1 found.1 step.2 in
    omega (arith, at_mark _ _ _ first (sym c.eq.ensures ∙ c.if-eq.true), c.loop-line.invariant)

pub loop-line-preserved : goal.loop-line-preserved
loop-line-preserved c =
    let step = c.in-Some.ensures.steps in
    let found = step.1.2 (λ b. eqb b 10) (answers_always _ _ _ (λ f a r g k. search (rules, of_calls))) in
    let first = cut_piece c.loop-line.line-iterator.rest.now c.in-Some.line.now c.next.new.self.rest.now step.1.0 step.0 step.1.1 found.1 step.2 in
    let here = past_line _ _ _ first (sym c.eq.ensures ∙ c.if-eq.false) in
    let cut = length-append c.in-Some.line.now c.next.new.self.rest.now in
    (omega (arith, ap length step.0, cut, c.loop-line.invariant), omega (arith, here, c.loop-line.invariant))

pub returns-clause-value : goal.returns-clause-value
returns-clause-value c = omega (arith, script_done _ c.in-None.ensures.steps.0, c.loop-line.invariant)
