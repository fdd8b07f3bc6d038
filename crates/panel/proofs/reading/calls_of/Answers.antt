use Rattle.std.proofs.Common.{rules, of_calls, ◌+◌, eqb, vec_items, sym, ap, ◌∙◌}
use Rattle.std.proofs.lemmas.List.Sorted.{answers_always}
use Rattle.std.proofs.lemmas.Result.{err_from_is_err_and}
use Rattle.script.specs.Texts.{pieces}
use Rattle.script.specs.Drafts.{behind}
use Rattle.script.proofs.Pieces.{cut_piece}
use Rattle.linking.proofs.Stages.{part_made, part_faulty}
use Rattle.panel.specs.Forms.{read_calls}
use Rattle.panel.proofs.Cuts.{calls_on, calls_done}
use Rattle.panel.proofs.reading.calls_of.Goals as goal

pub returns-in_err-ended_call : goal.returns-in_err-ended_call
returns-in_err-ended_call c =
    let rest = c.loop-place.place-iterator.iter.rest.now in
    let step = c.in-Some.ensures.steps in
    let found = step.0.1.2 (λ b. eqb b 10) (answers_always _ _ _ (λ f a r g k. search (rules, of_calls))) in
    let first = cut_piece rest c.in-Some.bytes.now c.next.new.self.iter.rest.now step.0.1.0 step.0.0 step.0.1.1 found.1 step.0.2 in
    let p = err_from_is_err_and c.from_residual.result c.from_residual.ensures.1 in
    let here = sym c.loop-place.invariant ∙ ap (λ k. behind (vec_items c.loop-place.calls) (read_calls (k + 1) (pieces rest))) (sym step.1) in
    rw (p.1, p.2) (part_faulty (vec_items c.loop-place.calls) _ _ _ _ here (calls_on _ _ _ first (c.in-Some.place + 1)) _ (sym c.in_err-ended_call.ensures))

pub loop-place-preserved : goal.loop-place-preserved
loop-place-preserved c =
    let rest = c.loop-place.place-iterator.iter.rest.now in
    let left = c.next.new.self.iter.rest.now in
    let step = c.in-Some.ensures.steps in
    let found = step.0.1.2 (λ b. eqb b 10) (answers_always _ _ _ (λ f a r g k. search (rules, of_calls))) in
    let first = cut_piece rest c.in-Some.bytes.now left step.0.1.0 step.0.0 step.0.1.1 found.1 step.0.2 in
    let here = sym c.loop-place.invariant ∙ ap (λ k. behind (vec_items c.loop-place.calls) (read_calls (k + 1) (pieces rest))) (sym step.1) in
    let all = c.push.new.self.items in
    let next = step.2 ∙ ap (λ k. k + 1) (sym step.1) in
    ap (λ k. behind all (read_calls (k + 1) (pieces left))) next
    ∙ sym (part_made (vec_items c.loop-place.calls) _ _ _ _ here (calls_on _ _ _ first (c.in-Some.place + 1)) c.in_ok-ended_call.field-0 (sym c.in_ok-ended_call.ensures) all c.in_ok-push.ensures.items)

pub returns : goal.returns
returns c = sym c.loop-place.invariant ∙ calls_done (c.loop-place.place-iterator.count + 1) c.loop-place.place-iterator.iter.rest.now (vec_items c.loop-place.calls) c.in-None.ensures.steps.0.0
