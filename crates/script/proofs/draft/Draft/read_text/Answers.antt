use Rattle.std.proofs.Common.{rules, of_calls, ◌+◌, eqb, sym, ap, ◌∙◌}
use Rattle.std.proofs.lemmas.List.Sorted.{answers_always}
use Rattle.std.proofs.lemmas.Result.{err_from_is_err_and}
use Rattle.script.specs.Drafts.{reading}
use Rattle.script.proofs.Pieces.{no_piece, cut_short}
use Rattle.script.proofs.Readings.{Cut, read_all, end_after, piece_refused, piece_taken}
use Rattle.script.proofs.draft.Draft.read_text.Goals as goal

pub read_one-requires : goal.read_one-requires
read_one-requires c =
    let step = c.in-Some.ensures.steps in
    let found = step.0.1.2 (λ b. eqb b 10) (answers_always _ _ _ (λ f a r g k. search (rules, of_calls))) in
    cut_short c.loop-place.place-iterator.iter.rest.now c.in-Some.bytes.now c.next.new.self.iter.rest.now step.0.1.0 step.0.0 step.0.1.1 found.1

pub loop-place-preserved : goal.loop-place-preserved
loop-place-preserved c =
    let rest = c.loop-place.place-iterator.iter.rest.now in
    let left = c.next.new.self.iter.rest.now in
    let step = c.in-Some.ensures.steps in
    let found = step.0.1.2 (λ b. eqb b 10) (answers_always _ _ _ (λ f a r g k. search (rules, of_calls))) in
    let here : Cut c.loop-place.end c.args.text.now rest c.in-Some.bytes.now left =
    record { i = step.0.1.0; cut = step.0.0; len = step.0.1.1; some = step.0.2; first = found.1; before = c.loop-place.invariant.0 } in
    let d = c.loop-place.self in
    let d' = c.read_one.new.self in (
      end_after d d' (c.in-Some.place + 1) _ _ _ _ _ here,
      ap (λ k. reading d' (k + 1) left) (step.2 ∙ ap (λ k. k + 1) (sym step.1))
          ∙ sym (piece_taken d d' (c.in-Some.place + 1) _ _ _ _ _ here c.in_ok-read_one.ensures)
          ∙ ap (λ k. reading d (k + 1) rest) step.1
          ∙ c.loop-place.invariant.1,
    )

pub returns-in_err-read_one : goal.returns-in_err-read_one
returns-in_err-read_one c =
    let rest = c.loop-place.place-iterator.iter.rest.now in
    let step = c.in-Some.ensures.steps in
    let found = step.0.1.2 (λ b. eqb b 10) (answers_always _ _ _ (λ f a r g k. search (rules, of_calls))) in
    let here : Cut c.loop-place.end c.args.text.now rest c.in-Some.bytes.now c.next.new.self.iter.rest.now =
    record { i = step.0.1.0; cut = step.0.0; len = step.0.1.1; some = step.0.2; first = found.1; before = c.loop-place.invariant.0 } in
    let d = c.loop-place.self in
    let e = err_from_is_err_and c.from_residual.result c.from_residual.ensures.1 in
    rw (e.1, e.2)
    (sym (piece_refused d c.read_one.new.self (c.in-Some.place + 1) _ _ _ _ _ here _ c.in_err-read_one.ensures)
    ∙ ap (λ k. reading d (k + 1) rest) step.1
    ∙ c.loop-place.invariant.1)

pub returns : goal.returns
returns c = sym (read_all c.loop-place.self (c.loop-place.place-iterator.count + 1) c.loop-place.place-iterator.iter.rest.now (no_piece c.loop-place.place-iterator.iter.rest.now c.in-None.ensures.steps.0.0)) ∙ c.loop-place.invariant.1
