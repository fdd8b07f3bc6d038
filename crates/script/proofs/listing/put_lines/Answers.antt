use Rattle.std.proofs.Common.{refl, subst, List, ℕ}
use Rattle.words.specs.Pages.{Wrote}
use Rattle.words.proofs.Pages.{wrote_none, clash}
use Rattle.script.proofs.Showing.{next, first_all}
use Rattle.script.proofs.listing.put_lines.Goals as goal

pub loop-line-init : goal.loop-line-init
loop-line-init c = λ f. wrote_none c.args.page.now

pub returns-in_err-put_ended : goal.returns-in_err-put_ended
returns-in_err-put_ended c =
    let step = next c.args.lines.now c.loop-line.line-index c.loop-line-test.true c.line-item.result c.line-item.is _ _ _ _ c.loop-line.invariant c.put_ended.ensures in
    record { answer = λ f. absurd (clash (step f).0 c.in_err-put_ended.was); after = λ f. absurd (clash (step f).0 c.in_err-put_ended.was) }

pub loop-line-preserved : goal.loop-line-preserved
loop-line-preserved c =
    λ f. (next c.args.lines.now c.loop-line.line-index c.loop-line-test.true c.line-item.result c.line-item.is _ _ _ _ c.loop-line.invariant c.put_ended.ensures f).1

pub returns : goal.returns
returns c =
    let P : List ℕ → Type 0 = λ t. Wrote c.args.page.now t c.loop-line.page in
    record { answer = λ f. refl; after = λ f. subst P (first_all c.args.lines.now c.loop-line.line-index c.loop-line-test.false) (c.loop-line.invariant f) }
