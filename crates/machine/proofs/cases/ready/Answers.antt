-- At each turn the loop has the cases from the last one on.
use Rattle.std.proofs.Common.{false, arith, reverse, ap, ◌∙◌}
use Rattle.std.proofs.lemmas.List.{reverse-reverse}
use Rattle.std.proofs.lemmas.Iterator.Adapters.{YieldsList-from_rev_slice}
use Rattle.std.proofs.lemmas.Iterator.Consumers.{YieldsList-turn, YieldsList-end}
use Rattle.runs.specs.Cases.{ready_set}
use Rattle.hub.specs.Boards.{seen}
use Rattle.machine.proofs.Rows.{room, small_more, digits_more}
use Rattle.machine.proofs.cases.ready.Goals as goal

pub overflow_mul-set : goal.overflow_mul-set
overflow_mul-set c =
    let t = YieldsList-turn (YieldsList-from_rev_slice c.args.row.now cc) c.loop-wish.yielded _ c.loop-wish.yielded_by _ _ c.in-Some.wish c.in-Some.is c.next.ensures.steps in
    omega (arith, room c.args.row.now _ _ false c.loop-wish.invariant.small t.0 (omega arith))

pub overflow_add-set : goal.overflow_add-set
overflow_add-set c =
    let t = YieldsList-turn (YieldsList-from_rev_slice c.args.row.now cc) c.loop-wish.yielded _ c.loop-wish.yielded_by _ _ c.in-Some.wish c.in-Some.is c.next.ensures.steps in
    omega (arith, room c.args.row.now _ _ c.can_go.result c.loop-wish.invariant.small t.0 (omega arith))

pub loop-wish-preserved : goal.loop-wish-preserved
loop-wish-preserved c =
    let ws = c.loop-wish.yielded in
    let w = c.in-Some.wish in
    record {
      small = rw c.from.ensures (small_more (λ x. x.now) ws w _ c.can_go.result c.loop-wish.invariant.small);
      digits = λ vs hs e. rw c.from.ensures (digits_more (λ x. x.now) ws w _ _ (seen c.args.hub.now vs hs) (c.loop-wish.invariant.digits vs hs e) (c.can_go.ensures vs hs e));
    }

pub returns : goal.returns
returns c = λ vs hs e.
    let t = YieldsList-end (YieldsList-from_rev_slice c.args.row.now cc) c.loop-wish.yielded _ c.loop-wish.yielded_by _ _ c.in-None.is c.next.ensures.steps in
    c.loop-wish.invariant.digits vs hs e ∙ ap (ready_set (seen c.args.hub.now vs hs)) (ap reverse t.0 ∙ reverse-reverse c.args.row.now)
