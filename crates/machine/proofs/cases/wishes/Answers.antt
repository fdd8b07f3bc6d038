use Rattle.std.proofs.Common.{rules, arith}
use Rattle.machine.proofs.Rows.{wishes_more, wishes_all}
use Rattle.machine.proofs.cases.wishes.Goals as goal

pub loop-k-preserved : goal.loop-k-preserved
loop-k-preserved c =
    (search rules, λ vs hs. wishes_more _ c.args.x.now _ c.args.cases.now _ (c.loop-k.invariant.1 vs hs) _ _ _ (omega arith) (omega arith) c.exchange_of.ensures (c.wish_of.ensures.is vs hs))

pub returns : goal.returns
returns c = λ vs hs. wishes_all _ c.args.x.now _ c.args.cases.now _ (c.loop-k.invariant.1 vs hs) (omega arith) (omega arith)
