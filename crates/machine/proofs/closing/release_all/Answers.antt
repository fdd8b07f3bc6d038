use Rattle.std.proofs.Common.{rules, arith, ap, ◌∷◌, [], length-append, length}
use Rattle.machine.proofs.Dismissals.{one_dismissed}
use Rattle.machine.proofs.closing.release_all.Goals as goal

pub loop-entry-preserved : goal.loop-entry-preserved
loop-entry-preserved c =
    let before = c.loop-entry in
    record {
      run = λ h over. one_dismissed c.args.channel c.args.freed.now before.entry-index h over _ _ _ _ _ _ _ _ c.loop-entry-test.true c.requires.there before.invariant.many c.dismissed-w.ensures c.push_back_reserved.ensures.items (before.invariant.run h over);
      many = search rules;
      turns = omega (arith, ap length c.push_back_reserved.ensures.items, length-append before.turns.items (c.dismissed-w.result.routine ∷ []), before.invariant.turns);
      room = search rules;
    }
