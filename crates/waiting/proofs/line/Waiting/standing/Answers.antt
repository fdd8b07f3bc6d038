-- The marks are exact.
use Rattle.std.proofs.Common.{arith}
use Rattle.std.proofs.lemmas.List.{get_or_read}
use Rattle.waiting.proofs.line.Waiting.standing.Goals as goal

pub returns : goal.returns
returns g c =
    let held = get_or_read c.self.inside.marks.items _ _ (omega (arith, c.slot.ensures.within, c.self.invariant.5)) c.index.ensures 0 in
    rw (held, c.slot.ensures.is, ← c.self.view_is) (c.self.invariant.6 c.args.q.side c.args.q.channel)
