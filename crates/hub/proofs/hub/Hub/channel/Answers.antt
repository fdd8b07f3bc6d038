use Rattle.std.proofs.Common.{arith, ap, ◌∙◌}
use Rattle.std.specs.Result.{result_ok}
use Rattle.hub.proofs.Asks.{found, told_seen}
use Rattle.hub.proofs.hub.Hub.channel.Goals as goal

pub overflow_cast-number : goal.overflow_cast-number
overflow_cast-number c =
    let f = found c.self.invariant c.deref.ensures.value (c.ok_or.ensures.ok_part ∙ ap result_ok c.in_ok-port.was) c.get.ensures.lookup.0 c.get.ensures.lookup.1 in
    omega (arith, f.small)

pub overflow_cast-number-2 : goal.overflow_cast-number-2
overflow_cast-number-2 c =
    let f = found c.self.invariant c.deref.ensures.value (c.ok_or.ensures.ok_part ∙ ap result_ok c.in_ok-port.was) c.get.ensures.lookup.0 c.get.ensures.lookup.1 in
    omega (arith, f.small)

pub returns-clause-seen : goal.returns-clause-seen
returns-clause-seen c = λ vs hs enough.
    let f = found c.self.invariant c.deref.ensures.value (c.ok_or.ensures.ok_part ∙ ap result_ok c.in_ok-port.was) c.get.ensures.lookup.0 c.get.ensures.lookup.1 in
    told_seen vs hs _ c.args.number c.in_ok-port.port.now c.self.invariant enough f c.args.self.now c.self.view_is _ _ _ c.queued-receivers.ensures c.queued-senders.ensures c.told.ensures
