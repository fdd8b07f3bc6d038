use Rattle.std.proofs.Common.{sym, ap, arith}
use Rattle.rings.specs.Layouts.{Layout}
use Rattle.rings.proofs.Holding.{held_most}
use Rattle.rings.proofs.Turns.{can_take}
use Rattle.channels.proofs.channel.Channel.receive.Goals as goal

-- a ring that something was taken from has room
pub refill-requires-clause-room : goal.refill-requires-clause-room
refill-requires-clause-room g c =
    let before = c.args.self.now.ring in
    let t = c.in-Ok.ensures in
    let k = can_take before c.args.bank.now c.in-Ok.e (sym t.answer) in
    omega (arith, held_most c.take.new.self c.args.bank.now, ap (λ (m : Layout). m.count) t.ring, ap (λ (m : Layout). m.capacity) t.ring, k.some, c.if-not-lies_in.ensures.sound.counted)
