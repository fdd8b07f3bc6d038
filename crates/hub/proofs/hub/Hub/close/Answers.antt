use Rattle.std.proofs.Common.{◌<◌, ◌-◌, length, vec_items, vec_len, vec_capacity, refl, arith}
use Rattle.std.proofs.lemmas.List.{get_or_read}
use Rattle.hub.specs.Boards.{Board}
use Rattle.hub.specs.Deals.{no_port}
use Rattle.hub.proofs.Closes.{close_leaves}
use Rattle.hub.proofs.hub.Hub.close.Goals as goal

pub invariant_of-self-2 : goal.invariant_of-self-2
invariant_of-self-2 c =
    let b : Board = record { ports = vec_items c.self.inside.ports; line = c.self.inside.waiting.line; wishes = c.self.inside.waiting.table } in
    let i : c.args.number < length b.ports = omega (arith, c.in_ok-port.ensures.variant.0 refl, c.self.inside.ports.ok.0) in
    let t = c.close.ensures in
    (close_leaves b c.args.number c.self.invariant i (vec_capacity c.args.freed.now - vec_len c.args.freed.now) (vec_items c.args.freed.now) _ _ _ _ _ _
    (get_or_read b.ports c.args.number _ i c.in_ok-port.ensures.value no_port)
    t.answer t.channel t.items t.line refl).placed

pub returns : goal.returns
returns c =
    let b : Board = record { ports = vec_items c.self.inside.ports; line = c.self.inside.waiting.line; wishes = c.self.inside.waiting.table } in
    let i : c.args.number < length b.ports = omega (arith, c.in_ok-port.ensures.variant.0 refl, c.self.inside.ports.ok.0) in
    let t = c.close.ensures in
    let l = close_leaves b c.args.number c.self.invariant i (vec_capacity c.args.freed.now - vec_len c.args.freed.now) (vec_items c.args.freed.now) _ _ _ _ _ _
    (get_or_read b.ports c.args.number _ i c.in_ok-port.ensures.value no_port)
    t.answer t.channel t.items t.line c.ok.ensures.value in
    rw (← c.self.view_is) (record { answer = l.answered; items = l.noted; room = t.room; board = l.board; seen = l.seen; leaving = λ vs hs. refl })
