use Rattle.std.proofs.Common.{◌<◌, length, vec_items, refl, arith}
use Rattle.std.proofs.lemmas.List.{get_or_read}
use Rattle.hub.specs.Boards.{Board}
use Rattle.hub.specs.Deals.{no_port}
use Rattle.hub.proofs.Receives.{receive_leaves}
use Rattle.hub.proofs.hub.Hub.receive.Goals as goal

pub invariant_of-self-2 : goal.invariant_of-self-2
invariant_of-self-2 c =
    let b : Board = record { ports = vec_items c.self.inside.ports; line = c.self.inside.waiting.line; wishes = c.self.inside.waiting.table } in
    let i : c.args.number < length b.ports = omega (arith, c.in_ok-port.ensures.variant.0 refl, c.from.ensures, c.self.inside.ports.ok.0) in
    let t = c.receive-got.ensures in
    rw c.from.ensures
    (receive_leaves c.args.values.now c.args.handles.now b c.args.number c.self.invariant c.requires i _ _ _ _ _ _ _
    (get_or_read b.ports c.args.number _ i (rw c.from.ensures at c.in_ok-port.ensures.value) no_port)
    t.answer t.line t.values t.handles t.port t.buffer refl).placed

pub returns : goal.returns
returns c =
    let b : Board = record { ports = vec_items c.self.inside.ports; line = c.self.inside.waiting.line; wishes = c.self.inside.waiting.table } in
    let i : c.args.number < length b.ports = omega (arith, c.in_ok-port.ensures.variant.0 refl, c.from.ensures, c.self.inside.ports.ok.0) in
    let t = c.receive-got.ensures in
    rw (← c.self.view_is, c.from.ensures)
    (receive_leaves c.args.values.now c.args.handles.now b c.args.number c.self.invariant c.requires i _ _ _ _ _ _ _
    (get_or_read b.ports c.args.number _ i (rw c.from.ensures at c.in_ok-port.ensures.value) no_port)
    t.answer t.line t.values t.handles t.port t.buffer c.of_receive.ensures)
