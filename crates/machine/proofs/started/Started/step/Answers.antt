use Rattle.std.proofs.Common.{length, sym, subst}
use Rattle.runs.specs.Orderly.{Orderly}
use Rattle.machine.proofs.Keeping.{Keeps, keeps}
use Rattle.machine.proofs.started.Started.step.Goals as goal

pub invariant_of-self-2 : goal.invariant_of-self-2
invariant_of-self-2 g c =
    let s = c.args.self.now in
    let p = s.linked.program in
    let t = c.turn-report in
    let o : Orderly (length s.memory.routines) s.memory.turns s.memory.hub.line = record { few = s.few; count = s.count; there = s.there; once = s.once } in
    let n = length p.channels in
    let k = subst (Keeps n) (sym c.memory.view_is) (keeps p (g.P.Picker.meaning c.args.picker.now) t.result s.memory t.new.self c.args.values.now c.args.handles.now t.new.values t.new.handles t.ensures.made n o s.channels) in
    record { few = k.order.few; count = k.order.count; there = k.order.there; once = k.order.once; channels = k.channels; placed = c.waiting.ensures.placed }
