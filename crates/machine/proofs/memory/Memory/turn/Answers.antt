use Rattle.std.proofs.Common.{◌≡◌, [], arith}
use Rattle.std.proofs.lemmas.Grind.{common_steps}
use Rattle.machine.proofs.Turning.{stall_made}
use Rattle.machine.proofs.memory.Memory.turn.Goals as goal

pub returns-in-None-clause-made : goal.returns-in-None-clause-made
returns-in-None-clause-made g c =
    let none : c.args.self.now.turns ≡ [] = grind (arith, common_steps) in
    stall_made c.args.linked.now.program (g.P.Picker.meaning c.args.picker.now) c.stall.result c.args.self.now c.stall.new.self c.args.values.now c.args.handles.now none c.stall.ensures.report c.stall.ensures.memory
