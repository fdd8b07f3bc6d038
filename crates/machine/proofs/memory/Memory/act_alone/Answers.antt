use Rattle.std.proofs.Common.{rules, ◌≡◌, Some, sym, ap, ◌∙◌}
use Rattle.std.specs.Option.{unwrap_or}
use Rattle.linking.specs.declared.operation.Operation.TheVariants.{Print, Clear}
use Rattle.machine.proofs.Stilled.{finish_made, end_made, print_made, plain_made}
use Rattle.machine.proofs.memory.Memory.act_alone.Goals as goal

pub returns-in-None : goal.returns-in-None
returns-in-None c = λ rest m vs hs.
    let x = c.args.turn.now in
    finish_made m x.number x.line x.routine c.finish.result c.args.self.now c.finish.new.self vs hs rest c.args.operation c.in-None.is c.if-turn-eq0.true (c.requires.end c.in-None.is) c.finish.ensures.report c.finish.ensures.memory

pub returns-in-None-2 : goal.returns-in-None-2
returns-in-None-2 c = λ rest m vs hs.
    let x = c.args.turn.now in
    end_made m x.number x.line x.routine c.end_turn.result c.args.self.now c.end_turn.new.self vs hs rest c.args.operation c.in-None.is c.if-turn-eq0.false (c.requires.end c.in-None.is) c.end_turn.ensures.report c.end_turn.ensures.memory

pub returns-in-Some-Print : goal.returns-in-Some-Print
returns-in-Some-Print c = λ rest m vs hs.
    let x = c.args.turn.now in
    let t : unwrap_or c.args.operation (Clear 0) ≡ Print c.in-Some-Print.register = cc in
    let a = c.in-Some-Print.is in
    let some = a ∙ ap Some (sym (ap (λ o. unwrap_or o (Clear 0)) a) ∙ t) in
    print_made m x.number x.line x.routine c.print.result c.args.self.now c.print.new.self vs hs rest c.args.operation c.in-Some-Print.register some c.print.ensures.report c.print.ensures.memory

pub returns-in-Some : goal.returns-in-Some
returns-in-Some c = λ rest m vs hs.
    let x = c.args.turn.now in
    plain_made m x.number x.line x.routine c.plain.result c.args.self.now c.plain.new.self vs hs rest c.args.operation c.in-Some.operation c.in-Some.is (search rules) c.plain.ensures.report c.plain.ensures.memory
