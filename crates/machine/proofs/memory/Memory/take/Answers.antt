use Rattle.std.proofs.Common.{map, sym, ◌∙◌}
use Rattle.runs.specs.Cases.{branch}
use Rattle.machine.proofs.Dealing.{branch_is, room, known, step_made}
use Rattle.machine.proofs.memory.Memory.take.Goals as goal

pub settle-requires-clause-room : goal.settle-requires-clause-room
settle-requires-clause-room c =
    let vs = c.args.values.now in
    let hs = c.args.handles.now in
    let here = branch_is c.args.cases.now c.args.k _ _ _ c.requires.within c.exchange_of-exchange.ensures c.target_of.ensures in
    room _ _ c.self.view_is vs hs c.args.turn.now.routine (map branch c.args.cases.now) c.args.k _ c.in-Some.wish
    here (sym (c.wish_of.ensures.is vs hs) ∙ c.in-Some.is) c.requires.goes c.requires.enough c.in-Some.ensures.there
    c.take.result c.in-Some-take.deal c.in-Some-take.is c.take.ensures.answer
    c.requires.orderly

pub settle-requires-clause-there : goal.settle-requires-clause-there
settle-requires-clause-there c =
    let vs = c.args.values.now in
    let hs = c.args.handles.now in
    let here = branch_is c.args.cases.now c.args.k _ _ _ c.requires.within c.exchange_of-exchange.ensures c.target_of.ensures in
    known _ _ c.self.view_is vs hs c.args.turn.now.routine (map branch c.args.cases.now) c.args.k _ c.in-Some.wish
    here (sym (c.wish_of.ensures.is vs hs) ∙ c.in-Some.is) c.requires.goes c.requires.enough c.in-Some.ensures.there
    c.take.result c.in-Some-take.deal c.in-Some-take.is c.take.ensures.answer
    c.requires.orderly

pub returns : goal.returns
returns c =
    let vs = c.args.values.now in
    let hs = c.args.handles.now in
    let here = branch_is c.args.cases.now c.args.k _ _ _ c.requires.within c.exchange_of-exchange.ensures c.target_of.ensures in
    λ m. step_made _ _ c.self.view_is vs hs c.args.turn.now.routine (map branch c.args.cases.now) c.args.k _ c.in-Some.wish
    here (sym (c.wish_of.ensures.is vs hs) ∙ c.in-Some.is) c.requires.goes c.requires.enough c.in-Some.ensures.there
    c.take.result c.in-Some-take.deal c.in-Some-take.is c.take.ensures.answer
    m _ c.args.turn.now.line c.args.picked c.settle.new.self c.take.new.self _ _ c.settle.result
    c.take.ensures.board c.take.ensures.values c.take.ensures.handles c.take.ensures.seen c.settle.ensures.report c.settle.ensures.memory
