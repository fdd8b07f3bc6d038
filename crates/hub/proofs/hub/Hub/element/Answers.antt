use Rattle.std.proofs.Common.{◌≡◌, rules, Bor, ◌∙◌}
use Rattle.std.specs.Option.{option_map, option_and_then}
use borrow.Author.Tests.{tests}
use Rattle.routines.specs.Items.{code_of}
use Rattle.hub.specs.declared.port.Port.{Port}
use Rattle.hub.proofs.Asks.{looked, element_seen}
use Rattle.hub.proofs.hub.Hub.element.Goals as goal

pub returns : goal.returns
returns c =
    let item : c.and_then.result ≡ option_and_then (λ (p : Bor Port). looked c.args.values.now c.args.handles.now c.args.place p.now) c.get.result = search (rules, tests) in
    let code : c.map.result ≡ option_map code_of c.and_then.result = search (rules, tests) in
    c.ok_or.ensures.value
    ∙ element_seen c.args.values.now c.args.handles.now c.args.number c.args.place c.self.invariant c.self.view_is c.enough.ensures c.if-not-enough.false
    c.get.result c.deref.ensures.value c.get.ensures.lookup.0 c.get.ensures.lookup.1 item code
