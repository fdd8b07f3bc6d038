use Rattle.std.proofs.Common.{◌≡◌, true, refl, sym, ◌∙◌, subst}
use Rattle.std.specs.Bool.{if◌then◌else◌}
use Rattle.lines.specs.declared.line.Kind.TheVariants.{Value as ValueKind, Handle as HandleKind}
use Rattle.elements.specs.Codes.{value_zero, nil_handle}
use Rattle.rings.specs.Contents.{cleared}
use Rattle.runs.specs.Runs.{Parts}
use Rattle.hub.specs.Boards.{Board, Placed, cells, enough}
use Rattle.machine.proofs.Beginning.{begins_in_order, begins_with_channels, begun}
use Rattle.machine.proofs.starting.start.Goals as goal

pub invariant_of-result : goal.invariant_of-result
invariant_of-result c =
    let p = c.args.linked.program in
    let o = begins_in_order p c.in-Ok.memory c.in-Ok.ensures in
    record { few = o.few; count = o.count; there = o.there; once = o.once; channels = begins_with_channels p c.in-Ok.memory c.in-Ok.ensures; placed = subst (λ (n : Parts Board). Placed 0 0 0 n.hub.ports) c.memory.view_is c.waiting.ensures.placed }

pub returns-in-Ok : goal.returns-in-Ok
returns-in-Ok c =
    let p = c.args.linked.program in
    let vs = c.args.values.now in
    let hs = c.args.handles.now in
    let there : enough vs hs ≡ true = sym c.enough.ensures ∙ c.if-not-enough.false in
    let V : Parts Board → Type 0 = λ n. c.clear.new.values ≡ (if enough vs hs then cleared 0 (cells ValueKind n.hub.ports) value_zero vs else vs) in
    let H : Parts Board → Type 0 = λ n. c.clear.new.handles ≡ (if enough vs hs then cleared 0 (cells HandleKind n.hub.ports) nil_handle hs else hs) in
    (there, refl, begun p c.in-Ok.memory c.in-Ok.ensures vs hs c.clear.new.values c.clear.new.handles there (subst V c.memory.view_is c.clear.ensures.values) (subst H c.memory.view_is c.clear.ensures.handles))
