use Rattle.std.proofs.Common.{◌≡◌, ◌^◌, ◌≤◌, vec_items, ◌∙◌, rules, arith}
use Rattle.std.proofs.lemmas.Iterator.{YieldsList-from_slice, YieldsList-from_map}
use Rattle.std.proofs.lemmas.Iterator.Consumers.{YieldsList-at, sum_by_from_yields_List, fits_by_from_yields_list}
use borrow.Author.Tests.{tests}
use Rattle.lines.specs.declared.line.Kind.{Kind}
use Rattle.lines.specs.declared.line.Kind.TheVariants.{Value, Handle}
use Rattle.linking.specs.Sound.{cells_for}
use Rattle.hub.specs.declared.port.Port.{Port}
use Rattle.hub.specs.Boards.{cells, cells_of, declared}
use Rattle.hub.proofs.Boards.{cells_fit}
use Rattle.hub.proofs.hub.Hub.cells.Goals as goal

small : (k : Kind) → cells_of k ≤ 512
small Value = omega arith
small Handle = omega arith

pub sum-requires-clause-fits : goal.sum-requires-clause-fits
sum-requires-clause-fits c =
    let each = λ (p : Port). cells_for c.args.kind (declared p) in
    let fit = cells_fit c.args.kind (vec_items c.self.inside.ports) c.self.invariant in
    fits_by_from_yields_list each (vec_items c.self.inside.ports) c.map.result (2 ^ 64)
    (YieldsList-from_map _ each (YieldsList-at c.map.ensures.source (YieldsList-from_slice (vec_items c.self.inside.ports) (c.iter.ensures.rest ∙ c.deref.ensures.value))) c.map.ensures.closure (λ x r q k. search (rules, tests)))
    (omega (arith, fit, small c.args.kind))

pub returns-clause-fit : goal.returns-clause-fit
returns-clause-fit c =
    let each = λ (p : Port). cells_for c.args.kind (declared p) in
    let is : c.sum.result ≡ cells c.args.kind (vec_items c.self.inside.ports) =
    sum_by_from_yields_List each (vec_items c.self.inside.ports) c.map.result c.sum.result c.sum.ensures.ran
    (YieldsList-from_map _ each (YieldsList-at c.map.ensures.source (YieldsList-from_slice (vec_items c.self.inside.ports) (c.iter.ensures.rest ∙ c.deref.ensures.value))) c.map.ensures.closure (λ x r q k. search (rules, tests))) in
    rw is (cells_fit c.args.kind (vec_items c.self.inside.ports) c.self.invariant)
