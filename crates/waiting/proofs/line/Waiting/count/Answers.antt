-- The places of each, of whom there are at most 64.
use Rattle.std.proofs.Common.{ℕ, ◌^◌, length, cond, ◌∙◌, ap, rules, arith}
use Rattle.std.proofs.lemmas.Iterator.{YieldsList-from_slice, YieldsList-from_map}
use Rattle.std.proofs.lemmas.Iterator.Adapters.{fits_from_length, at_most_from_yields_List}
use Rattle.std.proofs.lemmas.Iterator.Consumers.{YieldsList-at, sum_by_from_yields_List}
use borrow.Author.Tests.{tests}
use Rattle.waiting.specs.Queues.{places, cases}
use Rattle.waiting.specs.Marks.{has}
use Rattle.waiting.proofs.Lines.{crowd}
use Rattle.waiting.proofs.Fronts.{length_of_passing}
use Rattle.waiting.proofs.Marking.{queue_of_set}
use Rattle.waiting.proofs.line.Waiting.count.Goals as goal

pub sum-requires-clause-fits : goal.sum-requires-clause-fits
sum-requires-clause-fits g c =
    fits_from_length _ _ 64 (2 ^ 64) (at_most_from_yields_List (YieldsList-at c.map.ensures.source (YieldsList-from_slice c.self.inside.line.items (c.iter.ensures.rest ∙ c.deref.ensures.value))) (crowd 64 c.self.inside.line.items c.self.invariant.0)) c.map.ensures.closure (omega arith)
    (λ x r q k. search rules)

pub returns : goal.returns
returns g c =
    let own = λ (r : ℕ). places c.args.q.side c.args.q.channel r 0 (cases r c.args.self.now.table) in
    let set = c.standing-set.result in
    sum_by_from_yields_List (λ r. cond (has set r) (length (own r)) 0) c.args.self.now.line c.map.result c.sum.result c.sum.ensures.ran
    (YieldsList-from_map _ (λ r. cond (has set r) (length (own r)) 0) (YieldsList-at c.map.ensures.source (YieldsList-from_slice c.args.self.now.line (c.iter.ensures.rest ∙ c.deref.ensures.value ∙ ap (λ s. s.line) c.self.view_is))) c.map.ensures.closure (λ x r q k. search (rules, tests)))
    ∙ length_of_passing (has set) own c.args.self.now.line
    ∙ ap length (queue_of_set c.args.q.side c.args.q.channel set c.args.self.now.line c.args.self.now.table c.standing-set.ensures)
