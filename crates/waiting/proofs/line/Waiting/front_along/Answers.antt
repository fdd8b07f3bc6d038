-- The first place of the first of the set who has one.
use Rattle.std.proofs.Common.{ℕ, ◌∙◌, ap, rules, cond, None}
use Rattle.std.proofs.lemmas.Iterator.{YieldsList-from_slice}
use borrow.Author.Tests.{tests}
use Rattle.waiting.specs.Marks.{has}
use Rattle.waiting.specs.Queues.{places, cases, first}
use Rattle.waiting.proofs.Fronts.{found, first_of_passing}
use Rattle.waiting.proofs.line.Waiting.front_along.Goals as goal

pub returns : goal.returns
returns g c =
    let own = λ (r : ℕ). places c.args.q.side c.args.q.channel r 0 (cases r c.args.self.now.table) in
    found _ _ _ (λ r. cond (has c.args.set r) (first (own r)) None) _ (λ x r q k. search (rules, tests)) c.find_map.result c.find_map.ensures.runs
    (YieldsList-from_slice c.args.self.now.line (c.iter.ensures.rest ∙ c.deref.ensures.value ∙ ap (λ s. s.line) c.self.view_is))
    ∙ first_of_passing (has c.args.set) own c.args.self.now.line
