-- The first place of the chain.
use Rattle.std.proofs.Common.{rules}
use Rattle.std.proofs.lemmas.Iterator.{YieldsList-from_slice}
use Rattle.std.proofs.lemmas.Iterator.Consumers.{YieldsList-from_enumerate}
use borrow.Author.Tests.{tests}
use Rattle.waiting.specs.Queues.{place}
use Rattle.waiting.proofs.Fronts.{found}
use Rattle.waiting.proofs.cases.Cases.first_in.Goals as goal

pub returns : goal.returns
returns g c =
    found _ _ _ (λ p. place c.args.q.side c.args.q.channel c.args.self.now.routine p.0 p.1) _ (λ x r q k. search (rules, tests)) c.find_map.result c.find_map.ensures.runs
    (YieldsList-from_enumerate (YieldsList-from_slice c.args.self.now.wishes.now cc) cc)
