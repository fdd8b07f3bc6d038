-- What the set of the queue tells.
use Rattle.std.proofs.Common.{◌∙◌, ap}
use Rattle.waiting.specs.Queues.{first}
use Rattle.waiting.proofs.Marking.{front_of_nobody, front_of_only, queue_of_set}
use Rattle.waiting.proofs.line.Waiting.first.Goals as goal

pub returns-then-set-eq0 : goal.returns-then-set-eq0
returns-then-set-eq0 g c = front_of_nobody c.args.q.side c.args.q.channel _ _ _ c.standing-set.ensures c.if-set-eq0.true

pub returns-in-Some : goal.returns-in-Some
returns-in-Some g c =
    rw (c.first_in.ensures, c.cases_of.ensures.what, c.cases_of.ensures.who)
    (front_of_only c.args.q.side c.args.q.channel c.standing-set.result c.in-Some.routine _ _ c.standing-set.ensures c.in-Some.ensures)

pub returns-in-None : goal.returns-in-None
returns-in-None g c = c.front_along.ensures ∙ ap first (queue_of_set c.args.q.side c.args.q.channel _ _ _ c.standing-set.ensures)
