-- The laws, from the lemmas.
use Rattle.waiting.proofs.Orders.{queue_without, queue_push, gone}
use Rattle.waiting.proofs.Turns.{earlier_is_ahead, first_come_first_served}
use Rattle.waiting.proofs.laws.queues_keep_order.Goals as goal

pub returns : goal.returns
returns g c = record {
  left = λ r line table s ch. gone s ch r line table;
  others = λ s ch r line table. queue_without s ch r line table;
  behind = λ s ch r line table. queue_push s ch r line table;
  earlier = earlier_is_ahead;
  served = first_come_first_served;
}
