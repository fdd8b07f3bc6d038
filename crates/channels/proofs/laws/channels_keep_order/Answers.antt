-- First in, first out, cited.
use Rattle.channels.proofs.Orders.{first_in_first_out}
use Rattle.channels.proofs.laws.channels_keep_order.Goals as goal

pub returns : goal.returns
returns g c = first_in_first_out
