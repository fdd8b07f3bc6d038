-- What is printed of a refusal.
use Rattle.std.specs.Prelude.{ℕ, List, codes}
use Rattle.channels.specs.declared.errors.SendError.{SendError}
use Rattle.channels.specs.declared.errors.SendError.TheVariants as send
use Rattle.channels.specs.declared.errors.ReceiveError.{ReceiveError}
use Rattle.channels.specs.declared.errors.ReceiveError.TheVariants as receive
use Rattle.channels.specs.declared.errors.CloseError.{CloseError}
use Rattle.channels.specs.declared.errors.CloseError.TheVariants as close

abbrev pub send_refusal : SendError → List ℕ
send_refusal send.ShortBank = codes "the bank is too short"
send_refusal send.Closed = codes "the channel is closed"
send_refusal send.Full = codes "the buffer is full"

abbrev pub receive_refusal : ReceiveError → List ℕ
receive_refusal receive.ShortBank = codes "the bank is too short"
receive_refusal receive.Empty = codes "nothing is there"

abbrev pub close_refusal : CloseError → List ℕ
close_refusal close.AlreadyClosed = codes "closed before"
close_refusal close.NoRoom = codes "no room"
