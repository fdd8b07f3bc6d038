-- The law of replay.
use Rattle.pickers.proofs.Replays.{replays, replays_choices}
use Rattle.pickers.proofs.Decides.{turning_decides}
use Rattle.pickers.proofs.laws.replays_stand.Goals as goal

pub returns : goal.returns
returns c = record { answers = replays; choices = replays_choices; turning = turning_decides }
