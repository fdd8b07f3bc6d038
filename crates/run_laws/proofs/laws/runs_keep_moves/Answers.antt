-- The laws, cited.
use Rattle.run_laws.proofs.Moves.{step_keeps_moves, keeps_moves, moves_in_order}
use Rattle.run_laws.proofs.laws.runs_keep_moves.Goals as goal

pub returns : goal.returns
returns c = record { step = step_keeps_moves; steps = keeps_moves; start = moves_in_order }
