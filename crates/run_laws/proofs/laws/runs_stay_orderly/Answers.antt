-- The laws, cited.
use Rattle.run_laws.proofs.Orderly.{begins_orderly, step_orderly}
use Rattle.run_laws.proofs.Kept.{never_fewer, channels_stay}
use Rattle.run_laws.proofs.laws.runs_stay_orderly.Goals as goal

pub returns : goal.returns
returns c = record { begins = begins_orderly; stays = step_orderly; fewer = never_fewer; channels = channels_stay }
