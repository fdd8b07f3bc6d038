-- The laws, cited.
use Rattle.run_laws.proofs.Settled.{begins_settled, step_settled, step_lawful}
use Rattle.run_laws.proofs.Waits.{nobody_waits_idly, stalls_when_all_wait, channels_guarded, sound_has_few_cases}
use Rattle.run_laws.proofs.laws.runs_stay_settled.Goals as goal

pub returns : goal.returns
returns c = record {
  begins = begins_settled;
  stays = step_settled;
  lawful = step_lawful;
  few = sound_has_few_cases;
  waits = nobody_waits_idly;
  stalls = stalls_when_all_wait;
  channels = channels_guarded;
}
