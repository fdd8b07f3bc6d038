-- The laws of scripts, cited.
use Rattle.script_laws.proofs.Kept.{accepts_kept, accepts_only}
use Rattle.script_laws.proofs.Whole.{accepts_lawful, lawful_kept}
use Rattle.script_laws.proofs.scripts_round_trip.Goals as goal

pub returns : goal.returns
returns c = record { kept = accepts_kept; only = accepts_only; lawful = accepts_lawful; enough = lawful_kept }
