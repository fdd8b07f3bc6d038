-- The laws, cited.
use Rattle.calls.proofs.Along.{always_lawful, calls_follow}
use Rattle.calls.proofs.FromStart.{kept_follow}
use Rattle.calls.proofs.laws.laws_hold.Goals as goal

pub returns : goal.returns
returns c = record { laws = always_lawful; parts = calls_follow; kept = kept_follow }
