-- The laws of channels, cited.
use Rattle.channels.proofs.Settled.{sends_settle, receives_settle, leaving_settles, joining_settles, closing_frees_all}
use Rattle.channels.proofs.laws.channels_stay_settled.Goals as goal

pub returns : goal.returns
returns g c = record { sends = sends_settle; receives = receives_settle; leaving = leaving_settles; joining = joining_settles; closing = closing_frees_all }
