-- Each example is computed.
use Rattle.std.proofs.Common.{refl}
use Rattle.std.specs.Fmt.{digits}
use Rattle.reports.proofs.laws.examples_stand.Goals as goal

pub returns : goal.returns
unfolding digits
returns c = record {
  plain = refl;
  waits = refl;
  sent = refl;
  received = refl;
  drained = refl;
  default = refl;
  closes = refl;
  prints = refl;
  starts = refl;
  ends = refl;
  finishes = refl;
  panics = refl;
  departs = refl;
  stalls = refl;
  handed = refl;
  picked = refl;
}
