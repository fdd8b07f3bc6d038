use Rattle.rings.proofs.Apart.{stays_apart}
use Rattle.rings.proofs.laws.rings_stay_apart.Goals as goal

pub returns : goal.returns
returns g c = stays_apart
