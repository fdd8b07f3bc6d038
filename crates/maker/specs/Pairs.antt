-- The zero pair, and the code of a pair.
use Rattle.std.specs.Prelude.{ℕ, ◌+◌, ◌*◌}
use Rattle.maker.specs.declared.pair.Pair.{Pair}

abbrev pub no_pair : Pair
no_pair = record { high = 0; low = 0 }

abbrev pub pair_code : Pair → ℕ
pair_code p = 256 * p.high + p.low
