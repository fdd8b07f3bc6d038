-- What a turning picker means: the cases take turns.
use Rattle.std.specs.Prelude.{ℕ, ◌+◌, [], ◌∷◌, Option}
use Rattle.std.specs.Option.{unwrap_or, option_or}
use Rattle.pickers.specs.Sets.{cases, onward, first}
use Rattle.pickers.specs.Meaning.{Meaning}

-- the lowest ready case above the last answer, else the lowest ready case
abbrev pub turned : ℕ → ℕ → Option ℕ
turned last s = option_or (first (onward (last + 1) (cases s))) (first (cases s))

-- the meaning from a last answer on
abbrev pub turning : ℕ → Meaning
turning last [] q = turned last q.ready
turning last (p ∷ qs) q = turning (unwrap_or (turned last p.ready) last) qs q

-- a new turning picker goes on as if case 7 had been its last answer
abbrev pub fresh_turning : Meaning
fresh_turning = turning 7
