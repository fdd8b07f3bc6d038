-- The zero element and the codes of each kind.
use Rattle.std.specs.Prelude.{ℕ, ◌+◌, ◌^◌, ◌<◌, pos, Some, None, Option, unsigned_abs}
use Rattle.std.specs.Int.{int_rem_euclid}
use Rattle.elements.specs.declared.value.Value.{Value}
use Rattle.elements.specs.declared.handle.Handle.{Handle}

abbrev pub value_zero : Value
value_zero = record { number = pos 0 }

-- a value modulo 2^32
abbrev pub value_code : Value → ℕ
value_code v = unsigned_abs (int_rem_euclid v.number (pos (2 ^ 32)))

abbrev pub nil_handle : Handle
nil_handle = record { channel = None }

abbrev pub handle_to : ℕ → Handle
handle_to n = record { channel = Some n }

abbrev pub handle_number : Handle → Option ℕ
handle_number h = h.channel

-- 0 for nil, and else the number + 1
abbrev pub handle_code : Handle → ℕ
handle_code h = elim h.channel [ None ↦ 0 | Some n ↦ n + 1 ]

-- a number has 16 bits
abbrev pub HandleHolds : Handle → Type 0
HandleHolds h = elim h.channel as (λ _. Type 0) [ None ↦ Unit {0} | Some n ↦ n < 2 ^ 16 ]
