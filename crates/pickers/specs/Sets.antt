-- Ready sets: which cases of a select are ready, as a small number.
use Rattle.std.specs.Prelude.{◌≡◌, ℕ, Bool, true, ◌&&◌, List, Some, None, Option, ◌==◌, nat_lt, nat_le, filter, slice_get}
use Rattle.std.specs.Int.{bit_at}
use Rattle.std.specs.List.{range_with_len}

-- There are eight cases, and case k is ready where the binary digit k of the number is 1.
unfoldable pub has : ℕ → ℕ → Bool
has s k = nat_lt k 8 && bit_at s k == 1

-- the ready cases, the lowest first
unfoldable pub cases : ℕ → List ℕ
cases s = filter (has s) (range_with_len 0 8)

-- those that are not below a case
unfoldable pub onward : ℕ → List ℕ → List ℕ
onward j ks = filter (nat_le j) ks

-- the first of a list, if it has one
abbrev pub first : List ℕ → Option ℕ
first ks = slice_get ks 0

-- none, or a case of the set
abbrev pub OneOf : ℕ → Option ℕ → Type 0
OneOf s None = Unit {0}
OneOf s (Some k) = has s k ≡ true
