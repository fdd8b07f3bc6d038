-- What a name is.
use Rattle.std.specs.Prelude.{ℕ, Bool, ◌&&◌, List, length, nat_le}
use Rattle.std.specs.List.{list_all}
use Rattle.std.specs.Char.{is_ascii_lowercase}

abbrev pub lowers : List ℕ → Bool
lowers t = list_all is_ascii_lowercase t

-- 1 to 8 lowercase letters
abbrev pub is_name : List ℕ → Bool
is_name t = nat_le 1 (length t) && (nat_le (length t) 8 && lowers t)
