-- What is listed of a word.
use Rattle.std.specs.Prelude.{ℕ, List, ◌∷◌, ◌++◌, map, pos, decimal}
use Rattle.std.specs.Fmt.{signed_decimal}
use Rattle.std.specs.List.{flat_map}
use Rattle.words.specs.declared.field.Field.{Field}
use Rattle.words.specs.declared.field.Field.TheVariants.{Name, Integer, Natural, Value, Handle}
use Rattle.words.specs.Words.{Said, name, number, value, handle}

-- a name as it is, a number in decimal, a register by its letter and number
abbrev pub show_word : Said → List ℕ
show_word (name x) = x
show_word (number z) = signed_decimal z
show_word (value n) = 118 ∷ decimal n
show_word (handle n) = 104 ∷ decimal n

-- after a space
abbrev pub show_field : Said → List ℕ
show_field w = 32 ∷ show_word w

abbrev pub show_fields : List Said → List ℕ
show_fields ws = flat_map show_field ws

abbrev pub field_said : Field → Said
field_said (Name n) = name n
field_said (Integer z) = number z
field_said (Natural n) = number (pos n)
field_said (Value n) = value n
field_said (Handle n) = handle n

-- a mark and the fields after it
abbrev pub show_marked : List ℕ → List Field → List ℕ
show_marked mark fields = mark ++ show_fields (map field_said fields)
