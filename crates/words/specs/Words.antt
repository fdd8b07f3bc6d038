-- What a word of the text is: a name, a number or a register.
use Rattle.std.specs.Prelude.{◌≡◌, ℕ, suc, ◌+◌, ◌-◌, ◌*◌, ◌<◌, Bool, true, cond, not, ◌&&◌, ◌||◌, List, [], ◌∷◌, length, take, drop, ℤ, pos, negsuc, neg_ℤ, Some, None, Ok, Err, Option, Result, ◌==◌, nat_le, nat_lt, slice_index}
use Rattle.std.specs.Borrow.{Bor}
use Rattle.std.specs.Str.{all_ascii_digits}
use Rattle.words.specs.declared.refusal.Fault.{Fault}
use Rattle.words.specs.declared.reading.Word.{Word}
use Rattle.words.specs.declared.reading.Word.TheVariants.{Name, Number, Value, Handle}
use Rattle.words.specs.Names.{is_name}
use Rattle.words.specs.Refusals.{broken}

-- how many bytes stand before the first separator
abbrev pub span : ℕ → List ℕ → ℕ
span separator [] = 0
span separator (c ∷ cs) = cond (c == separator) 0 (suc (span separator cs))

-- a word by what it says: a name is its bytes
pub data Said : Type 0 where
  name : List ℕ → Said
  number : ℤ → Said
  value : ℕ → Said
  handle : ℕ → Said

-- ---- numbers
-- the number that digits write after n
abbrev pub read_on : ℕ → List ℕ → ℕ
read_on n [] = n
read_on n (c ∷ cs) = read_on (10 * n + (c - 48)) cs

-- the number that digits write, if it is at most `limit`
abbrev pub digits_within : ℕ → List ℕ → Option ℕ
digits_within limit ds = cond (all_ascii_digits ds && nat_le (read_on 0 ds) limit) (Some (read_on 0 ds)) None

-- at least one digit, and no leading zero
abbrev pub plain : List ℕ → Bool
plain ds = nat_le 1 (length ds) && (not (slice_index ds 0 == 48) || nat_le (length ds) 1)

abbrev pub numeral_within : ℕ → List ℕ → Option ℕ
numeral_within limit ds = cond (plain ds) (digits_within limit ds) None

-- there is no -0
abbrev pub negated : Option ℕ → Option ℤ
negated None = None
negated (Some m) = cond (m == 0) None (Some (neg_ℤ (pos m)))

abbrev pub posited : Option ℕ → Option ℤ
posited None = None
posited (Some m) = Some (pos m)

-- a signed number of 32 bits, with a minus (45) or without
abbrev pub number_of : List ℕ → Option ℤ
number_of t = cond (slice_index t 0 == 45) (negated (numeral_within 2147483648 (drop 1 t))) (posited (numeral_within 2147483647 t))

-- a plus, a zero before more, or -0 stands first
abbrev pub loose : List ℕ → Bool
loose t = slice_index t 0 == 43 || (slice_index t 0 == 48 && nat_lt 1 (length t)) || (slice_index t 0 == 45 && slice_index t 1 == 48)

-- ---- words
-- `letter` and one digit below `count`
abbrev pub register : ℕ → ℕ → List ℕ → Bool
register letter count t = length t == 2 && (slice_index t 0 == letter && (nat_le 48 (slice_index t 1) && nat_lt (slice_index t 1) (48 + count)))

abbrev pub numbered : ℕ → Option ℤ → Result Said Fault
numbered n None = Err (broken n)
numbered n (Some z) = Ok (number z)

-- the word that bytes at line n are: v0 to v7, h0 to h3, a name, a number, or none
abbrev pub word_of : ℕ → List ℕ → Result Said Fault
word_of n t =
    cond (register 118 8 t) (Ok (value (slice_index t 1 - 48)))
    (cond (register 104 4 t) (Ok (handle (slice_index t 1 - 48))) (cond (is_name t) (Ok (name t)) (numbered n (number_of t))))

-- a word, and what is left of the line from the space after it on
abbrev pub with_rest : List ℕ → Result Said Fault → Result (Said × List ℕ) Fault
with_rest rest (Ok w) = Ok (w, rest)
with_rest rest (Err e) = Err e

abbrev pub read_word : ℕ → List ℕ → Result (Said × List ℕ) Fault
read_word n s = with_rest (drop (span 32 s) s) (word_of n (take (span 32 s) s))

-- a word that can be read: a name is one, a number has 32 bits, a register is there
abbrev pub Sound : Said → Type 0
Sound (name x) = is_name x ≡ true
Sound (number (pos n)) = n < 2147483648
Sound (number (negsuc n)) = n < 2147483648
Sound (value n) = n < 8
Sound (handle n) = n < 4

-- ---- what the code answers, with each part of the text by its bytes
abbrev pub said : Word → Said
said (Name x) = name x.now
said (Number z) = number z
said (Value n) = value n
said (Handle n) = handle n

abbrev pub said_word : Result Word Fault → Result Said Fault
said_word (Ok w) = Ok (said w)
said_word (Err e) = Err e

abbrev pub unlent : {X Y : Type 0} → (X → Y) → Result (X × Bor (List ℕ)) Fault → Result (Y × List ℕ) Fault
unlent f (Ok p) = Ok (f p.0, p.1.now)
unlent f (Err e) = Err e
