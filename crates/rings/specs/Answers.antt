-- What each call answers, in terms of the elements held, and what its answer says of the ring and the bank afterwards.
use Rattle.std.specs.Prelude.{ℕ, cond, List, [], ◌∷◌, ◌++◌, length, drop, is_ok, Ok, Err, Result, nat_lt, slice_set}
use Rattle.std.specs.List.{slice_get}
use Rattle.std.specs.Option.{ok_or}
use Rattle.rings.specs.declared.ring.RingError.{RingError}
use Rattle.rings.specs.declared.ring.RingError.TheVariants.{ShortBank, Full, Empty, NoSuchPlace}
use Rattle.rings.specs.Contents.{cleared}
use Rattle.rings.specs.Layouts.{Layout, fresh, covers, held, next_cell, one_more, one_less}

abbrev pub oldest_of : {X : Type 0} → List X → Result X RingError
oldest_of xs = ok_or (slice_get xs 0) Empty

-- place 0 is the oldest
abbrev pub at_place : {X : Type 0} → List X → ℕ → Result X RingError
at_place xs n = ok_or (slice_get xs n) NoSuchPlace

abbrev pub put_answer : {X : Type 0} → Layout → List X → Result (Unit {0}) RingError
put_answer l bank = cond (covers l bank) (cond (nat_lt (length (held l bank)) l.capacity) (Ok tt) (Err Full)) (Err ShortBank)

abbrev pub take_answer : {X : Type 0} → Layout → List X → Result X RingError
take_answer l bank = cond (covers l bank) (oldest_of (held l bank)) (Err ShortBank)

abbrev pub look_answer : {X : Type 0} → Layout → List X → ℕ → Result X RingError
look_answer l bank n = cond (covers l bank) (at_place (held l bank) n) (Err ShortBank)

abbrev pub clear_answer : {X : Type 0} → Layout → List X → Result (Unit {0}) RingError
clear_answer l bank = cond (covers l bank) (Ok tt) (Err ShortBank)

-- the elements held after a put and after a take, by the answer
abbrev pub lengthened : {X : Type 0} → Result (Unit {0}) RingError → X → List X → List X
lengthened r e xs = cond (is_ok r) (xs ++ (e ∷ [])) xs

abbrev pub shortened : {X : Type 0} → Result X RingError → List X → List X
shortened r xs = cond (is_ok r) (drop 1 xs) xs

-- the ring after a put and after a take, by the answer
abbrev pub grown : Result (Unit {0}) RingError → Layout → Layout
grown r l = cond (is_ok r) (one_more l) l

abbrev pub shrunk : {X : Type 0} → Result X RingError → Layout → Layout
shrunk r l = cond (is_ok r) (one_less l) l

-- the bank after a put, by the answer: one cell is written, or none
abbrev pub stored : {X : Type 0} → Result (Unit {0}) RingError → Layout → X → List X → List X
stored r l e bank = cond (is_ok r) (slice_set bank (next_cell l) e) bank

-- the ring and the bank after a clear, by the answer: all cells of the ring are written, or none
abbrev pub emptied : Result (Unit {0}) RingError → Layout → Layout
emptied r l = cond (is_ok r) (fresh l.base l.capacity) l

abbrev pub wiped : {X : Type 0} → Result (Unit {0}) RingError → Layout → X → List X → List X
wiped r l z bank = cond (is_ok r) (cleared l.base l.capacity z bank) bank
