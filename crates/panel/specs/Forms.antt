-- A script and calls on it as text: the script, then a line `ZZ`, then the calls, one a line.
use Rattle.std.specs.Prelude.{ℕ, suc, ◌+◌, Bool, cond, ◌&&◌, List, [], ◌∷◌, length, take, drop, Ok, Err, Result, ◌==◌, slice_index}
use Rattle.std.specs.Str.{bytes_eq}
use Rattle.words.specs.declared.refusal.Fault.{Fault}
use Rattle.words.specs.Refusals.{broken}
use Rattle.words.specs.Words.{span}
use Rattle.lines.specs.Lines.{Reader, then, only, both as one_after_other, ended, as_natural}
use Rattle.script.specs.Texts.{pieces}
use Rattle.linking.specs.Links.{both}
use Rattle.calls.specs.declared.call.Cells.{Cells}
use Rattle.calls.specs.declared.call.Call.{Call}
use Rattle.calls.specs.declared.call.Call.TheVariants.{Step, Routine, Channel, Element}

-- ---- the two parts
-- the line `ZZ` with its end
abbrev pub is_mark : List ℕ → Bool
is_mark p = bytes_eq p (90 ∷ 90 ∷ 10 ∷ [])

-- how many bytes stand before the first such line
abbrev pub script_len : List (List ℕ) → ℕ
script_len [] = 0
script_len (p ∷ ps) = cond (is_mark p) 0 (length p + script_len ps)

abbrev pub script_part : List ℕ → List ℕ
script_part t = take (script_len (pieces t)) t

abbrev pub calls_part : List ℕ → List ℕ
calls_part t = drop 3 (drop (script_len (pieces t)) t)

-- ---- a call
abbrev pub natural : Reader ℕ
natural = only as_natural

abbrev pub pair : Reader (ℕ × ℕ)
pair = one_after_other natural natural

-- and then the line ends
abbrev pub whole : {X Y : Type 0} → Reader X → (X → Y) → ℕ → List ℕ → Result Y Fault
whole p make n s = then (p n s) (λ x rest. ended n (make x) rest)

abbrev pub made : {X Y : Type 0} → (X → Y) → Result X Fault → Result Y Fault
made f (Ok x) = Ok (f x)
made f (Err e) = Err e

-- the cells that are handed over, at the end of a line: all there are, where nothing is said of them
abbrev pub read_cells : ℕ → List ℕ → Result Cells Fault
read_cells n [] = Ok (record { values = 512; handles = 128 })
read_cells n (c ∷ cs) = whole pair (λ p. record { values = p.0; handles = p.1 }) n (c ∷ cs)

-- a channel and a place, and then the cells
abbrev pub read_element : ℕ → List ℕ → Result Call Fault
read_element n s = then (pair n s) (λ p rest. made (λ cells. Element p.0 p.1 cells) (read_cells n rest))

-- what stands behind a mark in line n: ST, RO, CH or EL
abbrev pub with_mark : ℕ → ℕ → ℕ → List ℕ → Result Call Fault
with_mark n a b s =
    cond (a == 83 && b == 84) (made (λ cells. Step cells) (read_cells n s))
    (cond (a == 82 && b == 79) (whole natural (λ r. Routine r) n s)
    (cond (a == 67 && b == 72) (whole natural (λ c. Channel c) n s)
    (cond (a == 69 && b == 76) (read_element n s) (Err (broken n)))))

-- line n, without its end
abbrev pub read_call : ℕ → List ℕ → Result Call Fault
read_call n s = with_mark n (slice_index s 0) (slice_index s 1) (drop 2 s)

-- line n with its end: its first byte 10 is its last byte
abbrev pub read_ended : ℕ → List ℕ → Result Call Fault
read_ended n p = cond (suc (span 10 p) == length p) (read_call n (take (span 10 p) p)) (Err (broken n))

-- ---- the calls
-- those of the lines from line n on, or the first fault
unfoldable pub read_calls : ℕ → List (List ℕ) → Result (List Call) Fault
read_calls n [] = Ok []
read_calls n (p ∷ ps) = both (read_ended n p) (read_calls (n + 1) ps)
