-- What a line of the text is: a mark and its fields.
use Rattle.std.specs.Prelude.{ℕ, cond, ◌&&◌, List, [], ◌∷◌, drop, ℤ, pos, negsuc, Some, None, Ok, Err, Option, Result, ◌==◌, slice_index}
use Rattle.words.specs.declared.refusal.Fault.{Fault}
use Rattle.words.specs.Refusals.{broken}
use Rattle.words.specs.Words.{Said, name, number, value, handle, read_word}
use Rattle.lines.specs.declared.line.Operand.{Operand}
use Rattle.lines.specs.declared.line.Operand.TheVariants.{Named, Held}
use Rattle.lines.specs.declared.line.Line.{Line}
use Rattle.lines.specs.declared.line.Line.TheVariants.{Set, Add, Sub, Jump, JumpNegative, Hold, Clear, Send, Receive, SendHandle, ReceiveHandle, Close, Select, CaseSend, CaseReceive, CaseSendHandle, CaseReceiveHandle, CaseDefault, Start, Print, ValueChannel, HandleChannel, Routine}

-- ---- readers: at a line's number, what stands in front of the rest, and that rest
abbrev pub Reader : Type 0 → Type 0
Reader X = ℕ → List ℕ → Result (X × List ℕ) Fault

abbrev pub then : {X Y : Type 0} → Result (X × List ℕ) Fault → (X → List ℕ → Result Y Fault) → Result Y Fault
then (Ok p) k = k p.0 p.1
then (Err e) k = Err e

-- a space and a word
unfoldable pub read_field : Reader Said
read_field n s = cond (slice_index s 0 == 32) (read_word n (drop 1 s)) (Err (broken n))

abbrev pub kept : {X : Type 0} → ℕ → List ℕ → Option X → Result (X × List ℕ) Fault
kept n rest None = Err (broken n)
kept n rest (Some x) = Ok (x, rest)

-- a field of one kind, which f takes from a word
abbrev pub only : {X : Type 0} → (Said → Option X) → Reader X
only f n s = then (read_field n s) (λ w rest. kept n rest (f w))

abbrev pub as_value : Said → Option ℕ
as_value (name x) = None
as_value (number z) = None
as_value (value k) = Some k
as_value (handle k) = None

abbrev pub as_handle : Said → Option ℕ
as_handle (name x) = None
as_handle (number z) = None
as_handle (value k) = None
as_handle (handle k) = Some k

abbrev pub as_integer : Said → Option ℤ
as_integer (name x) = None
as_integer (number z) = Some z
as_integer (value k) = None
as_integer (handle k) = None

-- a number without a minus: a capacity, a target, or how many cases
abbrev pub as_natural : Said → Option ℕ
as_natural (name x) = None
as_natural (number (pos k)) = Some k
as_natural (number (negsuc k)) = None
as_natural (value k) = None
as_natural (handle k) = None

abbrev pub as_name : Said → Option (List ℕ)
as_name (name x) = Some x
as_name (number z) = None
as_name (value k) = None
as_name (handle k) = None

-- the name of a channel, or a handle register
abbrev pub as_operand : Said → Option (Operand (List ℕ))
as_operand (name x) = Some (Named x)
as_operand (number z) = None
as_operand (value k) = None
as_operand (handle k) = Some (Held k)

-- one after the other
abbrev pub both : {X Y : Type 0} → Reader X → Reader Y → Reader (X × Y)
both p q n s = then (p n s) (λ x rest. then (q n rest) (λ y rest'. Ok ((x, y), rest')))

-- and then the line ends
abbrev pub ended : {X : Type 0} → ℕ → X → List ℕ → Result X Fault
ended n x [] = Ok x
ended n x (c ∷ cs) = Err (broken n)

abbrev pub whole : {X : Type 0} → Reader X → (X → Line (List ℕ)) → ℕ → List ℕ → Result (Line (List ℕ)) Fault
whole p make n s = then (p n s) (λ x rest. ended n (make x) rest)

-- ---- the fields of each kind of line
abbrev pub two_values : Reader (ℕ × ℕ)
two_values = both (only as_value) (only as_value)

abbrev pub handle_and_value : Reader (ℕ × ℕ)
handle_and_value = both (only as_handle) (only as_value)

abbrev pub read_set : ℕ → List ℕ → Result (Line (List ℕ)) Fault
read_set = whole (both (only as_value) (only as_integer)) (λ p. Set p.0 p.1)

abbrev pub read_add : ℕ → List ℕ → Result (Line (List ℕ)) Fault
read_add = whole two_values (λ p. Add p.0 p.1)

abbrev pub read_sub : ℕ → List ℕ → Result (Line (List ℕ)) Fault
read_sub = whole two_values (λ p. Sub p.0 p.1)

abbrev pub read_jump : ℕ → List ℕ → Result (Line (List ℕ)) Fault
read_jump = whole (only as_natural) (λ p. Jump p)

abbrev pub read_jump_negative : ℕ → List ℕ → Result (Line (List ℕ)) Fault
read_jump_negative = whole (both (only as_value) (only as_natural)) (λ p. JumpNegative p.0 p.1)

abbrev pub read_hold : ℕ → List ℕ → Result (Line (List ℕ)) Fault
read_hold = whole (both (only as_handle) (only as_name)) (λ p. Hold p.0 p.1)

abbrev pub read_clear : ℕ → List ℕ → Result (Line (List ℕ)) Fault
read_clear = whole (only as_handle) (λ p. Clear p)

abbrev pub read_send : ℕ → List ℕ → Result (Line (List ℕ)) Fault
read_send = whole (both (only as_operand) (only as_value)) (λ p. Send p.0 p.1)

abbrev pub read_receive : ℕ → List ℕ → Result (Line (List ℕ)) Fault
read_receive = whole (both (only as_operand) two_values) (λ p. Receive p.0 p.1.0 p.1.1)

abbrev pub read_send_handle : ℕ → List ℕ → Result (Line (List ℕ)) Fault
read_send_handle = whole (both (only as_name) (only as_handle)) (λ p. SendHandle p.0 p.1)

abbrev pub read_receive_handle : ℕ → List ℕ → Result (Line (List ℕ)) Fault
read_receive_handle = whole (both (only as_name) handle_and_value) (λ p. ReceiveHandle p.0 p.1.0 p.1.1)

abbrev pub read_close : ℕ → List ℕ → Result (Line (List ℕ)) Fault
read_close = whole (only as_operand) (λ p. Close p)

abbrev pub read_select : ℕ → List ℕ → Result (Line (List ℕ)) Fault
read_select = whole (only as_natural) (λ p. Select p)

abbrev pub read_case_send : ℕ → List ℕ → Result (Line (List ℕ)) Fault
read_case_send = whole (both (only as_operand) (both (only as_value) (only as_natural))) (λ p. CaseSend p.0 p.1.0 p.1.1)

abbrev pub read_case_receive : ℕ → List ℕ → Result (Line (List ℕ)) Fault
read_case_receive = whole (both (only as_operand) (both two_values (only as_natural))) (λ p. CaseReceive p.0 p.1.0.0 p.1.0.1 p.1.1)

abbrev pub read_case_send_handle : ℕ → List ℕ → Result (Line (List ℕ)) Fault
read_case_send_handle = whole (both (only as_name) (both (only as_handle) (only as_natural))) (λ p. CaseSendHandle p.0 p.1.0 p.1.1)

abbrev pub read_case_receive_handle : ℕ → List ℕ → Result (Line (List ℕ)) Fault
read_case_receive_handle = whole (both (only as_name) (both handle_and_value (only as_natural))) (λ p. CaseReceiveHandle p.0 p.1.0.0 p.1.0.1 p.1.1)

abbrev pub read_case_default : ℕ → List ℕ → Result (Line (List ℕ)) Fault
read_case_default = whole (only as_natural) (λ p. CaseDefault p)

abbrev pub read_start : ℕ → List ℕ → Result (Line (List ℕ)) Fault
read_start = whole (only as_name) (λ p. Start p)

abbrev pub read_print : ℕ → List ℕ → Result (Line (List ℕ)) Fault
read_print = whole (only as_value) (λ p. Print p)

abbrev pub read_value_channel : ℕ → List ℕ → Result (Line (List ℕ)) Fault
read_value_channel = whole (both (only as_name) (only as_natural)) (λ p. ValueChannel p.0 p.1)

abbrev pub read_handle_channel : ℕ → List ℕ → Result (Line (List ℕ)) Fault
read_handle_channel = whole (both (only as_name) (only as_natural)) (λ p. HandleChannel p.0 p.1)

abbrev pub read_routine : ℕ → List ℕ → Result (Line (List ℕ)) Fault
read_routine = whole (only as_name) (λ p. Routine p)

-- ---- lines by their marks
pub record Format : Type 0 where
  pub first : ℕ
  pub second : ℕ
  pub reads : ℕ → List ℕ → Result (Line (List ℕ)) Fault

-- the two bytes of each mark, and how the fields after it are read
abbrev pub formats : List Format
formats =
    record { first = 83; second = 86; reads = read_set }
    ∷ record { first = 65; second = 68; reads = read_add }
    ∷ record { first = 83; second = 66; reads = read_sub }
    ∷ record { first = 74; second = 80; reads = read_jump }
    ∷ record { first = 74; second = 78; reads = read_jump_negative }
    ∷ record { first = 72; second = 76; reads = read_hold }
    ∷ record { first = 72; second = 78; reads = read_clear }
    ∷ record { first = 83; second = 68; reads = read_send }
    ∷ record { first = 82; second = 67; reads = read_receive }
    ∷ record { first = 83; second = 72; reads = read_send_handle }
    ∷ record { first = 82; second = 72; reads = read_receive_handle }
    ∷ record { first = 67; second = 76; reads = read_close }
    ∷ record { first = 83; second = 69; reads = read_select }
    ∷ record { first = 67; second = 83; reads = read_case_send }
    ∷ record { first = 67; second = 82; reads = read_case_receive }
    ∷ record { first = 71; second = 83; reads = read_case_send_handle }
    ∷ record { first = 71; second = 82; reads = read_case_receive_handle }
    ∷ record { first = 67; second = 68; reads = read_case_default }
    ∷ record { first = 71; second = 79; reads = read_start }
    ∷ record { first = 80; second = 82; reads = read_print }
    ∷ record { first = 86; second = 67; reads = read_value_channel }
    ∷ record { first = 72; second = 67; reads = read_handle_channel }
    ∷ record { first = 82; second = 84; reads = read_routine }
    ∷ []

-- the line that the first format with that mark reads
abbrev pub chosen : List Format → ℕ → ℕ → ℕ → List ℕ → Result (Line (List ℕ)) Fault
chosen [] n a b rest = Err (broken n)
chosen (f ∷ fs) n a b rest = cond (a == f.first && b == f.second) (f.reads n rest) (chosen fs n a b rest)

-- line n of the text, without its end
abbrev pub read_line : ℕ → List ℕ → Result (Line (List ℕ)) Fault
read_line n s = chosen formats n (slice_index s 0) (slice_index s 1) (drop 2 s)
