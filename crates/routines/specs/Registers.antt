-- The registers of a routine, how it begins, and what plain lines do to it.
use Rattle.std.specs.Prelude.{ℕ, ◌+◌, Bool, true, false, cond, ℤ, pos, negsuc, ◌+ℤ◌, ◌-ℤ◌, slice_index_or, slice_set, replicate}
use Rattle.std.specs.Int.{int_wrap, w32}
use Rattle.elements.specs.declared.value.Value.{Value as Number}
use Rattle.elements.specs.declared.handle.Handle.{Handle as Holder}
use Rattle.elements.specs.Codes.{value_zero, nil_handle, handle_to}
use Rattle.linking.specs.declared.operation.Operation.{Operation}
use Rattle.linking.specs.declared.operation.Operation.TheVariants.{Set, Add, Sub, Jump, JumpNegative, Hold, Clear}
use Rattle.linking.specs.declared.operation.Exchange.{Exchange}
use Rattle.linking.specs.declared.operation.Exchange.TheVariants.{Receive, ReceiveHandle}
use Rattle.routines.specs.declared.routine.Passed.{Passed}
use Rattle.routines.specs.declared.routine.Passed.TheVariants.{Received, Drained}
use Rattle.routines.specs.declared.routine.State.{State}
use Rattle.routines.specs.declared.routine.State.TheVariants.{Ready}
use Rattle.routines.specs.declared.routine.Routine.{Routine}
use Rattle.routines.specs.Items.{as_value, as_handle}

abbrev pub value_at : Routine → ℕ → Number
value_at x v = slice_index_or x.values v value_zero

abbrev pub handle_at : Routine → ℕ → Holder
handle_at x h = slice_index_or x.handles h nil_handle

abbrev pub with_value : ℕ → Number → Routine → Routine
with_value v n x = record x { values = slice_set x.values v n }

abbrev pub with_handle : ℕ → Holder → Routine → Routine
with_handle h n x = record x { handles = slice_set x.handles h n }

abbrev pub in_state : State → Routine → Routine
in_state s x = record x { state = s }

abbrev pub at_line : ℕ → Routine → Routine
at_line n x = record x { line = n }

-- ---- how a routine begins
abbrev pub first : ℕ → Routine
first b = record { body = b; line = 0; state = Ready; values = replicate 8 value_zero; handles = replicate 4 nil_handle }

-- one that is started by x has a copy of all registers
abbrev pub born : ℕ → Routine → Routine
born b x = record { body = b; line = 0; state = Ready; values = x.values; handles = x.handles }

-- ---- plain lines
-- sums and differences are those modulo 2^32
abbrev pub plus : Number → Number → Number
plus a b = record { number = int_wrap w32 (a.number +ℤ b.number) }

abbrev pub minus : Number → Number → Number
minus a b = record { number = int_wrap w32 (a.number -ℤ b.number) }

abbrev pub below_zero : ℤ → Bool
below_zero (pos n) = false
below_zero (negsuc n) = true

-- what a plain line writes into the registers; any other line leaves them alone
abbrev pub written : Operation → Routine → Routine
written (Set v n) x = with_value v (record { number = n }) x
written (Add v w) x = with_value v (plus (value_at x v) (value_at x w)) x
written (Sub v w) x = with_value v (minus (value_at x v) (value_at x w)) x
written (Hold h c) x = with_handle h (handle_to c) x
written (Clear h) x = with_handle h nil_handle x
written _ x = x

-- the line that it goes to: that of a jump, else the next
abbrev pub goes_to : Operation → Routine → ℕ
goes_to (Jump t) x = t
goes_to (JumpNegative v t) x = cond (below_zero (value_at x v).number) t (x.line + 1)
goes_to _ x = x.line + 1

abbrev pub plain : Operation → Routine → Routine
plain o x = at_line (goes_to o x) (written o x)

-- ---- what a passed exchange leaves in the registers: the element, and then the flag
abbrev pub flag : Bool → Number
flag true = record { number = pos 1 }
flag false = record { number = pos 0 }

abbrev pub landed : Exchange ℕ → Passed → Routine → Routine
landed (Receive o v w) (Received c e) x = with_value w (flag true) (with_value v (as_value e) x)
landed (Receive o v w) (Drained c) x = with_value w (flag false) (with_value v value_zero x)
landed (ReceiveHandle c h w) (Received d e) x = with_value w (flag true) (with_handle h (as_handle e) x)
landed (ReceiveHandle c h w) (Drained d) x = with_value w (flag false) (with_handle h nil_handle x)
landed _ _ x = x
