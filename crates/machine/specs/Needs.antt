-- What an operation of a sound program is known to be, where a step needs it.
use Rattle.std.specs.Prelude.{ℕ, Bool, true, false, ◌+◌, ◌^◌, ◌<◌, ◌≤◌, List, length, take, drop, Some, None, Option}
use Rattle.std.specs.List.{All}
use Rattle.lines.specs.declared.line.Operand.{Operand}
use Rattle.lines.specs.declared.line.Operand.TheVariants.{Named, Held}
use Rattle.linking.specs.declared.operation.Operation.{Operation}
use Rattle.linking.specs.declared.operation.Operation.TheVariants.{Hold, Alone, Case, Close, Select, Start, Print}
use Rattle.linking.specs.declared.operation.Exchange.{Exchange}
use Rattle.linking.specs.declared.operation.Exchange.TheVariants.{Send, Receive, SendHandle, ReceiveHandle}
use Rattle.runs.specs.Cases.{branch}

-- a channel that is named is one of the n that there are
abbrev pub LowOperand : ℕ → Operand ℕ → Type 0
LowOperand n (Named c) = c < n
LowOperand n (Held h) = Unit {0}

abbrev pub LowExchange : ℕ → Exchange ℕ → Type 0
LowExchange n (Send o v) = LowOperand n o
LowExchange n (Receive o v w) = LowOperand n o
LowExchange n (SendHandle c h) = c < n
LowExchange n (ReceiveHandle c h w) = c < n

abbrev pub Low : ℕ → Option (Exchange ℕ) → Type 0
Low n None = Unit {0}
Low n (Some e) = LowExchange n e

-- every channel that the operation names
abbrev pub LowOperation : ℕ → Operation → Type 0
LowOperation n (Hold h c) = c < n
LowOperation n (Alone e) = LowExchange n e
LowOperation n (Case e t) = LowExchange n e
LowOperation n (Close o) = LowOperand n o
LowOperation n _ = Unit {0}

-- ---- line i of a body, at the operation o before those that follow: what it names is there, and a select has its cases,
-- 8 at most
abbrev pub HasCases : ℕ → Operation → List Operation → Type 0
HasCases n (Select k) rest = (k ≤ 8) × (k ≤ length rest) × All (λ o. Low n (branch o).exchange) (take k rest)
HasCases n _ rest = Unit {0}

abbrev pub Fit : ℕ → List Operation → ℕ → Option Operation → Type 0
Fit n ops i None = Unit {0}
Fit n ops i (Some o) = LowOperation n o × (i + 1 < 2 ^ 32) × (i < length ops) × HasCases n o (drop (i + 1) ops)

-- at no exchange and no select
abbrev pub Quiet : Option Operation → Type 0
Quiet (Some (Alone e)) = ⊥
Quiet (Some (Select k)) = ⊥
Quiet _ = Unit {0}

-- it only writes registers or jumps
abbrev pub is_plain : Operation → Bool
is_plain (Alone e) = false
is_plain (Select k) = false
is_plain (Close o) = false
is_plain (Start b) = false
is_plain (Print v) = false
is_plain _ = true
