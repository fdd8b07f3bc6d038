-- What running needs of a program.
use Rattle.std.specs.Prelude.{◌≡◌, ℕ, ◌+◌, ◌<◌, ◌≤◌, Bool, true, false, List, [], ◌∷◌, length, Some, None, sum_by, Option}
use Rattle.std.specs.List.{slice_get, prefix_len, AllByRecursion}
use Rattle.lines.specs.declared.line.Kind.{Kind}
use Rattle.lines.specs.declared.line.Kind.TheVariants.{Value, Handle}
use Rattle.lines.specs.declared.line.Operand.{Operand}
use Rattle.lines.specs.declared.line.Operand.TheVariants.{Named, Held}
use Rattle.script_laws.specs.Lawful.{at_kind}
use Rattle.linking.specs.declared.declared.Declared.{Declared}
use Rattle.linking.specs.declared.operation.Operation.{Operation}
use Rattle.linking.specs.declared.operation.Operation.TheVariants.{Set, Add, Sub, Jump, JumpNegative, Hold, Clear, Alone, Select, Case, Default, Close, Start, Print}
use Rattle.linking.specs.declared.operation.Exchange.{Exchange}
use Rattle.linking.specs.declared.operation.Exchange.TheVariants.{Send, Receive, SendHandle, ReceiveHandle}
use Rattle.linking.specs.Programs.{Block, Program}
use Rattle.linking.specs.Naming.{suited}

-- ---- what an operation is to those around it
-- a case, the default too
abbrev pub is_case : Operation → Bool
is_case (Case e t) = true
is_case (Default t) = true
is_case _ = false

-- how many cases it asks for
abbrev pub asks : Operation → ℕ
asks (Select n) = n
asks _ = 0

-- the line of its body that it leads to
abbrev pub leads : Operation → Option ℕ
leads (Jump t) = Some t
leads (JumpNegative v t) = Some t
leads (Case e t) = Some t
leads (Default t) = Some t
leads _ = None

-- ---- every number in range
-- there is a channel of that number, of the kind that is wanted
abbrev pub Uses : List Declared → Option Kind → ℕ → Type 0
Uses ds w c = suited w (slice_get ds c) ≡ true

abbrev pub UsesOperand : List Declared → Option Kind → Operand ℕ → Type 0
UsesOperand ds w (Named c) = Uses ds w c
UsesOperand ds w (Held h) = h < 4

abbrev pub SoundExchange : List Declared → Exchange ℕ → Type 0
SoundExchange ds (Send o v) = UsesOperand ds (Some Value) o × (v < 8)
SoundExchange ds (Receive o v w) = UsesOperand ds (Some Value) o × (v < 8) × (w < 8)
SoundExchange ds (SendHandle c h) = Uses ds (Some Handle) c × (h < 4)
SoundExchange ds (ReceiveHandle c h w) = Uses ds (Some Handle) c × (h < 4) × (w < 8)

-- 8 value registers and 4 handle registers, 8 cases, and so many bodies
abbrev pub SoundOperation : List Declared → ℕ → Operation → Type 0
SoundOperation ds bodies (Set v n) = v < 8
SoundOperation ds bodies (Add v w) = (v < 8) × (w < 8)
SoundOperation ds bodies (Sub v w) = (v < 8) × (w < 8)
SoundOperation ds bodies (Jump t) = Unit {0}
SoundOperation ds bodies (JumpNegative v t) = v < 8
SoundOperation ds bodies (Hold h c) = (h < 4) × Uses ds (Some Value) c
SoundOperation ds bodies (Clear h) = h < 4
SoundOperation ds bodies (Alone e) = SoundExchange ds e
SoundOperation ds bodies (Select n) = n ≤ 8
SoundOperation ds bodies (Case e t) = SoundExchange ds e
SoundOperation ds bodies (Default t) = Unit {0}
SoundOperation ds bodies (Close o) = UsesOperand ds None o
SoundOperation ds bodies (Start b) = b < bodies
SoundOperation ds bodies (Print v) = v < 8

-- ---- targets and selects
abbrev pub a_case : Option Operation → Bool
a_case None = false
a_case (Some o) = is_case o

-- a target is a line of the body that is no case line, or the body's end
abbrev pub Lands : List Operation → Option ℕ → Type 0
Lands ops None = Unit {0}
Lands ops (Some t) = (t ≤ length ops) × (a_case (slice_get ops t) ≡ false)

-- P holds of each element and those after it
abbrev pub Everywhere : {A : Type 0} → (A → List A → Type 0) → List A → Type 0
Everywhere P [] = Unit {0}
Everywhere P (x ∷ xs) = P x xs × Everywhere P xs

-- just the cases that it asks for follow it, or it is one of them
abbrev pub Followed : Operation → List Operation → Type 0
Followed o rest = is_case o ≡ false → prefix_len is_case rest ≡ asks o

pub record SoundBlock (ds : List Declared) (bodies : ℕ) (b : Block) : Type 0 where
  pub in_range : AllByRecursion (SoundOperation ds bodies) b.operations
  pub targets : AllByRecursion (λ o. Lands b.operations (leads o)) b.operations
  pub begins : prefix_len is_case b.operations ≡ 0
  pub selects : Everywhere Followed b.operations

-- the capacity of a channel of kind k, and nothing for the other kind
abbrev pub cells_for : Kind → Declared → ℕ
cells_for k d = at_kind k d.kind d.capacity

pub record Sound (p : Program) : Type 0 where
  -- 32 channels and bodies; capacities to 64, and together to 512 for values and to 128 for handles
  pub few_channels : length p.channels ≤ 32
  pub few_bodies : length p.bodies ≤ 32
  pub small_channels : AllByRecursion (λ d. d.capacity ≤ 64) p.channels
  pub value_cells : sum_by (cells_for Value) p.channels ≤ 512
  pub handle_cells : sum_by (cells_for Handle) p.channels ≤ 128
  pub main_there : p.main < length p.bodies
  -- a script has 576 lines at most
  pub placed : AllByRecursion (λ b. b.line + length b.operations ≤ 576) p.bodies
  pub blocks : AllByRecursion (SoundBlock p.channels (length p.bodies)) p.bodies
