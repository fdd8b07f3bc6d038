-- Names to numbers: what each name of a line stands for.
use Rattle.std.specs.Prelude.{ℕ, Bool, true, false, cond, List, map, Some, None, Option}
use Rattle.std.specs.List.{slice_get, filter_map}
use Rattle.std.specs.Option.{option_map}
use Rattle.lines.specs.declared.line.Kind.{Kind}
use Rattle.lines.specs.declared.line.Kind.TheVariants.{Value, Handle}
use Rattle.lines.specs.declared.line.Role.{Role}
use Rattle.lines.specs.declared.line.Role.TheVariants.{Declares}
use Rattle.lines.specs.declared.line.Operand.{Operand}
use Rattle.lines.specs.declared.line.Operand.TheVariants.{Named, Held}
use Rattle.lines.specs.declared.line.Line.{Line}
use Rattle.lines.specs.declared.line.Line.TheVariants.{Set, Add, Sub, Jump, JumpNegative, Hold, Clear, Send, Receive, SendHandle, ReceiveHandle, Close, Select, CaseSend, CaseReceive, CaseSendHandle, CaseReceiveHandle, CaseDefault, Start, Print}
use Rattle.lines.specs.Roles.{role}
use Rattle.script.specs.Rules.{place, opens}
use Rattle.linking.specs.declared.declared.Declared.{Declared}
use Rattle.linking.specs.declared.declared.Channel.{Channel}
use Rattle.linking.specs.declared.operation.Operation.{Operation}
use Rattle.linking.specs.declared.operation.Operation.TheVariants as op
use Rattle.linking.specs.declared.operation.Exchange.{Exchange}
use Rattle.linking.specs.declared.operation.Exchange.TheVariants as ex

-- ---- what is declared
abbrev pub declared : Role (List ℕ) → Option Channel
declared (Declares k x n) = Some (record { name = x; declared = record { kind = k; capacity = n } })
declared _ = None

-- the channels of a script with their names, numbered from 0 as declared, both kinds together
abbrev pub named_channels : List (Line (List ℕ)) → List Channel
named_channels ls = filter_map (λ l. declared (role l)) ls

abbrev pub channels : List (Line (List ℕ)) → List Declared
channels ls = map (λ c. c.declared) (named_channels ls)

abbrev pub channel_names : List (Line (List ℕ)) → List (List ℕ)
channel_names ls = map (λ c. c.name) (named_channels ls)

-- the bodies, numbered from 0 as opened
abbrev pub body_names : List (Line (List ℕ)) → List (List ℕ)
body_names ls = filter_map (λ l. opens (role l)) ls

pub record Known : Type 0 where
  pub names : List (List ℕ)
  pub channels : List Declared
  pub bodies : List (List ℕ)

abbrev pub known : List (Line (List ℕ)) → Known
known ls = record { names = channel_names ls; channels = channels ls; bodies = body_names ls }

-- ---- what a name stands for
-- the kind that is wanted, if one is
abbrev pub suits : Option Kind → Kind → Bool
suits None k = true
suits (Some Value) Value = true
suits (Some Value) Handle = false
suits (Some Handle) Value = false
suits (Some Handle) Handle = true

abbrev pub suited : Option Kind → Option Declared → Bool
suited w None = false
suited w (Some d) = suits w d.kind

abbrev pub of_kind : Option Kind → List Declared → Option ℕ → Option ℕ
of_kind w ds None = None
of_kind w ds (Some c) = cond (suited w (slice_get ds c)) (Some c) None

-- the number of the channel of that name, if it is of the kind that is wanted
abbrev pub channel : Known → Option Kind → List ℕ → Option ℕ
channel k w x = of_kind w k.channels (place x k.names)

-- a channel of that name, or a handle register
abbrev pub operand : Known → Option Kind → Operand (List ℕ) → Option (Operand ℕ)
operand k w (Named x) = option_map Named (channel k w x)
operand k w (Held h) = Some (Held h)

abbrev pub exchange : Known → Exchange (List ℕ) → Option (Exchange ℕ)
exchange k (ex.Send o v) = option_map (λ p. ex.Send p v) (operand k (Some Value) o)
exchange k (ex.Receive o v w) = option_map (λ p. ex.Receive p v w) (operand k (Some Value) o)
exchange k (ex.SendHandle x h) = option_map (λ c. ex.SendHandle c h) (channel k (Some Handle) x)
exchange k (ex.ReceiveHandle x h w) = option_map (λ c. ex.ReceiveHandle c h w) (channel k (Some Handle) x)

-- an exchange on a line of its own, and as a case
abbrev pub alone : Known → Exchange (List ℕ) → Option Operation
alone k e = option_map op.Alone (exchange k e)

abbrev pub case : Known → Exchange (List ℕ) → ℕ → Option Operation
case k e t = option_map (λ f. op.Case f t) (exchange k e)

-- ---- what a line stands for; no line that declares something is an operation
abbrev pub operation : Known → Line (List ℕ) → Option Operation
operation k (Set v n) = Some (op.Set v n)
operation k (Add v w) = Some (op.Add v w)
operation k (Sub v w) = Some (op.Sub v w)
operation k (Jump t) = Some (op.Jump t)
operation k (JumpNegative v t) = Some (op.JumpNegative v t)
operation k (Hold h x) = option_map (λ c. op.Hold h c) (channel k (Some Value) x)
operation k (Clear h) = Some (op.Clear h)
operation k (Send o v) = alone k (ex.Send o v)
operation k (Receive o v w) = alone k (ex.Receive o v w)
operation k (SendHandle x h) = alone k (ex.SendHandle x h)
operation k (ReceiveHandle x h w) = alone k (ex.ReceiveHandle x h w)
operation k (Close o) = option_map op.Close (operand k None o)
operation k (Select n) = Some (op.Select n)
operation k (CaseSend o v t) = case k (ex.Send o v) t
operation k (CaseReceive o v w t) = case k (ex.Receive o v w) t
operation k (CaseSendHandle x h t) = case k (ex.SendHandle x h) t
operation k (CaseReceiveHandle x h w t) = case k (ex.ReceiveHandle x h w) t
operation k (CaseDefault t) = Some (op.Default t)
operation k (Start x) = option_map op.Start (place x k.bodies)
operation k (Print v) = Some (op.Print v)
operation k _ = None
