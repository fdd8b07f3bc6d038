-- What a program has to do with the script that it was linked from.
use Rattle.std.specs.Prelude.{◌≡◌, ℕ, List, [], map, Ok, slice_index_or}
use Rattle.lines.specs.declared.line.Operand.{Operand}
use Rattle.lines.specs.declared.line.Operand.TheVariants.{Named, Held}
use Rattle.lines.specs.declared.line.Line.{Line}
use Rattle.lines.specs.declared.line.Line.TheVariants as line
use Rattle.script.specs.Kept.{Kept}
use Rattle.linking.specs.declared.operation.Operation.{Operation}
use Rattle.linking.specs.declared.operation.Operation.TheVariants.{Set, Add, Sub, Jump, JumpNegative, Hold, Clear, Alone, Select, Case, Default, Close, Start, Print}
use Rattle.linking.specs.declared.operation.Exchange.{Exchange}
use Rattle.linking.specs.declared.operation.Exchange.TheVariants.{Send, Receive, SendHandle, ReceiveHandle}
use Rattle.linking.specs.Programs.{Block, Program}
use Rattle.linking.specs.Naming.{Known, known, channels, body_names}
use Rattle.linking.specs.Parts.{Part, parts}
use Rattle.linking.specs.Links.{main_name, link_script}
use Rattle.linking.specs.Sound.{Sound}

-- ---- an operation as a line again: each number by the name that was declared with it
abbrev pub name_at : List (List ℕ) → ℕ → List ℕ
name_at names n = slice_index_or names n []

abbrev pub named_operand : Known → Operand ℕ → Operand (List ℕ)
named_operand k (Named c) = Named (name_at k.names c)
named_operand k (Held h) = Held h

abbrev pub named_alone : Known → Exchange ℕ → Line (List ℕ)
named_alone k (Send o v) = line.Send (named_operand k o) v
named_alone k (Receive o v w) = line.Receive (named_operand k o) v w
named_alone k (SendHandle c h) = line.SendHandle (name_at k.names c) h
named_alone k (ReceiveHandle c h w) = line.ReceiveHandle (name_at k.names c) h w

abbrev pub named_case : Known → Exchange ℕ → ℕ → Line (List ℕ)
named_case k (Send o v) t = line.CaseSend (named_operand k o) v t
named_case k (Receive o v w) t = line.CaseReceive (named_operand k o) v w t
named_case k (SendHandle c h) t = line.CaseSendHandle (name_at k.names c) h t
named_case k (ReceiveHandle c h w) t = line.CaseReceiveHandle (name_at k.names c) h w t

abbrev pub named : Known → Operation → Line (List ℕ)
named k (Set v n) = line.Set v n
named k (Add v w) = line.Add v w
named k (Sub v w) = line.Sub v w
named k (Jump t) = line.Jump t
named k (JumpNegative v t) = line.JumpNegative v t
named k (Hold h c) = line.Hold h (name_at k.names c)
named k (Clear h) = line.Clear h
named k (Alone e) = named_alone k e
named k (Select n) = line.Select n
named k (Case e t) = named_case k e t
named k (Default t) = line.CaseDefault t
named k (Close o) = line.Close (named_operand k o)
named k (Start b) = line.Start (name_at k.bodies b)
named k (Print v) = line.Print v

abbrev pub named_block : Known → Block → Part (List ℕ)
named_block k b = record { line = b.line; lines = map (named k) b.operations }

-- p stands for the script ls: its channels are those declared, its bodies with all names again are those of the text,
-- and the body that it begins with is called `main`
pub record StandsFor (ls : List (Line (List ℕ))) (p : Program) : Type 0 where
  pub same_channels : p.channels ≡ channels ls
  pub same_bodies : map (named_block (known ls)) p.bodies ≡ parts 1 ls
  pub main_named : name_at (body_names ls) p.main ≡ main_name

-- ---- the laws of linking, for every script that keeps the rules of the language
-- what is linked stands for the script, and has what running needs
abbrev pub LinksOnly : Type 0
LinksOnly = (ls : List (Line (List ℕ))) (p : Program) → Kept ls → link_script ls ≡ Ok p → StandsFor ls p × Sound p

-- and a script is refused only if no program stands for it that has what running needs
abbrev pub LinksAll : Type 0
LinksAll = (ls : List (Line (List ℕ))) (p : Program) → Kept ls → StandsFor ls p → Sound p → link_script ls ≡ Ok p
