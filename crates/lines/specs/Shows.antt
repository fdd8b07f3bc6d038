-- What is listed of a line.
use Rattle.std.specs.Prelude.{ℕ, List, [], ◌∷◌, pos}
use Rattle.words.specs.Words.{Said, name, number, value, handle, Sound}
use Rattle.words.specs.Shows.{show_fields}
use Rattle.lines.specs.declared.line.Operand.{Operand}
use Rattle.lines.specs.declared.line.Operand.TheVariants.{Named, Held}
use Rattle.lines.specs.declared.line.Line.{Line}
use Rattle.lines.specs.declared.line.Line.TheVariants.{Set, Add, Sub, Jump, JumpNegative, Hold, Clear, Send, Receive, SendHandle, ReceiveHandle, Close, Select, CaseSend, CaseReceive, CaseSendHandle, CaseReceiveHandle, CaseDefault, Start, Print, ValueChannel, HandleChannel, Routine}

abbrev pub from_operand : Operand (List ℕ) → Said
from_operand (Named x) = name x
from_operand (Held k) = handle k

abbrev pub natural : ℕ → Said
natural k = number (pos k)

-- a mark of two bytes and the words of its fields
abbrev pub show_line : Line (List ℕ) → List ℕ
show_line (Set a b) = 83 ∷ (86 ∷ show_fields (value a ∷ (number b ∷ [])))
show_line (Add a b) = 65 ∷ (68 ∷ show_fields (value a ∷ (value b ∷ [])))
show_line (Sub a b) = 83 ∷ (66 ∷ show_fields (value a ∷ (value b ∷ [])))
show_line (Jump a) = 74 ∷ (80 ∷ show_fields (natural a ∷ []))
show_line (JumpNegative a b) = 74 ∷ (78 ∷ show_fields (value a ∷ (natural b ∷ [])))
show_line (Hold a b) = 72 ∷ (76 ∷ show_fields (handle a ∷ (name b ∷ [])))
show_line (Clear a) = 72 ∷ (78 ∷ show_fields (handle a ∷ []))
show_line (Send a b) = 83 ∷ (68 ∷ show_fields (from_operand a ∷ (value b ∷ [])))
show_line (Receive a b c) = 82 ∷ (67 ∷ show_fields (from_operand a ∷ (value b ∷ (value c ∷ []))))
show_line (SendHandle a b) = 83 ∷ (72 ∷ show_fields (name a ∷ (handle b ∷ [])))
show_line (ReceiveHandle a b c) = 82 ∷ (72 ∷ show_fields (name a ∷ (handle b ∷ (value c ∷ []))))
show_line (Close a) = 67 ∷ (76 ∷ show_fields (from_operand a ∷ []))
show_line (Select a) = 83 ∷ (69 ∷ show_fields (natural a ∷ []))
show_line (CaseSend a b c) = 67 ∷ (83 ∷ show_fields (from_operand a ∷ (value b ∷ (natural c ∷ []))))
show_line (CaseReceive a b c d) = 67 ∷ (82 ∷ show_fields (from_operand a ∷ (value b ∷ (value c ∷ (natural d ∷ [])))))
show_line (CaseSendHandle a b c) = 71 ∷ (83 ∷ show_fields (name a ∷ (handle b ∷ (natural c ∷ []))))
show_line (CaseReceiveHandle a b c d) = 71 ∷ (82 ∷ show_fields (name a ∷ (handle b ∷ (value c ∷ (natural d ∷ [])))))
show_line (CaseDefault a) = 67 ∷ (68 ∷ show_fields (natural a ∷ []))
show_line (Start a) = 71 ∷ (79 ∷ show_fields (name a ∷ []))
show_line (Print a) = 80 ∷ (82 ∷ show_fields (value a ∷ []))
show_line (ValueChannel a b) = 86 ∷ (67 ∷ show_fields (name a ∷ (natural b ∷ [])))
show_line (HandleChannel a b) = 72 ∷ (67 ∷ show_fields (name a ∷ (natural b ∷ [])))
show_line (Routine a) = 82 ∷ (84 ∷ show_fields (name a ∷ []))

-- ---- lines that can be read: each of their words is sound
abbrev pub Good : Line (List ℕ) → Type 0
Good (Set a b) = Sound (value a) × (Sound (number b))
Good (Add a b) = (Sound (value a) × Sound (value b))
Good (Sub a b) = (Sound (value a) × Sound (value b))
Good (Jump a) = Sound (natural a)
Good (JumpNegative a b) = Sound (value a) × (Sound (natural b))
Good (Hold a b) = Sound (handle a) × (Sound (name b))
Good (Clear a) = Sound (handle a)
Good (Send a b) = Sound (from_operand a) × (Sound (value b))
Good (Receive a b c) = Sound (from_operand a) × ((Sound (value b) × Sound (value c)))
Good (SendHandle a b) = Sound (name a) × (Sound (handle b))
Good (ReceiveHandle a b c) = Sound (name a) × ((Sound (handle b) × Sound (value c)))
Good (Close a) = Sound (from_operand a)
Good (Select a) = Sound (natural a)
Good (CaseSend a b c) = Sound (from_operand a) × (Sound (value b) × (Sound (natural c)))
Good (CaseReceive a b c d) = Sound (from_operand a) × ((Sound (value b) × Sound (value c)) × (Sound (natural d)))
Good (CaseSendHandle a b c) = Sound (name a) × (Sound (handle b) × (Sound (natural c)))
Good (CaseReceiveHandle a b c d) = Sound (name a) × ((Sound (handle b) × Sound (value c)) × (Sound (natural d)))
Good (CaseDefault a) = Sound (natural a)
Good (Start a) = Sound (name a)
Good (Print a) = Sound (value a)
Good (ValueChannel a b) = Sound (name a) × (Sound (natural b))
Good (HandleChannel a b) = Sound (name a) × (Sound (natural b))
Good (Routine a) = Sound (name a)
