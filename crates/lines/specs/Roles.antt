-- What each line is to the script around it.
use Rattle.lines.specs.declared.line.Kind.TheVariants.{Value as ValueKind, Handle as HandleKind}
use Rattle.lines.specs.declared.line.Role.{Role}
use Rattle.lines.specs.declared.line.Role.TheVariants.{Declares, Opens, Selects, Acts, Case, Default}
use Rattle.lines.specs.declared.line.Line.{Line}
use Rattle.lines.specs.declared.line.Line.TheVariants.{Set, Add, Sub, Jump, JumpNegative, Hold, Clear, Send, Receive, SendHandle, ReceiveHandle, Close, Select, CaseSend, CaseReceive, CaseSendHandle, CaseReceiveHandle, CaseDefault, Start, Print, ValueChannel, HandleChannel, Routine}

abbrev pub role : {N : Type 0} → Line N → Role N
role (Set a b) = Acts
role (Add a b) = Acts
role (Sub a b) = Acts
role (Jump a) = Acts
role (JumpNegative a b) = Acts
role (Hold a b) = Acts
role (Clear a) = Acts
role (Send a b) = Acts
role (Receive a b c) = Acts
role (SendHandle a b) = Acts
role (ReceiveHandle a b c) = Acts
role (Close a) = Acts
role (Select a) = Selects a
role (CaseSend a b c) = Case
role (CaseReceive a b c d) = Case
role (CaseSendHandle a b c) = Case
role (CaseReceiveHandle a b c d) = Case
role (CaseDefault a) = Default
role (Start a) = Acts
role (Print a) = Acts
role (ValueChannel a b) = Declares ValueKind a b
role (HandleChannel a b) = Declares HandleKind a b
role (Routine a) = Opens a
