use Rattle.std.proofs.Common.{take}
use Rattle.std.specs.Fmt.{HasWritten, IsPlainFormatter}
use Rattle.std.specs.List.{flat_map}
use Rattle.panel.specs.Shown.{show_handle}
use Rattle.panel.proofs.printing.HandlesDisplay.fmt.Given as goal

-- the registers so far are written
abbrev pub invariant-loop-handle : goal.invariant-loop-handle
invariant-loop-handle g l =
    IsPlainFormatter l.initial.f → HasWritten g.W.Write.write_str_gives l.initial.f (flat_map show_handle (take l.handle-index l.handle-items)) l.f
