use Rattle.std.proofs.Common.{take}
use Rattle.std.specs.Fmt.{HasWritten, IsPlainFormatter}
use Rattle.std.specs.List.{flat_map}
use Rattle.panel.specs.Shown.{show_value}
use Rattle.panel.proofs.printing.ValuesDisplay.fmt.Given as goal

-- the registers so far are written
abbrev pub invariant-loop-value : goal.invariant-loop-value
invariant-loop-value g l =
    IsPlainFormatter l.initial.f → HasWritten g.W.Write.write_str_gives l.initial.f (flat_map show_value (take l.value-index l.value-items)) l.f
