-- The first cases are written.
use Rattle.std.proofs.Common.{◌≡◌, List, length, map, take}
use Rattle.elements.specs.declared.value.Value.{Value as Number}
use Rattle.elements.specs.declared.handle.Handle.{Handle as Holder}
use Rattle.runs.specs.Cases.{branch, wishes_of}
use Rattle.hub.specs.Boards.{seen}
use Rattle.machine.proofs.cases.wishes.Given as goal

abbrev pub invariant-loop-k : goal.invariant-loop-k
invariant-loop-k l =
    (length l.row ≡ 8) × ((vs : List Number) (hs : List Holder) → take l.k l.row ≡ wishes_of (seen l.hub vs hs).channels l.x (map branch (take l.k l.cases)))
