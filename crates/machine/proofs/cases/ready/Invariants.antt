-- The last cases make the upper digits.
use Rattle.std.proofs.Common.{◌≡◌, ◌^◌, ◌<◌, List, length, map, reverse}
use Rattle.elements.specs.declared.value.Value.{Value as Number}
use Rattle.elements.specs.declared.handle.Handle.{Handle as Holder}
use Rattle.runs.specs.Cases.{ready_set}
use Rattle.hub.specs.Boards.{seen, Enough}
use Rattle.machine.proofs.cases.ready.Given as goal

abbrev pub invariant-loop-wish : goal.invariant-loop-wish
invariant-loop-wish l = record {
  small : l.set < 2 ^ length l.yielded;
  digits : (vs : List Number) (hs : List Holder) → Enough vs hs → l.set ≡ ready_set (seen l.hub vs hs) (reverse (map (λ w. w.now) l.yielded));
}
