-- Those so far have joined the run queue.
use Rattle.std.proofs.Common.{◌≡◌, ◌+◌, Bool, length, take}
use Rattle.std.specs.VecDeque.{deque_capacity}
use Rattle.runs.specs.Runs.{release_all}
use Rattle.hub.specs.Boards.{Board}
use Rattle.machine.specs.Memory.{run_of, dismissed_all}
use Rattle.machine.proofs.closing.release_all.Given as goal

abbrev pub invariant-loop-entry : goal.invariant-loop-entry
invariant-loop-entry l = record {
  run : (h : Board) (over : Bool) → run_of l.routines h l.turns.items over ≡ release_all (dismissed_all l.channel (take l.entry-index l.freed)) (run_of l.initial.routines h l.initial.turns.items over);
  many : length l.routines ≡ length l.initial.routines;
  turns : length l.turns.items ≡ length l.initial.turns.items + l.entry-index;
  room : deque_capacity l.turns ≡ deque_capacity l.initial.turns;
}
