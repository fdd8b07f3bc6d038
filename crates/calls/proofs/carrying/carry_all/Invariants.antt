-- The first calls were made, and there is room for the answers of the others.
use Rattle.std.proofs.Common.{◌≡◌, ◌+◌, take, vec_len, vec_capacity}
use Rattle.calls.specs.Carried.{Carried}
use Rattle.calls.proofs.carrying.carry_all.Given as goal

abbrev pub invariant-loop-call : goal.invariant-loop-call
invariant-loop-call g l = record {
  made : Carried l.initial.run.linked.program (take l.call-index l.calls) (record { memory = l.initial.run.memory; values = l.initial.values; handles = l.initial.handles }) (g.P.Picker.meaning l.initial.picker) l.initial.answers.items (record { memory = l.run.memory; values = l.values; handles = l.handles }) (g.P.Picker.meaning l.picker) l.answers.items;
  script : l.run.linked ≡ l.initial.run.linked;
  noted : vec_len l.answers ≡ vec_len l.initial.answers + l.call-index;
  room : vec_capacity l.answers ≡ vec_capacity l.initial.answers;
}
