-- What the loop over the queries keeps: the notes so far, and room for the others.
use Rattle.std.proofs.Common.{◌+◌, ◌≤◌, length, vec_items, vec_len, vec_capacity}
use Rattle.pickers.proofs.Along.{Along}
use Rattle.pickers.proofs.asking.note_each.Given as goal

abbrev pub invariant-loop-query : goal.invariant-loop-query
invariant-loop-query g l = record {
  along :
      Along g.T.Note.rule (g.P.Picker.meaning l.initial.picker) (g.P.Picker.meaning l.picker)
      (vec_items l.initial.notes) (vec_items l.notes) l.queries l.query-index;
  room : vec_len l.notes + length l.queries ≤ vec_capacity l.notes + l.query-index;
}
