-- The loop notes what the rule says, in the order of the queries.
use Rattle.std.proofs.Common.{◌++◌, vec_items, ap, ◌∙◌, arith}
use Rattle.std.specs.Option.{option_to_list}
use Rattle.pickers.proofs.Along.{along_none, along_more, along_all}
use Rattle.pickers.proofs.Replays.{answers_within, replays}
use Rattle.pickers.proofs.asking.note_each.Goals as goal

pub loop-query-init : goal.loop-query-init
loop-query-init g c = record { along = along_none; room = omega arith }

pub loop-query-preserved : goal.loop-query-preserved
loop-query-preserved g c = record {
  along = along_more _ c.loop-query.invariant.along c.loop-query-test.true c.pick-answer.ensures.then
      (c.add.ensures.items
      ∙ ap (λ o. vec_items c.loop-query.notes ++ option_to_list o) (c.note.ensures ∙ ap (g.T.Note.rule _) c.pick-answer.ensures.value));
  room = omega arith;
}

pub returns : goal.returns
returns g c =
    let a = along_all c.loop-query.invariant.along c.loop-query-test.false in
    let law = g.P.Picker.lawful c.args.picker.now in
    let qs = c.args.queries.now in
    record { items = a.0; then = a.1; within = answers_within _ law qs; replayed = replays _ law qs }
