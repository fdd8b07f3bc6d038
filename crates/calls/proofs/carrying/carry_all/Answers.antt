use Rattle.std.proofs.Common.{refl, arith, ◌∙◌, subst, get_or}
use Rattle.linking.specs.declared.linked.Linked.{Linked}
use Rattle.calls.specs.declared.call.Call.{Call}
use Rattle.calls.specs.declared.call.Call.TheVariants.{Step as Stepping}
use Rattle.calls.specs.Carried.{Kept, Made}
use Rattle.calls.proofs.OneMore.{none_carried, next_carried, all_carried}
use Rattle.calls.proofs.carrying.carry_all.Goals as goal

pub loop-call-init : goal.loop-call-init
loop-call-init g c = record { made = none_carried _ _ _ _; script = refl; noted = omega arith; room = refl }

pub push_reserved-requires : goal.push_reserved-requires
push_reserved-requires g c = let i = c.loop-call.invariant in omega (arith, i.noted, i.room, c.loop-call-test.true, c.requires.room)

pub loop-call-preserved : goal.loop-call-preserved
loop-call-preserved g c =
    let before = c.loop-call in
    let i = before.invariant in
    let p = c.args.run.now.linked.program in
    let old : Kept = record { memory = c.args.run.now.memory; values = c.args.values.now; handles = c.args.handles.now } in
    let mid : Kept = record { memory = before.run.memory; values = before.values; handles = before.handles } in
    let t = c.answer-answer in
    let new : Kept = record { memory = t.new.run.memory; values = t.new.values; handles = t.new.handles } in
    let m = g.P.Picker.meaning c.args.picker.now in
    let m' = g.P.Picker.meaning before.picker in
    let m'' = g.P.Picker.meaning t.new.picker in
    let d : Call = Stepping (record { values = 0; handles = 0 }) in
    let one = subst (λ (l : Linked). Made l.program (get_or c.args.calls.now before.call-index d) mid m' t.result new m'') i.script t.ensures.made in
    let all = next_carried p old mid new m m' m'' c.args.answers.now.items before.answers.items t.result c.args.calls.now before.call-index d c.loop-call-test.true i.made one c.push_reserved.new.self.items c.push_reserved.ensures.items in
    record {
      made = all;
      script = t.ensures.script ∙ i.script;
      noted = omega (arith, c.push_reserved.ensures.len, i.noted);
      room = c.push_reserved.ensures.capacity ∙ i.room;
    }

pub returns-clause-carried : goal.returns-clause-carried
returns-clause-carried g c = all_carried _ _ _ _ _ _ _ c.args.calls.now c.loop-call.call-index c.loop-call-test.false c.loop-call.invariant.made
