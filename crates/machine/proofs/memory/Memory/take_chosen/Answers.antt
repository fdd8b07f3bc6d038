use Rattle.pickers.specs.declared.choosing.Choice.TheVariants.{Asked}
use Rattle.std.proofs.Common.{◌≡◌, Some, None, length, map, ap, ◌∙◌, subst, List, ℕ, sym}
use Rattle.pickers.specs.Choosing.{taken}
use Rattle.runs.specs.Cases.{branch, default_from}
use Rattle.runs.specs.Orderly.{Orderly}
use Rattle.run_laws.proofs.Links.{front_may_join}
use Rattle.hub.specs.Boards.{seen}
use Rattle.machine.proofs.Selects.{picked_goes, unready_made, departs_made, chosen_made, row_short}
use Rattle.machine.proofs.memory.Memory.take_chosen.Goals as goal

pub none_ready-requires-clause-joins : goal.none_ready-requires-clause-joins
none_ready-requires-clause-joins c =
    let run = c.args.self.now in
    let P : List ℕ → Type 0 = λ ts. Orderly (length run.routines) ts run.hub.line in
    front_may_join (length run.routines) c.args.turn.now.number _ run.hub.line (subst P c.requires.front.first c.requires.orderly) (length c.args.row.now) (row_short (seen c.args.self.now.hub c.args.values.now c.args.handles.now) c.args.turn.now.routine c.args.cases.now c.args.row.now c.requires.row c.requires.short)

pub take-requires-clause-within : goal.take-requires-clause-within
take-requires-clause-within c = (picked_goes (seen c.args.self.now.hub c.args.values.now c.args.handles.now) c.args.turn.now.routine c.args.cases.now c.args.row.now (taken c.args.choice) c.in-OneReady.k c.requires.short c.requires.row c.requires.ready (ap taken c.in-OneReady.is)).0

pub take-requires-clause-goes : goal.take-requires-clause-goes
take-requires-clause-goes c = (picked_goes (seen c.args.self.now.hub c.args.values.now c.args.handles.now) c.args.turn.now.routine c.args.cases.now c.args.row.now (taken c.args.choice) c.in-OneReady.k c.requires.short c.requires.row c.requires.ready (ap taken c.in-OneReady.is)).1

pub take-requires-in-Asked-Some-clause-within : goal.take-requires-in-Asked-Some-clause-within
take-requires-in-Asked-Some-clause-within c =
    let a = c.in-Asked-Some.is in
    let b = c.in-Asked-Some.field-0-is in
    let e : taken c.args.choice ≡ Some c.in-Asked-Some.case = cc in
    (picked_goes (seen c.args.self.now.hub c.args.values.now c.args.handles.now) c.args.turn.now.routine c.args.cases.now c.args.row.now (taken c.args.choice) c.in-Asked-Some.case c.requires.short c.requires.row c.requires.ready e).0

pub take-requires-in-Asked-Some-clause-goes : goal.take-requires-in-Asked-Some-clause-goes
take-requires-in-Asked-Some-clause-goes c =
    let a = c.in-Asked-Some.is in
    let b = c.in-Asked-Some.field-0-is in
    let e : taken c.args.choice ≡ Some c.in-Asked-Some.case = cc in
    (picked_goes (seen c.args.self.now.hub c.args.values.now c.args.handles.now) c.args.turn.now.routine c.args.cases.now c.args.row.now (taken c.args.choice) c.in-Asked-Some.case c.requires.short c.requires.row c.requires.ready e).1

pub returns-in-NoneReady : goal.returns-in-NoneReady
returns-in-NoneReady c = λ m.
    let x = c.args.turn.now in
    let bs = map branch c.args.cases.now in
    chosen_made m x.number x.line x.routine bs c.none_ready.result c.args.self.now c.none_ready.new.self c.args.values.now c.args.handles.now _ _ _ _ c.in-NoneReady.is
    (unready_made m x.number x.line x.routine bs c.none_ready.result c.args.self.now c.none_ready.new.self c.args.values.now c.args.handles.now c.args.row.now (default_from 0 bs) c.requires.row c.none_ready.ensures.report c.none_ready.ensures.memory)

pub returns-in-Asked-None : goal.returns-in-Asked-None
returns-in-Asked-None c = λ m.
    let x = c.args.turn.now in
    let bs = map branch c.args.cases.now in
    let a = c.in-Asked-None.is in
    let b = c.in-Asked-None.field-0-is in
    let t : taken c.args.choice ≡ None = cc in
    let e : c.args.choice ≡ Asked None = a ∙ ap Asked (sym (ap taken a) ∙ t) in
    chosen_made m x.number x.line x.routine bs c.halt.result c.args.self.now c.halt.new.self c.args.values.now c.args.handles.now c.args.choice (Asked None) c.args.values.now c.args.handles.now e
    (departs_made m x.number x.line x.routine bs c.halt.result c.args.self.now c.halt.new.self c.args.values.now c.args.handles.now c.halt.ensures.report c.halt.ensures.memory)
