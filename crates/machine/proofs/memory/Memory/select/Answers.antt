use Rattle.std.proofs.Common.{◌≡◌, length, map, take, ap, subst, ◌∙◌}
use Rattle.pickers.specs.Choosing.{after_choice}
use Rattle.pickers.specs.declared.picker.Query.{Query}
use Rattle.runs.specs.Runs.{Parts}
use Rattle.runs.specs.Cases.{branch, wishes_of, ready_set}
use Rattle.runs.specs.Steps.{Step, query}
use Rattle.hub.specs.Boards.{Board, seen}
use Rattle.machine.specs.Memory.{Made, seen_run}
use Rattle.machine.proofs.Selects.{selecting_is, meaning_left}
use Rattle.machine.proofs.memory.Memory.select.Goals as goal

pub take_chosen-requires-clause-row : goal.take_chosen-requires-clause-row
take_chosen-requires-clause-row g c =
    let W : Parts Board → Type 0 = λ n. take (length c.args.cases.now) c.wishes-row.result ≡ wishes_of (seen n.hub c.args.values.now c.args.handles.now).channels c.args.turn.now.routine (map branch c.args.cases.now) in
    subst W c.self.view_is (c.wishes-row.ensures c.args.values.now c.args.handles.now)

pub returns-clause-made : goal.returns-clause-made
returns-clause-made g c =
    let vs = c.args.values.now in
    let hs = c.args.handles.now in
    let x = c.args.turn.now in
    let bs = map branch c.args.cases.now in
    let run = seen_run c.args.self.now vs hs in
    let W : Parts Board → Type 0 = λ n. take (length c.args.cases.now) c.wishes-row.result ≡ wishes_of (seen n.hub vs hs).channels x.routine bs in
    let row = subst W c.self.view_is (c.wishes-row.ensures vs hs) in
    let Q : Parts Board → Type 0 = λ n. c.ready.result ≡ ready_set (seen n.hub vs hs) (take (length c.args.cases.now) c.wishes-row.result) in
    let ready = subst Q c.self.view_is (c.ready.ensures vs hs c.requires.enough) ∙ ap (ready_set (seen c.args.self.now.hub vs hs)) row in
    let q : Query = record { routine = c.from.result; ready = c.ready.result } in
    let asked : q ≡ query run x.number x.routine bs = ap (λ n. record { routine = n; ready = c.ready.result }) c.from.ensures ∙ ap (λ n. record { routine = x.number; ready = n }) ready in
    let m = g.P.Picker.meaning c.args.picker.now in
    let S : Step → Type 0 = λ s. Made s c.take_chosen.result c.args.self.now c.take_chosen.new.self vs c.take_chosen.new.values hs c.take_chosen.new.handles in
    subst S (selecting_is run m x.number x.line x.routine bs q c.choose-choice.result asked c.choose-choice.ensures.value) (c.take_chosen.ensures (after_choice m q))

pub returns-clause-then : goal.returns-clause-then
returns-clause-then g c =
    let vs = c.args.values.now in
    let hs = c.args.handles.now in
    let x = c.args.turn.now in
    let bs = map branch c.args.cases.now in
    let run = seen_run c.args.self.now vs hs in
    let W : Parts Board → Type 0 = λ n. take (length c.args.cases.now) c.wishes-row.result ≡ wishes_of (seen n.hub vs hs).channels x.routine bs in
    let row = subst W c.self.view_is (c.wishes-row.ensures vs hs) in
    let Q : Parts Board → Type 0 = λ n. c.ready.result ≡ ready_set (seen n.hub vs hs) (take (length c.args.cases.now) c.wishes-row.result) in
    let ready = subst Q c.self.view_is (c.ready.ensures vs hs c.requires.enough) ∙ ap (ready_set (seen c.args.self.now.hub vs hs)) row in
    let q : Query = record { routine = c.from.result; ready = c.ready.result } in
    let asked : q ≡ query run x.number x.routine bs = ap (λ n. record { routine = n; ready = c.ready.result }) c.from.ensures ∙ ap (λ n. record { routine = x.number; ready = n }) ready in
    let m = g.P.Picker.meaning c.args.picker.now in
    c.choose-choice.ensures.then ∙ meaning_left run m x.number x.line x.routine bs q c.choose-choice.result asked c.choose-choice.ensures.value
