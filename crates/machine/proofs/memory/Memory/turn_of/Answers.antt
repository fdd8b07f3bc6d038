use Rattle.std.proofs.Common.{arith, ◌≡◌, ℕ, ◌+◌, List, length, drop, None, sym, ap, ◌∙◌, subst}
use Rattle.std.proofs.lemmas.Grind.{common_steps}
use Rattle.std.specs.List.{slice_get}
use Rattle.linking.specs.declared.operation.Operation.{Operation}
use Rattle.routines.specs.declared.routine.Routine.{Routine}
use Rattle.runs.specs.Runs.{routine, operation_at, block_of, text_line, line_number}
use Rattle.runs.specs.Cases.{Branch}
use Rattle.runs.specs.Steps.{Step, turn_in, at_operation, branch_at, branches_at, passing, nothing_moved}
use Rattle.machine.specs.Memory.{Made, seen_run}
use Rattle.machine.specs.Needs.{Fit}
use Rattle.machine.proofs.Lines.{fits}
use Rattle.machine.proofs.Turning.{turn_released, turn_ready, passed_on_made}
use Rattle.machine.proofs.memory.Memory.turn_of.Goals as goal

pub act-requires-clause-fit : goal.act-requires-clause-fit
act-requires-clause-fit g c =
    let p = c.args.linked.now.program in
    let x = c.index.result.now in
    let at : operation_at p x ≡ c.operation_at-operation.result = ap (λ ops. slice_get ops x.line) (sym c.operations-operations.ensures) ∙ sym c.operation_at-operation.ensures in
    let N : ℕ → Type 0 = λ n. Fit n c.operations-operations.result.now x.line c.operation_at-operation.result in
    let O : List Operation → Type 0 = λ ops. Fit (length p.channels) ops x.line c.operation_at-operation.result in
    subst N (sym c.requires.channels) (subst O (sym c.operations-operations.ensures) (fits p c.args.linked.now.sound x.body x.line c.operation_at-operation.result at))

pub act-requires-clause-end : goal.act-requires-clause-end
act-requires-clause-end g c = λ none.
    let p = c.args.linked.now.program in
    let x = c.index.result.now in
    let at : operation_at p x ≡ c.operation_at-operation.result = ap (λ ops. slice_get ops x.line) (sym c.operations-operations.ensures) ∙ sym c.operation_at-operation.ensures in
    c.text_line.ensures ∙ ap (line_number ((block_of p x).line + 1 + x.line)) (at ∙ none)

pub returns-in-Some-clause-made : goal.returns-in-Some-clause-made
returns-in-Some-clause-made g c =
    let p = c.args.linked.now.program in
    let x = c.index.result.now in
    let vs = c.args.values.now in
    let hs = c.args.handles.now in
    let run = seen_run c.args.self.now vs hs in
    let m = g.P.Picker.meaning c.args.picker.now in
    let k = c.in-Some.k in
    let q = c.in-Some.passed in
    let at : operation_at p x ≡ c.operation_at-operation.result = ap (λ ops. slice_get ops x.line) (sym c.operations-operations.ensures) ∙ sym c.operation_at-operation.ensures in
    let here : x ≡ routine c.args.self.now c.args.number = grind (arith, common_steps) in
    let M : Step → Type 0 = λ s. Made s c.pass_on.result c.args.self.now c.pass_on.new.self vs vs hs hs in
    let is = turn_released p run m c.args.number x x.state k q (sym c.released_with.ensures ∙ c.in-Some.is) in
    let b : Branch = record { exchange = c.branch_of-exchange.result.0; target = c.branch_of-exchange.result.1 } in
    let same : passing run m c.args.number c.text_line.result k b None (nothing_moved q run) q ≡ turn_in p run m c.args.number x x.state =
    ap (λ n. passing run m c.args.number n k b None (nothing_moved q run) q) c.text_line.ensures
    ∙ ap (λ d. passing run m c.args.number (text_line p x) k d None (nothing_moved q run) q) c.branch_of-exchange.ensures
    ∙ ap (λ ops. passing run m c.args.number (text_line p x) k (branch_at (branches_at x.line (drop (x.line + 1) ops) c.operation_at-operation.result) k) None (nothing_moved q run) q) c.operations-operations.ensures
    ∙ ap (λ o. passing run m c.args.number (text_line p x) k (branch_at (branches_at x.line (drop (x.line + 1) (block_of p x).operations) o) k) None (nothing_moved q run) q) (sym at)
    ∙ sym is in
    let R : Routine → Type 0 = λ y. M (turn_in p run m c.args.number y y.state) in
    subst R here (subst M same (passed_on_made m c.args.number c.text_line.result k b c.pass_on.result c.args.self.now c.pass_on.new.self vs hs q c.pass_on.ensures.report c.pass_on.ensures.memory))

pub returns-in-None-clause-made : goal.returns-in-None-clause-made
returns-in-None-clause-made g c =
    let p = c.args.linked.now.program in
    let x = c.index.result.now in
    let run = seen_run c.args.self.now c.args.values.now c.args.handles.now in
    let m = g.P.Picker.meaning c.args.picker.now in
    let at : operation_at p x ≡ c.operation_at-operation.result = ap (λ ops. slice_get ops x.line) (sym c.operations-operations.ensures) ∙ sym c.operation_at-operation.ensures in
    let here : x ≡ routine c.args.self.now c.args.number = grind (arith, common_steps) in
    let M : Step → Type 0 = λ s. Made s c.act.result c.args.self.now c.act.new.self c.args.values.now c.act.new.values c.args.handles.now c.act.new.handles in
    let is = turn_ready p run m c.args.number x x.state (sym c.released_with.ensures ∙ c.in-None.is) in
    let same : at_operation run m c.args.number c.text_line.result x (drop (x.line + 1) c.operations-operations.result.now) c.operation_at-operation.result ≡ turn_in p run m c.args.number x x.state =
    ap (λ n. at_operation run m c.args.number n x (drop (x.line + 1) c.operations-operations.result.now) c.operation_at-operation.result) c.text_line.ensures
    ∙ ap (λ ops. at_operation run m c.args.number (text_line p x) x (drop (x.line + 1) ops) c.operation_at-operation.result) c.operations-operations.ensures
    ∙ ap (λ o. at_operation run m c.args.number (text_line p x) x (drop (x.line + 1) (block_of p x).operations) o) (sym at)
    ∙ sym is in
    let R : Routine → Type 0 = λ y. M (turn_in p run m c.args.number y y.state) in
    subst R here (subst M same c.act.ensures.made)

pub returns-in-None-clause-then : goal.returns-in-None-clause-then
returns-in-None-clause-then g c =
    let p = c.args.linked.now.program in
    let x = c.index.result.now in
    let run = seen_run c.args.self.now c.args.values.now c.args.handles.now in
    let m = g.P.Picker.meaning c.args.picker.now in
    let at : operation_at p x ≡ c.operation_at-operation.result = ap (λ ops. slice_get ops x.line) (sym c.operations-operations.ensures) ∙ sym c.operation_at-operation.ensures in
    let here : x ≡ routine c.args.self.now c.args.number = grind (arith, common_steps) in
    let M : Step → Type 0 = λ s. g.P.Picker.meaning c.act.new.picker ≡ s.meaning in
    let is = turn_ready p run m c.args.number x x.state (sym c.released_with.ensures ∙ c.in-None.is) in
    let same : at_operation run m c.args.number c.text_line.result x (drop (x.line + 1) c.operations-operations.result.now) c.operation_at-operation.result ≡ turn_in p run m c.args.number x x.state =
    ap (λ n. at_operation run m c.args.number n x (drop (x.line + 1) c.operations-operations.result.now) c.operation_at-operation.result) c.text_line.ensures
    ∙ ap (λ ops. at_operation run m c.args.number (text_line p x) x (drop (x.line + 1) ops) c.operation_at-operation.result) c.operations-operations.ensures
    ∙ ap (λ o. at_operation run m c.args.number (text_line p x) x (drop (x.line + 1) (block_of p x).operations) o) (sym at)
    ∙ sym is in
    let R : Routine → Type 0 = λ y. M (turn_in p run m c.args.number y y.state) in
    subst R here (subst M same c.act.ensures.then)
