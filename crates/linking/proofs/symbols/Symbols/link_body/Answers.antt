use Rattle.std.proofs.Common.{◌+◌, vec_items, sym, ap, ◌∙◌}
use Rattle.std.proofs.lemmas.Result.{err_from_is_err_and}
use Rattle.linking.specs.Links.{blocked}
use Rattle.linking.proofs.Stages.{part_made, part_faulty, lines_on, lines_done}
use Rattle.linking.proofs.symbols.Symbols.link_body.Goals as goal

pub returns-in_err-link_line : goal.returns-in_err-link_line
returns-in_err-link_line c =
    let p = err_from_is_err_and c.from_residual-in_err-link_line.result c.from_residual-in_err-link_line.ensures.1 in
    let ls = c.args.lines.now in
    let on = lines_on c.args.self.now ls c.loop-i.i c.index-lines-i.result c.loop-i-test.true c.index-lines-i.is ls (c.args.number + 1) in
    rw (p.1, p.2) (ap (blocked c.args.number) (part_faulty (vec_items c.loop-i.operations) _ _ _ _ c.loop-i.invariant on _ (sym c.in_err-link_line.ensures)))

pub loop-i-preserved : goal.loop-i-preserved
loop-i-preserved c =
    let ls = c.args.lines.now in
    let on = lines_on c.args.self.now ls c.loop-i.i c.index-lines-i.result c.loop-i-test.true c.index-lines-i.is ls (c.args.number + 1) in
    part_made (vec_items c.loop-i.operations) _ _ _ _ c.loop-i.invariant on c.in_ok-link_line.field-0 (sym c.in_ok-link_line.ensures) _ c.in_ok-push.ensures.items

pub returns : goal.returns
returns c =
    ap (blocked c.args.number) (c.loop-i.invariant ∙ lines_done c.args.self.now c.args.lines.now c.args.lines.now (c.args.number + 1 + c.loop-i.i) c.loop-i.i (vec_items c.loop-i.operations) c.loop-i-test.false)
