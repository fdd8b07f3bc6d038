use Rattle.std.proofs.Common.{◌+◌, drop, vec_items, sym, ap, ◌∙◌}
use Rattle.std.proofs.lemmas.Result.{err_from_is_err_and}
use Rattle.linking.specs.Parts.{parts}
use Rattle.linking.specs.Links.{link_parts}
use Rattle.script.specs.Drafts.{behind}
use Rattle.linking.proofs.Stages.{part_made, part_faulty, stops_too, body_on, no_body_on, bodies_done}
use Rattle.linking.proofs.symbols.Symbols.link_bodies.Goals as goal
use Rattle.linking.proofs.symbols.Symbols.link_bodies.Goals.{then-opens+in_ok-link_body+in_ok-push, else-opens}

pub returns-in_err-link_body : goal.returns-in_err-link_body
returns-in_err-link_body c =
    let p = err_from_is_err_and c.from_residual-in_err-link_body.result c.from_residual-in_err-link_body.ensures.1 in
    let k = c.args.self.now in
    let ls = c.args.lines.now in
    let on = body_on k ls c.loop-i.i c.index-lines-i.result c.loop-i-test.true c.index-lines-i.is c.own.result.now c.own.ensures c.if-opens.ensures in
    rw (p.1, p.2)
    (stops_too _ (link_parts k (parts 1 ls)) c.in_err-link_body.field-0.0 (part_faulty (vec_items c.loop-i.bodies) _ _ _ _ c.loop-i.invariant on) c.in_err-link_body.ensures)

pub loop-i-preserved : goal.loop-i-preserved
loop-i-preserved c =
    let k = c.args.self.now in
    let ls = c.args.lines.now in
    let i = c.loop-i.i in
    elim c.if-opens.branch [
      | then-opens+in_ok-link_body+in_ok-push w ↦
          part_made (vec_items c.loop-i.bodies) _ _ _ _ c.loop-i.invariant
          (body_on k ls i c.index-lines-i.result c.loop-i-test.true c.index-lines-i.is w.own.result.now w.own.ensures w.if-opens.ensures)
          w.in_ok-link_body.field-0 w.in_ok-link_body.ensures _ (ap vec_items w.bodies-is ∙ w.in_ok-push.ensures.items)
      | else-opens w ↦
          c.loop-i.invariant
          ∙ ap (behind (vec_items c.loop-i.bodies)) (no_body_on k ls i c.index-lines-i.result c.loop-i-test.true c.index-lines-i.is w.if-opens.ensures)
          ∙ ap (λ done. behind done (link_parts k (parts (i + 1 + 1) (drop (i + 1) ls)))) (ap vec_items (sym w.bodies-is))
    ]

pub returns : goal.returns
returns c = c.loop-i.invariant ∙ bodies_done c.args.self.now c.args.lines.now (c.loop-i.i + 1) c.loop-i.i (vec_items c.loop-i.bodies) c.loop-i-test.false
