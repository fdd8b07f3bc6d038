-- Who does not wait finds room, and its cases change nobody else's places.
use Rattle.std.proofs.Common.{◌<◌, ◌≤◌, length, map, vec_items, vec_capacity, sym, ap, subst, refl, arith}
use Rattle.std.proofs.lemmas.List.{map-set, length-map}
use Rattle.std.proofs.lemmas.List.Elements.{All-set}
use Rattle.waiting.specs.Queues.{Orderly}
use Rattle.waiting.specs.Marks.{IsPresent}
use Rattle.waiting.proofs.Lines.{may_join_parts, room_to_join}
use Rattle.waiting.proofs.Marking.{present_joined, exact_joined, written_back}
use Rattle.waiting.proofs.Orders.{queue_joined}
use Rattle.waiting.proofs.line.Waiting.join.Goals as goal

pub push_reserved-requires : goal.push_reserved-requires
push_reserved-requires g c =
    let may = rw (← c.self.view_is) at c.if-not-may_join.ensures in
    omega (arith, (room_to_join c.args.routine (length c.args.wishes.now) c.self.inside.line.items (sym may) c.self.invariant.0).0, c.self.invariant.1)

pub invariant_of-self : goal.invariant_of-self
invariant_of-self g c =
    let may = rw (← c.self.view_is) at c.if-not-may_join.ensures in
    let parts = may_join_parts c.args.routine (length c.args.wishes.now) c.self.inside.line.items (sym may) in
    let row = c.index_mut.result.now in
    let inside : c.args.routine < length c.self.inside.table.items = omega (arith, parts.0, c.self.invariant.2) in
    let roomy : 8 ≤ vec_capacity row = subst (λ v. 8 ≤ vec_capacity v) (sym c.index_mut.ensures.value) (c.self.invariant.3 c.args.routine row inside).1 in
    let on = rw c.deref_mut.ensures.value at c.mark.ensures in
    let back = written_back c.self.inside.marks.len c.mark.new.marks c.self.inside.marks.items (omega (arith, c.mark.auto.marks, c.deref_mut.ensures.len)) in (
      subst (Orderly 64) (sym c.push_reserved.ensures.items) (room_to_join c.args.routine (length c.args.wishes.now) c.self.inside.line.items (sym may) c.self.invariant.0).1,
      omega (arith, c.self.invariant.1, c.push_reserved.ensures.capacity),
      c.self.invariant.2,
      All-set (λ row. (length (vec_items row) ≤ 8) × (8 ≤ vec_capacity row)) c.self.inside.table.items c.args.routine c.lay.new.row
          (omega (arith, parts.1, ap length c.lay.ensures.items), omega (arith, c.lay.ensures.room, roomy)) c.self.invariant.3,
      subst (λ l. IsPresent l c.with-self-inside.result) (sym c.push_reserved.ensures.items) (present_joined c.args.routine c.self.inside.present c.with-self-inside.result c.self.inside.line.items c.self.invariant.4 c.with-self-inside.ensures),
      c.self.invariant.5,
      rw (back, c.push_reserved.ensures.items, map-set, c.lay.ensures.items)
          (exact_joined c.args.routine c.args.wishes.now c.self.inside.marks.items c.mark.new.marks c.self.inside.line.items (map vec_items c.self.inside.table.items)
          (omega (arith, inside, length-map c.self.inside.table.items vec_items)) parts.2 c.self.invariant.6 on),
    )

pub returns-clause-steps : goal.returns-clause-steps
returns-clause-steps g c =
    rw (← c.if-not-may_join.ensures, c.push_reserved.ensures.items, map-set, c.lay.ensures.items, ← c.self.view_is) refl

pub returns-clause-behind : goal.returns-clause-behind
returns-clause-behind g c s ch =
    let r = c.args.routine in
    let may = rw (← c.self.view_is) at c.if-not-may_join.ensures in
    let parts = may_join_parts r (length c.args.wishes.now) c.self.inside.line.items (sym may) in
    let rows = map vec_items c.self.inside.table.items in
    let room : r < length rows = omega (arith, parts.0, c.self.invariant.2, length-map c.self.inside.table.items vec_items) in
    rw (c.push_reserved.ensures.items, map-set, c.lay.ensures.items, ← c.self.view_is) (queue_joined s ch r c.args.wishes.now rows c.self.inside.line.items room parts.2)
