-- What striking a routine off the line, and its marks off the queues, does.
use Rattle.std.proofs.Common.{map, vec_items, sym, subst, refl, arith}
use Rattle.waiting.specs.Queues.{Orderly}
use Rattle.waiting.specs.Marks.{IsPresent}
use Rattle.waiting.proofs.Lines.{orderly_without, without_absent, below}
use Rattle.waiting.proofs.Marking.{present_left, exact_left, written_back, row_of}
use Rattle.waiting.proofs.Orders.{queue_without, gone}
use Rattle.waiting.proofs.line.Waiting.leave.Goals as goal

pub returns-then-not-waits-clause-gone : goal.returns-then-not-waits-clause-gone
returns-then-not-waits-clause-gone g c s ch =
    let same = without_absent c.args.routine c.args.self.now.line (sym c.if-not-waits.ensures) in
    rw same at (gone s ch c.args.routine c.args.self.now.line c.args.self.now.table)

pub returns-then-not-waits-clause-order : goal.returns-then-not-waits-clause-order
returns-then-not-waits-clause-order g c s ch =
    let same = without_absent c.args.routine c.args.self.now.line (sym c.if-not-waits.ensures) in
    rw same at (queue_without s ch c.args.routine c.args.self.now.line c.args.self.now.table)

pub returns-then-not-waits-clause-steps : goal.returns-then-not-waits-clause-steps
returns-then-not-waits-clause-steps g c = rw (without_absent c.args.routine c.args.self.now.line (sym c.if-not-waits.ensures)) refl

pub index-requires : goal.index-requires
index-requires g c =
    let waited = rw (← c.self.view_is) at c.if-not-waits.ensures in
    omega (arith, below 64 c.args.routine c.self.inside.line.items c.self.invariant.0 (sym waited), c.self.invariant.2)

pub unmark-requires-clause-one : goal.unmark-requires-clause-one
unmark-requires-clause-one g c =
    let waited = rw (← c.self.view_is) at c.if-not-waits.ensures in
    below 64 c.args.routine c.self.inside.line.items c.self.invariant.0 (sym waited)

pub returns-clause-gone : goal.returns-clause-gone
returns-clause-gone g c =
    rw c.strike.ensures.items (λ s ch. gone s ch c.args.routine c.self.inside.line.items (map vec_items c.self.inside.table.items))

pub returns-clause-order : goal.returns-clause-order
returns-clause-order g c =
    rw (c.strike.ensures.items, ← c.self.view_is) (λ s ch. queue_without s ch c.args.routine c.self.inside.line.items (map vec_items c.self.inside.table.items))

pub invariant_of-self : goal.invariant_of-self
invariant_of-self g c =
    let r = c.args.routine in
    let waited = rw (← c.self.view_is) at c.if-not-waits.ensures in
    let inside = below 64 r c.self.inside.line.items c.self.invariant.0 (sym waited) in
    let row = row_of c.self.inside.table.items r c.index.result.now (omega (arith, inside, c.self.invariant.2)) c.index.ensures in
    let off = rw (c.deref_mut.ensures.value, c.deref.ensures.value, row) at c.unmark.ensures in
    let back = written_back c.self.inside.marks.len c.unmark.new.marks c.self.inside.marks.items (omega (arith, c.unmark.auto.marks, c.deref_mut.ensures.len)) in (
      subst (Orderly 64) (sym c.strike.ensures.items) (orderly_without 64 r c.self.inside.line.items c.self.invariant.0),
      omega (arith, c.self.invariant.1, c.strike.ensures.room),
      c.self.invariant.2,
      c.self.invariant.3,
      subst (λ l. IsPresent l c.without-self-inside.result) (sym c.strike.ensures.items) (present_left r c.self.inside.present c.without-self-inside.result c.self.inside.line.items c.self.invariant.4 c.without-self-inside.ensures),
      c.self.invariant.5,
      rw (back, c.strike.ensures.items) (exact_left r c.self.inside.marks.items c.unmark.new.marks c.self.inside.line.items (map vec_items c.self.inside.table.items) c.self.invariant.6 off),
    )
