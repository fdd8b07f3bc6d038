-- Nobody waits.
use Rattle.std.proofs.Common.{map, vec_items, sym, subst, refl, arith}
use Rattle.waiting.specs.Queues.{Orderly}
use Rattle.waiting.proofs.Lines.{orderly_none, empty_rows}
use Rattle.waiting.proofs.Marking.{has_nobody, exact_none}
use Rattle.waiting.proofs.line.Waiting.new.Goals as goal

pub invariant_of-result : goal.invariant_of-result
invariant_of-result g c = (
  subst (Orderly 64) (sym c.in_ok-line.ensures.items) (orderly_none 64),
  omega (arith, c.in_ok-line.ensures.capacity),
  c.in_ok-table.ensures.len,
  λ k d i. let h = c.in_ok-table.ensures.rows k d i in (rw h.0 (omega arith), h.1),
  rw c.in_ok-line.ensures.items has_nobody,
  c.in_ok-marks.ensures.len,
  rw (c.in_ok-marks.ensures.items_if_clones_equal (λ y e. e), c.in_ok-line.ensures.items) (exact_none (map vec_items c.in_ok-table.table.items)),
)

pub returns : goal.returns
returns g c =
    rw (c.in_ok-line.ensures.items, empty_rows 64 c.in_ok-table.table.items (omega (arith, c.in_ok-table.ensures.len)) c.in_ok-table.ensures.rows) refl
