-- The first cases are written, and there is room for the rest.
use Rattle.std.proofs.Common.{◌≡◌, take, vec_items, vec_len, vec_capacity}
use Rattle.waiting.proofs.queues.lay.Given as goal

abbrev pub invariant-loop-wish : goal.invariant-loop-wish
invariant-loop-wish g l = (vec_items l.row ≡ take l.wish-index l.wishes) × (vec_len l.row ≡ l.wish-index) × (vec_capacity l.row ≡ vec_capacity l.fn.row)
