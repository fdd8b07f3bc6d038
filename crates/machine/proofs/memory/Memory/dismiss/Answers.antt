use Rattle.std.proofs.Common.{arith, ap, ◌∙◌, length, ◌≤◌, ◌-◌, vec_capacity, vec_len}
use Rattle.std.proofs.lemmas.List.{with_items_is}
use Rattle.machine.specs.Memory.{run_of}
use Rattle.hub.specs.Deals.{leaving_from}
use Rattle.machine.specs.contracts.memory.Memory.{the_view}
use Rattle.machine.proofs.Dismissals.{Freed, frees, dismisses}
use Rattle.machine.proofs.memory.Memory.dismiss.Goals as goal
use Rattle.machine.proofs.memory.Memory.dismiss.Goals.{After-deref}

freed : (c : goal.After-deref) → Freed c.args.channel (the_view c.self.inside) c.close.new.freed.items c.close.new.self
freed c =
    let room : 64 ≤ vec_capacity c.clear.new.self - vec_len c.clear.new.self = omega (arith, c.clear.ensures.len, c.clear.ensures.capacity, c.self.invariant) in
    frees c.args.channel _ (the_view c.self.inside) c.args.self.now c.clear.new.self.items _ _ c.self.view_is c.requires.orderly c.requires.there c.requires.open room c.clear.ensures.items c.close.ensures.items c.close.ensures.board

pub release_all-requires-clause-there : goal.release_all-requires-clause-there
release_all-requires-clause-there c = rw (c.deref.ensures.value, c.deref_mut.ensures.value) (freed c).there

pub release_all-requires-clause-room : goal.release_all-requires-clause-room
release_all-requires-clause-room c = omega (arith, (freed c).fit, ap length c.deref.ensures.value, c.self.invariant.1)

pub overflow_cast-result : goal.overflow_cast-result
overflow_cast-result c =
    let f = freed (goal.at.overflow_cast-result c).After-deref in
    omega (arith, c.len.ensures, c.close.new.freed.ok.0, f.fit)

pub returns : goal.returns
returns c =
    let f = freed (goal.at.returns c).After-deref in
    record {
      count = omega (arith, c.len.ensures, c.close.new.freed.ok.0, ap length f.noted, ap (λ m. length (leaving_from c.args.channel m.hub)) c.self.view_is);
      memory =
          ap (λ xs. run_of xs c.close.new.self c.release_all.new.turns.items c.self.inside.over) (with_items_is c.self.inside.routines c.release_all.new.routines (omega (arith, c.release_all.auto.routines, c.deref_mut.ensures.len)))
          ∙ dismisses c.args.channel _ c.args.self.now _ _ _ _ _ f c.self.view_is c.deref.ensures.value c.deref_mut.ensures.value (c.release_all.ensures.run c.close.new.self c.self.inside.over);
    }
