use Rattle.std.proofs.Common.{length, vec_items, sym, ap, ◌∙◌, arith}
use Rattle.std.proofs.lemmas.List.{append_assoc, append-nil, length-append}
use Rattle.channels.specs.Closes.{freed_at}
use Rattle.channels.proofs.Freed.{freed_more, freed_none, freed_less}
use Rattle.channels.proofs.channel.Channel.release_all.Goals as goal

pub push_reserved-requires : goal.push_reserved-requires
push_reserved-requires g c =
    let less = freed_less c.args.self.now.number c.loop-entry.waiting.line c.loop-entry.waiting.table c.in-Some.entry (sym c.in-Some.ensures.answer) in
    omega (arith, less, c.loop-entry.invariant.room)

pub loop-entry-smaller : goal.loop-entry-smaller
loop-entry-smaller g c = rw c.in-Some.ensures.line (freed_less _ _ _ _ (sym c.in-Some.ensures.answer))

pub loop-entry-preserved : goal.loop-entry-preserved
loop-entry-preserved g c =
    let t = c.in-Some.ensures in
    let more = freed_more c.args.self.now.number c.loop-entry.waiting.line c.loop-entry.waiting.table c.in-Some.entry (sym t.answer) in
    let less = freed_less c.args.self.now.number c.loop-entry.waiting.line c.loop-entry.waiting.table c.in-Some.entry (sym t.answer) in
    record {
      noted = rw (c.push_reserved.ensures.items, append_assoc, t.line, ← more) c.loop-entry.invariant.noted;
      left = rw t.line (rw more at c.loop-entry.invariant.left);
      more = omega (arith, c.loop-entry.invariant.more);
      kept = omega (arith, c.loop-entry.invariant.kept);
      room = omega (arith, c.loop-entry.invariant.room, ap (λ st. length st.line) t.line, less);
    }

pub returns : goal.returns
returns g c =
    let t = c.in_default.ensures in
    let none = freed_none c.args.self.now.number c.loop-entry.waiting.line c.loop-entry.waiting.table (sym t.answer) in
    let items = sym (append-nil (vec_items c.loop-entry.freed)) ∙ rw none at c.loop-entry.invariant.noted in
    record {
      value = omega (arith, ap length items, length-append (vec_items c.args.freed.now) (freed_at c.args.self.now c.args.waiting.now), c.loop-entry.freed.ok.0, c.args.freed.now.ok.0);
      items = items;
      line = t.line ∙ rw none at c.loop-entry.invariant.left;
      room = c.loop-entry.invariant.kept;
    }
