use Rattle.std.proofs.Common.{vec_items, vec_len, refl, sym, ◌∙◌, arith}
use Rattle.std.proofs.lemmas.List.{append_assoc, append-nil, drop_all}
use Rattle.hub.proofs.Laid.{next_laid}
use Rattle.hub.proofs.making.lay.Goals as goal

pub loop-channel-init : goal.loop-channel-init
loop-channel-init c =
    let e = c.in_ok-ports.ensures in
    record { all = rw (e.items, e.len) refl; fits = rw e.len c.requires; count = e.len; room = e.capacity }

pub overflow_cast-len : goal.overflow_cast-len
overflow_cast-len c =
    let n = next_laid c.args.channels.now c.loop-channel.channel-index (vec_len c.loop-channel.ports) c.loop-channel.values c.loop-channel.handles c.channel-item.result c.loop-channel-test.true c.channel-item.is c.loop-channel.invariant.fits in
    record { fits = omega (arith, c.len.ensures, n.few) }

pub new-port-requires : goal.new-port-requires
new-port-requires c =
    let n = next_laid c.args.channels.now c.loop-channel.channel-index (vec_len c.loop-channel.ports) c.loop-channel.values c.loop-channel.handles c.channel-item.result c.loop-channel-test.true c.channel-item.is c.loop-channel.invariant.fits in
    record { small = n.small; values = n.values; handles = n.handles }

pub push_reserved-requires : goal.push_reserved-requires
push_reserved-requires c = omega (arith, c.loop-channel.invariant.count, c.loop-channel.invariant.room, c.loop-channel-test.true)

pub loop-channel-preserved : goal.loop-channel-preserved
loop-channel-preserved c =
    let n = next_laid c.args.channels.now c.loop-channel.channel-index (vec_len c.loop-channel.ports) c.loop-channel.values c.loop-channel.handles c.channel-item.result c.loop-channel-test.true c.channel-item.is c.loop-channel.invariant.fits in
    let p = c.push_reserved.ensures in
    record {
      all = rw (p.items, p.len, c.cells-values.ensures, c.cells-handles.ensures, c.new-port.ensures, c.len.ensures, append_assoc) (rw n.is at c.loop-channel.invariant.all);
      fits = rw (p.len, c.cells-values.ensures, c.cells-handles.ensures, c.new-port.ensures) n.fits;
      count = omega (arith, p.len, c.loop-channel.invariant.count);
      room = omega (arith, p.capacity, c.loop-channel.invariant.room);
    }

pub returns : goal.returns
returns c =
    let none = drop_all c.loop-channel.channel-index c.args.channels.now c.loop-channel-test.false in
    sym (append-nil (vec_items c.loop-channel.ports)) ∙ rw none at c.loop-channel.invariant.all
