-- The channels that are laid, and those still to be laid behind them.
use Rattle.std.proofs.Common.{◌≡◌, ◌≤◌, true, ◌++◌, length, drop, vec_items, vec_len, vec_capacity}
use Rattle.hub.specs.Boards.{laid, can_be_laid}
use Rattle.hub.proofs.Laid.{own}
use Rattle.hub.proofs.making.lay.Given as goal

abbrev pub invariant-loop-channel : goal.invariant-loop-channel
invariant-loop-channel l = record {
  all : vec_items l.ports ++ laid (vec_len l.ports) l.values l.handles (own (drop l.channel-index l.channels)) ≡ laid 0 0 0 (own l.channels);
  fits : can_be_laid (vec_len l.ports) l.values l.handles (own (drop l.channel-index l.channels)) ≡ true;
  count : vec_len l.ports ≡ l.channel-index;
  room : length l.channels ≤ vec_capacity l.ports;
}
