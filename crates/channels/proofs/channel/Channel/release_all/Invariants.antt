use Rattle.std.proofs.Common.{◌≡◌, ◌+◌, ◌≤◌, ◌++◌, length, vec_items, vec_len, vec_capacity}
use Rattle.channels.specs.Closes.{freed_at, line_closed}
use Rattle.channels.proofs.channel.Channel.release_all.Given as goal

-- those noted and those still to be released are all
abbrev pub invariant-loop-entry : goal.invariant-loop-entry
invariant-loop-entry g l = record {
  noted : vec_items l.freed ++ freed_at l.self l.waiting ≡ vec_items l.initial.freed ++ freed_at l.self l.initial.waiting;
  left : line_closed l.self l.waiting ≡ line_closed l.self l.initial.waiting;
  more : vec_len l.initial.freed ≤ vec_len l.freed;
  kept : vec_capacity l.freed ≡ vec_capacity l.initial.freed;
  room : vec_len l.freed + length l.waiting.line ≤ vec_capacity l.freed;
}

abbrev pub decreases-loop-entry : goal.decreases-loop-entry
decreases-loop-entry g l = length l.waiting.line
