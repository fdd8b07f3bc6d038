use Rattle.std.proofs.Common.{◌≡◌, ◌+◌}
use Rattle.script.specs.Texts.{pieces}
use Rattle.script.specs.Drafts.{behind}
use Rattle.panel.specs.Forms.{read_calls}
use Rattle.panel.proofs.reading.calls_of.Given as goal

-- the calls so far stand in front of what is left
abbrev pub invariant-loop-place : goal.invariant-loop-place
invariant-loop-place l =
    behind l.calls.items (read_calls (l.place-iterator.count + 1) (pieces l.place-iterator.iter.rest.now)) ≡ read_calls 1 (pieces l.text)
