use Rattle.std.proofs.Common.{◌≡◌, ◌+◌, length}
use Rattle.script.specs.Texts.{pieces}
use Rattle.panel.specs.Forms.{script_len}
use Rattle.panel.proofs.reading.script_len.Given as goal

-- no line so far is the mark, and what is left begins after `len` bytes
abbrev pub invariant-loop-line : goal.invariant-loop-line
invariant-loop-line l =
    (l.len + length l.line-iterator.rest.now ≡ length l.input) × (l.len + script_len (pieces l.line-iterator.rest.now) ≡ script_len (pieces l.input))
