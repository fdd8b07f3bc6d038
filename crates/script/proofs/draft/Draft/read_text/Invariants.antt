use Rattle.std.proofs.Common.{◌≡◌, ◌+◌, length}
use Rattle.script.specs.Drafts.{reading}
use Rattle.script.proofs.draft.Draft.read_text.Given as goal

-- the text is read up to its byte `end`, and what is left gives what the whole would
abbrev pub invariant-loop-place : goal.invariant-loop-place
invariant-loop-place l =
    (l.end + length l.place-iterator.iter.rest.now ≡ length l.text) × (reading l.self (l.place-iterator.count + 1) l.place-iterator.iter.rest.now ≡ reading l.initial.self 1 l.text)
