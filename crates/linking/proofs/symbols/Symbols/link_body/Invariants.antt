use Rattle.std.proofs.Common.{◌≡◌, ◌+◌, drop, vec_items}
use Rattle.linking.specs.Links.{link_lines}
use Rattle.script.specs.Drafts.{behind}
use Rattle.linking.proofs.symbols.Symbols.link_body.Given as goal

abbrev pub invariant-loop-i : goal.invariant-loop-i
invariant-loop-i l = link_lines l.self l.lines (l.number + 1) l.lines ≡ behind (vec_items l.operations) (link_lines l.self l.lines (l.number + 1 + l.i) (drop l.i l.lines))
