use Rattle.std.proofs.Common.{◌≡◌, ◌+◌, drop, vec_items}
use Rattle.linking.specs.Parts.{parts}
use Rattle.linking.specs.Links.{link_parts}
use Rattle.script.specs.Drafts.{behind}
use Rattle.linking.proofs.symbols.Symbols.link_bodies.Given as goal

abbrev pub invariant-loop-i : goal.invariant-loop-i
invariant-loop-i l = link_parts l.self (parts 1 l.lines) ≡ behind (vec_items l.bodies) (link_parts l.self (parts (l.i + 1) (drop l.i l.lines)))
