-- That the channels lie in the cells that there are has one proof at most.
use Rattle.std.proofs.Common.{◌≡◌, ℕ, ◌+◌, List, [], ◌∷◌}
use Rattle.std.proofs.Math.Bridge.{le_prop}
use Rattle.std.proofs.Math.Nat.{ℕ_set}
use Rattle.lines.specs.declared.line.Kind.TheVariants.{Value as ValueKind, Handle as HandleKind}
use Rattle.rings.specs.Layouts.{Layout, Sound}
use Rattle.linking.specs.Sound.{cells_for}
use Rattle.hub.specs.declared.port.Port.{Port}
use Rattle.hub.specs.Boards.{Placed, declared, base_for}

sound_prop : (l : Layout) (a b : Sound l) → a ≡ b
sound_prop l a b = λ t. record { inside = le_prop a.inside b.inside t; small = le_prop a.small b.small t; within = le_prop a.within b.within t; counted = le_prop a.counted b.counted t }

pub placed_prop : (c v h : ℕ) (ps : List Port) (a b : Placed c v h ps) → a ≡ b
placed_prop c v h [] a b = λ t. (le_prop a.0 b.0 t, le_prop a.1 b.1 t, le_prop a.2 b.2 t)
placed_prop c v h (p ∷ ps) a b =
    let rest = placed_prop (c + 1) (v + cells_for ValueKind (declared p)) (h + cells_for HandleKind (declared p)) ps a.3 b.3 in
    λ t. (ℕ_set p.channel.number c a.0 b.0 t, ℕ_set p.channel.ring.base (base_for p.kind v h) a.1 b.1 t, sound_prop p.channel.ring a.2 b.2 t, rest t)
