-- Every cell holds what the closure gives, at each call the zero element.
use Rattle.std.proofs.Common.{◌≡◌, List, [], ◌∷◌, length, replicate, subst, refl, rules}
use Rattle.std.specs.List.{FoldsTo}
use Rattle.rings.proofs.calls.zero_all.Goals as goal

-- the results of calls that all give one thing and leave the closure as it is
constant : {F X : Type 0} (R : F → X → F → Type 0) (z : X) (f : F) → ((x : X) (q : F) → R f x q → (x ≡ z) × (q ≡ f))
    → (xs : List X) (last : F) → FoldsTo R f xs last → xs ≡ replicate (length xs) z
constant R z f step [] last calls = refl
constant R z f step (x ∷ xs) last calls =
    let first = step x calls.0 calls.1 in
    let rest = constant R z f step xs last (subst (λ q. FoldsTo R q xs last) first.1 calls.2) in
    cc

pub returns : goal.returns
returns g c =
    let zero = c.zero-zero.ensures in
    let len = c.fill_with.ensures.len in
    let ran = c.fill_with.ensures.ran in
    let cells = constant _ g.E.Element.nought _ (λ x q call. search rules) c.fill_with.new.self ran.0 ran.1 in
    cc
