-- A turning picker names a case wherever one is ready.
use Rattle.std.proofs.Common.{◌≡◌, ℕ, ◌+◌, ◌^◌, ◌<◌, true, false, eqb, List, [], ◌∷◌, is_some, Some, None, Option, unwrap_or, sym, refl, ap, ◌∙◌, subst, inl, inr, div-one, arith}
use Rattle.std.specs.Option.{option_or}
use Rattle.std.proofs.lemmas.Bool.{cases_lt, both_ways, and_from, eq-eqb}
use Rattle.pickers.specs.declared.picker.Query.{Query}
use Rattle.pickers.specs.Sets.{cases, onward, first}
use Rattle.pickers.specs.SetFacts.{from_found, onward_all}
use Rattle.pickers.specs.Meaning.{answers}
use Rattle.pickers.specs.Turning.{turned, turning}
use Rattle.pickers.specs.Recording.{none_at_empty, TurningDecides}

either_some : (a b : Option ℕ) → is_some b ≡ true → is_some (option_or a b) ≡ true
either_some None b e = e
either_some (Some k) b e = refl

lowest_some : (s : ℕ) → 0 < s → s < 2 ^ 8 → is_some (first (cases s)) ≡ true
lowest_some s p l =
    ap (λ ks. is_some (first ks)) (sym (onward_all (cases s)))
    ∙ ap is_some (from_found s 0 (subst (λ (n : ℕ). 0 < n) (sym (div-one s)) p) l)

turned_some : (last s : ℕ) → 0 < s → s < 2 ^ 8 → is_some (turned last s) ≡ true
turned_some last s p l = either_some (first (onward (last + 1) (cases s))) (first (cases s)) (lowest_some s p l)

-- none is answered to an empty set alone
empty : (last s : ℕ) → s < 2 ^ 8 → is_some (turned last s) ≡ false → s ≡ 0
empty last s l e = elim (cases_lt 0 s) [
  | inl p ↦ absurd (both_ways (is_some (turned last s)) e (turned_some last s p l))
  | inr h ↦ omega arith
]

decide : (q : Query) (qs : List Query) (os : List (Option ℕ)) (o : Option ℕ) → (is_some o ≡ false → q.ready ≡ 0)
    → none_at_empty qs os ≡ true → none_at_empty (q ∷ qs) (o ∷ os) ≡ true
decide q qs os None h e = and_from (eqb q.ready 0) (none_at_empty qs os) (eq-eqb q.ready 0 (h refl)) e
decide q qs os (Some k) h e = e

pub turning_decides : TurningDecides
turning_decides last [] s = refl
turning_decides last (q ∷ qs) s =
    decide q qs (answers (turning (unwrap_or (turned last q.ready) last)) qs) (turned last q.ready) (empty last q.ready s.0)
    (turning_decides (unwrap_or (turned last q.ready) last) qs s.1)
