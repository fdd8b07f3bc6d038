-- The number of a word's digits.
use Rattle.std.proofs.Common.{◌≡◌, ℕ, ◌+◌, ◌*◌, ◌-◌, ◌≤◌, true, false, ◌&&◌, cond, nat_le, List, [], ◌∷◌, length, get_or, drop, pos, neg_ℤ, Some, None, Option, Bor, ControlFlow, Continue, Break, sym, ap, subst, ◌∙◌, arith, rules}
use Rattle.std.specs.ControlFlow.{continue_value}
use Rattle.std.specs.Fn.{Mut, Called}
use Rattle.std.specs.Iterator.{AlwaysYields, YieldsThen, TryFoldTurn, TryFoldsItems}
use Rattle.std.specs.List.{FoldsTo}
use Rattle.std.specs.Option.{MatchOption}
use Rattle.std.specs.Str.{all_ascii_digits}
use Rattle.std.proofs.lemmas.Bool.Decides.{nat_tests}
use Rattle.std.proofs.lemmas.Iterator.{YieldsList}
use Rattle.std.proofs.lemmas.Str.Parse.{IsNumeralModel, numerals_by_fold}
use Rattle.words.specs.Words.{read_on, digits_within, loose, number_of}

-- what is read of digits is their number, by std's account of numerals
pub own : IsNumeralModel (λ ds. all_ascii_digits ds ≡ true) (read_on 0)
own = numerals_by_fold _ (search rules) read_on (search rules)

-- a numeral grows with each digit
read_on_ge : (n : ℕ) (cs : List ℕ) → n ≤ read_on n cs
read_on_ge n [] = omega arith
read_on_ge n (c ∷ cs) = omega (arith, read_on_ge (10 * n + (c - 48)) cs)

-- the number that digits write after n, if it is at most `limit`
abbrev pub on_within : ℕ → ℕ → List ℕ → Option ℕ
on_within limit n ds = cond (all_ascii_digits ds && nat_le (read_on n ds) limit) (Some (read_on n ds)) None

on_stops : (limit n z : ℕ) (zs : List ℕ) → on_within limit n (z ∷ []) ≡ None → None ≡ on_within limit n (z ∷ zs)
on_stops limit n z zs e = let g = read_on_ge (10 * n + (z - 48)) zs in grind (arith, nat_tests)

on_goes : (limit n z a : ℕ) (zs : List ℕ) → on_within limit n (z ∷ []) ≡ Some a → (a ≤ limit) × (on_within limit a zs ≡ on_within limit n (z ∷ zs))
on_goes limit n z a zs e =
    let k : a ≡ 10 * n + (z - 48) = grind (arith, nat_tests) in
    (grind (arith, nat_tests), rw k (grind (arith, nat_tests)))

pub within_le : (limit n : ℕ) (ds : List ℕ) → Some n ≡ digits_within limit ds → n ≤ limit
within_le limit n ds e = grind (arith, nat_tests)

-- ---- digit by digit: s gives them, and g takes each one on
module _ {S F : Type 0} (E : Type 0) (steps : S → Option (Bor ℕ) → S → Type 0) (g : Mut F (ℕ × (Bor ℕ × Unit {0})) (Option ℕ)) (J : F → Type 0) (limit : ℕ)
    (takes : (f : F) (n : ℕ) (x : Bor ℕ) (r : Option ℕ) (q : F) → J f → n ≤ limit → Called g f (n, (x, tt)) r q → J q × (r ≡ on_within limit n (x.now ∷ []))) where
  abbrev Goes : Option ℕ → ControlFlow E ℕ → Type 0
  Goes r c = r ≡ continue_value c

  whole : (ds : List ℕ) (s : S) (f : F) (n : ℕ) (r : Option ℕ) (u : S) → J f → n ≤ limit → AlwaysYields steps (λ y. y.now) s ds
      → (xs : List (Bor ℕ)) (o : Option (Bor ℕ)) (j : F) (a : ℕ) → YieldsThen steps s xs o u → FoldsTo {P = F × ℕ} (TryFoldTurn g Goes) (f, n) xs (j, a)
      → MatchOption o (Goes r (Continue a)) (λ x. (v : Option ℕ) × (h : F) × (e : E) × Called g j (a, (x, tt)) v h × Goes v (Break e) × (r ≡ None))
      → r ≡ on_within limit n ds
  whole [] s f n r u i b e [] None j a y c h = let k : n ≡ a = ap (λ (p : F × ℕ). p.1) c in grind (arith, nat_tests)
  whole [] s f n r u i b e [] (Some x) j a y c h = absurd (e x u (subst (λ t. steps t (Some x) u) (sym y.1) y.2))
  whole [] s f n r u i b e (x ∷ xs) o j a y c h = absurd (e x y.1.0 y.1.1)
  whole (z ∷ zs) s f n r u i b e [] None j a y c h = absurd (e.0 u (subst (λ t. steps t None u) (sym y.1) y.2))
  whole (z ∷ zs) s f n r u i b e [] (Some x) j a y c h =
      let k : n ≡ a = ap (λ (p : F × ℕ). p.1) c in
      let l : f ≡ j = ap (λ (p : F × ℕ). p.0) c in
      let same = (e.1 x u (subst (λ t. steps t (Some x) u) (sym y.1) y.2)).0 in
      let t = takes j a x h.0 h.1 (subst J l i) (omega arith) h.3 in
      let none : on_within limit n (z ∷ []) ≡ None = rw (sym same, k, sym t.1) h.4 in
      h.5 ∙ on_stops limit n z zs none
  whole (z ∷ zs) s f n r u i b e (x ∷ xs) o j a y c h =
      let m = e.1 x y.1.0 y.1.1 in
      let t = takes f n x c.1.0 c.0.0 i b c.1.1 in
      let some : on_within limit n (z ∷ []) ≡ Some c.0.1 = rw (sym m.0, sym t.1) c.1.2 in
      let next = on_goes limit n z c.0.1 zs some in
      whole zs y.1.0 c.0.0 c.0.1 r u t.0 next.0 m.1 xs o j a (y.0, y.1.2, y.2) c.2 h ∙ next.1

  pub digits_read : (ds : List ℕ) (s : S) (f : F) (r : Option ℕ) (u : S) → J f → YieldsList steps (λ y. y.now) s ds
      → TryFoldsItems steps g Goes (λ _ r. r ≡ None) s f 0 r u → r ≡ digits_within limit ds
  digits_read ds s f r u i e d = whole ds s f 0 r u i (omega arith) e.runs d.0 d.1 d.2 d.3 d.4 d.5 d.6

-- ---- after a minus, no numeral is 0
pub minus_some : (t : List ℕ) (m : ℕ) → loose t ≡ false → get_or t 0 0 ≡ 45 → 2 ≤ length t → Some m ≡ digits_within 2147483648 (drop 1 t) → Some (neg_ℤ (pos m)) ≡ number_of t
minus_some [] m s f l e = absurd (omega (arith, l))
minus_some (x ∷ []) m s f l e = absurd (omega (arith, l))
minus_some (x ∷ c ∷ cs) m s f l e = let g = read_on_ge (10 * 0 + (c - 48)) cs in grind (arith, nat_tests)
