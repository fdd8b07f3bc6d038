-- Lists of routines by how often each stands in them: nobody stands in two places.
use Rattle.std.proofs.Common.{◌≡◌, ℕ, ◌+◌, ◌<◌, ◌≤◌, Bool, true, false, cond, eqb, ltb, List, [], ◌∷◌, ◌++◌, length, sym, refl, ap, subst, arith, length-append}
use Rattle.std.specs.List.{AllByRecursion, IsDistinct}
use Rattle.std.proofs.lemmas.Bool.{eqb-true, eq-eqb}
use Rattle.std.proofs.lemmas.Bool.Decides.{nat_tests}
use Rattle.std.proofs.lemmas.List.Elements.{All-from_recursion, recursion_from_All}
use Rattle.waiting.specs.Queues.{waits, without}
use Rattle.waiting.proofs.Lines.{crowd}
use Rattle.runs.specs.Orderly.{Orderly}

-- how often r stands in a list
abbrev pub times : ℕ → List ℕ → ℕ
times r [] = 0
times r (x ∷ xs) = cond (eqb r x) 1 0 + times r xs

pub times-append : (r : ℕ) (xs ys : List ℕ) → times r (xs ++ ys) ≡ times r xs + times r ys
times-append r [] ys = omega arith
times-append r (x ∷ xs) ys = omega (arith, times-append r xs ys)

pub times-without : (r w : ℕ) (xs : List ℕ) → times r (without w xs) ≡ cond (eqb r w) 0 (times r xs)
times-without r w [] = grind (arith, nat_tests)
times-without r w (x ∷ xs) = grind (arith, nat_tests, times-without r w xs)

pub times-own : (r : ℕ) (xs : List ℕ) → times r (r ∷ xs) ≡ 1 + times r xs
times-own r xs = ap (λ b. cond b 1 0 + times r xs) (eq-eqb r r refl)

pub times-other : (r q : ℕ) (xs : List ℕ) → times r (q ∷ xs) ≤ 1 + times r xs
times-other r q xs = grind (arith, nat_tests)

pub waits_times : (r : ℕ) (xs : List ℕ) → waits r xs ≡ true → 1 ≤ times r xs
waits_times r [] h = grind arith
waits_times r (x ∷ xs) h = grind (arith, nat_tests, waits_times r xs)

pub times_waits : (r : ℕ) (xs : List ℕ) → 1 ≤ times r xs → waits r xs ≡ true
times_waits r [] h = absurd (omega arith)
times_waits r (x ∷ xs) h = grind (arith, nat_tests, times_waits r xs)

pub times_length : (r : ℕ) (xs : List ℕ) → times r xs ≤ length xs
times_length r [] = omega arith
times_length r (x ∷ xs) = grind (arith, nat_tests, times_length r xs)

-- ---- nobody twice
apart : (x : ℕ) (xs : List ℕ) → AllByRecursion (λ y. eqb x y ≡ false) xs → times x xs ≡ 0
apart x [] h = refl
apart x (y ∷ xs) h = rw h.0 (omega (arith, apart x xs h.1))

apart_back : (x : ℕ) (xs : List ℕ) → times x xs ≡ 0 → AllByRecursion (λ y. eqb x y ≡ false) xs
apart_back x [] h = tt
apart_back x (y ∷ xs) h = (grind (arith, nat_tests), apart_back x xs (grind (arith, nat_tests)))

single : (xs : List ℕ) → IsDistinct eqb xs → (r : ℕ) → times r xs ≤ 1
unfolding IsDistinct
single [] h r = omega arith
single (x ∷ xs) h r = go (single xs h.1 r) (eqb r x) refl
  where
    go : times r xs ≤ 1 → (b : Bool) → eqb r x ≡ b → cond b 1 0 + times r xs ≤ 1
    go ih false e = omega arith
    go ih true e = let z : times r xs ≡ 0 = subst (λ q. times q xs ≡ 0) (sym (eqb-true r x e)) (apart x xs h.0) in omega arith

single_back : (xs : List ℕ) → ((r : ℕ) → times r xs ≤ 1) → IsDistinct eqb xs
unfolding IsDistinct
single_back [] h = tt
single_back (x ∷ xs) h = (
  apart_back x xs (omega (arith, h x, times-own x xs)),
  single_back xs (λ r. grind (arith, nat_tests, h r)),
)

-- ---- all below n
below : (n : ℕ) (xs : List ℕ) → AllByRecursion (λ r. r < n) xs → (r : ℕ) → n ≤ r → times r xs ≡ 0
below n [] h r l = refl
below n (x ∷ xs) h r l = let b : x < n = h.0 in grind (arith, nat_tests, below n xs h.1 r l)

below_back : (n : ℕ) (xs : List ℕ) → ((r : ℕ) → n ≤ r → times r xs ≡ 0) → AllByRecursion (λ r. r < n) xs
below_back n [] h = tt
below_back n (x ∷ xs) h = (
  grind (arith, nat_tests, h x, times-own x xs),
  below_back n xs (λ r l. grind (arith, nat_tests, h r l)),
)

-- ---- nobody twice, and all below n, in both lists together
abbrev pub Counted : ℕ → List ℕ → List ℕ → Type 0
Counted n turns line = (r : ℕ) → times r turns + times r line ≤ cond (ltb r n) 1 0

pub counted : (n : ℕ) (turns line : List ℕ) → Orderly n turns line → Counted n turns line
counted n turns line o r =
    let s = single (turns ++ line) o.once r in
    let b = below n (turns ++ line) (recursion_from_All (λ r. r < n) (turns ++ line) o.there) r in
    grind (arith, nat_tests, s, b, times-append r turns line)

pub orderly : (n : ℕ) (turns line : List ℕ) → n ≤ 64 → Counted n turns line → Orderly n turns line
orderly n turns line few c =
    let once = single_back (turns ++ line) (λ r. grind (arith, nat_tests, c r, times-append r turns line)) in
    let there = All-from_recursion (λ r. r < n) (turns ++ line) (below_back n (turns ++ line) (λ r l. grind (arith, nat_tests, c r, times-append r turns line))) in
    record {
      few = few;
      count = omega (arith, crowd n (turns ++ line) (there, once), length-append turns line);
      there = there;
      once = once;
    }
