-- Names that stand once.
use Rattle.std.proofs.Common.{◌≡◌, ℕ, ◌≤◌, Bool, true, false, cond, ltb, List, [], ◌∷◌, ◌++◌, length, is_some, Some, None, Option, sym, refl, ◌∙◌, subst, arith}
use Rattle.std.specs.Option.{option_to_list}
use Rattle.std.specs.List.{position_or_len, AllByRecursion}
use Rattle.std.specs.Str.{bytes_eq}
use Rattle.std.proofs.ByRecursion.{All-push}
use Rattle.std.proofs.lemmas.Slice.Eq.{bytes_eq-Decides}
use Rattle.std.proofs.lemmas.List.{append-nil}
use Rattle.std.proofs.lemmas.Bool.{both_ways, ltb-false, le-ltb}
use Rattle.script.specs.Rules.{place, known}
use Rattle.script_laws.specs.Lawful.{Distinct}

-- x stands nowhere in xs
abbrev pub Absent : List ℕ → List (List ℕ) → Type 0
Absent x xs = AllByRecursion (λ y. y ≡ x → ⊥) xs

-- how many names stand before x
abbrev before : List ℕ → List (List ℕ) → ℕ
before x xs = position_or_len (λ y. bytes_eq y x) xs

some_placed : (x : List ℕ) (xs : List (List ℕ)) → is_some (place x xs) ≡ ltb (before x xs) (length xs)
some_placed x xs = by (ltb (before x xs) (length xs))
  where
    by : (b : Bool) → is_some (cond b (Some (before x xs)) None) ≡ b
    by true = refl
    by false = refl

all_before : (x : List ℕ) (xs : List (List ℕ)) → length xs ≤ before x xs → Absent x xs
all_before x [] h = tt
all_before x (y ∷ ys) h = go (bytes_eq y x) refl (all_before x ys)
  where
    go : (b : Bool) → bytes_eq y x ≡ b → (length ys ≤ before x ys → Absent x ys) → Absent x (y ∷ ys)
    go true t more = absurd (omega (arith, rw t at h))
    go false t more = (λ same. both_ways (bytes_eq y x) t ((bytes_eq-Decides y x).1 same), more (omega (arith, rw t at h)))

absent_all : (x : List ℕ) (xs : List (List ℕ)) → Absent x xs → length xs ≤ before x xs
absent_all x [] a = omega arith
absent_all x (y ∷ ys) a = go (bytes_eq y x) refl (absent_all x ys a.1)
  where
    go : (b : Bool) → bytes_eq y x ≡ b → length ys ≤ before x ys → length (y ∷ ys) ≤ before x (y ∷ ys)
    go true t more = absurd (a.0 ((bytes_eq-Decides y x).0 t))
    go false t more = rw t (omega arith)

absent : (x : List ℕ) (xs : List (List ℕ)) → is_some (place x xs) ≡ false → Absent x xs
absent x xs e = all_before x xs (ltb-false _ _ (sym (some_placed x xs) ∙ e))

unplaced : (x : List ℕ) (xs : List (List ℕ)) → Absent x xs → is_some (place x xs) ≡ false
unplaced x xs a = some_placed x xs ∙ le-ltb _ _ (absent_all x xs a)

-- ---- one name more
distinct_push : (xs : List (List ℕ)) (x : List ℕ) → Absent x xs → Distinct xs → Distinct (xs ++ (x ∷ []))
distinct_push [] x a d = (tt, tt)
distinct_push (y ∷ ys) x a d = (All-push (λ z. y ≡ z → ⊥) ys x d.0 a.0, distinct_push ys x a.1 d.1)

all_at : {X : Type 0} (P : X → Type 0) (xs : List X) (x : X) (ys : List X) → AllByRecursion P (xs ++ (x ∷ ys)) → P x
all_at P [] x ys h = h.0
all_at P (y ∷ xs) x ys h = all_at P xs x ys h.1

distinct_at : (xs : List (List ℕ)) (x : List ℕ) (ys : List (List ℕ)) → Distinct (xs ++ (x ∷ ys)) → Absent x xs
distinct_at [] x ys d = tt
distinct_at (y ∷ xs) x ys d = (all_at (λ z. y ≡ z → ⊥) xs x ys d.0, distinct_at xs x ys d.1)

pub new_distinct : (o : Option (List ℕ)) (xs : List (List ℕ)) → known o xs ≡ false → Distinct xs → Distinct (xs ++ option_to_list o)
new_distinct None xs e d = subst Distinct (sym (append-nil xs)) d
new_distinct (Some x) xs e d = distinct_push xs x (absent x xs e) d

pub distinct_new : (o : Option (List ℕ)) (xs ys : List (List ℕ)) → Distinct (xs ++ (option_to_list o ++ ys)) → known o xs ≡ false
distinct_new None xs ys d = refl
distinct_new (Some x) xs ys d = unplaced x xs (distinct_at xs x ys d)
