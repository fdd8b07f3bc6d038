-- The fields of a line, and the room that they leave.
use Rattle.std.proofs.Common.{◌≡◌, ℕ, List, [], ◌∷◌, map, length, flat_map, Some, None, Option, Bor, ControlFlow, Continue, Break, sym, ap, subst, arith}
use Rattle.std.specs.ControlFlow.{continue_value}
use Rattle.std.specs.Fn.{Mut, Called}
use Rattle.std.specs.Iterator.{AlwaysYields, YieldsThen, TryFoldTurn, TryFoldsItems}
use Rattle.std.specs.List.{FoldsTo}
use Rattle.std.specs.Prelude.{MatchOption}
use Rattle.std.proofs.lemmas.Bool.Decides.{nat_tests}
use Rattle.std.proofs.lemmas.Iterator.{YieldsList}
use Rattle.std.proofs.lemmas.List.{length-append}
use Rattle.std.proofs.lemmas.List.Folds.{flat_map-map}
use Rattle.words.specs.declared.field.Field.{Field}
use Rattle.words.specs.Pages.{less}
use Rattle.words.specs.Shows.{show_field, show_fields, field_said}

-- the text of one field
abbrev pub field : Field → List ℕ
field f = show_field (field_said f)

pub fields_are : (fs : List Field) → show_fields (map field_said fs) ≡ flat_map field fs
fields_are fs = flat_map-map show_field field_said fs

-- ---- the room that is left, field by field: s gives the fields, and g takes each one's room
abbrev pub width : List Field → ℕ
width fs = length (show_fields (map field_said fs))

module _ {S F : Type 0} (E : Type 0) (steps : S → Option (Bor Field) → S → Type 0) (g : Mut F (ℕ × (Bor Field × Unit {0})) (Option ℕ))
    (takes : (f : F) (n : ℕ) (x : Bor Field) (r : Option ℕ) (q : F) → Called g f (n, (x, tt)) r q → r ≡ less n (length (show_field (field_said x.now)))) where
  abbrev Goes : Option ℕ → ControlFlow E ℕ → Type 0
  Goes r c = r ≡ continue_value c

  whole : (fs : List Field) (s : S) (f : F) (n : ℕ) (r : Option ℕ) (u : S) → AlwaysYields steps (λ y. y.now) s fs
      → (xs : List (Bor Field)) (o : Option (Bor Field)) (j : F) (a : ℕ) → YieldsThen steps s xs o u → FoldsTo {P = F × ℕ} (TryFoldTurn g Goes) (f, n) xs (j, a)
      → MatchOption o (Goes r (Continue a)) (λ x. (v : Option ℕ) × (h : F) × (e : E) × Called g j (a, (x, tt)) v h × Goes v (Break e) × (r ≡ None))
      → r ≡ less n (width fs)
  whole [] s f n r u e [] None j a y c h = let b : n ≡ a = ap (λ (p : F × ℕ). p.1) c in grind (arith, nat_tests)
  whole [] s f n r u e [] (Some x) j a y c h = absurd (e x u (subst (λ t. steps t (Some x) u) (sym y.1) y.2))
  whole [] s f n r u e (x ∷ xs) o j a y c h = absurd (e x y.1.0 y.1.1)
  whole (z ∷ zs) s f n r u e [] None j a y c h = absurd (e.0 u (subst (λ t. steps t None u) (sym y.1) y.2))
  whole (z ∷ zs) s f n r u e [] (Some x) j a y c h =
      let b : n ≡ a = ap (λ (p : F × ℕ). p.1) c in
      let same = (e.1 x u (subst (λ t. steps t (Some x) u) (sym y.1) y.2)).0 in
      let t = takes j a x h.0 h.1 h.3 in
      let none : less n (length (show_field (field_said z))) ≡ None = rw (sym same, b, sym t) h.4 in
      let l = length-append (show_field (field_said z)) (show_fields (map field_said zs)) in
      grind (arith, nat_tests)
  whole (z ∷ zs) s f n r u e (x ∷ xs) o j a y c h =
      let m = e.1 x y.1.0 y.1.1 in
      let t = takes f n x c.1.0 c.0.0 c.1.1 in
      let some : less n (length (show_field (field_said z))) ≡ Some c.0.1 = rw (sym m.0, sym t) c.1.2 in
      let rest = whole zs y.1.0 c.0.0 c.0.1 r u m.1 xs o j a (y.0, y.1.2, y.2) c.2 h in
      let l = length-append (show_field (field_said z)) (show_fields (map field_said zs)) in
      grind (arith, nat_tests)

  pub room_left : (fs : List Field) (s : S) (f : F) (n : ℕ) (r : Option ℕ) (u : S) → YieldsList steps (λ y. y.now) s fs
      → TryFoldsItems steps g Goes (λ _ r. r ≡ None) s f n r u → r ≡ less n (width fs)
  room_left fs s f n r u e d = whole fs s f n r u e.runs d.0 d.1 d.2 d.3 d.4 d.5 d.6
