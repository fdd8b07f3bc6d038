-- Rings without a cell in common.
use Rattle.std.proofs.Common.{◌≡◌, ℕ, ◌+◌, ◌-◌, ◌<◌, ◌≤◌, Bool, true, false, cond, ◌⊎◌, List, ◌++◌, length, take, drop, replicate, set, Ok, Err, Result, sym, refl, ap, ◌∙◌, inl, inr, arith, leb-true}
use borrow.Rule.Slice.PartMut.{put_mid}
use Rattle.std.specs.List.{between}
use Rattle.std.proofs.lemmas.List.{drop-drop, length-replicate, take-set-le, drop-set-lt}
use Rattle.std.proofs.lemmas.Nat.{mod_below}
use Rattle.std.proofs.lemmas.Slice.{between_is, take-put_mid_below, drop-put_mid}
use Rattle.rings.specs.declared.ring.RingError.{RingError}
use Rattle.rings.specs.declared.ring.RingError.TheVariants.{ShortBank}
use Rattle.rings.specs.Contents.{contents, cleared}
use Rattle.rings.specs.Layouts.{Layout, covers, held, next_cell}
use Rattle.rings.specs.Answers.{put_answer, stored, wiped}
use Rattle.rings.specs.Laws.{Apart, LeftAlone}

-- a write outside a part leaves the part
between_set_other : {X : Type 0} (b c : ℕ) (xs : List X) (i : ℕ) (e : X) → (i < b) ⊎ (b + c ≤ i)
    → between b (b + c) (set xs i e) ≡ between b (b + c) xs
between_set_other b c xs i e (inl l) = ap (take (b + c - b)) (drop-set-lt b xs i e l)
between_set_other b c xs i e (inr g) =
    between_is (set xs i e) b (b + c) ∙ ap (drop b) (take-set-le (b + c) xs i e g) ∙ sym (between_is xs b (b + c))

-- clearing a part that lies before or after another leaves the other
between_cleared : {X : Type 0} (b c a k : ℕ) (z : X) (bank : List X) → a + k ≤ length bank → (a + k ≤ b) ⊎ (b + c ≤ a)
    → between b (b + c) (cleared a k z bank) ≡ between b (b + c) bank
between_cleared b c a k z bank fits (inl h) =
    let n = length-replicate k z in
    ap (λ r. take (b + c - b) (drop b (take a bank ++ (replicate k z ++ r)))) (sym (drop-drop k a bank))
    ∙ ap (take (b + c - b)) (drop-put_mid a k bank (replicate k z) b h (omega arith) n)
between_cleared b c a k z bank fits (inr h) =
    ap (λ r. between b (b + c) (take a bank ++ (replicate k z ++ r))) (sym (drop-drop k a bank))
    ∙ between_is (put_mid a k bank (replicate k z)) b (b + c)
    ∙ ap (drop b) (take-put_mid_below a k bank (replicate k z) (b + c) h (omega arith))
    ∙ sym (between_is bank b (b + c))

alone_put : {X : Type 0} (r s : Layout) (bank : List X) (e : X) → Apart r s
    → (a : Result (Unit {0}) RingError) → put_answer r bank ≡ a → held s (stored a r e bank) ≡ held s bank
alone_put r s bank e apart (Err why) q = refl
alone_put r s bank e apart (Ok u) q =
    let p = mod_below (r.first + r.count) r.capacity (grind arith) in
    ap (λ part. contents part s.first s.count)
    (between_set_other s.base s.capacity bank (next_cell r) e (elim apart [ inl h ↦ inl (omega arith) | inr h ↦ inr (omega arith) ]))

alone_clear : {X : Type 0} (r s : Layout) (bank : List X) (e : X) → Apart r s
    → (b : Bool) → covers r bank ≡ b → held s (wiped (cond b (Ok tt) (Err ShortBank)) r e bank) ≡ held s bank
alone_clear r s bank e apart false q = refl
alone_clear r s bank e apart true q =
    ap (λ part. contents part s.first s.count)
    (between_cleared s.base s.capacity r.base r.capacity e bank (omega (arith, leb-true)) apart)

pub stays_apart : {X : Type 0} (r s : Layout) (bank : List X) (e : X) → Apart r s → LeftAlone r s bank e
stays_apart r s bank e apart = record {
  by_put = alone_put r s bank e apart (put_answer r bank) refl;
  by_clear = alone_clear r s bank e apart (covers r bank) refl;
}
