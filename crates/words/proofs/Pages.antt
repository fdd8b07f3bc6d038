-- One write after another.
use Rattle.std.proofs.Common.{◌≡◌, ◌+◌, ◌≤◌, true, Ok, Err, Result, subst, List, [], ◌++◌, ℕ, length, take, drop, sym, refl, ap, ◌∙◌, add-zero, arith}
use Rattle.std.proofs.lemmas.List.{append_assoc, append-nil, length-append, length-take-le, length-drop, drop-drop, take-append-drop, take_at, drop_at}
use Rattle.std.proofs.lemmas.Bool.{le-leb, leb-true, cond-true}
use Rattle.words.specs.declared.refusal.Refusal.{Refusal}
use Rattle.words.specs.declared.page.Page.{Page}
use Rattle.words.specs.Pages.{Wrote, Put, fits, Prints}

pub wrote_none : (p : Page) → Wrote p [] p
wrote_none p = record {
  len = sym (add-zero p.len);
  size = refl;
  front = sym (append-nil (take p.len p.out.now));
  rest = refl;
  same_reference = refl;
}

-- two writes in a row are one
pub wrote_then : (p : Page) (ys : List ℕ) (q : Page) (zs : List ℕ) (r : Page) → Wrote p ys q → Wrote q zs r → Wrote p (ys ++ zs) r
wrote_then p ys q zs r a b = record {
  len = omega (arith, a.len, b.len, length-append ys zs);
  size = b.size ∙ a.size;
  front = b.front ∙ ap (λ l. l ++ zs) a.front ∙ append_assoc (take p.len p.out.now) ys zs;
  rest = rest;
  same_reference = b.same_reference ∙ a.same_reference;
}
  where
    rest : drop r.len r.out.now ≡ drop r.len p.out.now
    rest = b.rest ∙ ap (λ n. drop n q.out.now) b.len ∙ sym (drop-drop (length zs) q.len q.out.now) ∙ ap (drop (length zs)) a.rest
        ∙ drop-drop (length zs) q.len p.out.now ∙ ap (λ n. drop n p.out.now) (sym b.len)

-- ---- after the bytes from `at` on were written
module _ (xs xs' ys : List ℕ) (at : ℕ) (room : at + length ys ≤ length xs) (before : take at xs' ≡ take at xs) (behind : drop at xs' ≡ ys ++ drop (at + length ys) xs) where
  size : length (take at xs ++ ys) ≡ at + length ys
  size = let le : at ≤ length xs = omega arith in simp (length-append, length-take-le)

  whole : xs' ≡ (take at xs ++ ys) ++ drop (at + length ys) xs
  whole = sym (take-append-drop at xs') ∙ ap (λ l. l ++ drop at xs') before ∙ ap (λ l. take at xs ++ l) behind ∙ sym (append_assoc (take at xs) ys (drop (at + length ys) xs))

  pub same_size : length xs' ≡ length xs
  same_size = let le : at ≤ length xs = omega arith in ap length whole ∙ simp (length-append, length-take-le, length-drop) (omega arith)

  pub front_is : take (at + length ys) xs' ≡ take at xs ++ ys
  front_is = ap (take (at + length ys)) whole ∙ take_at (take at xs ++ ys) (drop (at + length ys) xs) (at + length ys) size

  pub rest_is : drop (at + length ys) xs' ≡ drop (at + length ys) xs
  rest_is = ap (drop (at + length ys)) whole ∙ drop_at (take at xs ++ ys) (drop (at + length ys) xs) (at + length ys) size

-- ---- on a page that has room
pub prints : (p : Page) (ys : List ℕ) (q : Page) (r : Result (Unit {0}) Refusal) → Prints p ys q r → p.len + length ys ≤ length p.out.now → (r ≡ Ok tt) × Wrote p ys q
prints p ys q r h room =
    let f = le-leb (p.len + length ys) (length p.out.now) room in
    (h.answer f, h.after f)

pub prints_put : (p : Page) (ys : List ℕ) (q : Page) (r : Result (Unit {0}) Refusal) → Put p ys q r → Prints p ys q r
prints_put p ys q r h = record {
  answer = λ f. h.answer ∙ cond-true (fits p ys) _ _ f;
  after = λ f. let P : List ℕ → Type 0 = λ t. Wrote p t q in subst P (cond-true (fits p ys) ys [] f) h.after;
}

-- one text after another
pub prints_then : (p : Page) (ys : List ℕ) (q : Page) (r' : Result (Unit {0}) Refusal) (zs : List ℕ) (s : Page) (r : Result (Unit {0}) Refusal) → Prints p ys q r' → Prints q zs s r → Prints p (ys ++ zs) s r
prints_then p ys q r' zs s r a b = record { answer = λ f. (both f).0; after = λ f. (both f).1 }
  where
    both : fits p (ys ++ zs) ≡ true → (r ≡ Ok tt) × Wrote p (ys ++ zs) s
    both f =
        let room = leb-true (p.len + length (ys ++ zs)) (length p.out.now) f in
        let sum = length-append ys zs in
        let one = (prints p ys q r' a (omega arith)).1 in
        let two = prints q zs s r b (omega arith) in
        (two.0, wrote_then p ys q zs s one two.1)

pub clash : {r : Result (Unit {0}) Refusal} {e : Refusal} → r ≡ Ok tt → r ≡ Err e → ⊥
clash a b = let z : ◌≡◌ {A = ℕ} 0 1 = cc in omega arith
