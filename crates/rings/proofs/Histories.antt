-- Puts and takes, one after another on one bank, keep a ring in order.
use Rattle.std.proofs.Common.{◌≡◌, ℕ, suc, ◌+◌, ◌%◌, List, [], ◌∷◌, ◌++◌, length, set, Ok, Err, Result, sym, refl, ap, ◌∙◌, subst, arith}
use Rattle.std.specs.List.{between}
use Rattle.std.proofs.lemmas.List.{length_push, append_assoc}
use Rattle.rings.specs.declared.ring.RingError.{RingError}
use Rattle.rings.specs.Layouts.{fresh, held, one_less}
use Rattle.rings.specs.Answers.{put_answer, take_answer}
use Rattle.rings.specs.Laws.{Operation, putting, taking, History, begun, did_put, did_take, step, after, placed, Ordered}
use Rattle.rings.proofs.Holding.{contents_none, held_put, held_take, held_most}
use Rattle.rings.proofs.Turns.{Turned, turned_fresh, turned_put, turned_take, next_is, can_put, can_take}

-- one element more is placed
placed_push : {X : Type 0} (base capacity n : ℕ) (es : List X) (e : X) (bank : List X)
    → placed base capacity n (es ++ (e ∷ [])) bank ≡ set (placed base capacity n es bank) (base + (n + length es) % capacity) e
placed_push base capacity n [] e bank = ap (λ k. set bank (base + k % capacity) e) (let z : n ≡ n + 0 = omega arith in z)
placed_push base capacity n (x ∷ es) e bank =
    placed_push base capacity (n + 1) es e (set bank (base + n % capacity) x)
    ∙ ap (λ k. set (placed base capacity (n + 1) es (set bank (base + n % capacity) x)) (base + k % capacity) e)
    (let z : n + 1 + length es ≡ n + suc (length es) = omega arith in z)

-- what each operation keeps
record Kept {X : Type 0} (base capacity : ℕ) (bank : List X) (h : History X) : Type 0 where
  turns : Turned base capacity (length h.accepted) (length h.taken) h.ring
  order : h.accepted ≡ h.taken ++ held h.ring h.bank
  places : h.bank ≡ placed base capacity 0 h.accepted bank

kept_put : {X : Type 0} (base capacity : ℕ) (bank : List X) (h : History X) (e : X) → Kept base capacity bank h
    → (r : Result (Unit {0}) RingError) → put_answer h.ring h.bank ≡ r → Kept base capacity bank (did_put h e r)
kept_put base capacity bank h e k (Err why) q = record { turns = k.turns; order = k.order; places = k.places }
kept_put base capacity bank h e k (Ok u) q =
    let l = h.ring in
    let can = can_put l h.bank u k.turns.starts k.turns.below q in
    record {
      turns = subst (λ n. Turned base capacity n (length h.taken) (did_put h e (Ok u)).ring) (sym (length_push h.accepted e)) (turned_put l k.turns can.room);
      order = rw (held_put l h.bank e can.fits k.turns.starts can.room, ← append_assoc) (ap (λ xs. xs ++ (e ∷ [])) k.order);
      places = grind (arith, next_is l k.turns, k.places, placed_push base capacity 0 h.accepted e bank);
    }

kept_take : {X : Type 0} (base capacity : ℕ) (bank : List X) (h : History X) → Kept base capacity bank h
    → (r : Result X RingError) → take_answer h.ring h.bank ≡ r → Kept base capacity bank (did_take h r)
kept_take base capacity bank h k (Err why) q = k
kept_take base capacity bank h k (Ok e) q =
    let l = h.ring in
    let can = can_take l h.bank e q in
    record {
      turns = subst (λ n. Turned base capacity (length h.accepted) n (one_less l)) (sym (length_push h.taken e)) (turned_take l k.turns can.some);
      order = grind (arith, k.order, can.oldest, held_take l h.bank e can.fits k.turns.starts can.some k.turns.below, append_assoc);
      places = k.places;
    }

kept_step : {X : Type 0} (base capacity : ℕ) (bank : List X) (h : History X) (o : Operation X) → Kept base capacity bank h
    → Kept base capacity bank (step h o)
kept_step base capacity bank h (putting e) k = kept_put base capacity bank h e k (put_answer h.ring h.bank) refl
kept_step base capacity bank h taking k = kept_take base capacity bank h k (take_answer h.ring h.bank) refl

kept_after : {X : Type 0} (base capacity : ℕ) (bank : List X) (h : History X) (os : List (Operation X)) → Kept base capacity bank h
    → Kept base capacity bank (after h os)
kept_after base capacity bank h [] k = k
kept_after base capacity bank h (o ∷ os) k = kept_after base capacity bank (step h o) os (kept_step base capacity bank h o k)

kept_begun : {X : Type 0} (base capacity : ℕ) (bank : List X) → Kept base capacity bank (begun (fresh base capacity) bank)
kept_begun base capacity bank = record {
  turns = turned_fresh base capacity;
  order = sym (contents_none (between base (base + capacity) bank) 0 0 refl);
  places = refl;
}

pub keeps_order : {X : Type 0} (base capacity : ℕ) (bank : List X) (os : List (Operation X))
    → Ordered base capacity bank (after (begun (fresh base capacity) bank) os)
keeps_order base capacity bank os =
    let h = after (begun (fresh base capacity) bank) os in
    let k = kept_after base capacity bank (begun (fresh base capacity) bank) os (kept_begun base capacity bank) in
    let m = held_most h.ring h.bank in
    record { order = k.order; places = k.places; most = omega (arith, k.turns.below, k.turns.size) }
