-- The queues and the cases: each entry is a case of one who waits, and each such case has an entry.
use Rattle.std.proofs.Common.{◌≡◌, ℕ, zero, suc, ◌+◌, ◌-◌, ◌≤◌, Bool, true, false, cond, ◌||◌, eqb, List, [], ◌∷◌, ◌++◌, Some, None, Option, sym, refl, ap, ◌∙◌, subst, arith, inl, inr}
use Rattle.std.specs.List.{AllByRecursion, cons_option}
use Rattle.std.proofs.lemmas.Bool.{or_cases, or_right, eqb-true}
use Rattle.std.proofs.lemmas.Bool.Decides.{nat_tests}
use Rattle.waiting.specs.declared.wish.Wish.{Wish}
use Rattle.waiting.specs.declared.wish.Wish.TheVariants as wish
use Rattle.waiting.specs.declared.wish.Side.{Side}
use Rattle.waiting.specs.declared.wish.Side.TheVariants.{Receivers, Senders}
use Rattle.waiting.specs.declared.wish.Entry.{Entry}
use Rattle.waiting.specs.Queues.{Row, places, cases, queue, first, stands, waits}
use Rattle.routines.specs.declared.item.Item.{Item}
use Rattle.channels.specs.Settled.{some}
use Rattle.run_laws.specs.Settled.{case_in, meet, serve}
use Rattle.run_laws.proofs.Counts.{times, times-own, times_waits}
use Rattle.run_laws.proofs.Orderly.{all_append, all_first}

pub some-append : {A : Type 0} (xs ys : List A) → some (xs ++ ys) ≡ (some xs || some ys)
some-append [] ys = refl
some-append (x ∷ xs) ys = refl

pub some_first : {A : Type 0} (xs : List A) → some xs ≡ true → (x : A) × (first xs ≡ Some x)
some_first [] h = cc
some_first (x ∷ xs) h = (x, refl)

module _ (s : Side) (c : ℕ) where
  -- ---- an entry for each case
  places_have : (r k : ℕ) (ws : Row Item) (j : ℕ) (v : Wish Item) → case_in ws j ≡ Some v → stands s c v ≡ true → some (places s c r k ws) ≡ true
  places_have r k [] j v e t = cc
  places_have r k (None ∷ ws) zero v e t = cc
  places_have r k (Some w ∷ ws) zero v e t = let q : w ≡ v = cc in here (stands s c w) (ap (stands s c) q ∙ t)
    where
      here : (b : Bool) → b ≡ true → some (cons_option (cond b (Some (record { routine = r; case = k; wish = w })) None) (places s c r (k + 1) ws)) ≡ true
      here true e = refl
      here false e = cc
  places_have r k (None ∷ ws) (suc j) v e t = places_have r (k + 1) ws j v e t
  places_have r k (Some w ∷ ws) (suc j) v e t = later (stands s c w) (places_have r (k + 1) ws j v e t)
    where
      later : (b : Bool) → some (places s c r (k + 1) ws) ≡ true → some (cons_option (cond b (Some (record { routine = r; case = k; wish = w })) None) (places s c r (k + 1) ws)) ≡ true
      later true e = refl
      later false e = e

  pub queue_has : (line : List ℕ) (t : List (Row Item)) (r k : ℕ) (v : Wish Item) → waits r line ≡ true → case_in (cases r t) k ≡ Some v → stands s c v ≡ true
      → some (queue s c line t) ≡ true
  queue_has [] t r k v w e h = cc
  queue_has (q ∷ line) t r k v w e h =
      some-append (places s c q 0 (cases q t)) (queue s c line t) ∙ elim (or_cases (eqb r q) (waits r line) w) [
        | inl i ↦ let p : r ≡ q = eqb-true r q i in
            ap (λ b. b || some (queue s c line t)) (places_have q 0 (cases q t) k v (subst (λ i. case_in (cases i t) k ≡ Some v) p e) h)
        | inr i ↦ or_right (some (places s c q 0 (cases q t))) (some (queue s c line t)) (queue_has line t r k v i e h)
      ]

  -- ---- a case for each entry
  pub record Placed (t : List (Row Item)) (line : List ℕ) (e : Entry Item) : Type 0 where
    pub there : waits e.routine line ≡ true
    pub found : case_in (cases e.routine t) e.case ≡ Some e.wish
    pub side : stands s c e.wish ≡ true

  record From (r k : ℕ) (ws : Row Item) (e : Entry Item) : Type 0 where
    own : e.routine ≡ r
    low : k ≤ e.case
    found : case_in ws (e.case - k) ≡ Some e.wish
    side : stands s c e.wish ≡ true

  all_weaker : {A : Type 0} (P Q : A → Type 0) → ((x : A) → P x → Q x) → (xs : List A) → AllByRecursion P xs → AllByRecursion Q xs
  all_weaker P Q f [] h = tt
  all_weaker P Q f (x ∷ xs) h = (f x h.0, all_weaker P Q f xs h.1)

  from_later : (r k : ℕ) (w : Option (Wish Item)) (ws : Row Item) (e : Entry Item) → From r (k + 1) ws e → From r k (w ∷ ws) e
  from_later r k w ws e f =
      let l = f.low in
      let n : suc (e.case - (k + 1)) ≡ e.case - k = omega arith in
      record { own = f.own; low = omega arith; found = subst (λ i. case_in (w ∷ ws) i ≡ Some e.wish) n f.found; side = f.side }

  from_here : (r k : ℕ) (w : Wish Item) (ws : Row Item) → stands s c w ≡ true → From r k (Some w ∷ ws) (record { routine = r; case = k; wish = w })
  from_here r k w ws h =
      let n : 0 ≡ k - k = omega arith in
      record { own = refl; low = omega arith; found = subst (λ i. case_in (Some w ∷ ws) i ≡ Some w) n refl; side = h }

  places_from : (r k : ℕ) (ws : Row Item) → AllByRecursion (From r k ws) (places s c r k ws)
  places_from r k [] = tt
  places_from r k (None ∷ ws) = all_weaker (From r (k + 1) ws) (From r k (None ∷ ws)) (from_later r k None ws) (places s c r (k + 1) ws) (places_from r (k + 1) ws)
  places_from r k (Some w ∷ ws) =
      go (all_weaker (From r (k + 1) ws) (From r k (Some w ∷ ws)) (from_later r k (Some w) ws) (places s c r (k + 1) ws) (places_from r (k + 1) ws)) (stands s c w) refl
    where
      go : AllByRecursion (From r k (Some w ∷ ws)) (places s c r (k + 1) ws) → (b : Bool) → stands s c w ≡ b
          → AllByRecursion (From r k (Some w ∷ ws)) (cons_option (cond b (Some (record { routine = r; case = k; wish = w })) None) (places s c r (k + 1) ws))
      go ih true e = (from_here r k w ws e, ih)
      go ih false e = ih

  placed_one : (t : List (Row Item)) (line : List ℕ) (q : ℕ) → waits q line ≡ true → (e : Entry Item) → From q 0 (cases q t) e → Placed t line e
  placed_one t line q w e f =
      let n : e.case - 0 ≡ e.case = omega arith in
      let k : case_in (cases q t) e.case ≡ Some e.wish = subst (λ i. case_in (cases q t) i ≡ Some e.wish) n f.found in
      record {
        there = subst (λ r. waits r line ≡ true) (sym f.own) w;
        found = subst (λ r. case_in (cases r t) e.case ≡ Some e.wish) (sym f.own) k;
        side = f.side;
      }

  placed_all : (t : List (Row Item)) (whole line : List ℕ) → ((q : ℕ) → 1 ≤ times q line → waits q whole ≡ true) → AllByRecursion (Placed t whole) (queue s c line t)
  placed_all t whole [] h = tt
  placed_all t whole (q ∷ line) h =
      all_append (Placed t whole) (places s c q 0 (cases q t)) (queue s c line t)
      (all_weaker (From q 0 (cases q t)) (Placed t whole) (placed_one t whole q (h q (omega (arith, times-own q line)))) (places s c q 0 (cases q t)) (places_from q 0 (cases q t)))
      (placed_all t whole line (λ r l. h r (omega arith)))

  pub front_placed : (line : List ℕ) (t : List (Row Item)) (e : Entry Item) → first (queue s c line t) ≡ Some e → Placed t line e
  front_placed line t e h = all_first (Placed t line) (queue s c line t) e (placed_all t line line (λ q l. times_waits q line l)) h

-- ---- two cases that serve each other
pub meet-sym : (v w : Wish Item) → meet v w ≡ meet w v
meet-sym (wish.Send c e) (wish.Send d f) = refl
meet-sym (wish.Send c e) (wish.Receive d) = grind (arith, nat_tests)
meet-sym (wish.Receive c) (wish.Send d e) = grind (arith, nat_tests)
meet-sym (wish.Receive c) (wish.Receive d) = refl

pub serve-sym : (v w : Option (Wish Item)) → serve v w ≡ serve w v
serve-sym None None = refl
serve-sym None (Some w) = refl
serve-sym (Some v) None = refl
serve-sym (Some v) (Some w) = meet-sym v w

pub meets_receive : (c : ℕ) (e : Item) (w : Wish Item) → meet (wish.Send c e) w ≡ true → stands Receivers c w ≡ true
meets_receive c e (wish.Send d f) h = cc
meets_receive c e (wish.Receive d) h = grind (arith, nat_tests)

pub meets_send : (c : ℕ) (w : Wish Item) → meet (wish.Receive c) w ≡ true → stands Senders c w ≡ true
meets_send c (wish.Send d f) h = grind (arith, nat_tests)
meets_send c (wish.Receive d) h = cc
