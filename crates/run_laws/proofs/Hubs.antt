-- The channels and those who wait: nobody waits who can go, whatever a step does there.
use Rattle.std.proofs.Common.{◌≡◌, ℕ, ◌<◌, ◌≤◌, Bool, true, false, ◌||◌, eqb, ltb, List, [], ◌∷◌, ◌++◌, length, Some, None, Option, sym, refl, ap, ◌∙◌, subst, arith, inl, inr, length-append}
use Rattle.std.specs.Prelude.{◌⊎◌, slice_set}
use Rattle.std.proofs.lemmas.List.{get_or-set_same, get_or-set_other, set_past}
use Rattle.std.proofs.lemmas.List.Folds.{list_any-append}
use Rattle.std.proofs.lemmas.Bool.{or_parts, or_from, or_cases, cases_eq, cases_lt, eq-eqb, ltb-true, le-ltb, ltb-false, false_from_ne_true, both_ways}
use Rattle.std.proofs.lemmas.Bool.Decides.{nat_tests}
use Rattle.waiting.specs.declared.wish.Wish.{Wish}
use Rattle.waiting.specs.declared.wish.Wish.TheVariants as wish
use Rattle.waiting.specs.declared.wish.Side.{Side}
use Rattle.waiting.specs.declared.wish.Side.TheVariants.{Receivers, Senders}
use Rattle.waiting.specs.declared.wish.Entry.{Entry}
use Rattle.waiting.specs.Queues.{Row, queue, stands, waits, without}
use Rattle.channels.specs.Closes.{freed, without_all}
use Rattle.channels.proofs.Settled.{closing_frees_all}
use Rattle.routines.specs.declared.item.Item.{Item}
use Rattle.routines.specs.Items.{as_kind}
use Rattle.runs.specs.Runs.{Channel, Hub, no_channel, channel, queued, joins}
use Rattle.runs.specs.Cases.{can_go}
use Rattle.channels.specs.Settled.{some}
use Rattle.runs.specs.Taking.{Deal, take, send_on, receive_on, offered, leaving, closed_at}
use Rattle.run_laws.specs.Settled.{case_in, case_at, lets, channel_in, goes_alone, meet, serve, SettledHub}
use Rattle.run_laws.proofs.Counts.{times-without, waits_times, times_waits}
use Rattle.run_laws.proofs.Orderly.{freed_counts}
use Rattle.run_laws.proofs.Queues.{queue_has, serve-sym, meets_receive, meets_send}

-- ---- lists
-- one channel changed: the others are as they were, and so is a channel that is not there
pub set_cases : (cs : List Channel) (c : ℕ) (x : Channel) (d : ℕ)
    → (channel_in (slice_set cs c x) d ≡ channel_in cs d) ⊎ ((d ≡ c) × (channel_in (slice_set cs c x) d ≡ x))
set_cases cs c x d = elim (cases_eq d c) [
  | inr n ↦ inl (get_or-set_other cs c d x no_channel n)
  | inl e ↦ elim (cases_lt c (length cs)) [
    | inl l ↦ inr (e, subst (λ i. channel_in (slice_set cs c x) i ≡ x) (sym e) (get_or-set_same cs c x no_channel l))
    | inr g ↦ inl (ap (λ l. channel_in l d) (set_past cs c x g))
  ]
]

pub waits_less : (r w : ℕ) (line : List ℕ) → waits r (without w line) ≡ true → waits r line ≡ true
waits_less r w line h =
    let a = waits_times r (without w line) h in
    times_waits r line (grind (arith, nat_tests, a, times-without r w line))

pub waits_push : (q r : ℕ) (line : List ℕ) → waits q (line ++ r ∷ []) ≡ true → (q ≡ r) ⊎ (waits q line ≡ true)
waits_push q r line h = elim (or_cases (waits q line) (waits q (r ∷ [])) (sym (list_any-append (eqb q) line (r ∷ [])) ∙ h)) [
  | inl a ↦ inr a
  | inr b ↦ inl (grind (arith, nat_tests))
]

some_none : {A : Type 0} (xs : List A) → xs ≡ [] → some xs ≡ true → ⊥
some_none [] e h = cc
some_none (x ∷ xs) e h = cc

-- ---- who waits less, at channels that let no more go
module _ (h : Hub) (s : SettledHub h) where
  pub keeps : (cs : List Channel) (line : List ℕ) → ((r : ℕ) → waits r line ≡ true → waits r h.line ≡ true)
      → ((c : ℕ) → length (channel_in cs c).buffer ≤ (channel_in cs c).capacity)
      → ((r k : ℕ) (w : Wish Item) → waits r line ≡ true → case_at h r k ≡ Some w → goes_alone h.channels (Some w) ≡ false → goes_alone cs (Some w) ≡ false)
      → SettledHub (record { channels = cs; line = line; wishes = h.wishes })
  keeps cs line fewer few stays = record {
    few = few;
    stuck = λ r k w. still r k w (case_at h r k) refl (s.stuck r k (fewer r w));
    apart = λ r q j k v w n. s.apart r q j k (fewer r v) (fewer q w) n;
  }
    where
      still : (r k : ℕ) → waits r line ≡ true → (o : Option (Wish Item)) → case_at h r k ≡ o → goes_alone h.channels o ≡ false → goes_alone cs o ≡ false
      still r k w None e g = refl
      still r k w (Some v) e g = stays r k v w e g

  -- a routine leaves
  pub leaving_keeps : (w : ℕ) → SettledHub (record h { line = without w h.line })
  leaving_keeps w = keeps h.channels (without w h.line) (λ r l. waits_less r w h.line l) s.few (λ r k v l e g. g)

  -- what a waiting case says of its channel
  pub receiver_stuck : (r k c : ℕ) → waits r h.line ≡ true → case_at h r k ≡ Some (wish.Receive c) → ((channel h c).closed ≡ false) × (some (channel h c).buffer ≡ false)
  receiver_stuck r k c w e = or_parts (channel h c).closed (some (channel h c).buffer) (subst (λ o. goes_alone h.channels o ≡ false) e (s.stuck r k w))

  pub sender_stuck : (r k c : ℕ) (e : Item) → waits r h.line ≡ true → case_at h r k ≡ Some (wish.Send c e)
      → ((channel h c).closed ≡ false) × (ltb (length (channel h c).buffer) (channel h c).capacity ≡ false)
  sender_stuck r k c e w q = or_parts (channel h c).closed (ltb (length (channel h c).buffer) (channel h c).capacity) (subst (λ o. goes_alone h.channels o ≡ false) q (s.stuck r k w))

  -- a buffer is changed where nobody waits to receive, and where senders stay without room
  pub buffer_keeps : (c : ℕ) (b : List Item) (line : List ℕ) → ((r : ℕ) → waits r line ≡ true → waits r h.line ≡ true)
      → length b ≤ (channel h c).capacity
      → ((r k : ℕ) → waits r line ≡ true → case_at h r k ≡ Some (wish.Receive c) → ⊥)
      → ((r k : ℕ) (e : Item) → waits r line ≡ true → case_at h r k ≡ Some (wish.Send c e) → ltb (length b) (channel h c).capacity ≡ false)
      → SettledHub (record { channels = slice_set h.channels c (record (channel h c) { buffer = b }); line = line; wishes = h.wishes })
  buffer_keeps c b line fewer fits receivers senders = keeps (slice_set h.channels c (record (channel h c) { buffer = b })) line fewer few stays
    where
      few : (d : ℕ) → length (channel_in (slice_set h.channels c (record (channel h c) { buffer = b })) d).buffer ≤ (channel_in (slice_set h.channels c (record (channel h c) { buffer = b })) d).capacity
      few d = elim (set_cases h.channels c (record (channel h c) { buffer = b }) d) [
        | inl e ↦ subst (λ (y : Channel). length y.buffer ≤ y.capacity) (sym e) (s.few d)
        | inr e ↦ subst (λ (y : Channel). length y.buffer ≤ y.capacity) (sym e.1) fits
      ]

      stays : (r k : ℕ) (w : Wish Item) → waits r line ≡ true → case_at h r k ≡ Some w → goes_alone h.channels (Some w) ≡ false
          → goes_alone (slice_set h.channels c (record (channel h c) { buffer = b })) (Some w) ≡ false
      stays r k (wish.Receive d) l e g = elim (set_cases h.channels c (record (channel h c) { buffer = b }) d) [
        | inl p ↦ subst (λ y. lets y (wish.Receive d) ≡ false) (sym p) g
        | inr p ↦ absurd (receivers r k l (subst (λ i. case_at h r k ≡ Some (wish.Receive i)) p.0 e))
      ]
      stays r k (wish.Send d f) l e g = elim (set_cases h.channels c (record (channel h c) { buffer = b }) d) [
        | inl p ↦ subst (λ y. lets y (wish.Send d f) ≡ false) (sym p) g
        | inr p ↦ let e' : case_at h r k ≡ Some (wish.Send c f) = subst (λ i. case_at h r k ≡ Some (wish.Send i f)) p.0 e in
            subst (λ y. lets y (wish.Send d f) ≡ false) (sym p.1)
            (or_from (channel h c).closed (ltb (length b) (channel h c).capacity) (sender_stuck r k c f (fewer r l) e').0 (senders r k f l e'))
      ]

  -- ---- nobody in a queue
  no_receiver : (c : ℕ) → queued h Receivers c ≡ [] → (r k : ℕ) → waits r h.line ≡ true → case_at h r k ≡ Some (wish.Receive c) → ⊥
  no_receiver c n r k w e = some_none (queued h Receivers c) n (queue_has Receivers c h.line h.wishes r k (wish.Receive c) w e (eq-eqb c c refl))

  no_sender : (c : ℕ) → queued h Senders c ≡ [] → (r k : ℕ) (f : Item) → waits r h.line ≡ true → case_at h r k ≡ Some (wish.Send c f) → ⊥
  no_sender c n r k f w e = some_none (queued h Senders c) n (queue_has Senders c h.line h.wishes r k (wish.Send c f) w e (eq-eqb c c refl))

  -- ---- taking a send
  pub room_for : (c : ℕ) (e : Item) → can_go h (Some (wish.Send c e)) ≡ true → (channel h c).closed ≡ false → queued h Receivers c ≡ []
      → ltb (length (channel h c).buffer) (channel h c).capacity ≡ true
  room_for c e g cl n = elim (or_cases (channel h c).closed (ltb (length (channel h c).buffer) (channel h c).capacity || some (queued h Receivers c)) g) [
    | inl a ↦ absurd (both_ways (channel h c).closed cl a)
    | inr a ↦ elim (or_cases (ltb (length (channel h c).buffer) (channel h c).capacity) (some (queued h Receivers c)) a) [
      | inl b ↦ b
      | inr b ↦ absurd (some_none (queued h Receivers c) n b)
    ]
  ]

  send_keeps : (c : ℕ) (e e' : Item) → can_go h (Some (wish.Send c e)) ≡ true → (closed : Bool) → (channel h c).closed ≡ closed → (ws : List (Entry Item)) → queued h Receivers c ≡ ws
      → let d : Deal = send_on h c e' closed ws in SettledHub d.hub
  send_keeps c e e' g true cl ws n = s
  send_keeps c e e' g false cl (w ∷ ws) n = leaving_keeps w.routine
  send_keeps c e e' g false cl [] n =
      let room = ltb-true (length (channel h c).buffer) (channel h c).capacity (room_for c e g cl n) in
      buffer_keeps c ((channel h c).buffer ++ (e' ∷ [])) h.line (λ r l. l)
      (omega (arith, length-append (channel h c).buffer (e' ∷ [])))
      (no_receiver c n)
      (λ r k f w q. absurd (both_ways (ltb (length (channel h c).buffer) (channel h c).capacity) (sender_stuck r k c f w q).1 (room_for c e g cl n)))

  -- ---- taking a receive
  no_hungry : (c : ℕ) (e : Item) (es : List Item) → (channel h c).buffer ≡ e ∷ es → (r k : ℕ) → waits r h.line ≡ true → case_at h r k ≡ Some (wish.Receive c) → ⊥
  no_hungry c e es b r k w q = both_ways (some (channel h c).buffer) (receiver_stuck r k c w q).1 (ap some b)

  receive_keeps : (c : ℕ) (es : List Item) → (channel h c).buffer ≡ es → (ws : List (Entry Item)) → queued h Senders c ≡ ws
      → let d : Deal = receive_on h c es ws in SettledHub d.hub
  receive_keeps c [] b [] n = s
  receive_keeps c [] b (w ∷ ws) n = leaving_keeps w.routine
  receive_keeps c (e ∷ es) b [] n =
      buffer_keeps c es h.line (λ r l. l) (omega (arith, s.few c, ap length b)) (no_hungry c e es b) (λ r k f w q. absurd (no_sender c n r k f w q))
  receive_keeps c (e ∷ es) b (w ∷ ws) n =
      let same = length-append es (offered h c w ∷ []) in
      buffer_keeps c (es ++ (offered h c w ∷ [])) (without w.routine h.line) (λ r l. waits_less r w.routine h.line l)
      (omega (arith, s.few c, ap length b, same))
      (λ r k l q. no_hungry c e es b r k (waits_less r w.routine h.line l) q)
      (λ r k f l q. le-ltb (length (es ++ (offered h c w ∷ []))) (channel h c).capacity
      (omega (arith, ap length b, same, ltb-false (length (channel h c).buffer) (channel h c).capacity (sender_stuck r k c f (waits_less r w.routine h.line l) q).1)))

  pub take_keeps : (w : Option (Wish Item)) → can_go h w ≡ true → SettledHub (take h w).hub
  take_keeps None g = s
  take_keeps (Some (wish.Send c e)) g = send_keeps c e (as_kind (channel h c).kind e) g (channel h c).closed refl (queued h Receivers c) refl
  take_keeps (Some (wish.Receive c)) g = receive_keeps c (channel h c).buffer refl (queued h Senders c) refl

  -- ---- a close: nobody who waits there stays
  closed_less : (c r : ℕ) → waits r (without_all (leaving h c) h.line) ≡ true → waits r h.line ≡ true
  closed_less c r w =
      times_waits r h.line
      (omega (arith, waits_times r (without_all (leaving h c) h.line) w, freed_counts c h.wishes (freed c h.line h.wishes) h.line refl r))

  gone : (side : Side) (c r k : ℕ) (v : Wish Item) → waits r (without_all (leaving h c) h.line) ≡ true → case_at h r k ≡ Some v → stands side c v ≡ true → ⊥
  gone side c r k v w e t =
      some_none (queue side c (without_all (leaving h c) h.line) h.wishes) (closing_frees_all side c h.line h.wishes)
      (queue_has side c (without_all (leaving h c) h.line) h.wishes r k v w e t)

  pub close_keeps : (c : ℕ) → SettledHub (closed_at h c)
  close_keeps c = keeps (slice_set h.channels c (record (channel h c) { closed = true })) (without_all (leaving h c) h.line) (closed_less c) few stays
    where
      few : (d : ℕ) → length (channel_in (slice_set h.channels c (record (channel h c) { closed = true })) d).buffer ≤ (channel_in (slice_set h.channels c (record (channel h c) { closed = true })) d).capacity
      few d = elim (set_cases h.channels c (record (channel h c) { closed = true }) d) [
        | inl e ↦ subst (λ (y : Channel). length y.buffer ≤ y.capacity) (sym e) (s.few d)
        | inr e ↦ subst (λ (y : Channel). length y.buffer ≤ y.capacity) (sym e.1) (s.few c)
      ]

      stays : (r k : ℕ) (w : Wish Item) → waits r (without_all (leaving h c) h.line) ≡ true → case_at h r k ≡ Some w → goes_alone h.channels (Some w) ≡ false
          → goes_alone (slice_set h.channels c (record (channel h c) { closed = true })) (Some w) ≡ false
      stays r k (wish.Receive d) l e g = elim (set_cases h.channels c (record (channel h c) { closed = true }) d) [
        | inl p ↦ subst (λ y. lets y (wish.Receive d) ≡ false) (sym p) g
        | inr p ↦ absurd (gone Receivers c r k (wish.Receive d) l e (eq-eqb d c p.0))
      ]
      stays r k (wish.Send d f) l e g = elim (set_cases h.channels c (record (channel h c) { closed = true }) d) [
        | inl p ↦ subst (λ y. lets y (wish.Send d f) ≡ false) (sym p) g
        | inr p ↦ absurd (gone Senders c r k (wish.Send d f) l e (eq-eqb d c p.0))
      ]

-- ---- one who joins with cases that cannot go
cannot_alone : (h : Hub) (w : Option (Wish Item)) → can_go h w ≡ false → goes_alone h.channels w ≡ false
cannot_alone h None g = refl
cannot_alone h (Some (wish.Send c e)) g =
    let a = or_parts (channel h c).closed (ltb (length (channel h c).buffer) (channel h c).capacity || some (queued h Receivers c)) g in
    or_from (channel h c).closed (ltb (length (channel h c).buffer) (channel h c).capacity) a.0
    (or_parts (ltb (length (channel h c).buffer) (channel h c).capacity) (some (queued h Receivers c)) a.1).0
cannot_alone h (Some (wish.Receive c)) g =
    let a = or_parts (channel h c).closed (some (channel h c).buffer || some (queued h Senders c)) g in
    or_from (channel h c).closed (some (channel h c).buffer) a.0 (or_parts (some (channel h c).buffer) (some (queued h Senders c)) a.1).0

-- where a case cannot go, no case of one who waits serves it
unserved : (h : Hub) (v : Option (Wish Item)) → can_go h v ≡ false → (q k : ℕ) → waits q h.line ≡ true → serve v (case_at h q k) ≡ false
unserved h v g q k l = go v g (case_at h q k) refl
  where
    go : (v : Option (Wish Item)) → can_go h v ≡ false → (w : Option (Wish Item)) → case_at h q k ≡ w → serve v w ≡ false
    go None g w e = refl
    go (Some v) g None e = refl
    go (Some (wish.Send c f)) g (Some w) e =
        let a = or_parts (channel h c).closed (ltb (length (channel h c).buffer) (channel h c).capacity || some (queued h Receivers c)) g in
        let b = or_parts (ltb (length (channel h c).buffer) (channel h c).capacity) (some (queued h Receivers c)) a.1 in
        false_from_ne_true (meet (wish.Send c f) w)
        (λ t. both_ways (some (queued h Receivers c)) b.1 (queue_has Receivers c h.line h.wishes q k w l e (meets_receive c f w t)))
    go (Some (wish.Receive c)) g (Some w) e =
        let a = or_parts (channel h c).closed (some (channel h c).buffer || some (queued h Senders c)) g in
        let b = or_parts (some (channel h c).buffer) (some (queued h Senders c)) a.1 in
        false_from_ne_true (meet (wish.Receive c) w)
        (λ t. both_ways (some (queued h Senders c)) b.1 (queue_has Senders c h.line h.wishes q k w l e (meets_send c w t)))

module _ (h : Hub) (s : SettledHub h) (r : ℕ) (ws : Row Item) (here : r < length h.wishes) (idle : (k : ℕ) → can_go h (case_in ws k) ≡ false) where
  own_case : (k : ℕ) → case_at (joins r ws h) r k ≡ case_in ws k
  own_case k = ap (λ row. case_in row k) (get_or-set_same h.wishes r ws [] here)

  other_case : (q k : ℕ) → (q ≡ r → ⊥) → case_at (joins r ws h) q k ≡ case_at h q k
  other_case q k n = ap (λ row. case_in row k) (get_or-set_other h.wishes r q ws [] n)

  view : (q : ℕ) → waits q (h.line ++ r ∷ []) ≡ true → (q ≡ r) ⊎ ((q ≡ r → ⊥) × (waits q h.line ≡ true))
  view q w = elim (cases_eq q r) [
    | inl e ↦ inl e
    | inr n ↦ elim (waits_push q r h.line w) [ inl e ↦ absurd (n e) | inr l ↦ inr (n, l) ]
  ]

  pub joins_keeps : SettledHub (joins r ws h)
  joins_keeps = record {
    few = s.few;
    stuck = λ q k w. elim (view q w) [
      | inl e ↦ subst (λ i. goes_alone h.channels (case_at (joins r ws h) i k) ≡ false) (sym e) (subst (λ o. goes_alone h.channels o ≡ false) (sym (own_case k)) (cannot_alone h (case_in ws k) (idle k)))
      | inr e ↦ subst (λ o. goes_alone h.channels o ≡ false) (sym (other_case q k e.0)) (s.stuck q k e.1)
    ];
    apart = λ p q j k v w n. elim (view p v) [
      | inl e ↦ elim (view q w) [
        | inl f ↦ absurd (n (e ∙ sym f))
        | inr f ↦ subst (λ i. serve (case_at (joins r ws h) i j) (case_at (joins r ws h) q k) ≡ false) (sym e) (mine j q k f.0 f.1)
      ]
      | inr e ↦ elim (view q w) [
        | inl f ↦ subst (λ i. serve (case_at (joins r ws h) p j) (case_at (joins r ws h) i k) ≡ false) (sym f)
            (serve-sym (case_at (joins r ws h) p j) (case_at (joins r ws h) r k) ∙ mine k p j e.0 e.1)
        | inr f ↦ subst (λ o. serve o (case_at (joins r ws h) q k) ≡ false) (sym (other_case p j e.0))
            (subst (λ o. serve (case_at h p j) o ≡ false) (sym (other_case q k f.0)) (s.apart p q j k e.1 f.1 n))
      ]
    ];
  }
    where
      mine : (j q k : ℕ) → (q ≡ r → ⊥) → waits q h.line ≡ true → serve (case_at (joins r ws h) r j) (case_at (joins r ws h) q k) ≡ false
      mine j q k n l =
          subst (λ o. serve o (case_at (joins r ws h) q k) ≡ false) (sym (own_case j))
          (subst (λ o. serve (case_in ws j) o ≡ false) (sym (other_case q k n)) (unserved h (case_in ws j) (idle j) q k l))
