-- What is accepted is received in order.
use Rattle.std.proofs.Common.{◌≡◌, ℕ, Bool, true, false, cond, not, ◌&&◌, ◌||◌, eqb, ltb, List, [], ◌∷◌, ◌++◌, length, Some, None, Option, Err, refl, ◌∙◌}
use Rattle.std.proofs.lemmas.List.{append_assoc, append-nil, nil_from_length}
use Rattle.std.proofs.lemmas.Bool.{and_parts, eqb-true, false≢true}
use Rattle.waiting.specs.declared.wish.Entry.{Entry}
use Rattle.waiting.specs.Queues.{first}
use Rattle.channels.specs.declared.errors.SendError.TheVariants.{ShortBank, Closed}
use Rattle.channels.specs.declared.errors.ReceiveError.TheVariants.{ShortBank as NoBank}
use Rattle.channels.specs.Seen.{Told}
use Rattle.channels.specs.Rules.{sent, sent_to, after_sent}
use Rattle.channels.specs.Receives.{got, got_in, after_got}
use Rattle.channels.specs.Settled.{some, Settled, joined_by}
use Rattle.channels.specs.Orders.{Deed, sends, receives, joins, leaves, closes, may_wait, done, accepted_sent, received_sent, accepted_got, received_got, accepts, gives, all_done, all_accepted, all_received, FirstInFirstOut}
use Rattle.channels.proofs.Settled.{sends_settle, receives_settle, leaving_settles, joining_settles}

first_some : {A : Type 0} (xs : List A) (x : A) → first xs ≡ Some x → some xs ≡ true
first_some [] x h = cc
first_some (y ∷ xs) x h = refl

module _ {E X : Type 0} (c : Told E X) (h : Settled c) where
  sent_in_order : (e : E) → c.buffer ++ accepted_sent e (sent c) ≡ received_sent e (sent c) ++ (after_sent (sent c) e c).buffer
  sent_in_order e = go c.there c.closed (first c.receivers) refl (ltb (length c.buffer) c.capacity)
    where
      go : (there closed : Bool) (o : Option (Entry X)) → first c.receivers ≡ o → (room : Bool) →
          let r = cond there (cond closed (Err Closed) (sent_to o room)) (Err ShortBank) in
          c.buffer ++ accepted_sent e r ≡ received_sent e r ++ (after_sent r e c).buffer
      go false closed o n room = append-nil c.buffer
      go true true o n room = append-nil c.buffer
      go true false (Some w) n room = rw (h.receivers_wait (first_some c.receivers w n)).1 refl
      go true false None n true = refl
      go true false None n false = append-nil c.buffer

  got_in_order : (f : X → E) (z : E) → c.buffer ++ accepted_got f z (got f z c) ≡ received_got (got f z c) ++ (after_got f z (got f z c) c).buffer
  got_in_order f z = go c.there c.buffer refl (first c.senders) c.closed
    where
      go : (there : Bool) (xs : List E) → c.buffer ≡ xs → (o : Option (Entry X)) (closed : Bool) →
          let r = cond there (got_in f z xs o closed) (Err NoBank) in
          c.buffer ++ accepted_got f z r ≡ received_got r ++ (after_got f z r c).buffer
      go false xs b o closed = append-nil c.buffer
      go true [] b (Some w) closed = rw b refl
      go true [] b None true = append-nil c.buffer
      go true [] b None false = append-nil c.buffer
      go true (e ∷ es) b None closed = append-nil c.buffer ∙ rw b refl
      go true (e ∷ es) b (Some w) closed = rw b refl

-- who joins where cases cannot go
stuck : (wants closed : Bool) (m n : ℕ) → (not wants || (not closed && eqb m n)) ≡ true → wants ≡ true → (closed ≡ false) × (m ≡ n)
stuck true false m n t w = (refl, eqb-true m n t)
stuck true true m n t w = cc
stuck false closed m n t w = cc

module _ {E X : Type 0} (f : X → E) (z : E) where
  in_order : (d : Deed E X) (c : Told E X) → Settled c → Settled (done f z d c) × (c.buffer ++ accepts f z d c ≡ gives f z d c ++ (done f z d c).buffer)
  in_order (sends e) c h = (sends_settle c e h, sent_in_order c h e)
  in_order receives c h = (receives_settle f z c h, got_in_order c h f z)
  in_order (leaves r) c h = (leaving_settles r c h, append-nil c.buffer)
  in_order closes c h = (record { few = h.few; receivers_wait = λ t. absurd (false≢true t); senders_wait = λ t. absurd (false≢true t) }, append-nil c.buffer)
  in_order (joins rs ss) c h = go (may_wait rs ss c) refl
    where
      go : (b : Bool) → may_wait rs ss c ≡ b → Settled (cond b (joined_by rs ss c) c) × (c.buffer ++ [] ≡ (cond b (joined_by rs ss c) c).buffer)
      go true t =
          let both = and_parts (not (some rs) || (not c.closed && eqb (length c.buffer) 0)) (not (some ss) || (not c.closed && eqb (length c.buffer) c.capacity)) t in
          let empty = stuck (some rs) c.closed (length c.buffer) 0 both.0 in
          (joining_settles rs ss c (λ w. ((empty w).0, nil_from_length c.buffer (empty w).1)) (stuck (some ss) c.closed (length c.buffer) c.capacity both.1) h, append-nil c.buffer)
      go false t = (h, append-nil c.buffer)

pub first_in_first_out : {E X : Type 0} → FirstInFirstOut E X
first_in_first_out f z [] c h = (h, append-nil c.buffer)
first_in_first_out f z (d ∷ ds) c h =
    let s = in_order f z d c h in
    let r = first_in_first_out f z ds (done f z d c) s.0 in (
      r.0,
      cc (
        s.1,
        r.1,
        append_assoc c.buffer (accepts f z d c) (all_accepted f z ds (done f z d c)),
        append_assoc (gives f z d c) (done f z d c).buffer (all_accepted f z ds (done f z d c)),
        append_assoc (gives f z d c) (all_received f z ds (done f z d c)) (all_done f z ds (done f z d c)).buffer,
      ),
    )
