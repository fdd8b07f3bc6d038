-- The cells that a channel writes, by how often its ring was put to and taken from.
use Rattle.std.proofs.Common.{◌≡◌, ℕ, ◌+◌, ◌<◌, ◌≤◌, Bool, true, false, cond, ltb, List, [], ◌∷◌, length, set, Some, None, Option, Ok, Err, Result, refl, ap, arith, ltb-true, leb-true}
use Rattle.rings.specs.Layouts.{covers, held, one_less}
use Rattle.rings.specs.Laws.{placed}
use Rattle.rings.proofs.Holding.{length_held, held_most}
use Rattle.rings.proofs.Turns.{Turned, turned_fresh, turned_put, turned_take, next_is}
use Rattle.waiting.specs.declared.wish.Entry.{Entry}
use Rattle.channels.specs.declared.channel.Sent.{Sent}
use Rattle.channels.specs.declared.channel.Sent.TheVariants.{Handed, Buffered}
use Rattle.channels.specs.declared.errors.SendError.{SendError}
use Rattle.channels.specs.declared.errors.SendError.TheVariants.{ShortBank, Closed}
use Rattle.channels.specs.declared.channel.Received.{Received}
use Rattle.channels.specs.declared.channel.Received.TheVariants.{Taken, Handed as Passed, Drained}
use Rattle.channels.specs.declared.errors.ReceiveError.{ReceiveError}
use Rattle.channels.specs.declared.errors.ReceiveError.TheVariants.{ShortBank as NoBank}
use Rattle.channels.specs.Rules.{sent, sent_to, cells_sent, offered}
use Rattle.channels.specs.Receives.{got, got_in, cells_got}
use Rattle.channels.specs.Places.{Act, sending, receiving, shutting, Turn, met, buffered_sent, buffered_got, buffered_by, cells_by, Filling, filled_sent, filled_got, filled_by, filled, unfilled, NthCell}

-- what is buffered had its cells and room
buffered_if : {X : Type 0} (there closed room : Bool) (o : Option (Entry X)) → ◌≡◌ {A = Result (Sent X) SendError} (cond there (cond closed (Err Closed) (sent_to o room)) (Err ShortBank)) (Ok Buffered)
    → (there ≡ true) × (room ≡ true)
buffered_if true false true None h = (refl, refl)
buffered_if true false false None h = cc
buffered_if true false room (Some w) h = cc
buffered_if true true room o h = cc
buffered_if false closed room o h = cc

-- what is taken was there
taken_if : {E X : Type 0} (f : X → E) (z : E) (there closed : Bool) (xs : List E) (o : Option (Entry X)) (e : E) (s : Option (Entry X)) → ◌≡◌ {A = Result (Received E X) ReceiveError} (cond there (got_in f z xs o closed) (Err NoBank)) (Ok (Taken e s))
    → 0 < length xs
taken_if f z true closed (x ∷ xs) o e s h = omega arith
taken_if f z true closed [] (Some w) e s h = cc
taken_if f z true true [] None e s h = cc
taken_if f z true false [] None e s h = cc
taken_if f z false closed xs o e s h = cc

abbrev Kept : ℕ → ℕ → Filling → Type 0
Kept base capacity t = Turned base capacity t.puts t.takes t.channel.ring

module _ {E X : Type 0} (f : X → E) (z : E) (base capacity : ℕ) (t : Filling) (k : Turn E X) (h : Kept base capacity t) where
  has_room : sent (met t.channel k) ≡ Ok Buffered → t.channel.ring.count < t.channel.ring.capacity
  has_room q =
      let yes = buffered_if (covers t.channel.ring k.bank) t.channel.closed (ltb (length (held t.channel.ring k.bank)) t.channel.ring.capacity) _ q in
      let fits : t.channel.ring.base + t.channel.ring.capacity ≤ length k.bank = omega (arith, leb-true, yes.0) in
      let room : length (held t.channel.ring k.bank) < t.channel.ring.capacity = omega (arith, ltb-true, yes.1) in
      let n = length_held t.channel.ring k.bank fits h.starts h.below in
      omega arith

  has_some : (e : E) (s : Option (Entry X)) → got f z (met t.channel k) ≡ Ok (Taken e s) → 0 < t.channel.ring.count
  has_some e s q =
      let n = taken_if f z (covers t.channel.ring k.bank) t.channel.closed (held t.channel.ring k.bank) _ e s q in
      let m = held_most t.channel.ring k.bank in
      omega arith

  kept_sent : (e : E) (r : Result (Sent X) SendError) → sent (met t.channel k) ≡ r → Kept base capacity (filled_sent t e r)
  kept_sent e (Ok (Handed w)) q = h
  kept_sent e (Ok Buffered) q = turned_put t.channel.ring h (has_room q)
  kept_sent e (Err why) q = h

  taken_kept : (e : E) (s : Option (Entry X)) → got f z (met t.channel k) ≡ Ok (Taken e s) → Turned base capacity t.puts (t.takes + 1) (one_less t.channel.ring)
  taken_kept e s q = turned_take t.channel.ring h (has_some e s q)

  kept_got : (r : Result (Received E X) ReceiveError) → got f z (met t.channel k) ≡ r → Kept base capacity (filled_got f z t r)
  kept_got (Ok (Taken e None)) q = taken_kept e None q
  kept_got (Ok (Taken e (Some w))) q = turned_put (one_less t.channel.ring) (taken_kept e (Some w) q) (omega (arith, has_some e (Some w) q, h.below))
  kept_got (Ok (Passed e w)) q = h
  kept_got (Ok Drained) q = h
  kept_got (Err why) q = h

  kept_by : (a : Act E) → Kept base capacity (filled_by f z t (met t.channel k) a)
  kept_by (sending e) = kept_sent e (sent (met t.channel k)) refl
  kept_by receiving = kept_got (got f z (met t.channel k)) refl
  kept_by shutting = h

  cells_at_sent : (e : E) (r : Result (Sent X) SendError) → cells_sent r t.channel.ring e k.bank ≡ placed base capacity t.puts (buffered_sent e r) k.bank
  cells_at_sent e (Ok (Handed w)) = refl
  cells_at_sent e (Ok Buffered) = ap (λ n. set k.bank n e) (next_is t.channel.ring h)
  cells_at_sent e (Err why) = refl

  cells_at_got : (r : Result (Received E X) ReceiveError) → got f z (met t.channel k) ≡ r → cells_got f z r t.channel.ring k.bank ≡ placed base capacity t.puts (buffered_got f z r) k.bank
  cells_at_got (Ok (Taken e None)) q = refl
  cells_at_got (Ok (Taken e (Some w))) q = ap (λ n. set k.bank n (offered f z w)) (next_is (one_less t.channel.ring) (taken_kept e (Some w) q))
  cells_at_got (Ok (Passed e w)) q = refl
  cells_at_got (Ok Drained) q = refl
  cells_at_got (Err why) q = refl

  cells_at : (a : Act E) → cells_by f z t.channel.ring (met t.channel k) a k.bank ≡ placed base capacity t.puts (buffered_by f z (met t.channel k) a) k.bank
  cells_at (sending e) = cells_at_sent e (sent (met t.channel k))
  cells_at receiving = cells_at_got (got f z (met t.channel k)) refl
  cells_at shutting = refl

kept_all : {E X : Type 0} (f : X → E) (z : E) (base capacity : ℕ) (t : Filling) (ks : List (Turn E X)) → Kept base capacity t → Kept base capacity (filled f z t ks)
kept_all f z base capacity t [] h = h
kept_all f z base capacity t (k ∷ ks) h = kept_all f z base capacity (filled_by f z t (met t.channel k) k.act) ks (kept_by f z base capacity t k h k.act)

pub nth_cell : {E X : Type 0} → NthCell E X
nth_cell f z number base capacity ks k =
    cells_at f z base capacity (filled f z (unfilled number base capacity) ks) k (kept_all f z base capacity (unfilled number base capacity) ks (turned_fresh base capacity)) k.act
