-- Every call leaves a channel settled.
use Rattle.std.proofs.Common.{◌≡◌, ℕ, Bool, true, false, cond, ltb, List, [], ◌∷◌, ◌++◌, length, drop, Some, None, Option, Err, sym, refl, ap, ◌∙◌, arith}
use Rattle.std.proofs.lemmas.List.{length-append, length-drop}
use Rattle.std.proofs.lemmas.Bool.{ltb-true}
use Rattle.waiting.specs.declared.wish.Side.{Side}
use Rattle.waiting.specs.declared.wish.Side.TheVariants.{Receivers, Senders}
use Rattle.waiting.specs.declared.wish.Entry.{Entry}
use Rattle.waiting.specs.Queues.{Row, queue, first, without}
use Rattle.waiting.specs.Laws.{others}
use Rattle.channels.specs.declared.errors.SendError.TheVariants.{ShortBank, Closed}
use Rattle.channels.specs.declared.errors.ReceiveError.TheVariants.{ShortBank as ShortOfCells}
use Rattle.channels.specs.Rules.{sent_to, after_sent, offered}
use Rattle.channels.specs.Receives.{got_in, after_got}
use Rattle.channels.specs.Closes.{both, freed, without_all}
use Rattle.channels.specs.Settled.{some, Settled, SendsSettle, ReceivesSettle, LeavingSettles, JoiningSettles, ClosingFreesAll}
use Rattle.channels.proofs.Freed.{first_freed, freed_more}

some_others : {X : Type 0} (r : ℕ) (es : List (Entry X)) → some (others r es) ≡ true → some es ≡ true
some_others r [] h = h
some_others r (e ∷ es) h = refl

pub leaving_settles : {E X : Type 0} → LeavingSettles E X
leaving_settles r c h = record {
  few = h.few;
  receivers_wait = λ s. h.receivers_wait (some_others r c.receivers s);
  senders_wait = λ s. h.senders_wait (some_others r c.senders s);
}

none_some : {A : Type 0} (xs : List A) → first xs ≡ None → some xs ≡ true → ⊥
none_some [] h s = cc
none_some (x ∷ xs) h s = cc

-- by what the channel finds: its bank, whether it is closed, the first queued receiver, and room
pub sends_settle : {E X : Type 0} → SendsSettle E X
sends_settle {E} {X} c e h = go c.there c.closed (first c.receivers) refl (ltb (length c.buffer) c.capacity) refl
  where
    go : (there closed : Bool) (o : Option (Entry X)) → first c.receivers ≡ o → (room : Bool) → ltb (length c.buffer) c.capacity ≡ room → Settled (after_sent (cond there (cond closed (Err Closed) (sent_to o room)) (Err ShortBank)) e c)
    go false closed o n room t = h
    go true true o n room t = h
    go true false (Some w) n room t = leaving_settles w.routine c h
    go true false None n false t = h
    go true false None n true t =
        let lt = ltb-true (length c.buffer) c.capacity t in
        record {
          few = omega (arith, lt, length-append c.buffer (e ∷ []));
          receivers_wait = λ s. absurd (none_some c.receivers n s);
          senders_wait = λ s. absurd (omega (arith, lt, (h.senders_wait s).1));
        }

-- by what the channel finds: its bank, its buffer, the first queued sender, and whether it is closed
pub receives_settle : {E X : Type 0} → ReceivesSettle E X
receives_settle {E} {X} f z c h = go c.there c.buffer refl (first c.senders) refl c.closed
  where
    go : (there : Bool) (xs : List E) → c.buffer ≡ xs → (o : Option (Entry X)) → first c.senders ≡ o → (closed : Bool) → Settled (after_got f z (cond there (got_in f z xs o closed) (Err ShortOfCells)) c)
    go false xs b o n closed = h
    go true [] b (Some w) n closed = leaving_settles w.routine c h
    go true [] b None n true = h
    go true [] b None n false = h
    go true (e ∷ es) b None n closed = record {
      few = omega (arith, h.few, length-drop 1 c.buffer);
      receivers_wait = λ s. let k = (h.receivers_wait s).1 in cc;
      senders_wait = λ s. absurd (none_some c.senders n s);
    }
    go true (e ∷ es) b (Some w) n closed = record {
      few = omega (arith, h.few, ap length b, length-drop 1 c.buffer, length-append (drop 1 c.buffer) (offered f z w ∷ []));
      receivers_wait = λ s. let k = (h.receivers_wait (some_others w.routine c.receivers s)).1 in cc;
      senders_wait = λ s.
          let full = h.senders_wait (some_others w.routine c.senders s) in
          (full.0, omega (arith, full.1, ap length b, length-drop 1 c.buffer, length-append (drop 1 c.buffer) (offered f z w ∷ [])));
    }

-- ---- joining
some_append : {A : Type 0} (xs ys : List A) (P : Type 0) → (some xs ≡ true → P) → (some ys ≡ true → P) → some (xs ++ ys) ≡ true → P
some_append [] ys P a b h = b h
some_append (x ∷ xs) ys P a b h = a refl

pub joining_settles : {E X : Type 0} → JoiningSettles E X
joining_settles rs ss c r s h = record {
  few = h.few;
  receivers_wait = some_append c.receivers rs _ h.receivers_wait r;
  senders_wait = some_append c.senders ss _ h.senders_wait s;
}

-- ---- closing
none_parts : {A : Type 0} (xs ys : List A) → first (xs ++ ys) ≡ None → (xs ≡ []) × (ys ≡ [])
none_parts [] [] h = (refl, refl)
none_parts [] (y ∷ ys) h = let k : ◌≡◌ {A = ℕ} 0 1 = cc in absurd (omega arith)
none_parts (x ∷ xs) ys h = let k : ◌≡◌ {A = ℕ} 0 1 = cc in absurd (omega arith)

side_none : {X : Type 0} (s : Side) (c : ℕ) (line : List ℕ) (table : List (Row X)) → first (both c line table) ≡ None → queue s c line table ≡ []
side_none Receivers c line table h = (none_parts (queue Receivers c line table) (queue Senders c line table) h).0
side_none Senders c line table h = (none_parts (queue Receivers c line table) (queue Senders c line table) h).1

module _ {X : Type 0} (s : Side) (c : ℕ) (table : List (Row X)) where
  frees : (es : List (Entry X)) (line : List ℕ) → freed c line table ≡ es → queue s c (without_all es line) table ≡ []
  frees [] line h = side_none s c line table (sym (first_freed c line table) ∙ ap first h)
  frees (e ∷ es) line h =
      let more = freed_more c line table e (sym (first_freed c line table) ∙ ap first h) in
      frees es (without e.routine line) (cc)

pub closing_frees_all : {X : Type 0} → ClosingFreesAll X
closing_frees_all s c line table = frees s c table (freed c line table) line refl
