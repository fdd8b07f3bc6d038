-- Taking a case, and closing: what it does to the channels and to those who wait at them.
use Rattle.std.specs.Prelude.{ℕ, Bool, true, false, List, [], ◌∷◌, ◌++◌, map, Some, None, Option}
use Rattle.waiting.specs.declared.wish.Wish.{Wish}
use Rattle.waiting.specs.declared.wish.Wish.TheVariants as wish
use Rattle.waiting.specs.declared.wish.Entry.{Entry}
use Rattle.waiting.specs.declared.wish.Side.TheVariants.{Receivers, Senders}
use Rattle.channels.specs.Closes.{freed, without_all}
use Rattle.routines.specs.declared.item.Item.{Item}
use Rattle.routines.specs.declared.item.Item.TheVariants.{Value}
use Rattle.routines.specs.declared.routine.Passed.{Passed}
use Rattle.routines.specs.declared.routine.Passed.TheVariants.{Sent, Received, Drained, Broken}
use Rattle.routines.specs.declared.routine.Release.{Release}
use Rattle.routines.specs.Items.{as_kind}
use Rattle.elements.specs.Codes.{value_zero}
use Rattle.runs.specs.Runs.{Hub, channel, queued, leaves, shut, with_buffer}

-- how the routine passes by the case, who is released, the channel whose oldest element was taken out of its buffer, the
-- channel and the element that was buffered, and the channels with those who still wait
pub record Deal : Type 0 where
  pub passed : Passed
  pub released : Option Release
  pub drawn : Option ℕ
  pub stored : Option (ℕ × Item)
  pub hub : Hub

-- the element that a waiting case offers
abbrev pub offer : Wish Item → Item
offer (wish.Send c e) = e
offer (wish.Receive c) = Value value_zero

-- on every channel elements are of the channel's own kind
abbrev pub offered : Hub → ℕ → Entry Item → Item
offered h c w = as_kind (channel h c).kind (offer w.wish)

-- the routine of that entry is released by its case, and passes by it so
abbrev pub released_by : Entry Item → Passed → Release
released_by w p = record { routine = w.routine; case = w.case; passed = p }

-- ---- a send: a closed channel breaks it; else the first queued receiver gets the element; else it is buffered
abbrev pub send_on : Hub → ℕ → Item → Bool → List (Entry Item) → Deal
send_on h c e true ws = record { passed = Broken; released = None; drawn = None; stored = None; hub = h }
send_on h c e false [] = record { passed = Sent c e; released = None; drawn = None; stored = Some (c, e); hub = with_buffer c ((channel h c).buffer ++ (e ∷ [])) h }
send_on h c e false (w ∷ ws) = record { passed = Sent c e; released = Some (released_by w (Received c e)); drawn = None; stored = None; hub = leaves w.routine h }

-- ---- a receive: the oldest buffered element, and then the first queued sender's is buffered; with an empty buffer the
-- first queued sender's; with neither none
abbrev pub receive_on : Hub → ℕ → List Item → List (Entry Item) → Deal
receive_on h c [] [] = record { passed = Drained c; released = None; drawn = None; stored = None; hub = h }
receive_on h c [] (w ∷ ws) = record { passed = Received c (offered h c w); released = Some (released_by w (Sent c (offered h c w))); drawn = None; stored = None; hub = leaves w.routine h }
receive_on h c (e ∷ es) [] = record { passed = Received c e; released = None; drawn = Some c; stored = None; hub = with_buffer c es h }
receive_on h c (e ∷ es) (w ∷ ws) = record { passed = Received c e; released = Some (released_by w (Sent c (offered h c w))); drawn = Some c; stored = Some (c, offered h c w); hub = leaves w.routine (with_buffer c (es ++ (offered h c w ∷ [])) h) }

-- a case that can go; a case that never goes is not taken
abbrev pub take : Hub → Option (Wish Item) → Deal
take h None = record { passed = Broken; released = None; drawn = None; stored = None; hub = h }
take h (Some (wish.Send c e)) = send_on h c (as_kind (channel h c).kind e) (channel h c).closed (queued h Receivers c)
take h (Some (wish.Receive c)) = receive_on h c (channel h c).buffer (queued h Senders c)

-- ---- closing: a receiver is released with nothing, a sender to break
abbrev pub dismissed : Entry Item → ℕ → Wish Item → Release
dismissed w c (wish.Send d e) = released_by w Broken
dismissed w c (wish.Receive d) = released_by w (Drained c)

-- all queued receivers and then all queued senders, each routine by its first entry met
abbrev pub leaving : Hub → ℕ → List (Entry Item)
leaving h c = freed c h.line h.wishes

abbrev pub dismissals : Hub → ℕ → List Release
dismissals h c = map (λ w. dismissed w c w.wish) (leaving h c)

-- they leave every queue that they were in, and the channel is closed
abbrev pub closed_at : Hub → ℕ → Hub
closed_at h c = shut c (record h { line = without_all (leaving h c) h.line })
