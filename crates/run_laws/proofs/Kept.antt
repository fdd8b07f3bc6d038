-- What no step changes: the number of routines never falls, and every channel keeps its kind and its capacity.
use Rattle.std.proofs.Common.{◌≡◌, ℕ, zero, suc, ◌+◌, ◌≤◌, Bool, true, false, List, [], ◌∷◌, ◌++◌, length, Some, None, Option, refl, ap, ◌∙◌, arith, length-append}
use Rattle.std.specs.Prelude.{slice_set}
use Rattle.std.proofs.lemmas.List.{length-set}
use Rattle.linking.specs.Programs.{Program}
use Rattle.waiting.specs.declared.wish.Wish.{Wish}
use Rattle.waiting.specs.declared.wish.Wish.TheVariants as wish
use Rattle.waiting.specs.declared.wish.Side.TheVariants.{Receivers, Senders}
use Rattle.waiting.specs.declared.wish.Entry.{Entry}
use Rattle.pickers.specs.Meaning.{Meaning}
use Rattle.reports.specs.declared.report.Picked.{Picked}
use Rattle.routines.specs.declared.item.Item.{Item}
use Rattle.routines.specs.declared.routine.Passed.{Passed}
use Rattle.routines.specs.declared.routine.Passed.TheVariants.{Sent, Received, Drained, Broken}
use Rattle.routines.specs.declared.routine.Release.{Release}
use Rattle.routines.specs.declared.routine.Routine.{Routine}
use Rattle.routines.specs.declared.routine.State.TheVariants.{Ready, Waiting, Released, Ended}
use Rattle.routines.specs.Registers.{in_state, at_line}
use Rattle.routines.specs.Items.{as_kind}
use Rattle.runs.specs.Runs.{Hub, Run, Channel, no_channel, routine, channel, queued, text_line, with_buffer, stopped, goes_on}
use Rattle.runs.specs.Cases.{Branch, wish_of}
use Rattle.runs.specs.Taking.{Deal, take, send_on, receive_on, dismissals, closed_at}
use Rattle.routines.specs.Registers.{born}
use Rattle.runs.specs.Steps.{Taken, taken_by, nothing_moved, released_run, passing, branch_at, branches, with_born, ended, ending}
use Rattle.run_laws.specs.Orderly.{NeverFewer, ChannelsStay, kinds}
use Rattle.run_laws.proofs.Ways.{by_ways}
use Rattle.run_laws.proofs.Orderly.{past, closing_run, release_all_hub, release_all_length}

-- ---- one channel changed, but not its kind and its capacity
set_kinds : (cs : List Channel) (c : ℕ) (x : Channel) → x.kind ≡ (Rattle.std.specs.Prelude.slice_index_or cs c no_channel).kind → x.capacity ≡ (Rattle.std.specs.Prelude.slice_index_or cs c no_channel).capacity → kinds (slice_set cs c x) ≡ kinds cs
set_kinds [] c x k n = refl
set_kinds (y ∷ cs) zero x k n = cc
set_kinds (y ∷ cs) (suc c) x k n = ap (λ l. (y.kind, y.capacity) ∷ l) (set_kinds cs c x k n)

pub buffer_kinds : (h : Hub) (c : ℕ) (b : List Item) → kinds (with_buffer c b h).channels ≡ kinds h.channels
buffer_kinds h c b = set_kinds h.channels c (record (channel h c) { buffer = b }) refl refl

send_kinds : (h : Hub) (c : ℕ) (e : Item) (closed : Bool) (ws : List (Entry Item)) → let d : Deal = send_on h c e closed ws in kinds d.hub.channels ≡ kinds h.channels
send_kinds h c e true ws = refl
send_kinds h c e false [] = buffer_kinds h c ((channel h c).buffer ++ (e ∷ []))
send_kinds h c e false (w ∷ ws) = refl

receive_kinds : (h : Hub) (c : ℕ) (es : List Item) (ws : List (Entry Item)) → let d : Deal = receive_on h c es ws in kinds d.hub.channels ≡ kinds h.channels
receive_kinds h c [] [] = refl
receive_kinds h c [] (w ∷ ws) = refl
receive_kinds h c (e ∷ es) [] = buffer_kinds h c es
receive_kinds h c (e ∷ es) (w ∷ ws) = buffer_kinds h c (es ++ (Rattle.runs.specs.Taking.offered h c w ∷ []))

pub take_kinds : (h : Hub) (w : Option (Wish Item)) → kinds (take h w).hub.channels ≡ kinds h.channels
take_kinds h None = refl
take_kinds h (Some (wish.Send c e)) = send_kinds h c (as_kind (channel h c).kind e) (channel h c).closed (queued h Receivers c)
take_kinds h (Some (wish.Receive c)) = receive_kinds h c (channel h c).buffer (queued h Senders c)

pub closed_kinds : (h : Hub) (c : ℕ) → kinds (closed_at h c).channels ≡ kinds h.channels
closed_kinds h c = set_kinds h.channels c (record (channel h c) { closed = true }) refl refl

-- ---- what is kept, from one run to the next
pub record Kept (old new : Run) : Type 0 where
  pub fewer : length old.routines ≤ length new.routines
  pub same : kinds new.hub.channels ≡ kinds old.hub.channels

kept : (old : Run) → Kept old old
kept old = record { fewer = omega arith; same = refl }

kept_stopped : (old : Run) → Kept old (stopped old)
kept_stopped old = record { fewer = omega arith; same = refl }

kept_on : (old new : Run) (r : ℕ) (x : Routine) → Kept old new → Kept old (goes_on r x new)
kept_on old new r x k = record { fewer = omega (arith, k.fewer, length-set new.routines r (in_state Ready x)); same = k.same }

kept_released : (old : Run) (o : Option Release) (h : Hub) → kinds h.channels ≡ kinds old.hub.channels → Kept old (released_run o (record old { hub = h }))
kept_released old None h e = record { fewer = omega arith; same = e }
kept_released old (Some w) h e = record { fewer = omega (arith, length-set old.routines w.routine (in_state (Released w.case w.passed) (routine old w.routine))); same = e }

kept_passing : (old : Run) (m : Meaning) (r n k : ℕ) (b : Branch) (pk : Option Picked) (t : Taken) (q : Passed) → Kept old t.run → Kept old (passing old m r n k b pk t q).run
kept_passing old m r n k b pk t (Sent c e) o = kept_on old t.run r (past r b t) o
kept_passing old m r n k b pk t (Received c e) o = kept_on old t.run r (past r b t) o
kept_passing old m r n k b pk t (Drained c) o = kept_on old t.run r (past r b t) o
kept_passing old m r n k b pk t Broken o = kept_stopped old

kept_closing : (c : ℕ) (run : Run) → Kept run (closing_run c run)
kept_closing c run =
    let old : Run = record run { hub = closed_at run.hub c } in
    record {
      fewer = omega (arith, release_all_length (dismissals run.hub c) old);
      same = ap (λ h. kinds h.channels) (release_all_hub (dismissals run.hub c) old) ∙ closed_kinds run.hub c;
    }

kept_ending : (run : Run) (m : Meaning) (r : ℕ) (b : Bool) → Kept run (ending run m r (routine run r) b).run
kept_ending run m r true = record { fewer = omega (arith, length-set run.routines r (in_state Ended (routine run r))); same = refl }
kept_ending run m r false = record { fewer = omega (arith, length-set run.routines r (in_state Ended (routine run r))); same = refl }

pub step_kept : (p : Program) (run : Run) (m : Meaning) → Kept run (Rattle.runs.specs.Steps.step p run m).run
step_kept p run m = by_ways p run m (λ s. Kept run s.run) (λ e. kept_stopped run) (λ r rest e. record {
  resumes = λ k q s. kept_passing run m r (text_line p (routine run r)) k (branch_at (branches p (routine run r)) k) None (nothing_moved q run) q (kept run);
  stays = λ n d after c s l. kept_stopped run;
  goes = λ n d x after c s l. kept_on run run r x (kept run);
  waits = λ n bs c h ch df. record { fewer = omega (arith, length-set run.routines r (in_state Waiting (routine run r))); same = refl };
  takes = λ n bs k pk c h t.
      let v = wish_of run.hub.channels (routine run r) (branch_at bs k).exchange in
      let d = take run.hub v in
      kept_passing run _ r n k (branch_at bs k) pk (taken_by r d run) d.passed (kept_released run d.released d.hub (take_kinds run.hub v));
  closes = λ n c s h. kept_on run (closing_run c run) r (at_line ((routine run r).line + 1) (routine run r)) (kept_closing c run);
  starts = λ n b s few. kept_on run (with_born b (routine run r) run) r (at_line ((routine run r).line + 1) (routine run r))
      (record { fewer = omega (arith, length-append run.routines (born b (routine run r) ∷ [])); same = refl });
  ends = λ s b. kept_ending run m r b;
})

pub never_fewer : NeverFewer
never_fewer p run m = (step_kept p run m).fewer

pub channels_stay : ChannelsStay
channels_stay p run m = (step_kept p run m).same
