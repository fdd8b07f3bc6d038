-- The laws over every list of calls, from the laws of one step.
use Rattle.std.proofs.Common.{◌≡◌, ℕ, suc, ◌+◌, ◌<◌, Bool, true, false, ltb, List, [], ◌∷◌, ◌++◌, map, length, Ok, Err, Result, sym, refl, ap, ◌∙◌, subst, arith, append-nil}
use Rattle.std.specs.Prelude.{◌↔◌, slice_index_or}
use Rattle.std.specs.List.{range_with_len}
use Rattle.std.proofs.lemmas.Bool.{lt-ltb, ltb-false}
use Rattle.linking.specs.Programs.{Program}
use Rattle.pickers.specs.Meaning.{Meaning, Lawful}
use Rattle.reports.specs.declared.report.Report.{Report}
use Rattle.words.specs.declared.refusal.Refusal.TheVariants.{Small, Over}
use Rattle.routines.specs.declared.item.Item.{Item}
use Rattle.routines.specs.declared.routine.Routine.{Routine}
use Rattle.routines.specs.Items.{code_of}
use Rattle.channels.specs.Settled.{some}
use Rattle.waiting.specs.declared.wish.Side.TheVariants.{Receivers, Senders}
use Rattle.runs.specs.declared.answer.ChannelAnswer.{ChannelAnswer}
use Rattle.runs.specs.Runs.{Channel, Run, channel, queued}
use Rattle.runs.specs.Questions.{step_refused, if_there, routine_told, routine_question, channel_told, channel_question, no_item, code_told, element_question}
use Rattle.runs.specs.Steps.{step}
use Rattle.run_laws.specs.Elements.{held, codes_on, accepted_on, received_on}
use Rattle.run_laws.specs.Moves.{due_in, due, moves, passed_by, all_moves, all_passed}
use Rattle.run_laws.specs.Settled.{Settled, FewCases}
use Rattle.run_laws.specs.Waits.{a_stall, AllWait}
use Rattle.run_laws.proofs.Settled.{begins_settled, step_settled, step_lawful}
use Rattle.run_laws.proofs.Waits.{nobody_waits_idly, stalls_when_all_wait, sound_has_few_cases, channels_guarded}
use Rattle.run_laws.proofs.Elements.{step_keeps_elements, chain, past_end, new_empty}
use Rattle.run_laws.proofs.Links.{routine_past}
use Rattle.run_laws.proofs.Moves.{step_keeps_moves, first_due}
use Rattle.words.specs.declared.refusal.Refusal.{Refusal}
use Rattle.calls.specs.declared.call.Cells.{Cells}
use Rattle.calls.specs.declared.call.Call.{Call}
use Rattle.calls.specs.declared.call.Call.TheVariants as call
use Rattle.calls.specs.declared.answer.Answer.{Answer}
use Rattle.calls.specs.declared.answer.Answer.TheVariants as answer
use Rattle.calls.specs.Calls.{enough, Played, Answered, begun, tells, granted, stepping, answered, answers, after_calls}
use Rattle.calls.specs.Laws.{report_in, reports_in, count, code, buffer_told, due_told, Guarded, LawsHold, AlwaysLawful, CallsFollow}

-- ---- a call is a step that is granted, or it reports nothing and leaves the run
data Said (p : Program) (at : Played) : Answered → Type 0 where
  stepped : Said p at (granted (step p at.run at.meaning))
  silent : (a : Answer) → report_in a ≡ [] → Said p at (record { answer = a; after = at })

said_told : {A : Type 0} (p : Program) (at : Played) (f : A → Answer) (r : Result A Refusal) → ((a : A) → report_in (f a) ≡ []) → Said p at (tells f r at)
said_told p at f (Ok a) h = silent (f a) (h a)
said_told p at f (Err why) h = silent (answer.Refused why) refl

said_step : (p : Program) (at : Played) (b over : Bool) → Said p at (stepping p at (step_refused b over))
said_step p at false over = silent (answer.Refused Small) refl
said_step p at true true = silent (answer.Refused Over) refl
said_step p at true false = stepped

said : (p : Program) (at : Played) (c : Call) → Said p at (answered p at c)
said p at (call.Step cells) = said_step p at (enough cells) at.run.over
said p at (call.Routine r) = said_told p at answer.Routine (routine_question p at.run r) (λ a. refl)
said p at (call.Channel c) = said_told p at answer.Channel (channel_question at.run.hub c) (λ a. refl)
said p at (call.Element c i cells) = said_told p at answer.Element (element_question at.run.hub c i (enough cells)) (λ a. refl)

-- ---- along a list of calls
pub record Fine (p : Program) (at : Played) : Type 0 where
  pub settled : Settled p at.run
  pub lawful : Lawful at.meaning

-- what a list of reports does to the accounts of a run
pub record Even (old : Run) (rs : List Report) (new : Run) : Type 0 where
  pub elements : (c : ℕ) → held old c ++ accepted_on c rs ≡ received_on c rs ++ held new c
  pub moves : (r : ℕ) → due old r ++ all_moves r rs ≡ all_passed r rs ++ due new r

no_report : (run : Run) → Even run [] run
no_report run = record { elements = λ c. append-nil (held run c); moves = λ r. append-nil (due run r) }

one_report : (p : Program) (run : Run) (m : Meaning) (rs : List Report) (end : Run) → Settled p run → Lawful m
    → Even (step p run m).run rs end → Even run ((step p run m).report ∷ rs) end
one_report p run m rs end s l e =
    let t = step p run m in
    record {
      elements = λ c. chain (held run c) (codes_on c t.report.accepted) (held t.run c) (accepted_on c rs)
          (codes_on c t.report.received) (received_on c rs) (held end c) (step_keeps_elements p run m l s c) (e.elements c);
      moves = λ r. chain (due run r) (moves r t.report) (due t.run r) (all_moves r rs)
          (passed_by r t.report.event) (all_passed r rs) (due end r) (step_keeps_moves p run m s r) (e.moves r);
    }

module _ (p : Program) (few : FewCases p) where
  fine_step : (at : Played) → Fine p at → Fine p (granted (step p at.run at.meaning)).after
  fine_step at f = record { settled = step_settled p at.run at.meaning few f.lawful f.settled; lawful = step_lawful p at.run at.meaning f.lawful }

  abbrev Along : Played → List Call → Type 0
  Along at cs = Even at.run (reports_in (answers p at cs)) (after_calls p at cs).run × Fine p (after_calls p at cs)

  pub along : (at : Played) → Fine p at → (cs : List Call) → Along at cs
  along at f [] = (no_report at.run, f)
  along at f (c ∷ cs) = go (λ at' f'. along at' f' cs) (answered p at c) (said p at c)
    where
      go : ((at' : Played) → Fine p at' → Along at' cs) → (a : Answered) → Said p at a
          → Even at.run (report_in a.answer ++ reports_in (answers p a.after cs)) (after_calls p a.after cs).run × Fine p (after_calls p a.after cs)
      go rest a stepped =
          let t = step p at.run at.meaning in
          let next : Played = record { run = t.run; meaning = t.meaning } in
          let e = rest next (fine_step at f) in
          (one_report p at.run at.meaning (reports_in (answers p next cs)) (after_calls p next cs).run f.settled f.lawful e.0, e.1)
      go rest a (silent b z) =
          let e = rest at f in
          (subst (λ l. Even at.run (l ++ reports_in (answers p at cs)) (after_calls p at cs).run) (sym z) e.0, e.1)

-- ---- what the questions tell
told_places : (xs : List Item) (f : ℕ → ℕ) (a : ℕ) → ((i : ℕ) → i < length xs → f (a + i) ≡ code_of (slice_index_or xs i no_item)) → map f (range_with_len a (length xs)) ≡ map code_of xs
told_places [] f a h = refl
told_places (x ∷ xs) f a h =
    let first : f a ≡ code_of x = ap f (omega arith) ∙ h 0 (omega arith) in
    ap (λ n. n ∷ map f (range_with_len (a + 1) (length xs))) first
    ∙ ap (λ l. code_of x ∷ l) (told_places xs f (a + 1) (λ i l. ap f (omega arith) ∙ h (suc i) (omega arith)))

module _ (run : Run) where
  count_is : (c : ℕ) → count (channel_question run.hub c) ≡ length (channel run.hub c).buffer
  count_is c = go (ltb c (length run.hub.channels)) refl
    where
      go : (b : Bool) → ltb c (length run.hub.channels) ≡ b → count (if_there b (channel_told run.hub c)) ≡ length (channel run.hub c).buffer
      go true e = refl
      go false e = sym (ap (λ (x : Channel). length x.buffer) (past_end run.hub.channels c (ltb-false c (length run.hub.channels) e)))

  code_is : (c i : ℕ) → i < length (channel run.hub c).buffer → code (element_question run.hub c i true) ≡ code_told run.hub c i
  code_is c i l = ap (λ b. code (if_there b (code_told run.hub c i))) (lt-ltb i (length (channel run.hub c).buffer) l)

  pub buffer_is : (c : ℕ) → buffer_told run c ≡ held run c
  buffer_is c =
      ap (λ n. map (λ i. code (element_question run.hub c i true)) (range_with_len 0 n)) (count_is c)
      ∙ told_places (channel run.hub c).buffer (λ i. code (element_question run.hub c i true)) 0
      (λ i l. ap (λ j. code (element_question run.hub c j true)) (omega arith) ∙ code_is c i l)

  pub due_is : (p : Program) (r : ℕ) → due_told (routine_question p run r) ≡ due run r
  due_is p r = go (ltb r (length run.routines)) refl
    where
      go : (b : Bool) → ltb r (length run.routines) ≡ b → due_told (if_there b (routine_told p run r)) ≡ due run r
      go true e = refl
      go false e = sym (ap (λ (x : Routine). due_in x.state) (routine_past run.routines r (ltb-false r (length run.routines) e)))

stall_is : (p : Program) (at : Played) → Settled p at.run → (cells : Cells) (t : Report) → (answered p at (call.Step cells)).answer ≡ answer.Report t → (a_stall t.event ≡ true) ↔ AllWait at.run
stall_is p at s cells t = go (enough cells) at.run.over
  where
    go : (b over : Bool) → (stepping p at (step_refused b over)).answer ≡ answer.Report t → (a_stall t.event ≡ true) ↔ AllWait at.run
    go false over e = cc
    go true true e = cc
    go true false e =
        let q : (step p at.run at.meaning).report ≡ t = cc in
        subst (λ (u : Report). (a_stall u.event ≡ true) ↔ AllWait at.run) q (stalls_when_all_wait p at.run at.meaning s)

-- ---- how a channel stands
told_is : {A : Type 0} (b : Bool) (x t : A) → if_there b x ≡ Ok t → x ≡ t
told_is true x t e = cc
told_is false x t e = cc

somebody : {A : Type 0} (xs : List A) → 0 < length xs → some xs ≡ true
somebody [] l = absurd (omega arith)
somebody (x ∷ xs) l = refl

guarded : (p : Program) (run : Run) → Settled p run → (c : ℕ) (t : ChannelAnswer) → channel_question run.hub c ≡ Ok t → Guarded t
guarded p run s c t e =
    let g = channels_guarded p run s c in
    let told : Guarded (channel_told run.hub c) = record {
      few = g.few;
      receivers_wait = λ l. let r = g.receivers_wait (somebody (queued run.hub Receivers c) l) in (r.0, ap length r.1);
      senders_wait = λ l. g.senders_wait (somebody (queued run.hub Senders c) l);
    } in
    subst Guarded (told_is (ltb c (length run.hub.channels)) (channel_told run.hub c) t e) told

pub laws_after : (p : Program) → FewCases p → (m : Meaning) → Lawful m → (calls : List Call) → LawsHold p (answers p (begun p m) calls) (after_calls p (begun p m) calls)
laws_after p few m l cs =
    let a = along p few (begun p m) (record { settled = begins_settled p; lawful = l }) cs in
    let at : Played = after_calls p (begun p m) cs in
    let given : List Report = reports_in (answers p (begun p m) cs) in
    record {
      elements = λ c. sym (ap (λ b. map code_of b ++ accepted_on c given) (new_empty p.channels c)) ∙ a.0.elements c ∙ ap (λ b. received_on c given ++ b) (sym (buffer_is at.run c));
      moves = λ r. sym (ap (λ d. d ++ all_moves r given) (first_due p r)) ∙ a.0.moves r ∙ ap (λ d. all_passed r given ++ d) (sym (due_is at.run p r));
      channels = guarded p at.run a.1.settled;
      idle = λ r k w. nobody_waits_idly p at.run a.1.settled r k w;
      stalls = stall_is p at a.1.settled;
    }

pub always_lawful : AlwaysLawful
always_lawful p sound m l cs = laws_after p (sound_has_few_cases p sound) m l cs

-- ---- a list of calls after another
pub calls_follow : CallsFollow
calls_follow p at [] ys = (refl, refl)
calls_follow p at (x ∷ xs) ys =
    let later = calls_follow p (answered p at x).after xs ys in
    (ap (λ l. (answered p at x).answer ∷ l) later.0, later.1)
