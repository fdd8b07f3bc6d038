-- What a channel accepts is received in order.
use Rattle.std.proofs.Common.{◌≡◌, ℕ, zero, suc, ◌<◌, ◌≤◌, Bool, true, false, cond, ltb, List, [], ◌∷◌, ◌++◌, map, length, Some, None, Option, sym, refl, ap, ◌∙◌, subst, arith, inl, inr, append-nil}
use Rattle.std.proofs.lemmas.List.{append_assoc, map-append, get_or-set_same, get_or-set_other}
use Rattle.std.proofs.lemmas.Bool.{cases_eq, cases_lt, eq-eqb, ne_eqb}
use Rattle.linking.specs.declared.declared.Declared.{Declared}
use Rattle.waiting.specs.declared.wish.Wish.{Wish}
use Rattle.waiting.specs.declared.wish.Wish.TheVariants as wish
use Rattle.waiting.specs.declared.wish.Side.TheVariants.{Receivers, Senders}
use Rattle.waiting.specs.declared.wish.Entry.{Entry}
use Rattle.waiting.specs.Queues.{first}
use Rattle.pickers.specs.Meaning.{Meaning}
use Rattle.reports.specs.declared.report.Move.{Move}
use Rattle.reports.specs.declared.report.Picked.{Picked}
use Rattle.routines.specs.declared.item.Item.{Item}
use Rattle.routines.specs.declared.routine.Passed.{Passed}
use Rattle.routines.specs.declared.routine.Passed.TheVariants.{Sent, Received, Drained, Broken}
use Rattle.routines.specs.Items.{as_kind, code_of}
use Rattle.runs.specs.Runs.{Channel, Hub, Run, no_channel, channel, routine, queued, text_line, with_buffer, new_channel, started}
use Rattle.runs.specs.Cases.{Branch, can_go, wish_of}
use Rattle.channels.specs.Settled.{some}
use Rattle.runs.specs.Taking.{Deal, take, send_on, receive_on, offered, dismissals, closed_at}
use Rattle.runs.specs.Steps.{Step, Taken, taken_by, nothing_moved, either, accepted_of, received_of, move, passing, branch_at, branches, ending, step}
use Rattle.run_laws.specs.Settled.{channel_in, SettledHub}
use Rattle.run_laws.specs.Elements.{held, codes_on, StepKeepsElements, reports, run_after, accepted_on, received_on, KeepsElements, ElementsInOrder}
use Rattle.run_laws.proofs.Ways.{by_ways}
use Rattle.run_laws.proofs.Orderly.{closing_run, release_all_hub}
use Rattle.run_laws.proofs.Ready.{taken_goes}
use Rattle.run_laws.proofs.Queues.{front_placed}
use Rattle.run_laws.proofs.Hubs.{set_cases, room_for, receiver_stuck}
use Rattle.run_laws.proofs.Settled.{begins_settled, step_settled, step_lawful, released_hub}
use Rattle.run_laws.proofs.Waits.{receives_there}

-- ---- one channel
abbrev codes : Hub → ℕ → List ℕ
codes h c = map code_of (channel h c).buffer

abbrev Flows : Hub → Hub → Option Move → Option Move → ℕ → Type 0
Flows h h' a r c = codes h c ++ codes_on c a ≡ codes_on c r ++ codes h' c

abbrev On : ℕ → Option Move → Type 0
On c None = Unit {0}
On c (Some m) = m.channel ≡ c

codes_own : (c : ℕ) (e : Item) (r : ℕ) → codes_on c (Some (move c e r)) ≡ code_of e ∷ []
codes_own c e r = ap (λ b. cond b (code_of e ∷ []) []) (eq-eqb c c refl)

codes_off : (c d : ℕ) (o : Option Move) → On c o → (d ≡ c → ⊥) → codes_on d o ≡ []
codes_off c d None h n = refl
codes_off c d (Some m) h n = ap (λ b. cond b (m.code ∷ []) []) (ne_eqb m.channel d (λ e. n (sym e ∙ h)))

-- the others are as they were
spreads : (h h' : Hub) (c : ℕ) (a r : Option Move) → On c a → On c r → ((d : ℕ) → (d ≡ c → ⊥) → channel h' d ≡ channel h d) → Flows h h' a r c → (d : ℕ) → Flows h h' a r d
spreads h h' c a r on on' same here d = elim (cases_eq d c) [
  | inl e ↦ subst (Flows h h' a r) (sym e) here
  | inr n ↦ ap (λ l. codes h d ++ l) (codes_off c d a on n) ∙ append-nil (codes h d)
      ∙ ap (λ (x : Channel). map code_of x.buffer) (sym (same d n)) ∙ ap (λ l. l ++ codes h' d) (sym (codes_off c d r on' n))
]

still : (h : Hub) (d : ℕ) → Flows h h None None d
still h d = append-nil (codes h d)

-- a channel that is there
pub past_end : (cs : List Channel) (c : ℕ) → length cs ≤ c → channel_in cs c ≡ no_channel
past_end [] c l = refl
past_end (x ∷ cs) zero l = absurd (omega arith)
past_end (x ∷ cs) (suc c) l = past_end cs c (omega arith)

with_room : (h : Hub) (c : ℕ) → ltb (length (channel h c).buffer) (channel h c).capacity ≡ true → c < length h.channels
with_room h c t = elim (cases_lt c (length h.channels)) [
  | inl l ↦ l
  | inr g ↦ let z : false ≡ true = subst (λ (x : Channel). ltb (length x.buffer) x.capacity ≡ true) (past_end h.channels c g) t in cc
]

with_element : (h : Hub) (c : ℕ) → some (channel h c).buffer ≡ true → c < length h.channels
with_element h c t = elim (cases_lt c (length h.channels)) [
  | inl l ↦ l
  | inr g ↦ let z : false ≡ true = subst (λ (x : Channel). some x.buffer ≡ true) (past_end h.channels c g) t in cc
]

buffered : (h : Hub) (c : ℕ) (b : List Item) → c < length h.channels → codes (with_buffer c b h) c ≡ map code_of b
buffered h c b l = ap (λ (x : Channel). map code_of x.buffer) (get_or-set_same h.channels c (record (channel h c) { buffer = b }) no_channel l)

beside : (h : Hub) (c : ℕ) (b : List Item) (d : ℕ) → (d ≡ c → ⊥) → channel (with_buffer c b h) d ≡ channel h d
beside h c b d n = get_or-set_other h.channels c d (record (channel h c) { buffer = b }) no_channel n

no_more : {A : Type 0} (xs : List A) → some xs ≡ false → xs ≡ []
no_more [] e = refl
no_more (x ∷ xs) e = cc

-- ---- taking a case
module _ (h : Hub) (s : SettledHub h) (r : ℕ) where
  abbrev Deals : Deal → Type 0
  Deals d = (c : ℕ) → Flows h d.hub (either accepted_of r d.passed d.released) (either received_of r d.passed d.released) c

  -- where a receiver waits the buffer is empty
  hungry : (c : ℕ) (w : Entry Item) (ws : List (Entry Item)) → queued h Receivers c ≡ w ∷ ws → codes h c ≡ []
  hungry c w ws q =
      let at = front_placed Receivers c h.line h.wishes w (ap first q) in
      ap (map code_of) (no_more (channel h c).buffer (receiver_stuck h s w.routine w.case c at.there (at.found ∙ ap Some (receives_there c w.wish at.side))).1)

  send_flows : (c : ℕ) (e e' : Item) → can_go h (Some (wish.Send c e)) ≡ true → (closed : Bool) → (channel h c).closed ≡ closed → (ws : List (Entry Item)) → queued h Receivers c ≡ ws
      → Deals (send_on h c e' closed ws)
  send_flows c e e' g true cl ws q = still h
  send_flows c e e' g false cl [] q =
      let b = (channel h c).buffer ++ (e' ∷ []) in
      let l = with_room h c (room_for h s c e g cl q) in
      spreads h (with_buffer c b h) c (Some (move c e' r)) None refl tt (beside h c b)
      (ap (λ l. codes h c ++ l) (codes_own c e' r) ∙ sym (map-append code_of (channel h c).buffer (e' ∷ [])) ∙ sym (buffered h c b l))
  send_flows c e e' g false cl (w ∷ ws) q =
      spreads h (record h { line = Rattle.waiting.specs.Queues.without w.routine h.line }) c (Some (move c e' r)) (Some (move c e' w.routine)) refl refl (λ d n. refl)
      (ap (λ l. l ++ codes_on c (Some (move c e' r))) (hungry c w ws q) ∙ codes_own c e' r ∙ sym (ap (λ l. l ++ codes h c) (codes_own c e' w.routine) ∙ ap (λ l. code_of e' ∷ l) (hungry c w ws q)))

  receive_flows : (c : ℕ) (es : List Item) → (channel h c).buffer ≡ es → (ws : List (Entry Item)) → Deals (receive_on h c es ws)
  receive_flows c [] b [] = still h
  receive_flows c [] b (w ∷ ws) =
      let o = offered h c w in
      let none : codes h c ≡ [] = ap (map code_of) b in
      spreads h (record h { line = Rattle.waiting.specs.Queues.without w.routine h.line }) c (Some (move c o w.routine)) (Some (move c o r)) refl refl (λ d n. refl)
      (ap (λ l. l ++ codes_on c (Some (move c o w.routine))) none ∙ codes_own c o w.routine ∙ sym (ap (λ l. l ++ codes h c) (codes_own c o r) ∙ ap (λ l. code_of o ∷ l) none))
  receive_flows c (e ∷ es) b [] =
      let l = with_element h c (ap some b) in
      spreads h (with_buffer c es h) c None (Some (move c e r)) tt refl (beside h c es)
      (append-nil (codes h c) ∙ ap (map code_of) b ∙ sym (ap (λ l. l ++ codes (with_buffer c es h) c) (codes_own c e r) ∙ ap (λ l. code_of e ∷ l) (buffered h c es l)))
  receive_flows c (e ∷ es) b (w ∷ ws) =
      let o = offered h c w in
      let l = with_element h c (ap some b) in
      let h' : Hub = with_buffer c (es ++ (o ∷ [])) h in
      spreads h (record h' { line = Rattle.waiting.specs.Queues.without w.routine h.line }) c (Some (move c o w.routine)) (Some (move c e r)) refl refl (beside h c (es ++ (o ∷ [])))
      (ap (λ l. l ++ codes_on c (Some (move c o w.routine))) (ap (map code_of) b)
      ∙ ap (λ l. code_of e ∷ (map code_of es ++ l)) (codes_own c o w.routine)
      ∙ ap (λ l. code_of e ∷ l) (sym (map-append code_of es (o ∷ [])))
      ∙ sym (ap (λ l. l ++ codes h' c) (codes_own c e r) ∙ ap (λ l. code_of e ∷ l) (buffered h c (es ++ (o ∷ [])) l)))

  pub take_flows : (w : Option (Wish Item)) → can_go h w ≡ true → Deals (take h w)
  take_flows None g = still h
  take_flows (Some (wish.Send c e)) g = send_flows c e (as_kind (channel h c).kind e) g (channel h c).closed refl (queued h Receivers c) refl
  take_flows (Some (wish.Receive c)) g = receive_flows c (channel h c).buffer refl (queued h Senders c)

-- ---- a step
abbrev Keeps : Run → Step → Type 0
Keeps run t = (c : ℕ) → held run c ++ codes_on c t.report.accepted ≡ codes_on c t.report.received ++ held t.run c

passing_keeps : (old : Run) (m : Meaning) (r n k : ℕ) (b : Branch) (pk : Option Picked) (t : Taken) (q : Passed)
    → ((c : ℕ) → Flows old.hub t.run.hub t.accepted t.received c) → Keeps old (passing old m r n k b pk t q)
passing_keeps old m r n k b pk t (Sent c e) f = f
passing_keeps old m r n k b pk t (Received c e) f = f
passing_keeps old m r n k b pk t (Drained c) f = f
passing_keeps old m r n k b pk t Broken f = still old.hub

ending_keeps : (run : Run) (m : Meaning) (r : ℕ) (b : Bool) → Keeps run (ending run m r (routine run r) b)
ending_keeps run m r true = still run.hub
ending_keeps run m r false = still run.hub

closing_keeps : (run : Run) (c d : ℕ) → codes run.hub d ++ [] ≡ codes (closing_run c run).hub d
closing_keeps run c d =
    append-nil (codes run.hub d)
    ∙ elim (set_cases run.hub.channels c (record (channel run.hub c) { closed = true }) d) [
      | inl e ↦ ap (λ (x : Channel). map code_of x.buffer) (sym e)
      | inr e ↦ ap (λ i. codes run.hub i) e.0 ∙ ap (λ (x : Channel). map code_of x.buffer) (sym e.1)
    ]
    ∙ ap (λ h. codes h d) (sym (release_all_hub (dismissals run.hub c) (record run { hub = closed_at run.hub c })))

pub step_keeps_elements : StepKeepsElements
step_keeps_elements p run m l s = by_ways p run m (Keeps run) (λ e. still run.hub) (λ r rest e. record {
  resumes = λ k q st. passing_keeps run m r (text_line p (routine run r)) k (branch_at (branches p (routine run r)) k) None (nothing_moved q run) q (still run.hub);
  stays = λ n d after c q l. still run.hub;
  goes = λ n d x after c q l. still run.hub;
  waits = λ n bs c h ch df. still run.hub;
  takes = λ n bs k pk c h t.
      let v = wish_of run.hub.channels (routine run r) (branch_at bs k).exchange in
      let d = take run.hub v in
      passing_keeps run _ r n k (branch_at bs k) pk (taken_by r d run) d.passed
      (λ i. subst (λ g. Flows run.hub g (either accepted_of r d.passed d.released) (either received_of r d.passed d.released) i) (sym (released_hub p run d.released d.hub))
      (take_flows run.hub s.hub r v (taken_goes run m r (routine run r) bs k l t) i));
  closes = λ n c q h d. closing_keeps run c d;
  starts = λ n b q room. still run.hub;
  ends = λ q b. ending_keeps run m r b;
})

-- ---- a list of steps: what holds of each one holds of all
pub chain : {A : Type 0} (x a y b r t z : List A) → x ++ a ≡ r ++ y → y ++ b ≡ t ++ z → x ++ (a ++ b) ≡ (r ++ t) ++ z
chain x a y b r t z e f =
    sym (append_assoc x a b) ∙ ap (λ l. l ++ b) e ∙ append_assoc r y b ∙ ap (λ l. r ++ l) f ∙ sym (append_assoc r t z)

pub keeps_elements : KeepsElements
keeps_elements p zero run m few l s c = append-nil (held run c)
keeps_elements p (suc n) run m few l s c =
    let t = step p run m in
    chain (held run c) (codes_on c t.report.accepted) (held t.run c) (accepted_on c (reports p n t.run t.meaning))
    (codes_on c t.report.received) (received_on c (reports p n t.run t.meaning)) (held (run_after p n t.run t.meaning) c)
    (step_keeps_elements p run m l s c)
    (keeps_elements p n t.run t.meaning few (step_lawful p run m l) (step_settled p run m few l s) c)

pub new_empty : (ds : List Declared) (c : ℕ) → (channel_in (map new_channel ds) c).buffer ≡ []
new_empty [] c = refl
new_empty (d ∷ ds) zero = refl
new_empty (d ∷ ds) (suc c) = new_empty ds c

pub elements_in_order : ElementsInOrder
elements_in_order p n m few l c =
    sym (ap (λ b. map code_of b ++ accepted_on c (reports p n (started p) m)) (new_empty p.channels c))
    ∙ keeps_elements p n (started p) m few l (begins_settled p) c
