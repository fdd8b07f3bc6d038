-- Every step keeps a run orderly.
use Rattle.std.proofs.Common.{◌≡◌, ℕ, ◌+◌, ◌<◌, ◌≤◌, Bool, true, false, cond, List, [], ◌∷◌, ◌++◌, map, length, drop, Some, None, Option, sym, refl, ap, ◌∙◌, subst, arith, length-append, append-nil}
use Rattle.std.specs.List.{AllByRecursion, cons_option}
use Rattle.std.specs.Prelude.{slice_set}
use Rattle.std.proofs.lemmas.List.{length-set, length-map, append_assoc}
use Rattle.std.proofs.lemmas.Bool.Decides.{nat_tests}
use Rattle.waiting.specs.declared.wish.Wish.{Wish}
use Rattle.waiting.specs.declared.wish.Wish.TheVariants as wish
use Rattle.waiting.specs.declared.wish.Side.{Side}
use Rattle.waiting.specs.declared.wish.Side.TheVariants.{Receivers, Senders}
use Rattle.waiting.specs.declared.wish.Entry.{Entry}
use Rattle.waiting.specs.Queues.{Row, places, cases, queue, first, stands, waits, without}
use Rattle.channels.specs.Closes.{both, freed, without_all}
use Rattle.channels.proofs.Freed.{first_freed, freed_more}
use Rattle.routines.specs.declared.item.Item.{Item}
use Rattle.routines.specs.declared.routine.Passed.{Passed}
use Rattle.routines.specs.declared.routine.Passed.TheVariants.{Sent, Received, Drained, Broken}
use Rattle.routines.specs.declared.routine.Release.{Release}
use Rattle.routines.specs.declared.routine.Routine.{Routine}
use Rattle.routines.specs.declared.routine.State.TheVariants.{Ready, Waiting, Released, Ended}
use Rattle.routines.specs.Registers.{in_state, at_line}
use Rattle.routines.specs.Items.{as_kind}
use Rattle.pickers.specs.Meaning.{Meaning}
use Rattle.reports.specs.declared.report.Picked.{Picked}
use Rattle.runs.specs.Runs.{Hub, Parts, Run, routine, channel, queued, text_line, release, release_all, goes_on}
use Rattle.runs.specs.Cases.{Branch, wish_of}
use Rattle.runs.specs.Taking.{Deal, take, send_on, receive_on, dismissed, leaving, dismissals, closed_at}
use Rattle.routines.specs.Registers.{born}
use Rattle.runs.specs.Steps.{Taken, taken_by, nothing_moved, released_run, written_by, passing, branch_at, branches, waiting, with_born, ended, ending}
use Rattle.runs.specs.Orderly.{Orderly, OrderlyRun}
use Rattle.run_laws.specs.Orderly.{BeginsOrderly, StaysOrderly}
use Rattle.run_laws.proofs.Ways.{Ways, by_ways}
use Rattle.run_laws.proofs.Counts.{times, times-append, times-without, times-own, counted, orderly, times_length, times_waits}

-- ---- what happens to the two lists
-- who was at the front takes its place at the end
pub rotates : (n r : ℕ) (rest line : List ℕ) → Orderly n (r ∷ rest) line → Orderly n (rest ++ r ∷ []) line
rotates n r rest line o = orderly n (rest ++ r ∷ []) line o.few (λ q. omega (arith, counted n (r ∷ rest) line o q, times-append q rest (r ∷ [])))

-- who was in the line has a turn
pub joins_turns : (n w : ℕ) (turns line : List ℕ) → 1 ≤ times w line → Orderly n turns line → Orderly n (turns ++ w ∷ []) (without w line)
joins_turns n w turns line there o =
    orderly n (turns ++ w ∷ []) (without w line) o.few
    (λ q. grind (arith, nat_tests, counted n turns line o q, times-append q turns (w ∷ []), times-without q w line))

-- who was at the front waits
pub joins_line : (n r : ℕ) (rest line : List ℕ) → Orderly n (r ∷ rest) line → Orderly n rest (line ++ r ∷ [])
joins_line n r rest line o = orderly n rest (line ++ r ∷ []) o.few (λ q. omega (arith, counted n (r ∷ rest) line o q, times-append q line (r ∷ [])))

-- who was at the front ends
pub drops_out : (n r : ℕ) (rest line : List ℕ) → Orderly n (r ∷ rest) line → Orderly n rest line
drops_out n r rest line o = orderly n rest line o.few (λ q. omega (arith, counted n (r ∷ rest) line o q))

-- a new number has a turn
pub one_more : (n : ℕ) (turns line : List ℕ) → n < 64 → Orderly n turns line → Orderly (n + 1) (turns ++ n ∷ []) line
one_more n turns line few o =
    orderly (n + 1) (turns ++ n ∷ []) line (omega arith)
    (λ q. grind (arith, nat_tests, counted n turns line o q, times-append q turns (n ∷ [])))

-- where somebody waits, the run queue has room
pub room_for_turn : (n w : ℕ) (turns line : List ℕ) → 1 ≤ times w line → Orderly n turns line → length turns < 64
room_for_turn n w turns line there o = omega (arith, o.few, o.count, times_length w line)

-- ---- who stands in a queue waits
pub all_append : {A : Type 0} (P : A → Type 0) (xs ys : List A) → AllByRecursion P xs → AllByRecursion P ys → AllByRecursion P (xs ++ ys)
all_append P [] ys h k = k
all_append P (x ∷ xs) ys h k = (h.0, all_append P xs ys h.1 k)

pub all_first : {A : Type 0} (P : A → Type 0) (xs : List A) (x : A) → AllByRecursion P xs → first xs ≡ Some x → P x
all_first P [] x h e = cc
all_first P (y ∷ xs) x h e = let q : y ≡ x = cc in subst P q h.0

module _ {X : Type 0} (s : Side) (c : ℕ) where
  of_one : (P : ℕ → Type 0) (r k : ℕ) (ws : Row X) → P r → AllByRecursion (λ (e : Entry X). P e.routine) (places s c r k ws)
  of_one P r k [] h = tt
  of_one P r k (None ∷ ws) h = of_one P r (k + 1) ws h
  of_one P r k (Some w ∷ ws) h = go (of_one P r (k + 1) ws h) (stands s c w)
    where
      go : AllByRecursion (λ (e : Entry X). P e.routine) (places s c r (k + 1) ws) → (b : Bool)
          → AllByRecursion (λ (e : Entry X). P e.routine) (cons_option (cond b (Some (record { routine = r; case = k; wish = w })) None) (places s c r (k + 1) ws))
      go ih true = (h, ih)
      go ih false = ih

  -- what holds of all in the line holds of the routine of every entry
  pub of_queue : (P : ℕ → Type 0) (line : List ℕ) (t : List (Row X)) → ((q : ℕ) → 1 ≤ times q line → P q) → AllByRecursion (λ (e : Entry X). P e.routine) (queue s c line t)
  of_queue P [] t h = tt
  of_queue P (q ∷ line) t h =
      all_append (λ (e : Entry X). P e.routine) (places s c q 0 (cases q t)) (queue s c line t)
      (of_one P q 0 (cases q t) (h q (omega (arith, times-own q line))))
      (of_queue P line t (λ r l. h r (omega arith)))

  pub front_waits : (line : List ℕ) (t : List (Row X)) (e : Entry X) → first (queue s c line t) ≡ Some e → 1 ≤ times e.routine line
  front_waits line t e h = all_first (λ (f : Entry X). 1 ≤ times f.routine line) (queue s c line t) e (of_queue (λ q. 1 ≤ times q line) line t (λ q l. l)) h

-- the routine at the front of a queue stands in the line, and then there is room for its turn
pub front_in_line : {X : Type 0} (s : Side) (c : ℕ) (line : List ℕ) (t : List (Row X)) (e : Entry X) → first (queue s c line t) ≡ Some e → waits e.routine line ≡ true
front_in_line s c line t e h = times_waits e.routine line (front_waits s c line t e h)

pub front_has_room : {X : Type 0} (n : ℕ) (turns : List ℕ) (s : Side) (c : ℕ) (line : List ℕ) (t : List (Row X)) (e : Entry X) → first (queue s c line t) ≡ Some e → Orderly n turns line → length turns < 64
front_has_room n turns s c line t e h o = room_for_turn n e.routine turns line (front_waits s c line t e h) o

-- those whom a close frees were in the line once, and are in it no more
abbrev pub names : {X : Type 0} → List (Entry X) → List ℕ
names es = map (λ e. e.routine) es

module _ {X : Type 0} (c : ℕ) (table : List (Row X)) where
  pub both_wait : (line : List ℕ) (e : Entry X) → first (both c line table) ≡ Some e → 1 ≤ times e.routine line
  both_wait line e h =
      all_first (λ (f : Entry X). 1 ≤ times f.routine line) (both c line table) e
      (all_append (λ (f : Entry X). 1 ≤ times f.routine line) (queue Receivers c line table) (queue Senders c line table)
      (of_queue Receivers c (λ q. 1 ≤ times q line) line table (λ q l. l)) (of_queue Senders c (λ q. 1 ≤ times q line) line table (λ q l. l)))
      h

  pub freed_counts : (es : List (Entry X)) (line : List ℕ) → freed c line table ≡ es → (q : ℕ) → times q (names es) + times q (without_all es line) ≤ times q line
  freed_counts [] line h q = omega arith
  freed_counts (e ∷ es) line h q =
      let front : first (both c line table) ≡ Some e = sym (first_freed c line table) ∙ ap first h in
      let more = freed_more c line table e front in
      let there = both_wait line e front in
      let ih = freed_counts es (without e.routine line) (cc) q in
      grind (arith, nat_tests, ih, there, times-without q e.routine line)

pub frees_orderly : {X : Type 0} (n c : ℕ) (table : List (Row X)) (turns line : List ℕ) → Orderly n turns line
    → Orderly n (turns ++ names (freed c line table)) (without_all (freed c line table) line)
frees_orderly n c table turns line o =
    orderly n (turns ++ names (freed c line table)) (without_all (freed c line table) line) o.few
    (λ q. omega (arith, counted n turns line o q, times-append q turns (names (freed c line table)), freed_counts c table (freed c line table) line refl q))

-- all whom a close frees stood in the line, and there is room for their turns
each_counted : {X : Type 0} (es : List (Entry X)) (line : List ℕ) → ((q : ℕ) → times q (names es) ≤ times q line) → AllByRecursion (λ (e : Entry X). 1 ≤ times e.routine line) es
each_counted [] line h = tt
each_counted (e ∷ es) line h = (omega (arith, h e.routine, times-own e.routine (names es)), each_counted es line (λ q. omega (arith, h q)))

pub freed_wait : {X : Type 0} (c : ℕ) (table : List (Row X)) (line : List ℕ) → AllByRecursion (λ (e : Entry X). 1 ≤ times e.routine line) (freed c line table)
freed_wait c table line = each_counted (freed c line table) line (λ q. omega (arith, freed_counts c table (freed c line table) line refl q))

pub room_to_close : {X : Type 0} (n c : ℕ) (table : List (Row X)) (turns line : List ℕ) → Orderly n turns line → length turns + length (freed c line table) ≤ 64
room_to_close n c table turns line o =
    let k = frees_orderly n c table turns line o in
    omega (arith, k.few, k.count, length-append turns (names (freed c line table)), length-map (freed c line table) (λ e. e.routine))

-- below 64 routines there is room for the turn of one more
pub room_to_start : (n : ℕ) (turns line : List ℕ) → n < 64 → Orderly n turns line → length turns < 64
room_to_start n turns line few o = omega (arith, o.count)

-- ---- runs
abbrev pub OrderlyAt : List Routine → List ℕ → List ℕ → Type 0
OrderlyAt xs turns line = Orderly (length xs) turns line

set_orderly : (xs : List Routine) (r : ℕ) (x : Routine) (turns line : List ℕ) → OrderlyAt xs turns line → OrderlyAt (slice_set xs r x) turns line
set_orderly xs r x turns line o = subst (λ n. Orderly n turns line) (sym (length-set xs r x)) o

-- a routine whose turn it is stands at the front
abbrev pub Fronts : {H : Type 0} → ℕ → Parts H → Type 0
Fronts r run = (rest : List ℕ) × (run.turns ≡ r ∷ rest)

pub goes_on_orderly : (r : ℕ) (x : Routine) (run : Run) → Fronts r run → OrderlyRun run → OrderlyRun (goes_on r x run)
goes_on_orderly r x run f o =
    set_orderly run.routines r (in_state Ready x) (drop 1 run.turns ++ r ∷ []) run.hub.line
    (subst (λ ts. OrderlyAt run.routines (drop 1 ts ++ r ∷ []) run.hub.line) (sym f.1)
    (rotates (length run.routines) r f.0 run.hub.line (subst (λ ts. OrderlyAt run.routines ts run.hub.line) f.1 o)))

pub waiting_orderly : (r : ℕ) (x : Routine) (bs : List Branch) (run : Run) → Fronts r run → OrderlyRun run → OrderlyRun (waiting r x bs run)
waiting_orderly r x bs run f o =
    set_orderly run.routines r (in_state Waiting x) (drop 1 run.turns) (run.hub.line ++ r ∷ [])
    (subst (λ ts. OrderlyAt run.routines (drop 1 ts) (run.hub.line ++ r ∷ [])) (sym f.1)
    (joins_line (length run.routines) r f.0 run.hub.line (subst (λ ts. OrderlyAt run.routines ts run.hub.line) f.1 o)))

pub ended_orderly : (r : ℕ) (x : Routine) (run : Run) → Fronts r run → OrderlyRun run → OrderlyRun (ended r x run)
ended_orderly r x run f o =
    set_orderly run.routines r (in_state Ended x) (drop 1 run.turns) run.hub.line
    (subst (λ ts. OrderlyAt run.routines (drop 1 ts) run.hub.line) (sym f.1)
    (drops_out (length run.routines) r f.0 run.hub.line (subst (λ ts. OrderlyAt run.routines ts run.hub.line) f.1 o)))

pub with_born_orderly : (b : ℕ) (x : Routine) (run : Run) → length run.routines < 64 → OrderlyRun run → OrderlyRun (with_born b x run)
with_born_orderly b x run few o =
    subst (λ n. Orderly n (run.turns ++ length run.routines ∷ []) run.hub.line) (sym (length-append run.routines (born b x ∷ [])))
    (one_more (length run.routines) run.turns run.hub.line few o)

-- one who waited is released, and has left the line
pub release_orderly : (w : Release) (run : Run) (h : Hub) → 1 ≤ times w.routine run.hub.line → h.line ≡ without w.routine run.hub.line → OrderlyRun run
    → OrderlyRun (release w (record run { hub = h }))
release_orderly w run h there e o =
    set_orderly run.routines w.routine (in_state (Released w.case w.passed) (routine run w.routine)) (run.turns ++ w.routine ∷ []) h.line
    (subst (OrderlyAt run.routines (run.turns ++ w.routine ∷ [])) (sym e) (joins_turns (length run.routines) w.routine run.turns run.hub.line there o))

-- ---- a close
abbrev pub released_names : List Release → List ℕ
released_names ws = map (λ w. w.routine) ws

pub release_all_turns : (ws : List Release) (run : Run) → (release_all ws run).turns ≡ run.turns ++ released_names ws
release_all_turns [] run = sym (append-nil run.turns)
release_all_turns (w ∷ ws) run = release_all_turns ws (release w run) ∙ append_assoc run.turns (w.routine ∷ []) (released_names ws)

pub release_all_hub : (ws : List Release) (run : Run) → (release_all ws run).hub ≡ run.hub
release_all_hub [] run = refl
release_all_hub (w ∷ ws) run = release_all_hub ws (release w run)

pub release_all_length : (ws : List Release) (run : Run) → length (release_all ws run).routines ≡ length run.routines
release_all_length [] run = refl
release_all_length (w ∷ ws) run = release_all_length ws (release w run) ∙ length-set run.routines w.routine (in_state (Released w.case w.passed) (routine run w.routine))

pub dismissed_names : (c : ℕ) (es : List (Entry Item)) → released_names (map (λ w. dismissed w c w.wish) es) ≡ names es
dismissed_names c [] = refl
dismissed_names c (e ∷ es) = go (dismissed_names c es) e.wish
  where
    go : released_names (map (λ w. dismissed w c w.wish) es) ≡ names es → (v : Wish Item) → (dismissed e c v).routine ∷ released_names (map (λ w. dismissed w c w.wish) es) ≡ e.routine ∷ names es
    go ih (wish.Send d x) = ap (λ l. e.routine ∷ l) ih
    go ih (wish.Receive d) = ap (λ l. e.routine ∷ l) ih

-- the run when a close has released all who wait there
abbrev pub closing_run : ℕ → Run → Run
closing_run c run = release_all (dismissals run.hub c) (record run { hub = closed_at run.hub c })

pub closing_turns : (c : ℕ) (run : Run) → (closing_run c run).turns ≡ run.turns ++ names (leaving run.hub c)
closing_turns c run = release_all_turns (dismissals run.hub c) (record run { hub = closed_at run.hub c }) ∙ ap (λ l. run.turns ++ l) (dismissed_names c (leaving run.hub c))

pub closing_orderly : (c : ℕ) (run : Run) → OrderlyRun run → OrderlyRun (closing_run c run)
closing_orderly c run o =
    let ws = dismissals run.hub c in
    let old : Run = record run { hub = closed_at run.hub c } in
    let fine = frees_orderly (length run.routines) c run.hub.wishes run.turns run.hub.line o in
    subst (λ h. OrderlyAt (release_all ws old).routines (release_all ws old).turns h.line) (sym (release_all_hub ws old))
    (subst (λ ts. OrderlyAt (release_all ws old).routines ts (closed_at run.hub c).line) (sym (closing_turns c run))
    (subst (λ n. Orderly n (run.turns ++ names (leaving run.hub c)) (closed_at run.hub c).line) (sym (release_all_length ws old)) fine))

-- ---- taking a case
-- who is released was in the line, and has left it; with nobody released the line stays
abbrev pub LineFits : List ℕ → Option Release → List ℕ → Type 0
LineFits line None line' = line' ≡ line
LineFits line (Some w) line' = (1 ≤ times w.routine line) × (line' ≡ without w.routine line)

module _ (h : Hub) (c : ℕ) where
  send_line : (e : Item) (closed : Bool) (ws : List (Entry Item)) → queued h Receivers c ≡ ws → let d : Deal = send_on h c e closed ws in LineFits h.line d.released d.hub.line
  send_line e true ws q = refl
  send_line e false [] q = refl
  send_line e false (w ∷ ws) q = (front_waits Receivers c h.line h.wishes w (ap first q), refl)

  receive_line : (es : List Item) (ws : List (Entry Item)) → queued h Senders c ≡ ws → let d : Deal = receive_on h c es ws in LineFits h.line d.released d.hub.line
  receive_line [] [] q = refl
  receive_line [] (w ∷ ws) q = (front_waits Senders c h.line h.wishes w (ap first q), refl)
  receive_line (e ∷ es) [] q = refl
  receive_line (e ∷ es) (w ∷ ws) q = (front_waits Senders c h.line h.wishes w (ap first q), refl)

pub take_line : (h : Hub) (w : Option (Wish Item)) → LineFits h.line (take h w).released (take h w).hub.line
take_line h None = refl
take_line h (Some (wish.Send c e)) = send_line h c (as_kind (channel h c).kind e) (channel h c).closed (queued h Receivers c) refl
take_line h (Some (wish.Receive c)) = receive_line h c (channel h c).buffer (queued h Senders c) refl

-- who is released by a case that is taken was in the line
pub released_waits : (h : Hub) (v : Option (Wish Item)) (w : Release) → (take h v).released ≡ Some w → 1 ≤ times w.routine h.line
released_waits h v w e = (subst (λ o. LineFits h.line o (take h v).hub.line) e (take_line h v)).0

pub released_run_orderly : (run : Run) (o : Option Release) (h : Hub) → LineFits run.hub.line o h.line → OrderlyRun run → OrderlyRun (released_run o (record run { hub = h }))
released_run_orderly run None h f o = subst (OrderlyAt run.routines run.turns) (sym f) o
released_run_orderly run (Some w) h f o = release_orderly w run h f.0 f.1 o

pub released_run_fronts : (r : ℕ) (o : Option Release) (run : Run) → Fronts r run → Fronts r (released_run o run)
released_run_fronts r None run f = f
released_run_fronts r (Some w) run f = (f.0 ++ w.routine ∷ [], ap (λ l. l ++ w.routine ∷ []) f.1)

-- the routine when it has passed a case
abbrev pub past : ℕ → Branch → Taken → Routine
past r b t = at_line b.target (written_by b.exchange t.passed (routine t.run r))

passing_orderly : (old : Run) (m : Meaning) (r n k : ℕ) (b : Branch) (pk : Option Picked) (t : Taken) (q : Passed)
    → OrderlyRun old → OrderlyRun t.run → Fronts r t.run → OrderlyRun (passing old m r n k b pk t q).run
passing_orderly old m r n k b pk t (Sent c e) o o' f = goes_on_orderly r (past r b t) t.run f o'
passing_orderly old m r n k b pk t (Received c e) o o' f = goes_on_orderly r (past r b t) t.run f o'
passing_orderly old m r n k b pk t (Drained c) o o' f = goes_on_orderly r (past r b t) t.run f o'
passing_orderly old m r n k b pk t Broken o o' f = o

-- ---- a step
pub step_orderly : StaysOrderly
step_orderly p run m o = by_ways p run m (λ s. OrderlyRun s.run) (λ e. o) ways
  where
    ways : (r : ℕ) (rest : List ℕ) → run.turns ≡ r ∷ rest → Ways p run m (λ s. OrderlyRun s.run) r
    ways r rest e = let f : Fronts r run = (rest, e) in record {
      resumes = λ k q s. passing_orderly run m r (text_line p (routine run r)) k (branch_at (branches p (routine run r)) k) None (nothing_moved q run) q o o f;
      stays = λ n d after c s l. o;
      goes = λ n d x after c s l. goes_on_orderly r x run f o;
      waits = λ n bs c h ch df. waiting_orderly r (routine run r) bs run f o;
      takes = λ n bs k pk c h t.
          let d = take run.hub (wish_of run.hub.channels (routine run r) (branch_at bs k).exchange) in
          passing_orderly run _ r n k (branch_at bs k) pk (taken_by r d run) d.passed o
          (released_run_orderly run d.released d.hub (take_line run.hub (wish_of run.hub.channels (routine run r) (branch_at bs k).exchange)) o)
          (released_run_fronts r d.released (record run { hub = d.hub }) f);
      closes = λ n c s h. goes_on_orderly r (at_line ((routine run r).line + 1) (routine run r)) (closing_run c run)
          (rest ++ names (leaving run.hub c), closing_turns c run ∙ ap (λ l. l ++ names (leaving run.hub c)) e)
          (closing_orderly c run o);
      starts = λ n b s few. goes_on_orderly r (at_line ((routine run r).line + 1) (routine run r)) (with_born b (routine run r) run)
          (rest ++ length run.routines ∷ [], ap (λ l. l ++ length run.routines ∷ []) e)
          (with_born_orderly b (routine run r) run few o);
      ends = λ s b. ending_orderly r b f;
    }
      where
        ending_orderly : (r : ℕ) (b : Bool) → Fronts r run → OrderlyRun (ending run m r (routine run r) b).run
        ending_orderly r true f = ended_orderly r (routine run r) run f o
        ending_orderly r false f = ended_orderly r (routine run r) run f o

pub begins_orderly : BeginsOrderly
begins_orderly p = orderly 1 (0 ∷ []) [] (omega arith) (λ q. grind (arith, nat_tests))
