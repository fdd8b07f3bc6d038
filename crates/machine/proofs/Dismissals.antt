-- A close: those whom it releases, one by one, and that the step was made.
use Rattle.std.proofs.Common.{◌≡◌, ℕ, zero, suc, ◌+◌, ◌<◌, ◌≤◌, Bool, true, false, cond, leb, ltb, List, [], ◌∷◌, ◌++◌, map, length, take, drop, get_or, arith, refl, sym, ap, ◌∙◌, subst, length-append}
use Rattle.std.specs.Prelude.{slice_set}
use Rattle.std.specs.List.{All, AllByRecursion}
use Rattle.std.proofs.lemmas.List.{map_more, get_or_default, append_assoc, length-set, length-map}
use Rattle.std.proofs.lemmas.List.Elements.{All-get_or, All-from_recursion, recursion_from_All}
use Rattle.std.proofs.lemmas.Bool.Decides.{nat_tests}
use Rattle.elements.specs.declared.value.Value.{Value}
use Rattle.elements.specs.declared.handle.Handle.{Handle}
use Rattle.waiting.specs.declared.wish.Wish.{Wish}
use Rattle.waiting.specs.declared.wish.Wish.TheVariants as wish
use Rattle.waiting.specs.declared.wish.Entry.{Entry}
use Rattle.waiting.specs.Queues.{Row}
use Rattle.channels.specs.Closes.{freed, without_all}
use Rattle.channels.specs.Seen.{shut}
use Rattle.pickers.specs.Meaning.{Meaning}
use Rattle.reports.specs.declared.report.Deed.TheVariants.{Closes}
use Rattle.reports.specs.declared.report.Report.{Report}
use Rattle.routines.specs.declared.item.Item.{Item}
use Rattle.routines.specs.declared.routine.Release.{Release}
use Rattle.routines.specs.declared.routine.Routine.{Routine}
use Rattle.routines.specs.declared.routine.State.TheVariants.{Released}
use Rattle.routines.specs.Registers.{in_state, at_line}
use Rattle.runs.specs.Runs.{Parts, Run, no_channel, nobody, routine, release, release_all, goes_on}
use Rattle.runs.specs.Taking.{dismissed, closed_at}
use Rattle.runs.specs.Steps.{Step, close_channel}
use Rattle.runs.specs.Orderly.{Orderly}
use Rattle.run_laws.proofs.Orderly.{names, frees_orderly}
use Rattle.hub.specs.declared.port.Port.{Port}
use Rattle.hub.specs.Boards.{Board, seen, seen_port}
use Rattle.hub.specs.Deals.{port, shut_in, may_close, leaving_from, board_closed}
use Rattle.machine.specs.Memory.{Front, Made, marked, seen_run, told, run_of, dismissed_all, closing_memory}
use Rattle.machine.proofs.Makes.{marked_same}

-- one more is released
pub release_more : {H : Type 0} (ws : List Release) (w : Release) (run : Parts H) → release_all (ws ++ w ∷ []) run ≡ release w (release_all ws run)
release_more [] w run = refl
release_more (v ∷ ws) w run = release_more ws w (release v run)

pub dismissed_routine : (e : Entry Item) (c : ℕ) (v : Wish Item) → (dismissed e c v).routine ≡ e.routine
dismissed_routine e c (wish.Send d x) = refl
dismissed_routine e c (wish.Receive d) = refl

module _ (c : ℕ) (es : List (Entry Item)) (k : ℕ) (h : Board) (over : Bool) (xs₀ : List Routine) (ts₀ : List ℕ) (xs : List Routine) (ts : List ℕ) where
  -- one more of a list is released
  pub one_dismissed : (d : Entry Item) (x : Routine) (w : Release) (ts' : List ℕ) → k < length es → All (λ e. e.routine < length xs₀) es → length xs ≡ length xs₀
      → w ≡ dismissed (get_or es k d) c (get_or es k d).wish → ts' ≡ ts ++ w.routine ∷ []
      → run_of xs h ts over ≡ release_all (dismissed_all c (take k es)) (run_of xs₀ h ts₀ over)
      → run_of (slice_set xs w.routine (in_state (Released w.case w.passed) (get_or xs w.routine x))) h ts' over ≡ release_all (dismissed_all c (take (k + 1) es)) (run_of xs₀ h ts₀ over)
  one_dismissed d x w ts' l there many is turns so_far =
      let low : w.routine < length xs = rw (ap (λ v. v.routine) is, dismissed_routine (get_or es k d) c (get_or es k d).wish, many) (All-get_or (λ e. e.routine < length xs₀) es k d l there) in
      let same = ap (λ y. run_of (slice_set xs w.routine (in_state (Released w.case w.passed) y)) h ts' over) (get_or_default xs w.routine x nobody low) in
      let joined : run_of (slice_set xs w.routine (in_state (Released w.case w.passed) (get_or xs w.routine nobody))) h ts' over ≡ release w (run_of xs h ts over) = ap (λ t. run_of (slice_set xs w.routine (in_state (Released w.case w.passed) (get_or xs w.routine nobody))) h t over) turns in
      let more : release_all (dismissed_all c (take (k + 1) es)) (run_of xs₀ h ts₀ over) ≡ release (dismissed (get_or es k d) c (get_or es k d).wish) (release_all (dismissed_all c (take k es)) (run_of xs₀ h ts₀ over)) =
      rw (map_more (λ w. dismissed w c w.wish) es k d l) (release_more (dismissed_all c (take k es)) _ _) in
      same ∙ joined ∙ ap (λ v. release v (run_of xs h ts over)) is ∙ ap (release (dismissed (get_or es k d) c (get_or es k d).wish)) so_far ∙ sym more

-- ---- the channel may be closed, and there is room for all who wait there
pub closes : (c room : ℕ) (b : Board) → c < length b.ports → (port b.ports c).channel.closed ≡ false → 64 ≤ room → may_close c room b ≡ true
closes c room b there opened wide =
    let t : ltb c (length b.ports) ≡ true = grind (arith, nat_tests) in
    let w : leb 64 room ≡ true = grind (arith, nat_tests) in
    rw (t, opened, w) refl

all_right : (P : ℕ → Type 0) (xs ys : List ℕ) → AllByRecursion P (xs ++ ys) → AllByRecursion P ys
all_right P [] ys h = h
all_right P (x ∷ xs) ys h = all_right P xs ys h.1

all_named : (P : ℕ → Type 0) (es : List (Entry Item)) (ys : List ℕ) → AllByRecursion P (names es ++ ys) → AllByRecursion (λ (e : Entry Item). P e.routine) es
all_named P [] ys h = tt
all_named P (e ∷ es) ys h = (h.0, all_named P es ys h.1)

module _ (n c : ℕ) (table : List (Row Item)) (turns line : List ℕ) (o : Orderly n turns line) where
  abbrev leavers : List (Entry Item)
  leavers = freed c line table

  stands : Orderly n (turns ++ names leavers) (without_all leavers line)
  stands = frees_orderly n c table turns line o

  -- they are routines of the run
  pub freed_there : All (λ e. e.routine < n) leavers
  freed_there =
      let all = recursion_from_All (λ r. r < n) ((turns ++ names leavers) ++ without_all leavers line) stands.there in
      let behind : AllByRecursion (λ r. r < n) (turns ++ (names leavers ++ without_all leavers line)) = subst (AllByRecursion (λ r. r < n)) (append_assoc turns (names leavers) (without_all leavers line)) all in
      All-from_recursion (λ e. e.routine < n) leavers (all_named (λ r. r < n) leavers (without_all leavers line) (all_right (λ r. r < n) turns (names leavers ++ without_all leavers line) behind))

  -- and have room in the run queue
  pub freed_fit : length turns + length leavers ≤ 64
  freed_fit = omega (arith, stands.few, stands.count, length-append turns (names leavers), length-map leavers (λ (e : Entry Item). e.routine))

-- what a close of channel c in run leaves: who was freed, and the board
pub record Freed (c : ℕ) (run : Parts Board) (es : List (Entry Item)) (b : Board) : Type 0 where
  pub noted : es ≡ leaving_from c run.hub
  pub board : b ≡ board_closed c run.hub
  pub there : All (λ e. e.routine < length run.routines) es
  pub fit : length run.turns + length es ≤ 64

pub frees : (c room : ℕ) (run now : Parts Board) (before es : List (Entry Item)) (b : Board) → run ≡ now
    → Orderly (length now.routines) now.turns now.hub.line → c < length now.hub.ports → (port now.hub.ports c).channel.closed ≡ false
    → 64 ≤ room → before ≡ [] → es ≡ cond (may_close c room run.hub) (before ++ leaving_from c run.hub) before
    → b ≡ cond (may_close c room run.hub) (board_closed c run.hub) run.hub → Freed c run es b
frees c room run now before es b same orderly there opened wide empty items board =
    let o = subst (λ m. Orderly (length m.routines) m.turns m.hub.line) (sym same) orderly in
    let may = closes c room run.hub (subst (λ m. c < length m.hub.ports) (sym same) there) (subst (λ m. (port m.hub.ports c).channel.closed ≡ false) (sym same) opened) wide in
    let noted : es ≡ leaving_from c run.hub = items ∙ rw (may, empty) refl in
    record {
      noted = noted;
      board = board ∙ rw may refl;
      there = subst (All (λ e. e.routine < length run.routines)) (sym noted) (freed_there (length run.routines) c run.hub.wishes run.turns run.hub.line o);
      fit = subst (λ xs. length run.turns + length xs ≤ 64) (sym noted) (freed_fit (length run.routines) c run.hub.wishes run.turns run.hub.line o);
    }

-- memory when they are released
pub dismisses : (c : ℕ) (run now after : Parts Board) (es fs : List (Entry Item)) (b : Board) (xs : List Routine) → Freed c run es b → run ≡ now → fs ≡ es → xs ≡ run.routines
    → after ≡ release_all (dismissed_all c fs) (run_of xs b run.turns run.over) → after ≡ closing_memory c now
dismisses c run now after es fs b xs f same noted routines is =
    is ∙ ap (λ gs. release_all (dismissed_all c gs) (run_of xs b run.turns run.over)) (noted ∙ f.noted)
    ∙ ap (λ ys. release_all (dismissed_all c (leaving_from c run.hub)) (run_of ys b run.turns run.over)) routines
    ∙ ap (λ a. release_all (dismissed_all c (leaving_from c run.hub)) (run_of run.routines a run.turns run.over)) f.board
    ∙ ap (closing_memory c) same

-- ---- whose turn it is stays
module _ {H : Type 0} (r : ℕ) where
  release_front : (w : Release) (run : Parts H) → Front r run → Front r (release w run)
  release_front w run f =
      let same = length-set run.routines w.routine (in_state (Released w.case w.passed) (routine run w.routine)) in
      record {
        first = subst (λ ts. ts ++ w.routine ∷ [] ≡ r ∷ drop 1 (ts ++ w.routine ∷ [])) (sym f.first) refl;
        there = omega (arith, same, f.there);
        few = omega (arith, same, f.few);
      }

  pub release_all_front : (ws : List Release) (run : Parts H) → Front r run → Front r (release_all ws run)
  release_all_front [] run f = f
  release_all_front (w ∷ ws) run f = release_all_front ws (release w run) (release_front w run f)

pub closing_front : (r c : ℕ) (run : Parts Board) → Front r run → Front r (closing_memory c run)
closing_front r c run f =
    release_all_front r (dismissed_all c (leaving_from c run.hub)) (record run { hub = board_closed c run.hub }) (record { first = f.first; there = f.there; few = f.few })

-- ---- that the step was made
seen_dismissed : (ws : List Release) (x : Parts Board) (vs : List Value) (hs : List Handle) → seen_run (release_all ws x) vs hs ≡ release_all ws (seen_run x vs hs)
seen_dismissed [] x vs hs = refl
seen_dismissed (w ∷ ws) x vs hs = seen_dismissed ws (release w x) vs hs

dismissed_hub : (ws : List Release) (x : Parts Board) → (release_all ws x).hub ≡ x.hub
dismissed_hub [] x = refl
dismissed_hub (w ∷ ws) x = dismissed_hub ws (release w x)

module _ (vs : List Value) (hs : List Handle) where
  -- the closed channel is shut, and no other
  shut_marks : (c : ℕ) (ps : List Port) → marked (map (seen_port vs hs) (shut_in c ps)) ps ≡ shut_in c ps
  shut_marks c [] = refl
  shut_marks zero (p ∷ ps) = ap (λ qs. record p { channel = shut p.channel } ∷ qs) (marked_same vs hs ps)
  shut_marks (suc c) (p ∷ ps) = ap (λ qs. p ∷ qs) (shut_marks c ps)

  seen_shut : (c : ℕ) (ps : List Port) → map (seen_port vs hs) (shut_in c ps) ≡ slice_set (map (seen_port vs hs) ps) c (record (get_or (map (seen_port vs hs) ps) c no_channel) { closed = true })
  seen_shut c [] = refl
  seen_shut zero (p ∷ ps) = refl
  seen_shut (suc c) (p ∷ ps) = ap (λ cs. seen_port vs hs p ∷ cs) (seen_shut c ps)

module _ (m : Meaning) (r p c : ℕ) (x : Routine) (answer : Report) (old new : Parts Board) (vs : List Value) (hs : List Handle) where
  abbrev ws : List Release
  ws = dismissed_all c (leaving_from c old.hub)

  abbrev mid : Parts Board
  mid = record old { hub = board_closed c old.hub }

  abbrev s : Step
  s = close_channel (seen_run old vs hs) m r p x c false

  seen_after : seen_run (closing_memory c old) vs hs ≡ release_all ws (record (seen_run old vs hs) { hub = closed_at (seen old.hub vs hs) c })
  seen_after =
      seen_dismissed ws mid vs hs
      ∙ ap (λ cs. release_all ws (record (seen_run mid vs hs) { hub = record (seen mid.hub vs hs) { channels = cs } })) (seen_shut vs hs c old.hub.ports)

  pub shut_made : answer ≡ told r p (Closes c (length (leaving_from c old.hub))) → new ≡ goes_on r (at_line (x.line + 1) x) (closing_memory c old) → Made s answer old new vs vs hs hs
  shut_made report memory =
      let y = at_line (x.line + 1) x in
      let ran : seen_run new vs hs ≡ s.run = ap (λ n. seen_run n vs hs) memory ∙ ap (goes_on r y) seen_after in
      let ports : new.hub.ports ≡ shut_in c old.hub.ports = ap (λ n. n.hub.ports) memory ∙ ap (λ b. b.ports) (dismissed_hub ws mid) in
      let marks : marked (map (seen_port vs hs) new.hub.ports) old.hub.ports ≡ new.hub.ports = subst (λ ps. marked (map (seen_port vs hs) ps) old.hub.ports ≡ ps) (sym ports) (shut_marks vs hs c old.hub.ports) in
      let P : Run → Type 0 = λ q. new ≡ record { routines = q.routines; hub = record { ports = marked q.hub.channels old.hub.ports; line = q.hub.line; wishes = q.hub.wishes }; turns = q.turns; over = q.over } in
      record {
        report = report ∙ ap (λ n. told r p (Closes c n)) (sym (length-map (leaving_from c old.hub) (λ w. dismissed w c w.wish)));
        memory = subst P ran (ap (λ ps. record new { hub = record new.hub { ports = ps } }) (sym marks));
        run = ran;
        values = refl;
        handles = refl;
      }
