-- A schedule made of the answers that a picker gave gives the same answers.
use Rattle.std.proofs.Common.{◌≡◌, ℕ, Bool, true, false, cond, eqb, List, [], ◌∷◌, is_some, Some, None, Option, refl, ap, ◌∙◌}
use Rattle.std.proofs.lemmas.Bool.{and_from, and_parts, eq-eqb, eqb-true, not-true, not_from_false}
use Rattle.pickers.specs.declared.picker.Query.{Query}
use Rattle.pickers.specs.declared.schedule.Pick.{Pick}
use Rattle.pickers.specs.declared.choosing.Choice.{Choice}
use Rattle.pickers.specs.declared.choosing.Choice.TheVariants.{Asked}
use Rattle.pickers.specs.Sets.{has, cases, first}
use Rattle.pickers.specs.Meaning.{Meaning, Lawful, answer, after, answers, after_all}
use Rattle.pickers.specs.Schedule.{serves, served, scheduled}
use Rattle.pickers.specs.ScheduleFacts.{served_empty}
use Rattle.pickers.specs.Choosing.{several, only, choices, consulted}
use Rattle.pickers.specs.Recording.{AllWithin, picks_of, named, naming, steady, unnamed, none_last, none_at_empty, Replayed, ReplaysChoices}

-- the answers of a lawful meaning lie in their sets
pub answers_within : (m : Meaning) → Lawful m → (qs : List Query) → AllWithin qs (answers m qs)
answers_within m law [] = tt
answers_within m law (q ∷ qs) = ((law []).within q, answers_within (after m q) (λ later. law (q ∷ later)) qs)

-- a schedule at its first query, by whether its first pick serves it
first_step : (p : Pick) (ps : List Pick) (q : Query) (qs : List Query) (b : Bool) → serves p q ≡ b
    → answers (scheduled (p ∷ ps)) (q ∷ qs) ≡ cond b (Some p.case) None ∷ answers (scheduled (cond b ps (p ∷ ps))) qs
first_step p ps q qs b e = ap (λ t. cond t (Some p.case) None ∷ answers (scheduled (cond t ps (p ∷ ps))) qs) e

-- the pick of a query serves it
own_pick : (q : Query) (k : ℕ) → has q.ready k ≡ true → serves (record { routine = q.routine; case = k }) q ≡ true
own_pick q k h = and_from (eqb q.routine q.routine) (has q.ready k) (eq-eqb q.routine q.routine refl) h

ahead : (q : Query) (k : ℕ) (ps : List Pick) (qs : List Query) → has q.ready k ≡ true
    → answers (scheduled (record { routine = q.routine; case = k } ∷ ps)) (q ∷ qs) ≡ Some k ∷ answers (scheduled ps) qs
ahead q k ps qs h = first_step (record { routine = q.routine; case = k }) ps q qs true (own_pick q k h)

-- a schedule that answers none drops nothing
unserved : (k : ℕ) (b : Bool) → is_some {T = ℕ} (cond b (Some k) None) ≡ false → b ≡ false
unserved k true e = e
unserved k false e = refl

silent : (q : Query) (ps : List Pick) (qs : List Query) → is_some (served ps q) ≡ false
    → answers (scheduled ps) (q ∷ qs) ≡ None ∷ answers (scheduled ps) qs
silent q [] qs e = refl
silent q (p ∷ ps) qs e = first_step p ps q qs false (unserved p.case (serves p q) e)

-- the parts of the law that speak of steady answers
record Steadily (ps : List Pick) (qs : List Query) (os : List (Option ℕ)) : Type 0 where
  answered : answers (scheduled ps) (named qs os) ≡ naming os
  spent : after_all (scheduled ps) (named qs os) ≡ scheduled []
  whole : steady qs os ≡ true → answers (scheduled ps) qs ≡ os
  exact : answers (scheduled ps) qs ≡ os → steady qs os ≡ true

steadily : (qs : List Query) (os : List (Option ℕ)) → AllWithin qs os → Steadily (picks_of qs os) qs os
steadily [] [] w = record { answered = refl; spent = refl; whole = λ _. refl; exact = λ _. refl }
steadily [] (o ∷ os) w = absurd w
steadily (q ∷ qs) [] w = absurd w
steadily (q ∷ qs) (None ∷ os) w =
    let r = steadily qs os w.1 in
    let ps = picks_of qs os in
    record {
      answered = r.answered;
      spent = r.spent;
      whole = λ e. let b = and_parts _ _ e in silent q ps qs (not-true _ b.0) ∙ ap (λ l. None ∷ l) (r.whole b.1);
      exact = λ e.
          let n : served ps q ≡ None = cc in
          let s = silent q ps qs (ap is_some n) in
          let x : answers (scheduled ps) qs ≡ os = cc in
          and_from _ _ (not_from_false _ (ap is_some n)) (r.exact x);
    }
steadily (q ∷ qs) (Some k ∷ os) w =
    let r = steadily qs os w.1 in
    let ps = picks_of qs os in
    record {
      answered = ahead q k ps (named qs os) w.0 ∙ ap (λ l. Some k ∷ l) r.answered;
      spent =
          let p : Pick = record { routine = q.routine; case = k } in
          ap (λ b. after_all (scheduled (cond b ps (p ∷ ps))) (named qs os)) (own_pick q k w.0) ∙ r.spent;
      whole = λ e. ahead q k ps qs w.0 ∙ ap (λ l. Some k ∷ l) (r.whole e);
      exact = λ e. let a = ahead q k ps qs w.0 in let x : answers (scheduled ps) qs ≡ os = cc in r.exact x;
    }

-- answers are steady where no case is named any more
unnamed_picks : (qs : List Query) (os : List (Option ℕ)) → unnamed os ≡ true → picks_of qs os ≡ []
unnamed_picks [] os e = refl
unnamed_picks (q ∷ qs) [] e = refl
unnamed_picks (q ∷ qs) (None ∷ os) e = unnamed_picks qs os e
unnamed_picks (q ∷ qs) (Some k ∷ os) e = cc

unnamed_steady : (qs : List Query) (os : List (Option ℕ)) → unnamed os ≡ true → steady qs os ≡ true
unnamed_steady [] os e = refl
unnamed_steady (q ∷ qs) [] e = refl
unnamed_steady (q ∷ qs) (None ∷ os) e = rw (unnamed_picks qs os e) (unnamed_steady qs os e)
unnamed_steady (q ∷ qs) (Some k ∷ os) e = cc

last_steady : (qs : List Query) (os : List (Option ℕ)) → none_last os ≡ true → steady qs os ≡ true
last_steady [] os e = refl
last_steady (q ∷ qs) [] e = refl
last_steady (q ∷ qs) (None ∷ os) e = unnamed_steady (q ∷ qs) (None ∷ os) e
last_steady (q ∷ qs) (Some k ∷ os) e = last_steady qs os e

-- answers are steady where none is answered to empty sets alone
empty_steady : (qs : List Query) (os : List (Option ℕ)) → none_at_empty qs os ≡ true → steady qs os ≡ true
empty_steady [] os e = refl
empty_steady (q ∷ qs) [] e = refl
empty_steady (q ∷ qs) (None ∷ os) e =
    let b = and_parts (eqb q.ready 0) (none_at_empty qs os) e in
    rw (served_empty (picks_of qs os) q (eqb-true q.ready 0 b.0)) (empty_steady qs os b.1)
empty_steady (q ∷ qs) (Some k ∷ os) e = empty_steady qs os e

pub replays : (m : Meaning) → Lawful m → (qs : List Query) → Replayed (picks_of qs (answers m qs)) qs (answers m qs)
replays m law qs =
    let os = answers m qs in
    let s = steadily qs os (answers_within m law qs) in
    record {
      answered = s.answered;
      spent = s.spent;
      whole = s.whole;
      exact = s.exact;
      ended = λ e. s.whole (last_steady qs os e);
      decided = λ e. s.whole (empty_steady qs os e);
    }

-- two meanings that answer alike where they are asked lead to the same choices
alike : (q : Query) (qs : List Query)
    → ((m n : Meaning) → answers m (consulted qs) ≡ answers n (consulted qs) → choices m qs ≡ choices n qs)
    → (m n : Meaning) (other : Choice) (b : Bool)
    → answers m (cond b (q ∷ consulted qs) (consulted qs)) ≡ answers n (cond b (q ∷ consulted qs) (consulted qs))
    → cond b (Asked (answer m q)) other ∷ choices (cond b (after m q) m) qs
    ≡ cond b (Asked (answer n q)) other ∷ choices (cond b (after n q) n) qs
alike q qs rest m n other true e =
    let x : answers (after m q) (consulted qs) ≡ answers (after n q) (consulted qs) = cc in
    let c = rest (after m q) (after n q) x in
    cc
alike q qs rest m n other false e = ap (λ cs. other ∷ cs) (rest m n e)

same_choices : (qs : List Query) (m n : Meaning) → answers m (consulted qs) ≡ answers n (consulted qs) → choices m qs ≡ choices n qs
same_choices [] m n e = refl
same_choices (q ∷ qs) m n e = alike q qs (same_choices qs) m n (only (first (cases q.ready))) (several q) e

pub replays_choices : ReplaysChoices
replays_choices m law qs e =
    same_choices qs (scheduled (picks_of (consulted qs) (answers m (consulted qs)))) m ((replays m law (consulted qs)).whole e)
