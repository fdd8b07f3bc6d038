-- The rules line by line, and of the whole script.
use Rattle.std.proofs.Common.{◌≡◌, ℕ, ◌≤◌, Bool, true, false, cond, ◌&&◌, ◌||◌, ltb, List, [], ◌∷◌, ◌++◌, Some, None, Option, sym, refl, ◌∙◌, subst, arith, rules}
use Rattle.std.specs.Option.{option_to_list}
use Rattle.std.specs.List.{flat_map, prefix_len, AllByRecursion}
use Rattle.std.proofs.lemmas.List.{append_assoc, append-nil}
use Rattle.std.proofs.lemmas.Option.{none-some}
use Rattle.std.proofs.lemmas.Bool.{or_parts, or_from, ltb-false, le-ltb, cond-false, false≢true}
use Rattle.words.specs.declared.refusal.Refusal.{Refusal}
use Rattle.words.specs.declared.refusal.Refusal.TheVariants.{Misplaced, Full, Twice}
use Rattle.lines.specs.declared.line.Line.{Line}
use Rattle.lines.specs.declared.line.Role.{Role}
use Rattle.lines.specs.declared.line.Role.TheVariants.{Declares, Opens, Selects, Acts, Case, Default}
use Rattle.lines.specs.Roles.{role}
use Rattle.script.specs.Rules.{Standing, fresh, standing, judge, misplaced, full, twice, after, declares, opens, known}
use Rattle.script.specs.Texts.{none_left}
use Rattle.script.specs.Kept.{Admitted}
use Rattle.script_laws.specs.Lawful.{is_declares, is_case, heading, roles, capacity, asks, channel_name, body_name, Distinct, Lawful, AcceptsLawful, LawfulKept}
use Rattle.script_laws.proofs.Kept.{accepts_only}
use Rattle.script_laws.proofs.Names.{new_distinct, distinct_new}
use Rattle.script_laws.proofs.Counts.{Room, room_more, room_less, room_none, small, not_full}
use Rattle.script_laws.proofs.Shapes.{Stands, Inside, shape_none, stands_on, still_inside, stands_back}

-- ---- one line that is not refused
record Passed (s : Standing) (r : Role (List ℕ)) (last : Bool) : Type 0 where
  placed : misplaced s.tally r ≡ false
  closed : last ≡ true → (after s.tally r).due ≡ 0
  fits : full s.tally r ≡ false
  channel : known (declares r) s.channels ≡ false
  body : known (opens r) s.bodies ≡ false

unrefused : (b : Bool) (why : Refusal) (o : Option Refusal) → cond b (Some why) o ≡ None → (b ≡ false) × (o ≡ None)
unrefused true why o e = absurd (none-some _ (sym e))
unrefused false why o e = (refl, e)

none_due : (last : Bool) (n : ℕ) → (last && ltb 0 n) ≡ false → last ≡ true → n ≡ 0
none_due last n e l = let z : ltb 0 n ≡ false = rw l at e in omega (arith, ltb-false 0 n z)

passed : (s : Standing) (r : Role (List ℕ)) (last : Bool) → judge s r last ≡ None → Passed s r last
passed s r last e =
    let p = unrefused (misplaced s.tally r || (last && ltb 0 (after s.tally r).due)) Misplaced _ e in
    let q = unrefused (full s.tally r) Full _ p.1 in
    let w = unrefused (twice s r) Twice _ q.1 in
    let m = or_parts (misplaced s.tally r) (last && ltb 0 (after s.tally r).due) p.0 in
    let k = or_parts (known (declares r) s.channels) (known (opens r) s.bodies) w.0 in
    record { placed = m.0; closed = none_due last (after s.tally r).due m.1; fits = q.0; channel = k.0; body = k.1 }

-- ---- all lines
-- what holds of the lines before
record Held (s : Standing) : Type 0 where
  room : Room s.tally []
  inside : Inside s.tally
  channels : Distinct s.channels
  bodies : Distinct s.bodies

-- and of those to come
record Ahead (s : Standing) (rs : List (Role (List ℕ))) : Type 0 where
  room : Room s.tally rs
  stands : Stands s.tally rs
  channels : Distinct (s.channels ++ flat_map channel_name rs)
  bodies : Distinct (s.bodies ++ flat_map body_name rs)
  cells : AllByRecursion (λ r. capacity r ≤ 64) rs
  selects : AllByRecursion (λ r. asks r ≤ 8) rs

held_on : (s : Standing) (r : Role (List ℕ)) (last : Bool) → Held s → Passed s r last → Held (standing s r)
held_on s r last h p =
    let m = small s.tally r h.room p.fits in
    record {
      room = m.room;
      inside = still_inside s.tally r h.inside p.placed m.cases;
      channels = new_distinct (declares r) s.channels p.channel h.channels;
      bodies = new_distinct (opens r) s.bodies p.body h.bodies;
    }

ahead_none : (s : Standing) → Held s → s.tally.due ≡ 0 → Ahead s []
ahead_none s h e = record {
  room = h.room;
  stands = shape_none _ _ _ e;
  channels = subst Distinct (sym (append-nil s.channels)) h.channels;
  bodies = subst Distinct (sym (append-nil s.bodies)) h.bodies;
  cells = tt;
  selects = tt;
}

ahead_on : (s : Standing) (r : Role (List ℕ)) (rs : List (Role (List ℕ))) (last : Bool) → Held s → Passed s r last → Ahead (standing s r) rs → Ahead s (r ∷ rs)
ahead_on s r rs last h p a =
    let m = small s.tally r h.room p.fits in
    record {
      room = room_more s.tally r rs a.room;
      stands = stands_on s.tally r rs h.inside p.placed a.stands;
      channels = subst Distinct (append_assoc s.channels (option_to_list (declares r)) (flat_map channel_name rs)) a.channels;
      bodies = subst Distinct (append_assoc s.bodies (option_to_list (opens r)) (flat_map body_name rs)) a.bodies;
      cells = (m.cells, a.cells);
      selects = (m.cases, a.selects);
    }

ahead : (s : Standing) (ls : List (Line (List ℕ))) → Held s → (none_left ls ≡ true → s.tally.due ≡ 0) → Admitted s ls → Ahead s (roles ls)
ahead s [] h z a = ahead_none s h (z refl)
ahead s (l ∷ ls) h z a =
    let p = passed s (role l) (none_left ls) a.0 in
    ahead_on s (role l) (roles ls) (none_left ls) h p (ahead (standing s (role l)) ls (held_on s (role l) (none_left ls) h p) p.closed a.1)

held_fresh : Held fresh
held_fresh = search rules

pub admitted_lawful : (ls : List (Line (List ℕ))) → Admitted fresh ls → Lawful ls
admitted_lawful ls a =
    let h = ahead fresh ls held_fresh (λ z. refl) a in
    let o = h.stands.outside refl in
    record {
      channels_first = o.0;
      bodies_last = o.1;
      few_channels = omega (arith, h.room.channels);
      few_bodies = omega (arith, h.room.bodies);
      few_lines = omega (arith, h.room.lines);
      small_channels = h.cells;
      value_cells = omega (arith, h.room.values);
      handle_cells = omega (arith, h.room.handles);
      channels_differ = h.channels;
      bodies_differ = h.bodies;
      small_selects = h.selects;
      cases_follow = h.stands.cases;
      one_default = h.stands.defaults;
    }

pub accepts_lawful : AcceptsLawful
accepts_lawful t ls e = admitted_lawful ls (accepts_only t ls e).0.admitted

-- ---- and back
due_none : (last : Bool) (n : ℕ) → (last ≡ true → n ≡ 0) → (last && ltb 0 n) ≡ false
due_none true n z = let e = z refl in le-ltb 0 n (omega arith)
due_none false n z = refl

unjudged : (s : Standing) (r : Role (List ℕ)) (last : Bool) → Passed s r last → judge s r last ≡ None
unjudged s r last p =
    cond-false (misplaced s.tally r || (last && ltb 0 (after s.tally r).due)) _ _ (or_from _ _ p.placed (due_none last (after s.tally r).due p.closed))
    ∙ cond-false (full s.tally r) _ _ p.fits
    ∙ cond-false (twice s r) _ _ (or_from _ _ p.channel p.body)

-- after the last line no case line is due
none_due_left : (s : Standing) (ls : List (Line (List ℕ))) → Stands s.tally (roles ls) → none_left ls ≡ true → s.tally.due ≡ 0
none_due_left s [] h z = sym h.front
none_due_left s (l ∷ ls) h z = absurd (false≢true z)

ahead_back : (s : Standing) (r : Role (List ℕ)) (rs : List (Role (List ℕ))) → Ahead s (r ∷ rs) → Ahead (standing s r) rs
ahead_back s r rs a = record {
  room = room_less s.tally r rs a.room;
  stands = (stands_back s.tally r rs a.stands).1;
  channels = subst Distinct (sym (append_assoc s.channels (option_to_list (declares r)) (flat_map channel_name rs))) a.channels;
  bodies = subst Distinct (sym (append_assoc s.bodies (option_to_list (opens r)) (flat_map body_name rs))) a.bodies;
  cells = a.cells.1;
  selects = a.selects.1;
}

passed_ahead : (s : Standing) (l : Line (List ℕ)) (ls : List (Line (List ℕ))) → Ahead s (roles (l ∷ ls)) → Passed s (role l) (none_left ls)
passed_ahead s l ls a =
    let r = role l in
    let rs = roles ls in
    let st = stands_back s.tally r rs a.stands in
    let room = room_none (after s.tally r) rs (room_less s.tally r rs a.room) in
    record {
      placed = st.0;
      closed = none_due_left (standing s r) ls st.1;
      fits = not_full s.tally r (record { room = room; cells = a.cells.0; cases = a.selects.0 });
      channel = distinct_new (declares r) s.channels (flat_map channel_name rs) a.channels;
      body = distinct_new (opens r) s.bodies (flat_map body_name rs) a.bodies;
    }

admitted_ahead : (s : Standing) (ls : List (Line (List ℕ))) → Ahead s (roles ls) → Admitted s ls
admitted_ahead s [] a = tt
admitted_ahead s (l ∷ ls) a =
    (unjudged s (role l) (none_left ls) (passed_ahead s l ls a), admitted_ahead (standing s (role l)) ls (ahead_back s (role l) (roles ls) a))

-- the first line is no case line
first : (rs : List (Role (List ℕ))) → AllByRecursion (λ r. is_declares r ≡ true) (heading rs) → prefix_len is_case rs ≡ 0
first [] h = refl
first (Declares k x n ∷ rs) h = refl
first (Opens x ∷ rs) h = refl
first (Selects n ∷ rs) h = refl
first (Acts ∷ rs) h = refl
first (Case ∷ rs) h = absurd (false≢true h.0)
first (Default ∷ rs) h = absurd (false≢true h.0)

pub lawful_admitted : (ls : List (Line (List ℕ))) → Lawful ls → Admitted fresh ls
lawful_admitted ls w =
    admitted_ahead fresh ls
    (record {
      room = record {
        channels = omega (arith, w.few_channels);
        bodies = omega (arith, w.few_bodies);
        lines = omega (arith, w.few_lines);
        values = omega (arith, w.value_cells);
        handles = omega (arith, w.handle_cells);
      };
      stands = record {
        outside = λ z. (w.channels_first, w.bodies_last);
        inside = λ z. absurd (omega arith);
        front = first (roles ls) w.channels_first;
        cases = w.cases_follow;
        once = omega arith;
        defaults = w.one_default;
      };
      channels = w.channels_differ;
      bodies = w.bodies_differ;
      cells = w.small_channels;
      selects = w.small_selects;
    })

pub lawful_kept : LawfulKept
lawful_kept ls w g h = record { good = g; admitted = lawful_admitted ls w; short = h }
