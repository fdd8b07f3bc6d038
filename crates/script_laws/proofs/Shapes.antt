-- How the lines to come stand, after those before.
use Rattle.std.proofs.Common.{◌≡◌, ℕ, zero, suc, ◌+◌, ◌-◌, ◌*◌, ◌<◌, ◌≤◌, Bool, true, false, cond, List, [], ◌∷◌, take, count_by, sym, refl, ap, ◌∙◌, ⊎_elim, arith}
use Rattle.std.specs.List.{prefix_len, AllByRecursion}
use Rattle.std.proofs.lemmas.List.Sums.{sum_by-cons}
use Rattle.std.proofs.lemmas.Bool.{true≢false, false≢true, cases_lt, or_parts, or_from, ltb-false, le-ltb, eqb-false, ne_eqb}
use Rattle.lines.specs.declared.line.Kind.{Kind}
use Rattle.lines.specs.declared.line.Kind.TheVariants.{Value, Handle}
use Rattle.lines.specs.declared.line.Role.{Role}
use Rattle.lines.specs.declared.line.Role.TheVariants.{Declares, Opens, Selects, Acts, Case, Default}
use Rattle.script.specs.declared.tally.Tally.{Tally}
use Rattle.script.specs.Rules.{misplaced, after}
use Rattle.script_laws.specs.Lawful.{is_declares, is_opens, is_case, is_default, asks, heading, bodies, Everywhere, Followed, Once}

abbrev flag : Bool → ℕ
flag b = cond b 1 0

-- after b bodies, with cases still due, of which the default came or not
pub record Shape (b due : ℕ) (came : Bool) (rs : List (Role (List ℕ))) : Type 0 where
  pub outside : b ≡ 0 → AllByRecursion (λ r. is_declares r ≡ true) (heading rs) × AllByRecursion (λ r. is_declares r ≡ false) (bodies rs)
  pub inside : 0 < b → AllByRecursion (λ r. is_declares r ≡ false) rs
  pub front : prefix_len is_case rs ≡ due
  pub cases : Everywhere Followed rs
  pub once : flag came + count_by is_default (take due rs) ≤ 1
  pub defaults : Everywhere Once rs

-- ---- defaults
flag_le : (f : Bool) → flag f ≤ 1
flag_le true = omega arith
flag_le false = omega arith

idle : (f : Bool) (due : ℕ) (rs : List (Role (List ℕ))) → due ≡ 0 → flag f + count_by is_default (take due rs) ≤ 1
idle f zero rs e = omega (arith, flag_le f)
idle f (suc d) rs e = absurd (omega arith)

count_next : (due : ℕ) (r : Role (List ℕ)) (rs : List (Role (List ℕ))) → 0 < due → count_by is_default (take due (r ∷ rs)) ≡ cond (is_default r) 1 0 + count_by is_default (take (due - 1) rs)
count_next zero r rs h = absurd (omega arith)
count_next (suc d) r rs h =
    let e : suc d - 1 ≡ d = omega arith in
    sum_by-cons (λ q. cond (is_default q) 1 0) r (take d rs) ∙ ap (λ k. cond (is_default r) 1 0 + count_by is_default (take k rs)) (sym e)

pub shape_none : (b due : ℕ) (f : Bool) → due ≡ 0 → Shape b due f []
shape_none b due f e = record { outside = λ z. (tt, tt); inside = λ z. tt; front = sym e; cases = tt; once = idle f due [] e; defaults = tt }

-- ---- one line in front
module _ (b due : ℕ) (f : Bool) (rs : List (Role (List ℕ))) where
  declares_on : (k : Kind) (x : List ℕ) (n : ℕ) → b ≡ 0 → due ≡ 0 → Shape b due f rs → Shape b due f (Declares k x n ∷ rs)
  declares_on k x n nb nd h = record {
    outside = λ z. let o = h.outside z in ((refl, o.0), o.1);
    inside = λ z. absurd (omega arith);
    front = sym nd;
    cases = (λ z. h.front ∙ nd, h.cases);
    once = idle f due _ nd;
    defaults = (omega arith, h.defaults);
  }

  opens_on : (x : List ℕ) → due ≡ 0 → Shape (b + 1) 0 f rs → Shape b due f (Opens x ∷ rs)
  opens_on x nd h = record {
    outside = λ z. (tt, (refl, h.inside (omega arith)));
    inside = λ z. (refl, h.inside (omega arith));
    front = sym nd;
    cases = (λ z. h.front, h.cases);
    once = idle f due _ nd;
    defaults = (omega arith, h.defaults);
  }

  selects_on : (n : ℕ) → 0 < b → due ≡ 0 → Shape b n false rs → Shape b due f (Selects n ∷ rs)
  selects_on n lt nd h = record {
    outside = λ z. absurd (omega arith);
    inside = λ z. (refl, h.inside z);
    front = sym nd;
    cases = (λ z. h.front, h.cases);
    once = idle f due _ nd;
    defaults = (omega (arith, h.once), h.defaults);
  }

  acts_on : 0 < b → due ≡ 0 → Shape b 0 f rs → Shape b due f (Acts ∷ rs)
  acts_on lt nd h = record {
    outside = λ z. absurd (omega arith);
    inside = λ z. (refl, h.inside z);
    front = sym nd;
    cases = (λ z. h.front, h.cases);
    once = idle f due _ nd;
    defaults = (omega arith, h.defaults);
  }

  case_on : 0 < b → 0 < due → Shape b (due - 1) f rs → Shape b due f (Case ∷ rs)
  case_on lt nd h = record {
    outside = λ z. absurd (omega arith);
    inside = λ z. (refl, h.inside z);
    front = omega (arith, h.front);
    cases = (λ z. absurd (true≢false z), h.cases);
    once = omega (arith, h.once, count_next due Case rs nd);
    defaults = (omega arith, h.defaults);
  }

  default_on : 0 < b → 0 < due → f ≡ false → Shape b (due - 1) true rs → Shape b due f (Default ∷ rs)
  default_on lt nd nf h = record {
    outside = λ z. absurd (omega arith);
    inside = λ z. (refl, h.inside z);
    front = omega (arith, h.front);
    cases = (λ z. absurd (true≢false z), h.cases);
    once = rw nf (omega (arith, h.once, count_next due Default rs nd));
    defaults = (omega arith, h.defaults);
  }

-- ---- by the tally
abbrev pub Stands : Tally → List (Role (List ℕ)) → Type 0
Stands t rs = Shape t.bodies t.due t.defaulted rs

-- cases are due only in a body
abbrev pub Inside : Tally → Type 0
Inside t = t.due ≤ 8 * t.bodies

pub stands_on : (t : Tally) (r : Role (List ℕ)) (rs : List (Role (List ℕ))) → Inside t → misplaced t r ≡ false → Stands (after t r) rs → Stands t (r ∷ rs)
stands_on t (Declares Value x n) rs i e h =
    let a = ltb-false 0 t.bodies e in
    declares_on _ _ _ rs Value x n (omega arith) (omega arith) h
stands_on t (Declares Handle x n) rs i e h =
    let a = ltb-false 0 t.bodies e in
    declares_on _ _ _ rs Handle x n (omega arith) (omega arith) h
stands_on t (Opens x) rs i e h =
    let a = ltb-false 0 t.due e in
    opens_on _ _ _ rs x (omega arith) h
stands_on t (Selects n) rs i e h =
    let p = or_parts _ _ e in
    let a = ltb-false 0 t.due p.1 in
    let b = eqb-false t.bodies 0 p.0 in
    selects_on _ _ _ rs n (omega arith) (omega arith) h
stands_on t Acts rs i e h =
    let p = or_parts _ _ e in
    let a = ltb-false 0 t.due p.1 in
    let b = eqb-false t.bodies 0 p.0 in
    acts_on _ _ _ rs (omega arith) (omega arith) h
stands_on t Case rs i e h =
    let a = eqb-false t.due 0 e in
    case_on _ _ _ rs (omega arith) (omega arith) h
stands_on t Default rs i e h =
    let p = or_parts _ _ e in
    let a = eqb-false t.due 0 p.0 in
    default_on _ _ _ rs (omega arith) (omega arith) p.1 h

pub still_inside : (t : Tally) (r : Role (List ℕ)) → Inside t → misplaced t r ≡ false → asks r ≤ 8 → Inside (after t r)
still_inside t (Declares Value x n) i e a = i
still_inside t (Declares Handle x n) i e a = i
still_inside t (Opens x) i e a = omega arith
still_inside t (Selects n) i e a =
    let p = or_parts _ _ e in
    let b = eqb-false t.bodies 0 p.0 in
    omega arith
still_inside t Acts i e a = omega arith
still_inside t Case i e a = omega arith
still_inside t Default i e a = omega arith

-- ---- one line less
module _ (b due : ℕ) (f : Bool) (rs : List (Role (List ℕ))) where
  -- a line that neither declares nor opens stands in a body
  in_body : (r : Role (List ℕ)) → is_opens r ≡ false → is_declares r ≡ false → Shape b due f (r ∷ rs) → 0 < b
  in_body r u v h =
      ⊎_elim (λ lt. lt)
      (λ le.
      let o = (h.outside (omega arith)).0 in
      let p : is_declares r ≡ true = (rw u at o).0 in
      absurd (false≢true (sym v ∙ p)))
      (cases_lt 0 b)

  declares_back : (k : Kind) (x : List ℕ) (n : ℕ) → Shape b due f (Declares k x n ∷ rs) → (b ≤ 0) × Shape b due f rs
  declares_back k x n h =
      let nb : b ≤ 0 = ⊎_elim (λ lt. absurd (true≢false (h.inside lt).0)) (λ le. le) (cases_lt 0 b) in
      let nd : due ≡ 0 = sym h.front in (
        nb,
        record {
          outside = λ z. let o = h.outside z in (o.0.1, o.1);
          inside = λ z. absurd (omega arith);
          front = h.cases.0 refl ∙ h.front;
          cases = h.cases.1;
          once = idle f due rs nd;
          defaults = h.defaults.1;
        },
      )

  opens_back : (x : List ℕ) → Shape b due f (Opens x ∷ rs) → (due ≤ 0) × Shape (b + 1) 0 f rs
  opens_back x h =
      let none = ⊎_elim (λ lt. (h.inside lt).1) (λ le. (h.outside (omega arith)).1.1) (cases_lt 0 b) in (
        omega (arith, h.front),
        record {
          outside = λ z. absurd (omega arith);
          inside = λ z. none;
          front = h.cases.0 refl;
          cases = h.cases.1;
          once = idle f 0 rs refl;
          defaults = h.defaults.1;
        },
      )

  selects_back : (n : ℕ) → Shape b due f (Selects n ∷ rs) → (0 < b) × (due ≤ 0) × Shape b n false rs
  selects_back n h =
      let lt = in_body (Selects n) refl refl h in (
        lt,
        omega (arith, h.front),
        record {
          outside = λ z. absurd (omega arith);
          inside = λ z. (h.inside z).1;
          front = h.cases.0 refl;
          cases = h.cases.1;
          once = omega (arith, h.defaults.0);
          defaults = h.defaults.1;
        },
      )

  acts_back : Shape b due f (Acts ∷ rs) → (0 < b) × (due ≤ 0) × Shape b 0 f rs
  acts_back h =
      let lt = in_body Acts refl refl h in (
        lt,
        omega (arith, h.front),
        record {
          outside = λ z. absurd (omega arith);
          inside = λ z. (h.inside z).1;
          front = h.cases.0 refl;
          cases = h.cases.1;
          once = idle f 0 rs refl;
          defaults = h.defaults.1;
        },
      )

  case_back : Shape b due f (Case ∷ rs) → (0 < due) × Shape b (due - 1) f rs
  case_back h =
      let lt = in_body Case refl refl h in
      let nd : 0 < due = omega (arith, h.front) in (
        nd,
        record {
          outside = λ z. absurd (omega arith);
          inside = λ z. (h.inside z).1;
          front = omega (arith, h.front);
          cases = h.cases.1;
          once = omega (arith, h.once, count_next due Case rs nd);
          defaults = h.defaults.1;
        },
      )

  default_back : Shape b due f (Default ∷ rs) → (0 < due) × (flag f ≤ 0) × Shape b (due - 1) true rs
  default_back h =
      let lt = in_body Default refl refl h in
      let nd : 0 < due = omega (arith, h.front) in
      let only : flag f + count_by is_default (take (due - 1) rs) ≤ 0 = omega (arith, h.once, count_next due Default rs nd) in (
        nd,
        omega arith,
        record {
          outside = λ z. absurd (omega arith);
          inside = λ z. (h.inside z).1;
          front = omega (arith, h.front);
          cases = h.cases.1;
          once = omega arith;
          defaults = h.defaults.1;
        },
      )

no_flag : (f : Bool) → flag f ≤ 0 → f ≡ false
no_flag true h = absurd (omega arith)
no_flag false h = refl

pub stands_back : (t : Tally) (r : Role (List ℕ)) (rs : List (Role (List ℕ))) → Stands t (r ∷ rs) → (misplaced t r ≡ false) × Stands (after t r) rs
stands_back t (Declares Value x n) rs h = let p = declares_back _ _ _ rs Value x n h in (le-ltb 0 t.bodies p.0, p.1)
stands_back t (Declares Handle x n) rs h = let p = declares_back _ _ _ rs Handle x n h in (le-ltb 0 t.bodies p.0, p.1)
stands_back t (Opens x) rs h = let p = opens_back _ _ _ rs x h in (le-ltb 0 t.due p.0, p.1)
stands_back t (Selects n) rs h =
    let p = selects_back _ _ _ rs n h in
    (or_from _ _ (ne_eqb t.bodies 0 (λ z. omega arith)) (le-ltb 0 t.due p.1), p.2)
stands_back t Acts rs h =
    let p = acts_back _ _ _ rs h in
    (or_from _ _ (ne_eqb t.bodies 0 (λ z. omega arith)) (le-ltb 0 t.due p.1), p.2)
stands_back t Case rs h =
    let p = case_back _ _ _ rs h in
    (ne_eqb t.due 0 (λ z. omega arith), p.1)
stands_back t Default rs h =
    let p = default_back _ _ _ rs h in
    (or_from _ _ (ne_eqb t.due 0 (λ z. omega arith)) (no_flag t.defaulted p.1), p.2)
