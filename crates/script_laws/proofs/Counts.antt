-- What the lines before count, and what is to come.
use Rattle.std.proofs.Common.{◌≡◌, ℕ, ◌+◌, ◌≤◌, false, cond, List, [], ◌∷◌, sum_by, count_by, arith, rules}
use Rattle.std.proofs.lemmas.List.Sums.{sum_by-cons}
use Rattle.std.proofs.lemmas.Bool.{or_parts, or_from, leb-false, ltb-false, lt-leb, le-ltb}
use Rattle.lines.specs.declared.line.Kind.TheVariants.{Value, Handle}
use Rattle.lines.specs.declared.line.Role.{Role}
use Rattle.lines.specs.declared.line.Role.TheVariants.{Declares, Opens, Selects, Acts, Case, Default}
use Rattle.script.specs.declared.tally.Tally.{Tally}
use Rattle.script.specs.Rules.{full, after}
use Rattle.script_laws.specs.Lawful.{is_declares, is_opens, is_body, capacity, capacity_of, asks}

-- what one line adds
record Counted (t : Tally) (r : Role (List ℕ)) : Type 0 where
  channels : (after t r).channels ≡ t.channels + cond (is_declares r) 1 0
  bodies : (after t r).bodies ≡ t.bodies + cond (is_opens r) 1 0
  lines : (after t r).lines ≡ t.lines + cond (is_body r) 1 0
  values : (after t r).values ≡ t.values + capacity_of Value r
  handles : (after t r).handles ≡ t.handles + capacity_of Handle r

counted : (t : Tally) (r : Role (List ℕ)) → Counted t r
counted t (Declares Value x n) = search rules
counted t (Declares Handle x n) = search rules
counted t (Opens x) = search rules
counted t (Selects n) = search rules
counted t Acts = search rules
counted t Case = search rules
counted t Default = search rules

-- after lines that count t there is room for rs
pub record Room (t : Tally) (rs : List (Role (List ℕ))) : Type 0 where
  pub channels : t.channels + count_by is_declares rs ≤ 32
  pub bodies : t.bodies + count_by is_opens rs ≤ 32
  pub lines : t.lines + count_by is_body rs ≤ 512
  pub values : t.values + sum_by (capacity_of Value) rs ≤ 512
  pub handles : t.handles + sum_by (capacity_of Handle) rs ≤ 128

module _ (t : Tally) (r : Role (List ℕ)) (rs : List (Role (List ℕ))) where
  pub room_more : Room (after t r) rs → Room t (r ∷ rs)
  room_more m =
      let c = counted t r in
      record {
        channels = omega (arith, m.channels, c.channels, sum_by-cons (λ q. cond (is_declares q) 1 0) r rs);
        bodies = omega (arith, m.bodies, c.bodies, sum_by-cons (λ q. cond (is_opens q) 1 0) r rs);
        lines = omega (arith, m.lines, c.lines, sum_by-cons (λ q. cond (is_body q) 1 0) r rs);
        values = omega (arith, m.values, c.values, sum_by-cons (capacity_of Value) r rs);
        handles = omega (arith, m.handles, c.handles, sum_by-cons (capacity_of Handle) r rs);
      }

  pub room_less : Room t (r ∷ rs) → Room (after t r) rs
  room_less m =
      let c = counted t r in
      record {
        channels = omega (arith, m.channels, c.channels, sum_by-cons (λ q. cond (is_declares q) 1 0) r rs);
        bodies = omega (arith, m.bodies, c.bodies, sum_by-cons (λ q. cond (is_opens q) 1 0) r rs);
        lines = omega (arith, m.lines, c.lines, sum_by-cons (λ q. cond (is_body q) 1 0) r rs);
        values = omega (arith, m.values, c.values, sum_by-cons (capacity_of Value) r rs);
        handles = omega (arith, m.handles, c.handles, sum_by-cons (capacity_of Handle) r rs);
      }

pub room_none : (t : Tally) (rs : List (Role (List ℕ))) → Room t rs → Room t []
room_none t rs m = search rules

-- ---- no limit is passed
pub record Small (t : Tally) (r : Role (List ℕ)) : Type 0 where
  pub room : Room (after t r) []
  pub cells : capacity r ≤ 64
  pub cases : asks r ≤ 8

pub small : (t : Tally) (r : Role (List ℕ)) → Room t [] → full t r ≡ false → Small t r
small t (Declares Value x n) m e =
    let p = or_parts _ _ e in
    let q = or_parts _ _ p.1 in
    let a = leb-false 32 t.channels p.0 in
    let b = ltb-false 64 n q.0 in
    let c = ltb-false 512 (t.values + n) q.1 in
    search rules
small t (Declares Handle x n) m e =
    let p = or_parts _ _ e in
    let q = or_parts _ _ p.1 in
    let a = leb-false 32 t.channels p.0 in
    let b = ltb-false 64 n q.0 in
    let c = ltb-false 128 (t.handles + n) q.1 in
    search rules
small t (Opens x) m e = let a = leb-false 32 t.bodies e in search rules
small t (Selects n) m e =
    let p = or_parts _ _ e in
    let a = leb-false 512 t.lines p.0 in
    let b = ltb-false 8 n p.1 in
    search rules
small t Acts m e = let a = leb-false 512 t.lines e in search rules
small t Case m e = let a = leb-false 512 t.lines e in search rules
small t Default m e = let a = leb-false 512 t.lines e in search rules

pub not_full : (t : Tally) (r : Role (List ℕ)) → Small t r → full t r ≡ false
not_full t (Declares Value x n) s =
    let m = s.room in
    or_from _ _ (lt-leb 32 t.channels (omega arith)) (or_from _ _ (le-ltb 64 n s.cells) (le-ltb 512 (t.values + n) (omega arith)))
not_full t (Declares Handle x n) s =
    let m = s.room in
    or_from _ _ (lt-leb 32 t.channels (omega arith)) (or_from _ _ (le-ltb 64 n s.cells) (le-ltb 128 (t.handles + n) (omega arith)))
not_full t (Opens x) s = let m = s.room in lt-leb 32 t.bodies (omega arith)
not_full t (Selects n) s = let m = s.room in or_from _ _ (lt-leb 512 t.lines (omega arith)) (le-ltb 8 n s.cases)
not_full t Acts s = let m = s.room in lt-leb 512 t.lines (omega arith)
not_full t Case s = let m = s.room in lt-leb 512 t.lines (omega arith)
not_full t Default s = let m = s.room in lt-leb 512 t.lines (omega arith)
