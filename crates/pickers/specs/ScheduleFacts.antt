-- The schedule picker keeps the laws of pickers: what its member `lawful` cites.
use Rattle.std.specs.Prelude.{◌≡◌, Bool, true, false, cond, List, [], ◌∷◌, Some, None, ◌==◌, refl}
use Rattle.std.proofs.Common.{ap, ◌∙◌}
use Rattle.std.proofs.lemmas.Bool.{and_parts, and_right}
use Rattle.pickers.specs.declared.picker.Query.{Query}
use Rattle.pickers.specs.declared.schedule.Pick.{Pick}
use Rattle.pickers.specs.Sets.{has, OneOf}
use Rattle.pickers.specs.SetFacts.{has_none}
use Rattle.pickers.specs.Meaning.{Lawful}
use Rattle.pickers.specs.Schedule.{serves, served, left, scheduled}

cond_within : (p : Pick) (q : Query) (b : Bool) → serves p q ≡ b → OneOf q.ready (cond b (Some p.case) None)
cond_within p q true e = (and_parts _ _ e).1
cond_within p q false e = tt

served_within : (ps : List Pick) (q : Query) → OneOf q.ready (served ps q)
served_within [] q = tt
served_within (p ∷ ps) q = cond_within p q (serves p q) refl

-- no pick serves an empty set
serves_empty : (p : Pick) (q : Query) → q.ready ≡ 0 → serves p q ≡ false
serves_empty p q e =
    and_right (p.routine == q.routine) (has q.ready p.case) (ap (λ s. has s p.case) e ∙ has_none p.case)

pub served_empty : (ps : List Pick) (q : Query) → q.ready ≡ 0 → served ps q ≡ None
served_empty [] q e = refl
served_empty (p ∷ ps) q e = ap (λ b. cond b (Some p.case) None) (serves_empty p q e)

left_empty : (ps : List Pick) (q : Query) → q.ready ≡ 0 → left ps q ≡ ps
left_empty [] q e = refl
left_empty (p ∷ ps) q e = ap (λ b. cond b ps (p ∷ ps)) (serves_empty p q e)

pub scheduled_lawful : (ps : List Pick) → Lawful (scheduled ps)
scheduled_lawful ps [] = record {
  within = served_within ps;
  silent = served_empty ps;
  keeps = λ q e. ap scheduled (left_empty ps q e);
}
scheduled_lawful ps (q ∷ qs) = scheduled_lawful (left ps q) qs
