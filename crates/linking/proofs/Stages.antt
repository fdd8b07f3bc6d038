-- One line, or one body, further in linking.
use Rattle.std.proofs.Common.{◌≡◌, ℕ, ◌+◌, ◌-◌, ◌<◌, ◌≤◌, Bool, true, false, cond, List, [], ◌∷◌, ◌++◌, length, get_or, take, drop, Ok, Err, Result, sym, refl, ap, ◌∙◌, arith}
use Rattle.std.proofs.lemmas.List.{append-nil, at_drop_more, at_drop_all, take_rest}
use Rattle.words.specs.declared.refusal.Fault.{Fault}
use Rattle.lines.specs.declared.line.Line.{Line}
use Rattle.lines.specs.Roles.{role}
use Rattle.script.specs.Drafts.{behind}
use Rattle.script.proofs.Readings.{behind_more}
use Rattle.script_laws.specs.Lawful.{is_opens}
use Rattle.linking.specs.declared.operation.Operation.{Operation}
use Rattle.linking.specs.declared.stop.Stop.{Stop}
use Rattle.linking.specs.declared.stop.Stop.TheVariants.{Faulty, Memory}
use Rattle.linking.specs.Programs.{Block}
use Rattle.linking.specs.Naming.{Known}
use Rattle.linking.specs.Parts.{own, parts}
use Rattle.linking.specs.Links.{both, link_line, link_lines, link_part, link_parts}
use Rattle.linking.specs.Stages.{Stopped}

-- the next part was made, and stands behind what was; or it has a fault, and that is the whole's
module _ {A : Type 0} (done : List A) (whole rest more : Result (List A) Fault) (part : Result A Fault) (so_far : whole ≡ behind done rest) (next : rest ≡ both part more) where
  pub part_made : (a : A) → part ≡ Ok a → (all : List A) → all ≡ done ++ (a ∷ []) → whole ≡ behind all more
  part_made a made all e = so_far ∙ ap (behind done) (next ∙ ap (λ r. both r more) made) ∙ behind_more done a more ∙ ap (λ xs. behind xs more) (sym e)

  pub part_faulty : (e : Fault) → part ≡ Err e → whole ≡ Err e
  part_faulty e faulty = so_far ∙ ap (behind done) (next ∙ ap (λ r. both r more) faulty)

-- a fault of a part is one of the whole
pub stops_too : {A B : Type 0} (part : Result A Fault) (whole : Result B Fault) (s : Stop) → ((e : Fault) → part ≡ Err e → whole ≡ Err e) → Stopped part s → Stopped whole s
stops_too part whole (Faulty e) h m = h e m
stops_too part whole Memory h m = tt

-- the line l stands at place j of ls
module _ (k : Known) (ls : List (Line (List ℕ))) (j : ℕ) (l : Line (List ℕ)) (h : j < length ls) (e : l ≡ get_or ls j l) where
  pub lines_on : (body : List (Line (List ℕ))) (n : ℕ) → link_lines k body (n + j) (drop j ls) ≡ both (link_line k body (n + j) l) (link_lines k body (n + (j + 1)) (drop (j + 1) ls))
  unfolding link_lines
  lines_on body n =
      let m : n + j + 1 ≡ n + (j + 1) = omega arith in
      at_drop_more (link_lines k body (n + j)) ls j l h
      ∙ ap (λ x. both (link_line k body (n + j) x) (link_lines k body (n + j + 1) (drop (j + 1) ls))) (sym e)
      ∙ ap (λ i. both (link_line k body (n + j) l) (link_lines k body i (drop (j + 1) ls))) m

  -- where it opens a body, that body comes next; else the others do
  at_line : (b : Bool) → b ≡ is_opens (role l) → link_parts k (parts (j + 1) (drop j ls)) ≡ link_parts k (cond b (record { line = j + 1; lines = own (drop (j + 1) ls) } ∷ parts (j + 1 + 1) (drop (j + 1) ls)) (parts (j + 1 + 1) (drop (j + 1) ls)))
  at_line b t =
      at_drop_more (λ xs. link_parts k (parts (j + 1) xs)) ls j l h
      ∙ ap (λ x. link_parts k (parts (j + 1) (x ∷ drop (j + 1) ls))) (sym e)
      ∙ ap (λ a. link_parts k (cond a (record { line = j + 1; lines = own (drop (j + 1) ls) } ∷ parts (j + 1 + 1) (drop (j + 1) ls)) (parts (j + 1 + 1) (drop (j + 1) ls)))) (sym t)

  pub body_on : (lines : List (Line (List ℕ))) → lines ≡ own (take (length ls - (j + 1)) (drop (j + 1) ls)) → true ≡ is_opens (role l) → link_parts k (parts (j + 1) (drop j ls)) ≡ both (link_part k (record { line = j + 1; lines = lines })) (link_parts k (parts (j + 1 + 1) (drop (j + 1) ls)))
  unfolding link_parts
  body_on lines same t = at_line true t ∙ ap (λ x. both (link_part k (record { line = j + 1; lines = x })) (link_parts k (parts (j + 1 + 1) (drop (j + 1) ls)))) (sym (same ∙ ap own (take_rest ls (j + 1))))

  pub no_body_on : false ≡ is_opens (role l) → link_parts k (parts (j + 1) (drop j ls)) ≡ link_parts k (parts (j + 1 + 1) (drop (j + 1) ls))
  no_body_on t = at_line false t

-- none is left
pub lines_done : (k : Known) (body ls : List (Line (List ℕ))) (n j : ℕ) (done : List Operation) → length ls ≤ j → behind done (link_lines k body n (drop j ls)) ≡ Ok done
unfolding link_lines
lines_done k body ls n j done h = ap (behind done) (at_drop_all (link_lines k body n) ls j h) ∙ ap Ok (append-nil done)

pub bodies_done : (k : Known) (ls : List (Line (List ℕ))) (n j : ℕ) (done : List Block) → length ls ≤ j → behind done (link_parts k (parts n (drop j ls))) ≡ Ok done
unfolding link_parts
bodies_done k ls n j done h = ap (behind done) (at_drop_all (λ xs. link_parts k (parts n xs)) ls j h) ∙ ap Ok (append-nil done)
