-- What a script that was linked was linked from: line by line, and body by body.
use Rattle.std.proofs.Common.{◌≡◌, ℕ, ◌+◌, Bool, true, false, List, [], ◌∷◌, Some, None, Ok, Err, Option, Result, refl, ap, subst}
use Rattle.words.specs.declared.refusal.Fault.{Fault}
use Rattle.words.proofs.Same.{ok_same}
use Rattle.lines.specs.declared.line.Line.{Line}
use Rattle.linking.specs.declared.declared.Declared.{Declared}
use Rattle.linking.specs.declared.operation.Operation.{Operation}
use Rattle.linking.specs.Programs.{Block, Program}
use Rattle.linking.specs.Naming.{Known, operation}
use Rattle.linking.specs.Parts.{Part, target, wild}
use Rattle.linking.specs.Links.{settled, link_line, both, link_lines, blocked, link_part, link_parts, with_main}
use Rattle.std.specs.List.{AllZip}

-- ---- one step of linking, from its result
both_back : {A : Type 0} (r : Result A Fault) (rest : Result (List A) Fault) (as' : List A) → both r rest ≡ Ok as' → (a : A) × (more : List A) × (r ≡ Ok a) × (rest ≡ Ok more) × (a ∷ more ≡ as')
both_back (Err d) rest as' e = cc
both_back (Ok a) (Err d) as' e = cc
both_back (Ok a) (Ok more) as' e = (a, more, refl, refl, ok_same e)

settled_back : (n : ℕ) (m : Option Operation) (w : Bool) (o : Operation) → settled n m w ≡ Ok o → (m ≡ Some o) × (w ≡ false)
settled_back n None w o e = cc
settled_back n (Some q) true o e = cc
settled_back n (Some q) false o e = let s = ok_same e in (cc, refl)

blocked_back : (n : ℕ) (r : Result (List Operation) Fault) (b : Block) → blocked n r ≡ Ok b → (n ≡ b.line) × (r ≡ Ok b.operations)
blocked_back n (Ok ops) b e = let s = ok_same e in (ap (λ x. x.line) s, ap (λ x. Ok x.operations) s)
blocked_back n (Err d) b e = cc

-- ---- lines and operations, bodies and blocks
module _ (k : Known) where
  -- o is what the line l of that body stands for, and l leads to no wild place
  abbrev pub LineLinked : List (Line (List ℕ)) → Line (List ℕ) → Operation → Type 0
  LineLinked body l o = (operation k l ≡ Some o) × (wild body (target l) ≡ false)

  pub lines_back : (body : List (Line (List ℕ))) (n : ℕ) (ls : List (Line (List ℕ))) (ops : List Operation) → link_lines k body n ls ≡ Ok ops → AllZip (LineLinked body) ls ops
  unfolding link_lines
  lines_back body n [] ops e = subst (AllZip (LineLinked body) []) (ok_same e) tt
  lines_back body n (l ∷ ls) ops e =
      let b = both_back (link_line k body n l) (link_lines k body (n + 1) ls) ops e in
      subst (AllZip (LineLinked body) (l ∷ ls)) b.4 (settled_back n (operation k l) (wild body (target l)) b.0 b.2, lines_back body (n + 1) ls b.1 b.3)

  abbrev pub PartLinked : Part (List ℕ) → Block → Type 0
  PartLinked p b = (p.line ≡ b.line) × AllZip (LineLinked p.lines) p.lines b.operations

  pub parts_back : (ps : List (Part (List ℕ))) (bs : List Block) → link_parts k ps ≡ Ok bs → AllZip PartLinked ps bs
  unfolding link_parts
  parts_back [] bs e = subst (AllZip PartLinked []) (ok_same e) tt
  parts_back (p ∷ ps) bs e =
      let b = both_back (link_part k p) (link_parts k ps) bs e in
      let o = blocked_back p.line (link_lines k p.lines (p.line + 1) p.lines) b.0 b.2 in
      subst (AllZip PartLinked (p ∷ ps)) b.4 ((o.0, lines_back p.lines (p.line + 1) p.lines b.0.operations o.1), parts_back ps b.1 b.3)

-- ---- the whole
pub main_back : (ds : List Declared) (m : Option ℕ) (r : Result (List Block) Fault) (p : Program) → with_main ds m r ≡ Ok p → (i : ℕ) × (bs : List Block) × (m ≡ Some i) × (r ≡ Ok bs) × (record { channels = ds; bodies = bs; main = i } ≡ p)
main_back ds m (Err d) p e = cc
main_back ds None (Ok bs) p e = cc
main_back ds (Some i) (Ok bs) p e = (i, bs, refl, refl, ok_same e)
