-- A body that was linked stands for its lines, and has what running needs.
use Rattle.std.proofs.Common.{◌≡◌, ℕ, zero, suc, ◌+◌, false, cond, ltb, List, [], ◌∷◌, map, length, Some, None, Option, sym, refl, ap, ◌∙◌, subst, arith}
use Rattle.std.specs.List.{slice_get, prefix_len, AllZip}
use Rattle.std.proofs.lemmas.Bool.{or_parts, ltb-false}
use Rattle.lines.specs.declared.line.Line.{Line}
use Rattle.lines.specs.Roles.{role}
use Rattle.script_laws.specs.Lawful.{roles}
use Rattle.script_laws.specs.Lawful as lawful
use Rattle.linking.specs.declared.operation.Operation.{Operation}
use Rattle.linking.specs.Programs.{Block}
use Rattle.linking.specs.Naming.{Known}
use Rattle.linking.specs.Parts.{Part, target, case_line, wild}
use Rattle.linking.specs.Sound.{is_case, leads, SoundOperation, a_case, Lands, Everywhere, Followed, SoundBlock}
use Rattle.linking.specs.Meaning.{named, named_block}
use Rattle.std.proofs.lemmas.Slice.Zip.{AllZip-long}
use Rattle.linking.proofs.Paired.{pairs_weaker, pairs_all, pairs_map}
use Rattle.linking.proofs.Named.{leads_named, case_named, asks_named}
use Rattle.linking.proofs.Meant.{Meant, meant}
use Rattle.linking.proofs.Within.{Fit, Well}
use Rattle.linking.proofs.Inverted.{LineLinked, PartLinked}

module _ (k : Known) where
  -- ---- cases stand in the operations where they stand in the lines
  same_case : (l : Line (List ℕ)) (o : Operation) → Meant k l o → is_case o ≡ lawful.is_case (role l)
  same_case l o m = sym (case_named k o) ∙ ap (λ x. lawful.is_case (role x)) m.back

  leading_same : (ls : List (Line (List ℕ))) (ops : List Operation) → AllZip (Meant k) ls ops → prefix_len is_case ops ≡ prefix_len lawful.is_case (roles ls)
  leading_same [] [] p = refl
  leading_same (l ∷ ls) (o ∷ ops) p =
      ap (λ b. cond b (1 + prefix_len is_case ops) 0) (same_case l o p.0) ∙ ap (λ n. cond (lawful.is_case (role l)) (1 + n) 0) (leading_same ls ops p.1)
  leading_same _ _ p = absurd p

  followed_same : (ls : List (Line (List ℕ))) (ops : List Operation) → AllZip (Meant k) ls ops → lawful.Everywhere lawful.Followed (roles ls) → Everywhere Followed ops
  followed_same [] [] p h = tt
  followed_same (l ∷ ls) (o ∷ ops) p h =
      let asked = ap (λ x. lawful.asks (role x)) (sym p.0.back) ∙ asks_named k o in
      (λ z. leading_same ls ops p.1 ∙ h.0 (sym (same_case l o p.0) ∙ z) ∙ asked, followed_same ls ops p.1 h.1)
  followed_same _ _ p h = absurd p

  case_same : (ls : List (Line (List ℕ))) (ops : List Operation) → AllZip (Meant k) ls ops → (t : ℕ) → a_case (slice_get ops t) ≡ case_line (slice_get ls t)
  case_same [] [] p t = refl
  case_same (l ∷ ls) (o ∷ ops) p zero = same_case l o p.0
  case_same (l ∷ ls) (o ∷ ops) p (suc t) = case_same ls ops p.1 t
  case_same _ _ p t = absurd p

  -- a target that is not wild is one to go to
  lands : (body : List (Line (List ℕ))) (ops : List Operation) → AllZip (Meant k) body ops → (t : Option ℕ) → wild body t ≡ false → Lands ops t
  lands body ops p None e = tt
  lands body ops p (Some t) e =
      let w = or_parts (ltb (length body) t) (case_line (slice_get body t)) e in
      (omega (arith, ltb-false (length body) t w.0, AllZip-long (Meant k) body ops p), case_same body ops p t ∙ w.1)

  -- ---- a body
  all_meant : (body ls : List (Line (List ℕ))) (ops : List Operation) → AllZip (LineLinked k body) ls ops → AllZip (Meant k) ls ops
  all_meant body ls ops p = pairs_weaker (LineLinked k body) (Meant k) (λ l o h. meant k l o h.0) ls ops p

  pub block_sound : (p : Part (List ℕ)) (b : Block) → PartLinked k p b → Well p.lines → SoundBlock k.channels (length k.bodies) b
  block_sound p b h w =
      let m = all_meant p.lines p.lines b.operations h.1 in
      record {
        in_range = pairs_all (Meant k) Fit (SoundOperation k.channels (length k.bodies)) (λ l o q f. q.in_range f.0 f.1) p.lines b.operations m w.fit;
        targets = pairs_all (LineLinked k p.lines) Fit (λ o. Lands b.operations (leads o))
            (λ l o q f. subst (Lands b.operations) (ap target (sym (meant k l o q.0).back) ∙ leads_named k o) (lands p.lines b.operations m (target l) q.1))
            p.lines b.operations h.1 w.fit;
        begins = leading_same p.lines b.operations m ∙ w.begins;
        selects = followed_same p.lines b.operations m w.follows;
      }

  pub block_back : (p : Part (List ℕ)) (b : Block) → PartLinked k p b → named_block k b ≡ p
  block_back p b h =
      let m = all_meant p.lines p.lines b.operations h.1 in
      ap (λ n. record { line = n; lines = map (named k) b.operations }) (sym h.0)
      ∙ ap (λ ls. record { line = p.line; lines = ls }) (pairs_map (Meant k) (named k) (λ l o q. q.back) p.lines b.operations m)
