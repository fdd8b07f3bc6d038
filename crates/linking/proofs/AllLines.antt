-- A sound operation, with its names put back, is linked to itself.
use Rattle.std.proofs.Common.{◌≡◌, ℕ, ◌+◌, ◌<◌, false, ltb, List, [], ◌∷◌, map, length, Some, None, Ok, Option, refl, ap, ◌∙◌, arith}
use Rattle.std.specs.List.{slice_get, AllByRecursion}
use Rattle.std.specs.Option.{option_map}
use Rattle.std.proofs.lemmas.List.{length-map}
use Rattle.std.proofs.lemmas.Bool.{or_from, le-ltb}
use Rattle.std.proofs.lemmas.Option.{slice_get-map}
use Rattle.lines.specs.declared.line.Operand.{Operand}
use Rattle.lines.specs.declared.line.Operand.TheVariants.{Named, Held}
use Rattle.script.specs.Rules.{place}
use Rattle.lines.specs.declared.line.Kind.{Kind}
use Rattle.lines.specs.declared.line.Kind.TheVariants.{Value, Handle}
use Rattle.linking.specs.declared.operation.Operation.{Operation}
use Rattle.linking.specs.declared.operation.Operation.TheVariants.{Hold, Alone, Case, Close, Start}
use Rattle.linking.specs.declared.operation.Exchange.{Exchange}
use Rattle.linking.specs.declared.operation.Exchange.TheVariants.{Send, Receive, SendHandle, ReceiveHandle}
use Rattle.linking.specs.Naming.{Known, channel, operand, operation}
use Rattle.linking.specs.Parts.{target, case_line, wild}
use Rattle.linking.specs.Links.{both, settled, link_line, link_lines}
use Rattle.linking.specs.Sound.{leads, Uses, UsesOperand, SoundExchange, SoundOperation, a_case, Lands}
use Rattle.linking.proofs.Named.{leads_named, case_named}
use Rattle.linking.specs.Meaning.{name_at, named_operand, named}

-- ---- a target that lands is not wild
case_mapped : (k : Known) (o : Option Operation) → case_line (option_map (named k) o) ≡ a_case o
case_mapped k None = refl
case_mapped k (Some o) = case_named k o

lands_tame : (k : Known) (ops : List Operation) (t : Option ℕ) → Lands ops t → wild (map (named k) ops) t ≡ false
lands_tame k ops None h = refl
lands_tame k ops (Some t) h =
    or_from (ltb (length (map (named k) ops)) t) (case_line (slice_get (map (named k) ops) t))
    (le-ltb _ t (omega (arith, h.0, length-map ops (named k))))
    (ap case_line (slice_get-map (named k) ops t) ∙ case_mapped k (slice_get ops t) ∙ h.1)

-- ---- operations, where each number that can be used is found by its name
abbrev pub ChannelsFound : Known → Type 0
ChannelsFound k = (w : Option Kind) (c : ℕ) → Uses k.channels w c → channel k w (name_at k.names c) ≡ Some c

abbrev pub BodiesFound : Known → ℕ → Type 0
BodiesFound k n = (b : ℕ) → b < n → place (name_at k.bodies b) k.bodies ≡ Some b

module _ (k : Known) (bodies : ℕ) (found : ChannelsFound k) (opened : BodiesFound k bodies) where
  operand_back : (w : Option Kind) (o : Operand ℕ) → UsesOperand k.channels w o → operand k w (named_operand k o) ≡ Some o
  operand_back w (Named c) u = ap (option_map Named) (found w c u)
  operand_back w (Held h) u = refl

  alone_back : (e : Exchange ℕ) → SoundExchange k.channels e → operation k (named k (Alone e)) ≡ Some (Alone e)
  alone_back (Send o v) s = ap (λ x. option_map Alone (option_map (λ p. Send p v) x)) (operand_back (Some Value) o s.0)
  alone_back (Receive o v w) s = ap (λ x. option_map Alone (option_map (λ p. Receive p v w) x)) (operand_back (Some Value) o s.0)
  alone_back (SendHandle c h) s = ap (λ x. option_map Alone (option_map (λ d. SendHandle d h) x)) (found (Some Handle) c s.0)
  alone_back (ReceiveHandle c h w) s = ap (λ x. option_map Alone (option_map (λ d. ReceiveHandle d h w) x)) (found (Some Handle) c s.0)

  case_back : (e : Exchange ℕ) (t : ℕ) → SoundExchange k.channels e → operation k (named k (Case e t)) ≡ Some (Case e t)
  case_back (Send o v) t s = ap (λ x. option_map (λ f. Case f t) (option_map (λ p. Send p v) x)) (operand_back (Some Value) o s.0)
  case_back (Receive o v w) t s = ap (λ x. option_map (λ f. Case f t) (option_map (λ p. Receive p v w) x)) (operand_back (Some Value) o s.0)
  case_back (SendHandle c h) t s = ap (λ x. option_map (λ f. Case f t) (option_map (λ d. SendHandle d h) x)) (found (Some Handle) c s.0)
  case_back (ReceiveHandle c h w) t s = ap (λ x. option_map (λ f. Case f t) (option_map (λ d. ReceiveHandle d h w) x)) (found (Some Handle) c s.0)

  operation_back : (o : Operation) → SoundOperation k.channels bodies o → operation k (named k o) ≡ Some o
  operation_back (Hold h c) s = ap (option_map (λ d. Hold h d)) (found (Some Value) c s.1)
  operation_back (Alone e) s = alone_back e s
  operation_back (Case e t) s = case_back e t s
  operation_back (Close o) s = ap (option_map Close) (operand_back None o s)
  operation_back (Start b) s = ap (option_map Start) (opened b s)
  operation_back _ s = refl

  -- ---- lines of the body that all those operations are
  module _ (all : List Operation) where
    line_back : (n : ℕ) (o : Operation) → SoundOperation k.channels bodies o → Lands all (leads o) → link_line k (map (named k) all) n (named k o) ≡ Ok o
    line_back n o s h =
        ap (λ x. settled n x (wild (map (named k) all) (target (named k o)))) (operation_back o s)
        ∙ ap (settled n (Some o)) (ap (wild (map (named k) all)) (leads_named k o) ∙ lands_tame k all (leads o) h)

    pub lines_back : (n : ℕ) (ops : List Operation) → AllByRecursion (SoundOperation k.channels bodies) ops → AllByRecursion (λ o. Lands all (leads o)) ops → link_lines k (map (named k) all) n (map (named k) ops) ≡ Ok ops
    unfolding link_lines
    lines_back n [] s h = refl
    lines_back n (o ∷ ops) s h =
        ap (λ r. both r (link_lines k (map (named k) all) (n + 1) (map (named k) ops))) (line_back n o s.0 h.0)
        ∙ ap (both (Ok o)) (lines_back (n + 1) ops s.1 h.1)
