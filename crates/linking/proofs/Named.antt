-- What a line with its names put back has from its operation.
use Rattle.std.proofs.Common.{◌≡◌, refl}
use Rattle.lines.specs.Roles.{role}
use Rattle.script_laws.specs.Lawful as law
use Rattle.linking.specs.declared.operation.Operation.{Operation}
use Rattle.linking.specs.declared.operation.Operation.TheVariants.{Alone, Case}
use Rattle.linking.specs.declared.operation.Exchange.TheVariants.{Send}
use Rattle.linking.specs.Naming.{Known}
use Rattle.linking.specs.Parts.{target}
use Rattle.linking.specs.Sound.{is_case, asks, leads}
use Rattle.linking.specs.Meaning.{named}

module _ (k : Known) where
  pub leads_named : (o : Operation) → target (named k o) ≡ leads o
  leads_named (Alone (Send o v)) = refl
  leads_named (Case (Send o v) t) = refl
  leads_named _ = refl

  pub case_named : (o : Operation) → law.is_case (role (named k o)) ≡ is_case o
  case_named (Alone (Send o v)) = refl
  case_named (Case (Send o v) t) = refl
  case_named _ = refl

  pub asks_named : (o : Operation) → law.asks (role (named k o)) ≡ asks o
  asks_named (Alone (Send o v)) = refl
  asks_named (Case (Send o v) t) = refl
  asks_named _ = refl
