-- What linking answers of a script that was read, which keeps the rules.
use Rattle.std.proofs.Common.{◌≡◌, ℕ, List, Ok}
use Rattle.std.proofs.Math.Logic.{∥∥₁_elim, ∥∥₁_map}
use Rattle.lines.specs.declared.line.Line.{Line}
use Rattle.script.specs.Kept.{Kept}
use Rattle.linking.specs.declared.stop.Stop.{Stop}
use Rattle.linking.specs.declared.stop.Stop.TheVariants.{Faulty, Memory}
use Rattle.linking.specs.Programs.{Program}
use Rattle.linking.specs.Links.{link_script}
use Rattle.linking.specs.Sound.{Sound}
use Rattle.linking.specs.Meaning.{StandsFor}
use Rattle.linking.specs.Stages.{Stopped}
use Rattle.linking.specs.Answers.{NoneFor}
use Rattle.linking.proofs.LinksOnly.{links_only}
use Rattle.linking.proofs.AllParts.{links_all}

-- a program that was made stands for the script, and has what running needs
pub made_exactly : (ls : List (Line (List ℕ))) (p : Program) → ∥ Kept ls ∥₁ → link_script ls ≡ Ok p → ∥ StandsFor ls p × Sound p ∥₁
made_exactly ls p k e = ∥∥₁_map k (λ kept. links_only ls p kept e)

-- and where a fault is given there is none
pub none_for : (ls : List (Line (List ℕ))) (s : Stop) → ∥ Kept ls ∥₁ → Stopped (link_script ls) s → NoneFor ls s
none_for ls (Faulty f) k e = λ p st so. ∥∥₁_elim k (λ a b. absurd a) (λ kept. let made : link_script ls ≡ Ok p = links_all ls p kept st so in cc)
none_for ls Memory k e = tt
