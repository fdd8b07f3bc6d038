-- No mark has a zero byte.
use Rattle.std.proofs.Common.{◌≡◌, ℕ, ◌<◌, ◌&&◌, eqb, List, [], ◌∷◌, Err, refl, ◌∙◌, arith}
use Rattle.std.specs.List.{AllByRecursion}
use Rattle.std.proofs.lemmas.Bool.{and_right, cond-false, ne_eqb}
use Rattle.words.specs.Refusals.{broken}
use Rattle.lines.specs.Lines.{Format, formats, chosen}

-- no mark has a 0, so a line with fewer than two bytes has none
pub no_mark : (fs : List Format) → AllByRecursion (λ f. 0 < f.second) fs → (n a : ℕ) (rest : List ℕ) → chosen fs n a 0 rest ≡ Err (broken n)
no_mark [] us n a rest = refl
no_mark (f ∷ fs) us n a rest =
    cond-false (eqb a f.first && eqb 0 f.second) (f.reads n rest) (chosen fs n a 0 rest) (and_right (eqb a f.first) (eqb 0 f.second) (ne_eqb 0 f.second (λ e. omega (arith, us.0))))
    ∙ no_mark fs us.1 n a rest

pub marked : AllByRecursion (λ f. 0 < f.second) formats
marked =
    (omega arith, (omega arith, (omega arith, (omega arith, (omega arith, (omega arith, (omega arith, (omega arith, (omega arith, (omega arith, (omega arith, (omega arith, (omega arith, (omega arith, (omega arith, (omega arith, (omega arith, (omega arith, (omega arith, (omega arith, (omega arith, (omega arith, (omega arith, tt)))))))))))))))))))))))
