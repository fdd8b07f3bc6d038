use Rattle.std.proofs.Common.{◌≡◌, true, ◌++◌, length, drop, replicate, sym, ap, ◌∙◌, subst, arith}
use Rattle.std.proofs.lemmas.Bool.Decides.{nat_tests}
use Rattle.words.specs.Names.{lowers}
use Rattle.words.specs.Spelled.{spelled, Padded}
use Rattle.words.proofs.Spans.{spelled_front, padded_front}
use Rattle.words.proofs.name.Name.new.Goals as goal

pub invariant_of-result : goal.invariant_of-result
invariant_of-result c =
    let s = c.args.bytes.now in
    let low : lowers s ≡ true = grind (arith, nat_tests) in
    subst (λ w. Padded (w ++ drop (length s) (replicate 8 0))) (sym c.copy_from_slice.ensures.after) (padded_front s low)

pub returns : goal.returns
returns c =
    let s = c.args.bytes.now in
    let low : lowers s ≡ true = grind (arith, nat_tests) in
    let spelt = ap (λ w. spelled (w ++ drop (length s) (replicate 8 0))) c.copy_from_slice.ensures.after ∙ spelled_front s low in
    grind (arith, nat_tests)
