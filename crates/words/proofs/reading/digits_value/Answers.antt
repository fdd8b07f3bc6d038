use Rattle.std.proofs.Common.{rules, ◌≡◌, ◌≤◌, arith}
use Rattle.std.proofs.lemmas.Bool.Decides.{nat_tests}
use Rattle.std.proofs.lemmas.Fn.{serves_by}
use Rattle.std.proofs.lemmas.Iterator.{YieldsList-from_slice}
use Rattle.words.proofs.Numerals.{digits_read}
use Rattle.words.proofs.reading.digits_value.Goals as goal

-- the closure keeps the limit, and what it has read is within it
pub try_fold-requires-clause-callable : goal.try_fold-requires-clause-callable
try_fold-requires-clause-callable c =
    serves_by _ (λ _ p. (p.0.0.now ≡ c.args.limit) × (p.1 ≤ c.args.limit)) (λ xs q x v j h. let e = h.1.met in let b = h.2 in grind (arith, nat_tests)) _ _ _ _ (c.from-most.ensures, omega arith) (λ xs t q x u y s j. search rules)

pub returns : goal.returns
returns c =
    let read = digits_read _ _ _ (λ f. f.0.now ≡ c.args.limit) c.args.limit (λ f n x r q j b h. let e = h.met in grind (arith, nat_tests)) in
    read c.args.digits.now _ _ _ _ c.from-most.ensures (YieldsList-from_slice c.args.digits.now c.iter.ensures.rest) c.try_fold.ensures.ran
