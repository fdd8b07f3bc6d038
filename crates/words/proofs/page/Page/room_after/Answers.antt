use Rattle.std.proofs.Common.{map, arith}
use Rattle.std.proofs.lemmas.Bool.Decides.{nat_tests}
use Rattle.std.proofs.lemmas.Iterator.{YieldsList-from_slice}
use Rattle.std.proofs.lemmas.List.{length-append}
use Rattle.words.specs.Shows.{show_fields, field_said}
use Rattle.words.proofs.Fields.{room_left}
use Rattle.words.proofs.page.Page.room_after.Goals as goal

pub returns : goal.returns
returns c =
    let joined = length-append c.args.mark.now (show_fields (map field_said c.args.fields.now)) in
    let left = room_left _ _ _ (λ f n x r q h. h.met) c.args.fields.now _ _ _ _ _ (YieldsList-from_slice c.args.fields.now c.iter.ensures.rest) c.try_fold.ensures.ran in
    grind (arith, nat_tests)
