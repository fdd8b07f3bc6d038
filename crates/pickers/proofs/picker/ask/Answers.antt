-- The answer lies in the set by the picker's laws.
use Rattle.std.proofs.Common.{[], sym, subst}
use Rattle.pickers.specs.Sets.{OneOf}
use Rattle.pickers.proofs.picker.ask.Goals as goal

pub returns-clause-within : goal.returns-clause-within
returns-clause-within g c =
    subst (OneOf c.args.query.ready) (sym c.pick.ensures.value) ((g.P.Picker.lawful c.args.picker.now []).within c.args.query)
