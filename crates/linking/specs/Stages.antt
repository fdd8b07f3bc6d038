-- What linking makes of a script, and of a body of it.
use Rattle.std.specs.Prelude.{◌≡◌, Ok, Err, Result}
use Rattle.words.specs.declared.refusal.Fault.{Fault}
use Rattle.linking.specs.declared.stop.Stop.{Stop}
use Rattle.linking.specs.declared.stop.Stop.TheVariants.{Faulty, Memory}

-- the fault met is the one wanted; of want of memory nothing is said
abbrev pub Stopped : {A : Type 0} → Result A Fault → Stop → Type 0
Stopped want (Faulty f) = want ≡ Err f
Stopped want Memory = Unit {0}

-- what was made is, seen through f, what was wanted
abbrev pub Makes : {A B : Type 0} → (B → A) → Result A Fault → Result B Stop → Type 0
Makes f want (Ok b) = want ≡ Ok (f b)
Makes f want (Err s) = Stopped want s
