-- What is printed of a choice and of a pick.
use Rattle.std.specs.Prelude.{ℕ, List, ◌++◌, Some, None, codes}
use Rattle.std.specs.Fmt.{decimal}
use Rattle.pickers.specs.declared.schedule.Pick.{Pick}
use Rattle.pickers.specs.declared.choosing.Choice.{Choice}
use Rattle.pickers.specs.declared.choosing.Choice.TheVariants.{NoneReady, OneReady, Asked}

-- the case, if there is one, and whether the picker was asked for it
abbrev pub shown : Choice → List ℕ
shown NoneReady = codes "none not asked"
shown (OneReady k) = decimal k ++ codes " not asked"
shown (Asked None) = codes "none asked"
shown (Asked (Some k)) = decimal k ++ codes " asked"

-- PK, the routine and the case, with blanks between
abbrev pub pick_shown : Pick → List ℕ
pick_shown p = codes "PK " ++ (decimal p.routine ++ (codes " " ++ decimal p.case))
