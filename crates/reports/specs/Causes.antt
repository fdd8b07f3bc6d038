-- The number of each cause of a panic.
use Rattle.std.specs.Prelude.{ℕ}
use Rattle.reports.specs.declared.report.Panic.{Panic}
use Rattle.reports.specs.declared.report.Panic.TheVariants.{ClosedSend, ClosedTwice, NilClose, Crowded}

abbrev pub number_of : Panic → ℕ
number_of ClosedSend = 1
number_of ClosedTwice = 2
number_of NilClose = 3
number_of Crowded = 4
