-- How long the text of a report is.
use Rattle.std.specs.Prelude.{◌^◌, ◌<◌, ◌≤◌, length, Some, None, Option}
use Rattle.std.specs.Int.Signed.{mag}
use Rattle.reports.specs.declared.report.Pass.{Pass}
use Rattle.reports.specs.declared.report.Pass.TheVariants.{Sent, Received, Drained, Default}
use Rattle.reports.specs.declared.report.Deed.{Deed}
use Rattle.reports.specs.declared.report.Deed.TheVariants.{Plain, Waits, Passes, Closes, Prints, Starts, Ends, Finishes, Panics, Departs}
use Rattle.reports.specs.declared.report.Event.{Event}
use Rattle.reports.specs.declared.report.Event.TheVariants.{Turn, Stall}
use Rattle.reports.specs.declared.report.Picked.{Picked}
use Rattle.reports.specs.declared.report.Move.{Move}
use Rattle.reports.specs.declared.report.Report.{Report}
use Rattle.reports.specs.Shows.{show_report}

-- ---- reports whose numbers fit their types: a text line and a code have 32 bits, a printed value 32 with its sign, any
-- other number 8
abbrev pub FitsPass : Pass → Type 0
FitsPass (Sent c e) = (c < 2 ^ 8) × (e < 2 ^ 32)
FitsPass (Received c e) = (c < 2 ^ 8) × (e < 2 ^ 32)
FitsPass (Drained c) = c < 2 ^ 8
FitsPass Default = Unit {0}

abbrev pub FitsDeed : Deed → Type 0
FitsDeed Plain = Unit {0}
FitsDeed Waits = Unit {0}
FitsDeed (Passes k w) = (k < 2 ^ 8) × FitsPass w
FitsDeed (Closes c n) = (c < 2 ^ 8) × (n < 2 ^ 8)
FitsDeed (Prints v) = mag v < 2 ^ 31
FitsDeed (Starts n) = n < 2 ^ 8
FitsDeed Ends = Unit {0}
FitsDeed Finishes = Unit {0}
FitsDeed (Panics q) = Unit {0}
FitsDeed Departs = Unit {0}

abbrev pub FitsEvent : Event → Type 0
FitsEvent (Turn r p d) = (r < 2 ^ 8) × (p < 2 ^ 32) × FitsDeed d
FitsEvent (Stall n) = n < 2 ^ 8

abbrev pub FitsPicked : Option Picked → Type 0
FitsPicked None = Unit {0}
FitsPicked (Some x) = (x.routine < 2 ^ 8) × (x.case < 2 ^ 8)

abbrev pub FitsMove : Option Move → Type 0
FitsMove None = Unit {0}
FitsMove (Some x) = (x.channel < 2 ^ 8) × (x.code < 2 ^ 32) × (x.routine < 2 ^ 8)

abbrev pub FitsTypes : Report → Type 0
FitsTypes x = FitsEvent x.event × FitsPicked x.picked × FitsMove x.accepted × FitsMove x.received

-- no report is longer than 128 bytes
abbrev pub ShortReports : Type 0
ShortReports = (x : Report) → FitsTypes x → length (show_report x) ≤ 128
