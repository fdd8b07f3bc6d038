-- The text of a report.
use Rattle.std.specs.Prelude.{ℕ, List, [], ◌∷◌, ◌++◌, pos, Some, None, codes, Option}
use Rattle.words.specs.Words.{Said, name, number}
use Rattle.words.specs.Shows.{show_fields}
use Rattle.reports.specs.declared.report.Pass.{Pass}
use Rattle.reports.specs.declared.report.Pass.TheVariants.{Sent, Received, Drained, Default}
use Rattle.reports.specs.declared.report.Deed.{Deed}
use Rattle.reports.specs.declared.report.Deed.TheVariants.{Plain, Waits, Passes, Closes, Prints, Starts, Ends, Finishes, Panics, Departs}
use Rattle.reports.specs.declared.report.Event.{Event}
use Rattle.reports.specs.declared.report.Event.TheVariants.{Turn, Stall}
use Rattle.reports.specs.declared.report.Picked.{Picked}
use Rattle.reports.specs.declared.report.Move.{Move}
use Rattle.reports.specs.declared.report.Report.{Report}
use Rattle.reports.specs.Causes.{number_of}

abbrev pub natural : ℕ → Said
natural n = number (pos n)

-- a record: a mark, its words, each after a space, and the end of the line
abbrev pub text_line : List ℕ → List Said → List ℕ
text_line mark words = (mark ++ show_fields words) ++ (10 ∷ [])

-- how a case was passed: a letter, and the channel and the element where there is one
abbrev pub way : Pass → List Said
way (Sent c e) = name (codes "s") ∷ (natural c ∷ (natural e ∷ []))
way (Received c e) = name (codes "r") ∷ (natural c ∷ (natural e ∷ []))
way (Drained c) = name (codes "z") ∷ (natural c ∷ [])
way Default = name (codes "d") ∷ []

-- a turn's record: the routine and its text line come first
abbrev pub turn_line : List ℕ → ℕ → ℕ → List Said → List ℕ
turn_line mark r p words = text_line mark (natural r ∷ (natural p ∷ words))

-- what routine r did at text line p
abbrev pub show_turn : ℕ → ℕ → Deed → List ℕ
show_turn r p Plain = turn_line (codes "pl") r p []
show_turn r p Waits = turn_line (codes "wt") r p []
show_turn r p (Passes k w) = turn_line (codes "ps") r p (natural k ∷ way w)
show_turn r p (Closes c n) = turn_line (codes "cl") r p (natural c ∷ (natural n ∷ []))
show_turn r p (Prints v) = turn_line (codes "sy") r p (number v ∷ [])
show_turn r p (Starts n) = turn_line (codes "go") r p (natural n ∷ [])
show_turn r p Ends = turn_line (codes "en") r p []
show_turn r p Finishes = turn_line (codes "fi") r p []
show_turn r p (Panics q) = turn_line (codes "pn") r p (natural (number_of q) ∷ [])
show_turn r p Departs = turn_line (codes "dp") r p []

abbrev pub show_event : Event → List ℕ
show_event (Turn r p d) = show_turn r p d
show_event (Stall n) = text_line (codes "st") (natural n ∷ [])

abbrev pub show_picked : Option Picked → List ℕ
show_picked None = []
show_picked (Some x) = text_line (codes "PK") (natural x.routine ∷ (natural x.case ∷ []))

abbrev pub show_move : List ℕ → Option Move → List ℕ
show_move mark None = []
show_move mark (Some x) = text_line mark (natural x.channel ∷ (natural x.code ∷ (natural x.routine ∷ [])))

-- the event, the pick, the accepted element and the received one; what is not there is empty
abbrev pub records : Report → List (List ℕ)
records x = show_event x.event ∷ (show_picked x.picked ∷ (show_move (codes "ac") x.accepted ∷ (show_move (codes "rv") x.received ∷ [])))

abbrev pub joined : List (List ℕ) → List ℕ
joined [] = []
joined (t ∷ ts) = t ++ joined ts

abbrev pub show_report : Report → List ℕ
show_report x = joined (records x)
