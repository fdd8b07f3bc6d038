-- Worked examples.
use Rattle.std.specs.Prelude.{◌≡◌, ℕ, List, [], ◌∷◌, ◌++◌, negsuc, Some, None, codes}
use Prim.Native.String.{String}
use Rattle.reports.specs.declared.report.Panic.TheVariants.{NilClose}
use Rattle.reports.specs.declared.report.Pass.TheVariants.{Sent, Received, Drained, Default}
use Rattle.reports.specs.declared.report.Deed.TheVariants.{Plain, Waits, Passes, Closes, Prints, Starts, Ends, Finishes, Panics, Departs}
use Rattle.reports.specs.declared.report.Event.TheVariants.{Turn, Stall}
use Rattle.reports.specs.declared.report.Move.{Move}
use Rattle.reports.specs.Shows.{show_event, show_report}

-- a line with its end
abbrev pub ended : String → List ℕ
ended s = codes s ++ (10 ∷ [])

abbrev pub moved : ℕ → ℕ → ℕ → Move
moved c e r = record { channel = c; code = e; routine = r }

pub record Examples : Type 0 where
  -- each kind of event
  pub plain : show_event (Turn 0 7 Plain) ≡ ended "pl 0 7"
  pub waits : show_event (Turn 0 7 Waits) ≡ ended "wt 0 7"
  pub sent : show_event (Turn 1 10 (Passes 0 (Sent 1 0))) ≡ ended "ps 1 10 0 s 1 0"
  pub received : show_event (Turn 1 10 (Passes 2 (Received 3 4294967295))) ≡ ended "ps 1 10 2 r 3 4294967295"
  pub drained : show_event (Turn 1 10 (Passes 1 (Drained 3))) ≡ ended "ps 1 10 1 z 3"
  pub default : show_event (Turn 1 10 (Passes 7 Default)) ≡ ended "ps 1 10 7 d"
  pub closes : show_event (Turn 2 31 (Closes 4 3)) ≡ ended "cl 2 31 4 3"
  pub prints : show_event (Turn 2 31 (Prints (negsuc 40))) ≡ ended "sy 2 31 -41"
  pub starts : show_event (Turn 2 31 (Starts 63)) ≡ ended "go 2 31 63"
  pub ends : show_event (Turn 63 0 Ends) ≡ ended "en 63 0"
  pub finishes : show_event (Turn 0 0 Finishes) ≡ ended "fi 0 0"
  pub panics : show_event (Turn 5 99 (Panics NilClose)) ≡ ended "pn 5 99 3"
  pub departs : show_event (Turn 5 99 Departs) ≡ ended "dp 5 99"
  pub stalls : show_event (Stall 12) ≡ ended "st 12"
  -- an element goes from a routine that sends to one that waits to receive
  pub handed : show_report (record { event = Turn 1 10 (Passes 0 (Sent 1 0)); picked = None; accepted = Some (moved 1 0 1); received = Some (moved 1 0 0) })
      ≡ ended "ps 1 10 0 s 1 0" ++ (ended "ac 1 0 1" ++ ended "rv 1 0 0")
  -- a receive that was picked
  pub picked : show_report (record { event = Turn 3 12 (Passes 1 (Received 2 5)); picked = Some (record { routine = 3; case = 1 }); accepted = None; received = Some (moved 2 5 3) })
      ≡ ended "ps 3 12 1 r 2 5" ++ (ended "PK 3 1" ++ ended "rv 2 5 3")
