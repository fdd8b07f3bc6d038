-- What a step keeps of a started script.
use Rattle.std.proofs.Common.{◌≡◌, ℕ, List, length, map, sym, ap, ◌∙◌, subst, arith}
use Rattle.std.proofs.lemmas.List.{length-map}
use Rattle.lines.specs.declared.line.Kind.{Kind}
use Rattle.elements.specs.declared.value.Value.{Value}
use Rattle.elements.specs.declared.handle.Handle.{Handle}
use Rattle.linking.specs.Programs.{Program}
use Rattle.pickers.specs.Meaning.{Meaning}
use Rattle.reports.specs.declared.report.Report.{Report}
use Rattle.runs.specs.Runs.{Parts, Channel}
use Rattle.runs.specs.Orderly.{Orderly, OrderlyRun}
use Rattle.runs.specs.Steps.{step}
use Rattle.run_laws.proofs.Orderly.{step_orderly}
use Rattle.run_laws.proofs.Kept.{channels_stay}
use Rattle.hub.specs.Boards.{Board, seen_port}
use Rattle.machine.specs.Memory.{Made, seen_run}

-- what is kept of a memory
pub record Keeps (n : ℕ) (run : Parts Board) : Type 0 where
  pub order : Orderly (length run.routines) run.turns run.hub.line
  pub channels : length run.hub.ports ≡ n

module _ (p : Program) (m : Meaning) (answer : Report) (old new : Parts Board) (vs : List Value) (hs : List Handle) (vs' : List Value) (hs' : List Handle) (made : Made (step p (seen_run old vs hs) m) answer old new vs vs' hs hs') where
  keeps_order : Orderly (length old.routines) old.turns old.hub.line → Orderly (length new.routines) new.turns new.hub.line
  keeps_order o = subst OrderlyRun (sym made.run) (step_orderly p (seen_run old vs hs) m o)

  keeps_channels : length new.hub.ports ≡ length old.hub.ports
  keeps_channels =
      let cs = (step p (seen_run old vs hs) m).run.hub.channels in
      let before = map (seen_port vs hs) old.hub.ports in
      let one : Channel → Kind × ℕ = λ c. (c.kind, c.capacity) in
      omega (arith, length-map new.hub.ports (seen_port vs' hs'), ap (λ q. length q.hub.channels) made.run, length-map cs one, ap length (channels_stay p (seen_run old vs hs) m), length-map before one, length-map old.hub.ports (seen_port vs hs))

  pub keeps : (n : ℕ) → Orderly (length old.routines) old.turns old.hub.line → length old.hub.ports ≡ n → Keeps n new
  keeps n o same = record { order = keeps_order o; channels = keeps_channels ∙ same }
