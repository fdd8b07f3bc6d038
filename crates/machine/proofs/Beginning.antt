-- The memory of a run at its start.
use Rattle.std.proofs.Common.{◌≡◌, ℕ, suc, ◌+◌, true, List, [], ◌∷◌, length, sum_by, refl, sym, ap, ◌∙◌, subst}
use Rattle.std.specs.Bool.{if◌then◌else◌}
use Rattle.std.proofs.lemmas.List.Sums.{sum_by-cons}
use Rattle.lines.specs.declared.line.Kind.{Kind}
use Rattle.lines.specs.declared.line.Kind.TheVariants.{Value as ValueKind, Handle as HandleKind}
use Rattle.elements.specs.declared.value.Value.{Value}
use Rattle.elements.specs.declared.handle.Handle.{Handle}
use Rattle.elements.specs.Codes.{value_zero, nil_handle}
use Rattle.rings.specs.Contents.{cleared}
use Rattle.linking.specs.declared.declared.Declared.{Declared}
use Rattle.linking.specs.Programs.{Program}
use Rattle.linking.specs.Sound.{cells_for}
use Rattle.routines.specs.Registers.{first}
use Rattle.runs.specs.Runs.{Parts, started}
use Rattle.runs.specs.Orderly.{Orderly}
use Rattle.run_laws.proofs.Orderly.{begins_orderly}
use Rattle.hub.specs.Boards.{Board, laid, cells, declared, new_port, enough}
use Rattle.hub.proofs.Laid.{seen_laid}
use Rattle.machine.specs.Memory.{seen_run}
use Rattle.machine.specs.Starts.{first_memory, Begun}

length_laid : (c v h : ℕ) (ds : List Declared) → length (laid c v h ds) ≡ length ds
length_laid c v h [] = refl
length_laid c v h (d ∷ ds) = ap suc (length_laid (c + 1) (v + cells_for ValueKind d) (h + cells_for HandleKind d) ds)

cells_laid : (k : Kind) (c v h : ℕ) (ds : List Declared) → cells k (laid c v h ds) ≡ sum_by (cells_for k) ds
cells_laid k c v h [] = refl
cells_laid k c v h (d ∷ ds) =
    let rest = laid (c + 1) (v + cells_for ValueKind d) (h + cells_for HandleKind d) ds in
    sum_by-cons (λ p. cells_for k (declared p)) (new_port c v h d) rest
    ∙ ap (λ n. cells_for k d + n) (cells_laid k (c + 1) (v + cells_for ValueKind d) (h + cells_for HandleKind d) ds)
    ∙ sym (sum_by-cons (cells_for k) d ds)

module _ (p : Program) (new : Parts Board) (memory : new ≡ first_memory p) where
  pub begins_in_order : Orderly (length new.routines) new.turns new.hub.line
  begins_in_order = let O : Parts Board → Type 0 = λ n. Orderly (length n.routines) n.turns n.hub.line in subst O (sym memory) (begins_orderly p)

  pub begins_with_channels : length new.hub.ports ≡ length p.channels
  begins_with_channels = ap (λ n. length n.hub.ports) memory ∙ length_laid 0 0 0 p.channels

  module _ (vs : List Value) (hs : List Handle) (vs' : List Value) (hs' : List Handle) (there : enough vs hs ≡ true) where
    pub begun : vs' ≡ (if enough vs hs then cleared 0 (cells ValueKind new.hub.ports) value_zero vs else vs) → hs' ≡ (if enough vs hs then cleared 0 (cells HandleKind new.hub.ports) nil_handle hs else hs) → Begun p new vs hs vs' hs'
    begun values handles = record {
      memory = memory;
      run = ap (λ n. seen_run n vs' hs') memory ∙ ap (λ cs. record { routines = first p.main ∷ []; hub = record (started p).hub { channels = cs }; turns = 0 ∷ []; over = (started p).over }) (seen_laid 0 0 0 p.channels vs' hs');
      values = values ∙ ap (λ b. if b then cleared 0 (cells ValueKind new.hub.ports) value_zero vs else vs) there ∙ ap (λ n. cleared 0 n value_zero vs) (ap (λ n. cells ValueKind n.hub.ports) memory ∙ cells_laid ValueKind 0 0 0 p.channels);
      handles = handles ∙ ap (λ b. if b then cleared 0 (cells HandleKind new.hub.ports) nil_handle hs else hs) there ∙ ap (λ n. cleared 0 n nil_handle hs) (ap (λ n. cells HandleKind n.hub.ports) memory ∙ cells_laid HandleKind 0 0 0 p.channels);
    }
