-- A text is read exactly if it lists a lawful script.
use Rattle.std.proofs.Common.{◌≡◌, ℕ, List, Result, sym, ap, ◌∙◌}
use Rattle.words.specs.declared.refusal.Fault.{Fault}
use Rattle.lines.specs.declared.line.Line.{Line}
use Rattle.script.specs.Texts.{read_script}
use Rattle.script_laws.specs.Exact.{Exactly}
use Rattle.script_laws.proofs.Kept.{accepts_kept, accepts_only}
use Rattle.script_laws.proofs.Whole.{accepts_lawful, lawful_kept}

pub exactly : (t : List ℕ) (o : Result (List (Line (List ℕ))) Fault) → o ≡ read_script t → Exactly t o
exactly t o e = record {
  only = λ ls h.
      let r = sym e ∙ h in
      let k = accepts_only t ls r in
      record { lawful = accepts_lawful t ls r; good = k.0.good; short = k.0.short; listed = k.1 };
  all = λ ls h. e ∙ ap read_script (sym h.listed) ∙ accepts_kept ls (lawful_kept ls h.lawful h.good h.short);
}
