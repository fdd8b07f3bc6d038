use Rattle.words.specs.Pages.{Wrote}
use Rattle.words.proofs.Fields.{field}
use Rattle.words.proofs.Shown.{shown}
use Rattle.words.proofs.page.Page.push_fields.Given as goal

abbrev pub invariant-loop-field : goal.invariant-loop-field
invariant-loop-field l = Wrote l.initial.self (shown field l.fields l.field-index) l.self
