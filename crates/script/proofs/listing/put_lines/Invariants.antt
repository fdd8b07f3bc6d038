use Rattle.std.proofs.Common.{◌≡◌, true}
use Rattle.words.specs.Pages.{Wrote, fits}
use Rattle.script.specs.Texts.{show}
use Rattle.script.proofs.Showing.{first}
use Rattle.script.proofs.listing.put_lines.Given as goal

abbrev pub invariant-loop-line : goal.invariant-loop-line
invariant-loop-line l = fits l.initial.page (show l.lines) ≡ true → Wrote l.initial.page (first l.lines l.line-index) l.page
