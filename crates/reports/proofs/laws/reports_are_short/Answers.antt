-- No report is long, cited.
use Rattle.reports.proofs.Lengths.{short_reports}
use Rattle.reports.proofs.laws.reports_are_short.Goals as goal

pub returns : goal.returns
returns c = short_reports
