-- The laws of lines, cited.
use Rattle.text_laws.proofs.LineLaws.{reads_back, lists_back, no_end}
use Rattle.text_laws.proofs.lines_round_trip.Goals as goal

pub returns : goal.returns
returns c = record { reads = reads_back; lists = lists_back; ends = no_end }
