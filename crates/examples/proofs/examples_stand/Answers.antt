use Rattle.std.proofs.Common.{refl}
use Rattle.std.specs.Fmt.{digits}
use Rattle.std.specs.Int.{int_wrap}
use Rattle.lines.specs.Lines.{read_field}
use Rattle.script.specs.Texts.{pieces, read_on}
use Rattle.linking.specs.Links.{link_lines, link_parts}
use Rattle.pickers.specs.Sets.{has, cases, onward}
use Rattle.examples.proofs.examples_stand.Goals as goal

pub returns : goal.returns
unfolding digits int_wrap read_field pieces read_on link_lines link_parts has cases onward
returns c = (refl, (refl, (refl, (refl, (refl, (refl, (refl, (refl, tt))))))))
