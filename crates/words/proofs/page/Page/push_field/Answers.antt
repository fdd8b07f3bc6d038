use Rattle.std.proofs.Common.{[], ◌∷◌}
use Rattle.words.specs.Shows.{show_word, field_said}
use Rattle.words.proofs.Pages.{wrote_then}
use Rattle.words.proofs.page.Page.push_field.Goals as goal

pub returns : goal.returns
returns c = wrote_then c.args.self.now (32 ∷ []) c.push_byte.new.self (show_word (field_said c.args.field.now)) c.push_word.new.self c.push_byte.ensures c.push_word.ensures
