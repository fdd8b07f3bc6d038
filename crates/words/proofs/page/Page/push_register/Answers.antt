use Rattle.std.proofs.Common.{[], ◌∷◌, decimal, sym}
use Rattle.words.proofs.Pages.{wrote_then}
use Rattle.words.proofs.page.Page.push_register.Goals as goal

pub returns : goal.returns
returns c = rw (sym c.from.ensures) (wrote_then c.args.self.now (c.args.letter ∷ []) c.push_byte.new.self (decimal c.from.result) c.push_number.new.self c.push_byte.ensures c.push_number.ensures)
