use Rattle.std.proofs.Common.{◌-◌, length, take, drop}
use Rattle.line_reader.proofs.Named.{named}
use Rattle.line_reader.proofs.fields.Fields.word.Goals as goal

pub returns-clause-names : goal.returns-clause-names
returns-clause-names c = named c.args.self.now.line (take (length c.args.self.now.rest.now - 1) (drop 1 c.args.self.now.rest.now)) _ _ c.in_ok-word.ensures
