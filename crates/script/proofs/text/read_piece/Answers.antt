use Rattle.std.proofs.Common.{[], ◌∷◌, ◌++◌, Err, sym, ap, ◌∙◌}
use Rattle.script.proofs.Pieces.{short_piece, open_piece}
use Rattle.script.proofs.text.read_piece.Goals as goal

pub returns-then-end-ne10 : goal.returns-then-end-ne10
returns-then-end-ne10 c = ap Err c.broken-then-end-ne10.ensures ∙ sym (open_piece c.args.number c.args.bytes.now c.in-Some.line.now c.in-Some.end.now c.in-Some.ensures.cases.0 c.if-end-ne10.true)

pub returns : goal.returns
returns c = c.read_line.ensures ∙ short_piece c.args.number c.args.bytes.now c.in-Some.line.now (c.in-Some.ensures.cases.0 ∙ ap (λ x. c.in-Some.line.now ++ (x ∷ [])) c.if-end-ne10.false) c.requires
