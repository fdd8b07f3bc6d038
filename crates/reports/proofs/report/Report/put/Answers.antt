use Rattle.std.proofs.Common.{arith}
use Rattle.words.proofs.Pages.{prints, clash}
use Rattle.reports.proofs.Texts.{no_room, in_turn}
use Rattle.reports.proofs.Lengths.{lengths}
use Rattle.reports.proofs.report.Report.put.Goals as goal

pub returns-in_err-put_event : goal.returns-in_err-put_event
returns-in_err-put_event c =
    no_room _ _ _ _ (λ room. clash (prints _ _ _ _ c.put_event.ensures.printed (omega (arith, lengths))).0 c.in_err-put_event.was)

pub returns-in_err-put_picked : goal.returns-in_err-put_picked
returns-in_err-put_picked c =
    no_room _ _ _ _ (λ room.
    let one = (prints _ _ _ _ c.put_event.ensures.printed (omega (arith, lengths))).1 in
    clash (prints _ _ _ _ c.put_picked.ensures.printed (omega (arith, lengths))).0 c.in_err-put_picked.was)

pub returns-in_err-put_move : goal.returns-in_err-put_move
returns-in_err-put_move c =
    no_room _ _ _ _ (λ room.
    let one = (prints _ _ _ _ c.put_event.ensures.printed (omega (arith, lengths))).1 in
    let two = (prints _ _ _ _ c.put_picked.ensures.printed (omega (arith, lengths))).1 in
    clash (prints _ _ _ _ c.put_move.ensures.printed (omega (arith, lengths))).0 c.in_err-put_move.was)

pub returns : goal.returns
returns c =
    in_turn _ _ _ _ _ _ _ _ _ _ _ _ _ c.put_event.ensures.printed c.put_picked.ensures.printed c.put_move.ensures.printed c.put_move-2.ensures.printed (omega (arith, lengths))
