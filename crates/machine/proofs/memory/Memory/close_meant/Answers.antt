use Rattle.std.proofs.Common.{◌≡◌, sym, ap, ◌∙◌, subst}
use Rattle.runs.specs.Runs.{Parts, channel}
use Rattle.runs.specs.Cases.{channel_for}
use Rattle.hub.specs.Boards.{Board, seen}
use Rattle.machine.proofs.Stilled.{nil_close_made, second_close_made, close_made}
use Rattle.machine.proofs.memory.Memory.close_meant.Goals as goal

pub returns-in-None : goal.returns-in-None
returns-in-None c = λ m vs hs.
    let x = c.args.turn.now in
    let W : Parts Board → Type 0 = λ n. c.channel_meant.result ≡ channel_for (seen n.hub vs hs).channels x.routine c.args.operand in
    let meant = subst W c.self.view_is (c.channel_meant.ensures.is vs hs) in
    nil_close_made m x.number x.line x.routine c.halt.result c.args.self.now c.halt.new.self vs hs _ (sym meant ∙ c.in-None.is) c.halt.ensures.report c.halt.ensures.memory

pub returns-in-Some : goal.returns-in-Some
returns-in-Some c = λ m vs hs.
    let x = c.args.turn.now in
    let W : Parts Board → Type 0 = λ n. c.channel_meant.result ≡ channel_for (seen n.hub vs hs).channels x.routine c.args.operand in
    let meant = subst W c.self.view_is (c.channel_meant.ensures.is vs hs) in
    let D : Parts Board → Type 0 = λ n. c.is_closed.result ≡ (channel (seen n.hub vs hs) c.from.result).closed in
    let marked = subst D c.self.view_is (c.is_closed.ensures.seen vs hs) in
    let there = ap (λ n. (channel (seen c.args.self.now.hub vs hs) n).closed) c.from.ensures in
    second_close_made m x.number x.line x.routine c.halt-in-Some.result c.args.self.now c.halt-in-Some.new.self vs hs _ c.in-Some.channel (sym meant ∙ c.in-Some.is) (sym there ∙ sym marked ∙ c.if-is_closed.true) c.halt-in-Some.ensures.report c.halt-in-Some.ensures.memory

pub returns-in-Some-2 : goal.returns-in-Some-2
returns-in-Some-2 c = λ m vs hs.
    let x = c.args.turn.now in
    let W : Parts Board → Type 0 = λ n. c.channel_meant.result ≡ channel_for (seen n.hub vs hs).channels x.routine c.args.operand in
    let meant = subst W c.self.view_is (c.channel_meant.ensures.is vs hs) in
    let D : Parts Board → Type 0 = λ n. c.is_closed.result ≡ (channel (seen n.hub vs hs) c.from.result).closed in
    let marked = subst D c.self.view_is (c.is_closed.ensures.seen vs hs) in
    let there = ap (λ n. (channel (seen c.args.self.now.hub vs hs) n).closed) c.from.ensures in
    close_made m x.number x.line x.routine c.close.result c.args.self.now c.close.new.self vs hs _ c.in-Some.channel (sym meant ∙ c.in-Some.is) (sym there ∙ sym marked ∙ c.if-is_closed.false) c.close.ensures.report c.close.ensures.memory
