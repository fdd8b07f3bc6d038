use Rattle.std.proofs.Common.{rules, ◌≡◌, ◌<◌, Bool, true, false, length, nat_lt, sym, refl, ap, subst}
use Rattle.std.proofs.lemmas.Bool.{lt-ltb}
use Rattle.runs.specs.Steps.{starting}
use Rattle.machine.specs.Memory.{Made, seen_run}
use Rattle.machine.proofs.Makes.{still}
use Rattle.machine.proofs.memory.Memory.start_in.Goals as goal

pub returns-then-len-lt64 : goal.returns-then-len-lt64
returns-then-len-lt64 c = λ m vs hs.
    let old = c.args.self.now in
    let new = c.start_another.new.self in
    let x = c.args.turn.now in
    let less : length old.routines < 64 = search rules in
    let B : Bool → Type 0 = λ b. Made (starting (seen_run old vs hs) m x.number x.line x.routine c.args.body b) c.start_another.result old new vs vs hs hs in
    subst B (sym (lt-ltb (length old.routines) 64 less))
    (still (starting (seen_run old vs hs) m x.number x.line x.routine c.args.body true) c.start_another.result old new vs hs c.start_another.ensures.report refl refl (ap (λ n. n.hub.ports) c.start_another.ensures.memory) (ap (λ n. seen_run n vs hs) c.start_another.ensures.memory))

pub returns : goal.returns
returns c = λ m vs hs.
    let old = c.args.self.now in
    let new = c.halt.new.self in
    let x = c.args.turn.now in
    let no : nat_lt (length old.routines) 64 ≡ false = search rules in
    let B : Bool → Type 0 = λ b. Made (starting (seen_run old vs hs) m x.number x.line x.routine c.args.body b) c.halt.result old new vs vs hs hs in
    subst B (sym no)
    (still (starting (seen_run old vs hs) m x.number x.line x.routine c.args.body false) c.halt.result old new vs hs c.halt.ensures.report refl refl (ap (λ n. n.hub.ports) c.halt.ensures.memory) (ap (λ n. seen_run n vs hs) c.halt.ensures.memory))
