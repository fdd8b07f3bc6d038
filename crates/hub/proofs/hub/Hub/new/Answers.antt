use Rattle.std.proofs.Common.{refl}
use Rattle.std.proofs.Math.Bool.{Bool-set}
use Rattle.std.proofs.Math.Logic.{∥∥₁_elim}
use Rattle.hub.proofs.Laid.{sound_lays, laid_placed, seen_laid}
use Rattle.hub.proofs.hub.Hub.new.Goals as goal

pub lay-requires : goal.lay-requires
lay-requires c = rw c.channels.ensures (∥∥₁_elim c.args.linked.now.sound (Bool-set _ _) (sound_lays c.args.linked.now.program))

pub invariant_of-result : goal.invariant_of-result
invariant_of-result c =
    let s = ∥∥₁_elim c.args.linked.now.sound (Bool-set _ _) (sound_lays c.args.linked.now.program) in
    rw (c.in_ok-ports.ensures, c.channels.ensures) (laid_placed 0 0 0 c.args.linked.now.program.channels s)

pub returns-clause-seen : goal.returns-clause-seen
returns-clause-seen c = λ vs hs.
    rw (c.in_ok-ports.ensures, c.channels.ensures, c.in_ok-waiting.ensures, seen_laid 0 0 0 c.args.linked.now.program.channels vs hs) refl
