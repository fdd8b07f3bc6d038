-- The laws of a run in the middle, from those of all calls since its start.
use Rattle.std.proofs.Common.{◌≡◌, List, [], ◌∷◌, ◌++◌, refl, ap, ◌∙◌, subst}
use Rattle.std.proofs.Math.Bridge.{le_prop}
use Rattle.std.proofs.Math.Logic.{∥∥₁_elim}
use Rattle.linking.specs.Programs.{Program}
use Rattle.linking.specs.Sound.{Sound}
use Rattle.run_laws.specs.Settled.{FewCases}
use Rattle.run_laws.proofs.Waits.{sound_has_few_cases}
use Rattle.calls.specs.declared.call.Call.{Call}
use Rattle.calls.specs.declared.answer.Answer.{Answer}
use Rattle.calls.specs.Calls.{Played, begun, answered, answers, after_calls}
use Rattle.calls.specs.Laws.{LawsHold}
use Rattle.calls.specs.Carried.{Kept, kept_by, kept_after, KeptFollow, LawsFromStart}
use Rattle.calls.specs.Filled.{EachInItsCell, FilledFromStart, first_kept}
use Rattle.calls.proofs.Along.{laws_after, calls_follow}
use Rattle.calls.proofs.Filled.{cells_filled}

few_prop : (p : Program) (a b : FewCases p) → a ≡ b
few_prop p a b = λ t x. le_prop (a x) (b x) t

pub few_cases : (p : Program) → ∥ Sound p ∥₁ → FewCases p
few_cases p sound = ∥∥₁_elim sound (few_prop p) (λ s. sound_has_few_cases p s)

pub laws_from_start : (p : Program) → ∥ Sound p ∥₁ → (at : Played) (calls : List Call) → LawsFromStart p at calls
laws_from_start p sound at calls m l earlier is done rest split =
    let f = calls_follow p (begun p m) earlier done in
    subst (λ (x : Played). LawsHold p (answers p (begun p m) earlier ++ answers p x done) (after_calls p x done)) is
    (subst (λ (given : List Answer). LawsHold p given (after_calls p (after_calls p (begun p m) earlier) done)) f.0
    (subst (LawsHold p (answers p (begun p m) (earlier ++ done))) f.1 (laws_after p (few_cases p sound) m l (earlier ++ done))))

-- what a list of calls after another leaves
pub kept_follow : KeptFollow
kept_follow p at [] ys k = refl
kept_follow p at (x ∷ xs) ys k = kept_follow p (answered p at x).after xs ys (kept_by p at x k)

pub filled_from_start : (p : Program) → ∥ Sound p ∥₁ → (at : Played) (calls : List Call) (k : Kept) → FilledFromStart p at calls k
filled_from_start p sound at calls k m l vs hs earlier is kept done rest split =
    subst (EachInItsCell p m (earlier ++ done) vs hs)
    (kept_follow p (begun p m) earlier done (first_kept p vs hs) ∙ ap (λ q. kept_after p (after_calls p (begun p m) earlier) done q) kept ∙ ap (λ q. kept_after p q done k) is)
    (cells_filled p (few_cases p sound) m l vs hs (earlier ++ done))
