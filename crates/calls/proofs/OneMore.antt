-- Carrying out one call more.
use Rattle.std.proofs.Common.{◌≡◌, ℕ, zero, suc, ◌+◌, ◌<◌, ◌≤◌, List, [], ◌∷◌, ◌++◌, take, get_or, length, sym, refl, ap, ap₂, ◌∙◌, append-nil, append_assoc, arith, subst}
use Rattle.std.proofs.Math.Seq.{take-suc}
use Rattle.linking.specs.Programs.{Program}
use Rattle.pickers.specs.Meaning.{Meaning}
use Rattle.calls.specs.declared.call.Call.{Call}
use Rattle.calls.specs.declared.answer.Answer.{Answer}
use Rattle.calls.specs.Calls.{Played, answered, answers, after_calls}
use Rattle.calls.specs.Carried.{Kept, kept_by, played, Made, Carried}
use Rattle.calls.proofs.Along.{calls_follow}
use Rattle.calls.proofs.FromStart.{kept_follow}

pub none_carried : (p : Program) (old : Kept) (m : Meaning) (items : List Answer) → Carried p [] old m items old m items
none_carried p old m items = record { answers = sym (append-nil items); left = refl; run = refl }

module _ (p : Program) (old mid new : Kept) (m m' m'' : Meaning) (items items' : List Answer) (a : Answer) where
  pub one_carried : (done : List Call) (c : Call) → Carried p done old m items mid m' items' → Made p c mid m' a new m'' → Carried p (done ++ (c ∷ [])) old m items new m'' (items' ++ (a ∷ []))
  one_carried done c t one =
      let at : Played = played old m in
      let next : Played = after_calls p at done in
      let f = calls_follow p at done (c ∷ []) in
      let told : a ≡ (answered p next c).answer = one.answer ∙ ap (λ x. (answered p x c).answer) t.run in
      record {
        answers = ap₂ (λ xs x. xs ++ (x ∷ [])) t.answers told ∙ append_assoc items (answers p at done) ((answered p next c).answer ∷ []) ∙ ap (λ xs. items ++ xs) (sym f.0);
        left = one.left ∙ ap₂ (λ x k. kept_by p x c k) t.run t.left ∙ sym (kept_follow p at done (c ∷ []) old);
        run = one.run ∙ ap (λ x. (answered p x c).after) t.run ∙ sym f.1;
      }

  -- the next of a list of calls
  pub next_carried : (calls : List Call) (i : ℕ) (d : Call) → i < length calls → Carried p (take i calls) old m items mid m' items' → Made p (get_or calls i d) mid m' a new m''
      → (noted : List Answer) → noted ≡ items' ++ (a ∷ []) → Carried p (take (i + 1) calls) old m items new m'' noted
  next_carried calls i d l t one noted is =
      let next : i + 1 ≡ suc i = omega arith in
      subst (λ (xs : List Answer). Carried p (take (i + 1) calls) old m items new m'' xs) (sym is)
      (subst (λ (done : List Call). Carried p done old m items new m'' (items' ++ (a ∷ []))) (sym (ap (λ n. take n calls) next ∙ take-suc calls i d l))
      (one_carried (take i calls) (get_or calls i d) t one))

-- all of them
take_all : {X : Type 0} (xs : List X) (i : ℕ) → length xs ≤ i → take i xs ≡ xs
take_all [] zero l = refl
take_all [] (suc i) l = refl
take_all (x ∷ xs) zero l = absurd (omega arith)
take_all (x ∷ xs) (suc i) l = ap (λ ys. x ∷ ys) (take_all xs i (omega arith))

pub all_carried : (p : Program) (old new : Kept) (m m' : Meaning) (items items' : List Answer) (calls : List Call) (i : ℕ) → length calls ≤ i → Carried p (take i calls) old m items new m' items' → Carried p calls old m items new m' items'
all_carried p old new m m' items items' calls i l t = subst (λ (done : List Call). Carried p done old m items new m' items') (take_all calls i l) t
