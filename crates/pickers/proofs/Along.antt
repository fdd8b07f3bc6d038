-- A loop that notes the answers to a list of queries: what it has noted, and the meaning that the picker has come to.
use Rattle.std.proofs.Common.{◌≡◌, ℕ, ◌+◌, ◌<◌, ◌≤◌, List, [], ◌∷◌, ◌++◌, length, get_or, drop, Option, Some, None, sym, refl, ap, ◌∙◌}
use Rattle.std.proofs.lemmas.List.{drop_more, drop_all, append_assoc, append-nil}
use Rattle.std.specs.List.{cons_option}
use Rattle.std.specs.Option.{option_to_list}
use Rattle.pickers.specs.declared.picker.Query.{Query}
use Rattle.pickers.specs.Meaning.{Meaning, answer, after, answers, after_all}
use Rattle.pickers.specs.Recording.{Rule, noted}

-- after i of the queries, from the meaning m₀ and the list ns₀ to the meaning m and the list ns
pub record Along {T : Type 0} (rule : Rule T) (m₀ m : Meaning) (ns₀ ns : List T) (qs : List Query) (i : ℕ) : Type 0 where
  pub notes : ns ++ noted rule (drop i qs) (answers m (drop i qs)) ≡ ns₀ ++ noted rule qs (answers m₀ qs)
  pub then : after_all m (drop i qs) ≡ after_all m₀ qs

pub along_none : {T : Type 0} {rule : Rule T} {m : Meaning} {ns : List T} {qs : List Query} → Along rule m m ns ns qs 0
along_none = record { notes = refl; then = refl }

then_noted : {T : Type 0} (ns rest : List T) (o : Option T) → (ns ++ option_to_list o) ++ rest ≡ ns ++ cons_option o rest
then_noted ns rest None = ap (λ l. l ++ rest) (append-nil ns)
then_noted ns rest (Some x) = append_assoc ns (x ∷ []) rest

pub along_more : {T : Type 0} {rule : Rule T} {m₀ m m' : Meaning} {ns₀ ns ns' : List T} {qs : List Query} {i : ℕ} (d : Query)
    → Along rule m₀ m ns₀ ns qs i → i < length qs → m' ≡ after m (get_or qs i d)
    → ns' ≡ ns ++ option_to_list (rule (get_or qs i d) (answer m (get_or qs i d))) → Along rule m₀ m' ns₀ ns' qs (i + 1)
along_more {rule} {m} {m'} {ns} {qs} {i} d a l em en =
    let rest = drop (i + 1) qs in
    let q = get_or qs i d in
    let split : drop i qs ≡ q ∷ rest = drop_more qs i d l in
    record {
      notes =
          ap (λ x. x ++ noted rule rest (answers m' rest)) en
          ∙ ap (λ x. (ns ++ option_to_list (rule q (answer m q))) ++ noted rule rest (answers x rest)) em
          ∙ then_noted ns (noted rule rest (answers (after m q) rest)) (rule q (answer m q))
          ∙ sym (ap (λ x. ns ++ noted rule x (answers m x)) split)
          ∙ a.notes;
      then = ap (λ x. after_all x rest) em ∙ sym (ap (after_all m) split) ∙ a.then;
    }

pub along_all : {T : Type 0} {rule : Rule T} {m₀ m : Meaning} {ns₀ ns : List T} {qs : List Query} {i : ℕ}
    → Along rule m₀ m ns₀ ns qs i → length qs ≤ i → (ns ≡ ns₀ ++ noted rule qs (answers m₀ qs)) × (m ≡ after_all m₀ qs)
along_all {rule} {m} {ns} {qs} {i} a l =
    let gone : drop i qs ≡ [] = drop_all i qs l in (
      sym (append-nil ns) ∙ sym (ap (λ x. ns ++ noted rule x (answers m x)) gone) ∙ a.notes,
      sym (ap (after_all m) gone) ∙ a.then,
    )

-- to note every answer is to list the answers
pub every_answer : (m : Meaning) (qs : List Query) → noted (λ _ o. Some o) qs (answers m qs) ≡ answers m qs
every_answer m [] = refl
every_answer m (q ∷ qs) = ap (λ os. answer m q ∷ os) (every_answer (after m q) qs)
