-- What joining and leaving do to every queue.
use Rattle.std.proofs.Common.{arith, ◌≡◌, ℕ, ◌+◌, ◌<◌, false, cond, not, eqb, List, [], ◌∷◌, ◌++◌, length, Some, None, refl, ap, ◌∙◌, append-nil}
use Rattle.std.proofs.lemmas.List.{get_or-set_same, get_or-set_other}
use Rattle.std.proofs.lemmas.List.Elements.{filter-append}
use Rattle.std.proofs.lemmas.Grind.{flat_map-append}
use Rattle.std.proofs.lemmas.Bool.Decides.{nat_tests}
use Rattle.std.proofs.lemmas.Map.Views.{any-filter_same}
use Rattle.waiting.specs.declared.wish.Wish.{Wish}
use Rattle.waiting.specs.declared.wish.Side.{Side}
use Rattle.waiting.specs.declared.wish.Entry.{Entry}
use Rattle.waiting.specs.Queues.{Row, places, queue, cases, waits, without, written}
use Rattle.waiting.specs.Laws.{among, others}

module _ {X : Type 0} (s : Side) (c : ℕ) where
  -- the entry of a case
  abbrev entry : ℕ → ℕ → Wish X → Entry X
  entry q k w = record { routine = q; case = k; wish = w }

  -- the places of routine q are all its own
  pub others_places : (q r k : ℕ) (ws : Row X) → others r (places s c q k ws) ≡ cond (eqb q r) [] (places s c q k ws)
  others_places q r k [] = grind (arith, nat_tests)
  others_places q r k (None ∷ ws) = others_places q r (k + 1) ws
  others_places q r k (Some w ∷ ws) = grind (arith, nat_tests, others_places q r (k + 1) ws)

  -- the others keep their order
  pub queue_without : (r : ℕ) (line : List ℕ) (t : List (Row X)) → queue s c (without r line) t ≡ others r (queue s c line t)
  queue_without r [] t = refl
  queue_without r (q ∷ line) t =
      grind (arith, nat_tests, queue_without r line t, others_places q r 0 (cases q t), filter-append (λ (e : Entry X). not (eqb e.routine r)) (places s c q 0 (cases q t)) (queue s c line t))

  -- who joins stands behind all others
  pub queue_push : (r : ℕ) (line : List ℕ) (t : List (Row X)) → queue s c (line ++ r ∷ []) t ≡ queue s c line t ++ places s c r 0 (cases r t)
  queue_push r line t =
      flat_map-append (λ q. places s c q 0 (cases q t)) line (r ∷ [])
      ∙ ap (λ l. queue s c line t ++ l) (append-nil (places s c r 0 (cases r t)))

  -- the cases of one who does not wait are in no queue
  queue_written : (r : ℕ) (ws : Row X) (t : List (Row X)) (line : List ℕ) → waits r line ≡ false → queue s c line (written r ws t) ≡ queue s c line t
  queue_written r ws t [] no' = refl
  queue_written r ws t (q ∷ line) no' = grind (arith, nat_tests, get_or-set_other t r q ws [], queue_written r ws t line)

  -- joining, with the cases written
  pub queue_joined : (r : ℕ) (ws : Row X) (t : List (Row X)) (line : List ℕ) → r < length t → waits r line ≡ false → queue s c (line ++ r ∷ []) (written r ws t) ≡ queue s c line t ++ places s c r 0 ws
  queue_joined r ws t line room no' =
      queue_push r line (written r ws t)
      ∙ ap (λ l. l ++ places s c r 0 (cases r (written r ws t))) (queue_written r ws t line no')
      ∙ ap (λ l. queue s c line t ++ places s c r 0 l) (get_or-set_same t r ws [] room)

pub among_others : {X : Type 0} (r : ℕ) (es : List (Entry X)) → among r (others r es) ≡ false
among_others {X} r es = any-filter_same (λ (e : Entry X). eqb e.routine r) (λ e. not (eqb e.routine r)) false (λ e h. ap not h) es

-- who left is in no queue
pub gone : {X : Type 0} (s : Side) (c r : ℕ) (line : List ℕ) (t : List (Row X)) → among r (queue s c (without r line) t) ≡ false
gone s c r line t = ap (among r) (queue_without s c r line t) ∙ among_others r (queue s c line t)
