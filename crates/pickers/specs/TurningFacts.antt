-- The turning picker keeps the laws of pickers: what its member `lawful` cites.
use Rattle.std.specs.Prelude.{◌≡◌, ℕ, ◌+◌, [], ◌∷◌, Some, None, Option}
use Rattle.std.proofs.Common.{ap, ◌∙◌}
use Rattle.std.specs.Option.{unwrap_or, option_or}
use Rattle.pickers.specs.Sets.{cases, onward, first, OneOf}
use Rattle.pickers.specs.SetFacts.{onward_within, lowest_within, onward_empty, cases_empty}
use Rattle.pickers.specs.Meaning.{Lawful}
use Rattle.pickers.specs.Turning.{turned, turning}

either_within : (s : ℕ) (a b : Option ℕ) → OneOf s a → OneOf s b → OneOf s (option_or a b)
either_within s None b p q = q
either_within s (Some k) b p q = p

turned_within : (last s : ℕ) → OneOf s (turned last s)
turned_within last s =
    either_within s (first (onward (last + 1) (cases s))) (first (cases s)) (onward_within s (last + 1)) (lowest_within s)

turned_empty : (last s : ℕ) → s ≡ 0 → turned last s ≡ None
turned_empty last s e =
    ap (turned last) e
    ∙ ap (λ ks. option_or (first (onward (last + 1) ks)) (first ks)) cases_empty
    ∙ ap (λ ks. option_or (first ks) None) (onward_empty (last + 1))

pub turning_lawful : (last : ℕ) → Lawful (turning last)
turning_lawful last [] = record {
  within = λ q. turned_within last q.ready;
  silent = λ q e. turned_empty last q.ready e;
  keeps = λ q e. ap (λ o. turning (unwrap_or o last)) (turned_empty last q.ready e);
}
turning_lawful last (q ∷ qs) = turning_lawful (unwrap_or (turned last q.ready) last) qs
