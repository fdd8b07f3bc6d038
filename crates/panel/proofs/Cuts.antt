-- The first line of what is left of a text.
use Rattle.std.proofs.Common.{◌≡◌, ℕ, ◌+◌, true, false, List, ◌∷◌, length, Ok, ap, ◌∙◌}
use Rattle.std.proofs.lemmas.Bool.{cond-true, cond-false}
use Rattle.std.proofs.lemmas.List.{append-nil}
use Rattle.script.specs.Texts.{pieces}
use Rattle.script.specs.Drafts.{behind}
use Rattle.script.proofs.Pieces.{no_piece}
use Rattle.linking.specs.Links.{both}
use Rattle.calls.specs.declared.call.Call.{Call}
use Rattle.panel.specs.Forms.{is_mark, script_len, read_ended, read_calls}

module _ (rest line rest' : List ℕ) (first : pieces rest ≡ line ∷ pieces rest') where
  -- the script ends before the mark, and not before another line
  pub at_mark : is_mark line ≡ true → script_len (pieces rest) ≡ 0
  at_mark m = ap script_len first ∙ cond-true (is_mark line) _ _ m

  pub past_line : is_mark line ≡ false → script_len (pieces rest) ≡ length line + script_len (pieces rest')
  past_line m = ap script_len first ∙ cond-false (is_mark line) _ _ m

  -- the line is line n of the calls
  pub calls_on : (n : ℕ) → read_calls n (pieces rest) ≡ both (read_ended n line) (read_calls (n + 1) (pieces rest'))
  unfolding read_calls
  calls_on n = ap (read_calls n) first

-- nothing is left
pub script_done : (rest : List ℕ) → length rest ≡ 0 → script_len (pieces rest) ≡ 0
script_done rest h = ap script_len (no_piece rest h)

pub calls_done : (n : ℕ) (rest : List ℕ) (done : List Call) → length rest ≡ 0 → behind done (read_calls n (pieces rest)) ≡ Ok done
unfolding read_calls
calls_done n rest done h = ap (λ ps. behind done (read_calls n ps)) (no_piece rest h) ∙ ap Ok (append-nil done)
