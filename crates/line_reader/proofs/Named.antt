-- A word that is read as a name is one.
use Rattle.std.proofs.Common.{◌≡◌, ℕ, ◌-◌, Bool, true, false, cond, List, get_or, take, ℤ, Some, None, Ok, Err, Option, Result, refl, ap}
use Rattle.words.specs.declared.refusal.Fault.{Fault}
use Rattle.words.specs.Names.{is_name}
use Rattle.words.specs.Words.{Said, name, number, value, handle, span, register, number_of, numbered, with_rest, read_word}
use Rattle.lines.specs.Lines.{then}
use Rattle.line_reader.specs.Reads.{Spelt}

-- by the tests that word_of makes
by_tests : (t x : List ℕ) (n k : ℕ) (v h : Bool) (z : Option ℤ) (b : Bool) → b ≡ is_name t → Ok (name x) ≡ cond v (Ok (value k)) (cond h (Ok (handle k)) (cond b (Ok (name t)) (numbered n z))) → is_name x ≡ true
by_tests t x n k true h z b q e = cc
by_tests t x n k false true z b q e = cc
by_tests t x n k false false z true q e = cc
by_tests t x n k false false (Some i) false q e = cc
by_tests t x n k false false None false q e = cc

front : (l r : List ℕ) (w : Said) (o : Result Said Fault) → Ok (w, r) ≡ with_rest l o → Ok w ≡ o
front l r w (Ok v) e = ap (λ o. then o (λ u left. Ok u)) e
front l r w (Err d) e = ap (λ o. then o (λ u left. Ok u)) e

pub named : (n : ℕ) (s r : List ℕ) (w : Said) → Ok (w, r) ≡ read_word n s → Spelt w
named n s r (name x) e =
    let t = take (span 32 s) s in
    by_tests t x n (get_or t 1 0 - 48) (register 118 8 t) (register 104 4 t) (number_of t) (is_name t) refl (front _ _ _ _ e)
named n s r (number z) e = tt
named n s r (value k) e = tt
named n s r (handle k) e = tt
