-- One line read into a draft, and what is left of the text.
use Rattle.std.proofs.Common.{◌≡◌, ℕ, zero, suc, ◌+◌, ◌<◌, eqb, min, List, [], ◌∷◌, ◌++◌, length, Ok, Err, Result, sym, refl, ap, ◌∙◌, arith}
use Rattle.std.specs.List.{IsFirstMatchOrLen}
use Rattle.std.proofs.lemmas.Bool.{eq-eqb, ne_eqb}
use Rattle.std.proofs.lemmas.List.{append_assoc, append-nil, length-append}
use Rattle.words.specs.declared.refusal.Fault.{Fault}
use Rattle.lines.specs.Roles.{role}
use Rattle.script.specs.Rules.{standing}
use Rattle.script.specs.Texts.{pieces, none_left, read_piece, in_front, admitted, judged, read_on}
use Rattle.script.specs.Drafts.{Made, Reads, behind, reading}
use Rattle.script.proofs.Pieces.{none_pieces, cut_piece}

pub behind_more : {A : Type 0} (done : List A) (a : A) (o : Result (List A) Fault) → behind done (in_front a o) ≡ behind (done ++ (a ∷ [])) o
behind_more done a (Ok more) = ap Ok (sym (append_assoc done (a ∷ []) more))
behind_more done a (Err e) = refl

-- the end is reached where nothing is left
ends : (k m n : ℕ) → m + k ≡ n → eqb m n ≡ eqb k 0
ends zero m n h = eq-eqb m n (omega arith)
ends (suc k) m n h = ne_eqb m n (λ e. omega arith) ∙ sym (ne_eqb (suc k) 0 (λ e. omega arith))

-- at the end of the text all of it is there
pub read_all : (d : Made) (n : ℕ) (t : List ℕ) → pieces t ≡ [] → reading d n t ≡ Ok d.lines
unfolding read_on
read_all d n t h = ap (λ ps. behind d.lines (read_on n d.standing ps)) h ∙ ap Ok (append-nil d.lines)

-- a piece cut off the rest of the text t, which is left from its byte `end` on
pub record Cut (end : ℕ) (t rest piece rest' : List ℕ) : Type 0 where
  pub i : ℕ
  pub cut : rest ≡ piece ++ rest'
  pub len : length piece ≡ min (i + 1) (length rest)
  pub some : 0 < length rest
  pub first : IsFirstMatchOrLen (λ b. eqb b 10) rest i
  pub before : end + length rest ≡ length t

-- it is read as line n
module _ (d d' : Made) (n end : ℕ) (t rest piece rest' : List ℕ) (here : Cut end t rest piece rest') where
  pub end_after : (end + length piece) + length rest' ≡ length t
  end_after = omega (arith, here.before, ap length here.cut, length-append piece rest')

  last_piece : eqb (end + length piece) (length t) ≡ none_left (pieces rest')
  last_piece = ends (length rest') (end + length piece) (length t) end_after ∙ sym (none_pieces rest')

  at_piece : reading d n rest ≡ behind d.lines (judged n d.standing (eqb (end + length piece) (length t)) (read_piece n piece) (λ l. read_on (n + 1) (standing d.standing (role l)) (pieces rest')))
  unfolding read_on
  at_piece =
      ap (λ ps. behind d.lines (read_on n d.standing ps)) (cut_piece rest piece rest' here.i here.cut here.len here.first here.some)
      ∙ ap (λ b. behind d.lines (judged n d.standing b (read_piece n piece) (λ l. read_on (n + 1) (standing d.standing (role l)) (pieces rest')))) (sym last_piece)

  pub piece_refused : (e : Fault) → Reads d n piece (eqb (end + length piece) (length t)) d' (Err e) → reading d n rest ≡ Err e
  piece_refused e h = at_piece ∙ ap (behind d.lines) (h (λ l. read_on (n + 1) (standing d.standing (role l)) (pieces rest')))

  pub piece_taken : Reads d n piece (eqb (end + length piece) (length t)) d' (Ok tt) → reading d n rest ≡ reading d' (n + 1) rest'
  piece_taken h =
      let ps = pieces rest' in
      let more = read_on (n + 1) (standing d.standing (role h.0)) ps in
      at_piece
      ∙ ap (λ o. behind d.lines (judged n d.standing (eqb (end + length piece) (length t)) o (λ m. read_on (n + 1) (standing d.standing (role m)) ps))) h.1
      ∙ ap (λ o. behind d.lines (admitted o n h.0 more)) h.2
      ∙ behind_more d.lines h.0 more
      ∙ ap (λ m. behind m.lines (read_on (n + 1) m.standing ps)) (sym h.3)
