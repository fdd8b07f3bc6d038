-- A line and its text, both ways.
use Rattle.std.proofs.Common.{◌≡◌, ℕ, ◌<◌, Bool, true, ◌&&◌, eqb, ltb, List, [], ◌∷◌, ◌++◌, get_or, drop, ℤ, pos, negsuc, Some, None, Ok, Err, Option, Result, sym, refl, ap, ◌∙◌, subst, ⊎_elim, arith}
use Rattle.std.specs.List.{AllByRecursion}
use Rattle.std.proofs.lemmas.Option.{none-some}
use Rattle.std.proofs.lemmas.Bool.{and_parts, eqb-true, ltb-true}
use Rattle.words.specs.declared.refusal.Fault.{Fault}
use Rattle.words.specs.Refusals.{broken}
use Rattle.words.specs.Words.{Said, name, number, value, handle, read_word, Sound}
use Rattle.words.specs.Shows.{show_word}
use Rattle.words.proofs.Spans.{Free, Stops}
use Rattle.words.proofs.Same.{some_same, ok_same}
use Rattle.lines.specs.declared.line.Operand.{Operand}
use Rattle.lines.specs.declared.line.Operand.TheVariants.{Named, Held}
use Rattle.lines.specs.declared.line.Line.{Line}
use Rattle.lines.specs.declared.line.Line.TheVariants.{Set, Add, Sub, Jump, JumpNegative, Hold, Clear, Send, Receive, SendHandle, ReceiveHandle, Close, Select, CaseSend, CaseReceive, CaseSendHandle, CaseReceiveHandle, CaseDefault, Start, Print, ValueChannel, HandleChannel, Routine}
use Rattle.lines.specs.Lines.{Reader, then, read_field, kept, only, as_value, as_integer, as_natural, as_operand, as_handle, as_name, both, ended, Format, whole, formats, chosen, read_line}
use Rattle.lines.specs.Shows.{show_line, from_operand, natural, Good}
use Rattle.lines.proofs.Marks.{no_mark, marked}
use Rattle.text_laws.specs.Laws.{ReadsBack, ListsBack, NoEnd}
use Rattle.text_laws.proofs.Numbers.{either}
use Rattle.text_laws.proofs.WordLaws.{err_ok, free_word, read_word_there, read_word_back}

-- ---- what a reader reads, s writes in front of the rest, and the other way;
-- and s writes no end of a line
record Codec {X : Type 0} (p : Reader X) (s : X → List ℕ → List ℕ) (G : X → Type 0) : Type 0 where
  starts : (x : X) (r : List ℕ) → Stops 32 (s x r)
  there : (n : ℕ) (x : X) (r : List ℕ) → G x → Stops 32 r → p n (s x r) ≡ Ok (x, r)
  back : (n : ℕ) (t : List ℕ) (x : X) (r : List ℕ) → p n t ≡ Ok (x, r) → G x × (s x r ≡ t)
  free : (x : X) (r : List ℕ) → G x → Free 10 r → Free 10 (s x r)

abbrev show_onto : Said → List ℕ → List ℕ
show_onto w r = 32 ∷ (show_word w ++ r)

free_append : (a b : List ℕ) → Free 10 a → Free 10 b → Free 10 (a ++ b)
free_append [] b p q = q
free_append (c ∷ a) b p q = (p.0, free_append a b p.1 q)

spaced : (t : List ℕ) → get_or t 0 0 ≡ 32 → 32 ∷ drop 1 t ≡ t
spaced [] e = absurd (omega arith)
spaced (c ∷ t) e = ap (λ b. b ∷ t) (sym e)

module _ (n : ℕ) where
  field_back : (t : List ℕ) (w : Said) (r : List ℕ) → read_field n t ≡ Ok (w, r) → Sound w × (show_onto w r ≡ t)
  unfolding read_field
  field_back t w r e =
      ⊎_elim
      (λ p. let b = read_word_back n (drop 1 t) w r p.1 in (b.0, ap (λ l. 32 ∷ l) b.1 ∙ spaced t (eqb-true (get_or t 0 0) 32 p.0)))
      (λ p. absurd (err_ok p.1))
      (either (eqb (get_or t 0 0) 32) (read_word n (drop 1 t)) (Err (broken n)) (Ok (w, r)) e)

  field_there : (w : Said) (r : List ℕ) → Sound w → Stops 32 r → read_field n (show_onto w r) ≡ Ok (w, r)
  unfolding read_field
  field_there w r h s = read_word_there n w r h s

-- a reader that goes on after another
then_back : {X Y : Type 0} (o : Result (X × List ℕ) Fault) (k : X → List ℕ → Result Y Fault) (y : Y) → then o k ≡ Ok y → (x : X) × (r : List ℕ) × (o ≡ Ok (x, r)) × (k x r ≡ Ok y)
then_back (Ok p) k y e = (p.0, p.1, refl, e)
then_back (Err d) k y e = absurd (err_ok e)

kept_back : {X : Type 0} (n : ℕ) (rest : List ℕ) (o : Option X) (x : X) (r : List ℕ) → kept n rest o ≡ Ok (x, r) → (o ≡ Some x) × (rest ≡ r)
kept_back n rest None x r e = absurd (err_ok e)
kept_back n rest (Some v) x r e = let p = ok_same e in (ap (λ q. Some q.0) p, ap (λ q. q.1) p)

-- one kind of field: f takes it from a word, and g makes the word
module _ {X : Type 0} (f : Said → Option X) (g : X → Said) (to : (x : X) → f (g x) ≡ Some x) (from : (w : Said) (x : X) → f w ≡ Some x → g x ≡ w) where
  only_codec : Codec (only f) (λ x r. show_onto (g x) r) (λ x. Sound (g x))
  only_codec = record {
    starts = λ x r. refl;
    there = λ n x r h s. ap (λ o. then o (λ w rest. kept n rest (f w))) (field_there n (g x) r h s) ∙ ap (kept n r) (to x);
    back = λ n t x r e.
        let a = then_back (read_field n t) (λ w rest. kept n rest (f w)) (x, r) e in
        let k = kept_back n a.1 (f a.0) x r a.3 in
        let b = field_back n t a.0 a.1 a.2 in
        let same = from a.0 x k.0 in
        (subst Sound (sym same) b.0, ap (λ w. show_onto w r) same ∙ ap (show_onto a.0) (sym k.1) ∙ b.1);
    free = λ x r h u. (λ z. absurd (omega arith), free_append (show_word (g x)) r (free_word 10 (omega arith) (g x) h) u);
  }

-- one after the other
module _ {X Y : Type 0} {p : Reader X} {q : Reader Y} {s : X → List ℕ → List ℕ} {u : Y → List ℕ → List ℕ} {G : X → Type 0} {H : Y → Type 0} where
  infixr 30 ◌&◌
  ◌&◌ : Codec p s G → Codec q u H → Codec (both p q) (λ x r. s x.0 (u x.1 r)) (λ x. G x.0 × H x.1)
  a & b = record {
    starts = λ x r. a.starts x.0 (u x.1 r);
    there = λ n x r h st.
        ap (λ o. then o (λ v rest. then (q n rest) (λ y rest'. Ok ((v, y), rest')))) (a.there n x.0 (u x.1 r) h.0 (b.starts x.1 r))
        ∙ ap (λ o. then o (λ y rest'. Ok ((x.0, y), rest'))) (b.there n x.1 r h.1 st);
    back = λ n t x r e.
        let m = then_back (p n t) (λ v rest. then (q n rest) (λ y rest'. Ok ((v, y), rest'))) (x, r) e in
        let k = then_back (q n m.1) (λ y rest'. Ok ((m.0, y), rest')) (x, r) m.3 in
        let same = ok_same {x = ((m.0, k.0), k.1)} k.3 in
        let i = a.back n t m.0 m.1 m.2 in
        let j = b.back n m.1 k.0 k.1 k.2 in
        let P : (X × Y) × List ℕ → Type 0 = λ z. G z.0.0 × H z.0.1 × (s z.0.0 (u z.0.1 z.1) ≡ t) in
        let w = subst P same (i.0, j.0, ap (s m.0) j.1 ∙ i.1) in
        ((w.0, w.1), w.2);
    free = λ x r h f. a.free x.0 (u x.1 r) h.0 (b.free x.1 r h.1 f);
  }

-- ---- one format of lines
ended_back : {X : Type 0} (n : ℕ) (x : X) (r : List ℕ) (y : X) → ended n x r ≡ Ok y → (r ≡ []) × (x ≡ y)
ended_back n x [] y e = (refl, ok_same e)
ended_back n x (c ∷ r) y e = absurd (err_ok e)

module _ {X : Type 0} {p : Reader X} {s : X → List ℕ → List ℕ} {G : X → Type 0} (a : Codec p s G) (make : X → Line (List ℕ)) where
  whole_there : (n : ℕ) (x : X) → G x → whole p make n (s x []) ≡ Ok (make x)
  whole_there n x h = ap (λ o. then o (λ v rest. ended n (make v) rest)) (a.there n x [] h refl)

  whole_back : (first second : ℕ) → ((x : X) → G x → Good (make x)) → ((x : X) → show_line (make x) ≡ first ∷ (second ∷ s x [])) → (n : ℕ) (rest : List ℕ) (l : Line (List ℕ)) → whole p make n rest ≡ Ok l → Good l × (show_line l ≡ first ∷ (second ∷ rest)) × Free 10 rest
  whole_back first second good shows n rest l e =
      let m = then_back (p n rest) (λ v r. ended n (make v) r) l e in
      let k = ended_back n (make m.0) m.1 l m.3 in
      let i = a.back n rest m.0 m.1 m.2 in
      let same : s m.0 [] ≡ rest = ap (s m.0) (sym k.0) ∙ i.1 in
      let P : Line (List ℕ) → Type 0 = λ z. Good z × (show_line z ≡ first ∷ (second ∷ rest)) in
      let w = subst P k.1 (good m.0 i.0, shows m.0 ∙ ap (λ r. first ∷ (second ∷ r)) same) in
      (w.0, w.1, subst (Free 10) same (a.free m.0 [] i.0 tt))

-- ---- the kinds of field
value_from : (w : Said) (x : ℕ) → as_value w ≡ Some x → value x ≡ w
value_from (name y) x e = absurd (none-some _ e)
value_from (number z) x e = absurd (none-some _ e)
value_from (value n) x e = ap value (sym (some_same e))
value_from (handle n) x e = absurd (none-some _ e)

integer_from : (w : Said) (x : ℤ) → as_integer w ≡ Some x → number x ≡ w
integer_from (name y) x e = absurd (none-some _ e)
integer_from (number z) x e = ap number (sym (some_same e))
integer_from (value n) x e = absurd (none-some _ e)
integer_from (handle n) x e = absurd (none-some _ e)

natural_from : (w : Said) (x : ℕ) → as_natural w ≡ Some x → number (pos x) ≡ w
natural_from (name y) x e = absurd (none-some _ e)
natural_from (number (pos n)) x e = ap (λ k. number (pos k)) (sym (some_same e))
natural_from (number (negsuc n)) x e = absurd (none-some _ e)
natural_from (value n) x e = absurd (none-some _ e)
natural_from (handle n) x e = absurd (none-some _ e)

operand_to : (x : Operand (List ℕ)) → as_operand (from_operand x) ≡ Some x
operand_to (Named y) = refl
operand_to (Held n) = refl

operand_from : (w : Said) (x : Operand (List ℕ)) → as_operand w ≡ Some x → from_operand x ≡ w
operand_from (name y) x e = ap from_operand (sym (some_same e))
operand_from (number z) x e = absurd (none-some _ e)
operand_from (value n) x e = absurd (none-some _ e)
operand_from (handle n) x e = ap from_operand (sym (some_same e))

handle_from : (w : Said) (x : ℕ) → as_handle w ≡ Some x → handle x ≡ w
handle_from (name y) x e = absurd (none-some _ e)
handle_from (number z) x e = absurd (none-some _ e)
handle_from (value n) x e = absurd (none-some _ e)
handle_from (handle n) x e = ap handle (sym (some_same e))

name_from : (w : Said) (x : List ℕ) → as_name w ≡ Some x → name x ≡ w
name_from (name y) x e = ap name (sym (some_same e))
name_from (number z) x e = absurd (none-some _ e)
name_from (value n) x e = absurd (none-some _ e)
name_from (handle n) x e = absurd (none-some _ e)

-- a reader of one kind of field
abbrev One : {X : Type 0} → (Said → Option X) → (X → Said) → Type 0
One f g = Codec (only f) (λ x r. show_onto (g x) r) (λ x. Sound (g x))

values : One as_value value
values = only_codec as_value value (λ x. refl) value_from

integers : One as_integer number
integers = only_codec as_integer number (λ x. refl) integer_from

naturals : One as_natural natural
naturals = only_codec as_natural natural (λ x. refl) natural_from

operands : One as_operand from_operand
operands = only_codec as_operand from_operand operand_to operand_from

handles : One as_handle handle
handles = only_codec as_handle handle (λ x. refl) handle_from

names : One as_name name
names = only_codec as_name name (λ x. refl) name_from

-- ---- the laws
pub reads_back : ReadsBack
reads_back n (Set a b) h = whole_there (values & integers) (λ p. Set p.0 p.1) n (a, b) h
reads_back n (Add a b) h = whole_there (values & values) (λ p. Add p.0 p.1) n (a, b) h
reads_back n (Sub a b) h = whole_there (values & values) (λ p. Sub p.0 p.1) n (a, b) h
reads_back n (Jump a) h = whole_there naturals (λ p. Jump p) n a h
reads_back n (JumpNegative a b) h = whole_there (values & naturals) (λ p. JumpNegative p.0 p.1) n (a, b) h
reads_back n (Hold a b) h = whole_there (handles & names) (λ p. Hold p.0 p.1) n (a, b) h
reads_back n (Clear a) h = whole_there handles (λ p. Clear p) n a h
reads_back n (Send a b) h = whole_there (operands & values) (λ p. Send p.0 p.1) n (a, b) h
reads_back n (Receive a b c) h = whole_there (operands & values & values) (λ p. Receive p.0 p.1.0 p.1.1) n (a, (b, c)) h
reads_back n (SendHandle a b) h = whole_there (names & handles) (λ p. SendHandle p.0 p.1) n (a, b) h
reads_back n (ReceiveHandle a b c) h = whole_there (names & handles & values) (λ p. ReceiveHandle p.0 p.1.0 p.1.1) n (a, (b, c)) h
reads_back n (Close a) h = whole_there operands (λ p. Close p) n a h
reads_back n (Select a) h = whole_there naturals (λ p. Select p) n a h
reads_back n (CaseSend a b c) h = whole_there (operands & values & naturals) (λ p. CaseSend p.0 p.1.0 p.1.1) n (a, (b, c)) h
reads_back n (CaseReceive a b c d) h = whole_there (operands & (values & values) & naturals) (λ p. CaseReceive p.0 p.1.0.0 p.1.0.1 p.1.1) n (a, ((b, c), d)) h
reads_back n (CaseSendHandle a b c) h = whole_there (names & handles & naturals) (λ p. CaseSendHandle p.0 p.1.0 p.1.1) n (a, (b, c)) h
reads_back n (CaseReceiveHandle a b c d) h = whole_there (names & (handles & values) & naturals) (λ p. CaseReceiveHandle p.0 p.1.0.0 p.1.0.1 p.1.1) n (a, ((b, c), d)) h
reads_back n (CaseDefault a) h = whole_there naturals (λ p. CaseDefault p) n a h
reads_back n (Start a) h = whole_there names (λ p. Start p) n a h
reads_back n (Print a) h = whole_there values (λ p. Print p) n a h
reads_back n (ValueChannel a b) h = whole_there (names & naturals) (λ p. ValueChannel p.0 p.1) n (a, b) h
reads_back n (HandleChannel a b) h = whole_there (names & naturals) (λ p. HandleChannel p.0 p.1) n (a, b) h
reads_back n (Routine a) h = whole_there names (λ p. Routine p) n a h

-- what a format reads is listed with its mark, and has no end of a line in it
abbrev Undoes : Format → Type 0
Undoes f = (n : ℕ) (rest : List ℕ) (l : Line (List ℕ)) → f.reads n rest ≡ Ok l → Good l × (show_line l ≡ f.first ∷ (f.second ∷ rest)) × Free 10 rest

-- the proofs one after another
infixr 5 ◌and◌
◌and◌ : {P Q : Type 0} → P → Q → P × Q
p and q = (p, q)

undo : AllByRecursion Undoes formats
undo =
    whole_back (values & integers) (λ p. Set p.0 p.1) 83 86 (λ x g. g) (λ x. refl)
    and whole_back (values & values) (λ p. Add p.0 p.1) 65 68 (λ x g. g) (λ x. refl)
    and whole_back (values & values) (λ p. Sub p.0 p.1) 83 66 (λ x g. g) (λ x. refl)
    and whole_back naturals (λ p. Jump p) 74 80 (λ x g. g) (λ x. refl)
    and whole_back (values & naturals) (λ p. JumpNegative p.0 p.1) 74 78 (λ x g. g) (λ x. refl)
    and whole_back (handles & names) (λ p. Hold p.0 p.1) 72 76 (λ x g. g) (λ x. refl)
    and whole_back handles (λ p. Clear p) 72 78 (λ x g. g) (λ x. refl)
    and whole_back (operands & values) (λ p. Send p.0 p.1) 83 68 (λ x g. g) (λ x. refl)
    and whole_back (operands & values & values) (λ p. Receive p.0 p.1.0 p.1.1) 82 67 (λ x g. g) (λ x. refl)
    and whole_back (names & handles) (λ p. SendHandle p.0 p.1) 83 72 (λ x g. g) (λ x. refl)
    and whole_back (names & handles & values) (λ p. ReceiveHandle p.0 p.1.0 p.1.1) 82 72 (λ x g. g) (λ x. refl)
    and whole_back operands (λ p. Close p) 67 76 (λ x g. g) (λ x. refl)
    and whole_back naturals (λ p. Select p) 83 69 (λ x g. g) (λ x. refl)
    and whole_back (operands & values & naturals) (λ p. CaseSend p.0 p.1.0 p.1.1) 67 83 (λ x g. g) (λ x. refl)
    and whole_back (operands & (values & values) & naturals) (λ p. CaseReceive p.0 p.1.0.0 p.1.0.1 p.1.1) 67 82 (λ x g. g) (λ x. refl)
    and whole_back (names & handles & naturals) (λ p. CaseSendHandle p.0 p.1.0 p.1.1) 71 83 (λ x g. g) (λ x. refl)
    and whole_back (names & (handles & values) & naturals) (λ p. CaseReceiveHandle p.0 p.1.0.0 p.1.0.1 p.1.1) 71 82 (λ x g. g) (λ x. refl)
    and whole_back naturals (λ p. CaseDefault p) 67 68 (λ x g. g) (λ x. refl)
    and whole_back names (λ p. Start p) 71 79 (λ x g. g) (λ x. refl)
    and whole_back values (λ p. Print p) 80 82 (λ x g. g) (λ x. refl)
    and whole_back (names & naturals) (λ p. ValueChannel p.0 p.1) 86 67 (λ x g. g) (λ x. refl)
    and whole_back (names & naturals) (λ p. HandleChannel p.0 p.1) 72 67 (λ x g. g) (λ x. refl)
    and whole_back names (λ p. Routine p) 82 84 (λ x g. g) (λ x. refl)
    and tt

-- no mark has an end of a line in it
abbrev clear : List Format → Bool
clear [] = true
clear (f ∷ fs) = (ltb 10 f.first && ltb 10 f.second) && clear fs

module _ (n a b : ℕ) (rest : List ℕ) (l : Line (List ℕ)) where
  chosen_back : (fs : List Format) → AllByRecursion Undoes fs → clear fs ≡ true → chosen fs n a b rest ≡ Ok l → Good l × (show_line l ≡ a ∷ (b ∷ rest)) × Free 10 (a ∷ (b ∷ rest))
  chosen_back [] us c e = absurd (err_ok e)
  chosen_back (f ∷ fs) us c e =
      let high = and_parts (ltb 10 f.first && ltb 10 f.second) (clear fs) c in
      ⊎_elim
      (λ p.
      let u = us.0 n rest l p.1 in
      let m = and_parts (eqb a f.first) (eqb b f.second) p.0 in
      let k = and_parts (ltb 10 f.first) (ltb 10 f.second) high.0 in
      let i : 10 < f.first = ltb-true 10 f.first k.0 in
      let j : 10 < f.second = ltb-true 10 f.second k.1 in
      let x = eqb-true a f.first m.0 in
      let y = eqb-true b f.second m.1 in
      (u.0, u.1 ∙ ap (λ c. c ∷ (f.second ∷ rest)) (sym x) ∙ ap (λ c. a ∷ (c ∷ rest)) (sym y), (λ z. absurd (omega arith), (λ z. absurd (omega arith), u.2))))
      (λ p. chosen_back fs us.1 high.1 p.1)
      (either (eqb a f.first && eqb b f.second) (f.reads n rest) (chosen fs n a b rest) (Ok l) e)

back : (n : ℕ) (t : List ℕ) (l : Line (List ℕ)) → read_line n t ≡ Ok l → Good l × (show_line l ≡ t) × Free 10 t
back n [] l e = absurd (err_ok (sym (no_mark formats marked n 0 []) ∙ e))
back n (a ∷ []) l e = absurd (err_ok (sym (no_mark formats marked n a []) ∙ e))
back n (a ∷ b ∷ rest) l e = chosen_back n a b rest l formats undo refl e

pub lists_back : ListsBack
lists_back n t l e = let b = back n t l e in (b.0, b.1)

pub no_end : NoEnd
no_end l h = (back 0 (show_line l) l (reads_back 0 l h)).2
