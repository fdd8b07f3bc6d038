-- Each number is found again by its name, since no two names are equal.
use Rattle.std.proofs.Common.{◌≡◌, ℕ, zero, suc, ◌<◌, Bool, true, false, cond, ltb, List, [], ◌∷◌, ◌++◌, map, length, get_or, Some, None, Option, sym, refl, ap, ◌∙◌, subst, arith}
use Rattle.std.specs.List.{slice_get, flat_map, position_or_len, cons_option}
use Rattle.std.specs.Str.{bytes_eq}
use Rattle.std.proofs.ByRecursion.{All-get_or}
use Rattle.std.proofs.lemmas.Slice.Eq.{bytes_eq-Decides}
use Rattle.std.proofs.lemmas.List.Sums.{position_or_len_is}
use Rattle.std.proofs.lemmas.List.{length-map}
use Rattle.std.proofs.lemmas.Bool.{cond-true, false≢true, lt-ltb}
use Rattle.std.proofs.lemmas.Option.{slice_get_within}
use Rattle.lines.specs.declared.line.Kind.{Kind}
use Rattle.lines.specs.declared.line.Role.{Role}
use Rattle.lines.specs.declared.line.Role.TheVariants.{Declares, Opens}
use Rattle.lines.specs.declared.line.Line.{Line}
use Rattle.lines.specs.Roles.{role}
use Rattle.script.specs.Rules.{place, opens}
use Rattle.script.specs.Kept.{Kept}
use Rattle.script_laws.specs.Lawful.{channel_name, body_name, Distinct, roles}
use Rattle.script_laws.proofs.Whole.{admitted_lawful}
use Rattle.linking.specs.declared.declared.Declared.{Declared}
use Rattle.linking.specs.declared.declared.Channel.{Channel}
use Rattle.linking.specs.Naming.{declared, named_channels, known, channels, channel_names, body_names, suited, of_kind, channel}
use Rattle.linking.specs.Parts.{parts}
use Rattle.linking.specs.Sound.{Uses}
use Rattle.linking.specs.Meaning.{name_at}
use Rattle.linking.proofs.Totals.{names_counted, parts_counted}

-- ---- where a name stands
differ : (x y : List ℕ) → (x ≡ y → ⊥) → bytes_eq x y ≡ false
differ x y n = by (bytes_eq x y) refl
  where
    by : (b : Bool) → bytes_eq x y ≡ b → b ≡ false
    by true e = absurd (n ((bytes_eq-Decides x y).0 e))
    by false e = refl

apart : (xs : List (List ℕ)) (k i : ℕ) → Distinct xs → k < i → i < length xs → get_or xs k [] ≡ get_or xs i [] → ⊥
apart [] k i d h g = absurd (omega arith)
apart (x ∷ xs) k zero d h g = absurd (omega arith)
apart (x ∷ xs) zero (suc i) d h g = All-get_or (λ y. x ≡ y → ⊥) xs i [] (omega arith) d.0
apart (x ∷ xs) (suc k) (suc i) d h g = apart xs k i d.1 (omega arith) (omega arith)

pub place_at : (xs : List (List ℕ)) (i : ℕ) → Distinct xs → i < length xs → place (name_at xs i) xs ≡ Some i
place_at xs i d h =
    let p : List ℕ → Bool = λ y. bytes_eq y (name_at xs i) in
    let at : position_or_len p xs ≡ i = position_or_len_is p xs i [] (omega arith) (λ k g. differ _ _ (apart xs k i d g h)) (λ g. (bytes_eq-Decides (name_at xs i) (name_at xs i)).1 refl) in
    ap (λ n. cond (ltb n (length xs)) (Some n) None) at ∙ cond-true (ltb i (length xs)) _ _ (lt-ltb i (length xs) h)

-- ---- no two names of a script are equal
channels_listed : (ls : List (Line (List ℕ))) → flat_map channel_name (roles ls) ≡ channel_names ls
channels_listed [] = refl
channels_listed (l ∷ ls) = ap (λ xs. channel_name (role l) ++ xs) (channels_listed ls) ∙ by (role l) (named_channels ls)
  where
    by : (r : Role (List ℕ)) (cs : List Channel) → channel_name r ++ map (λ c. c.name) cs ≡ map (λ c. c.name) (cons_option (declared r) cs)
    by (Declares k x n) cs = refl
    by _ cs = refl

bodies_listed : (ls : List (Line (List ℕ))) → flat_map body_name (roles ls) ≡ body_names ls
bodies_listed [] = refl
bodies_listed (l ∷ ls) = ap (λ xs. body_name (role l) ++ xs) (bodies_listed ls) ∙ by (role l) (body_names ls)
  where
    by : (r : Role (List ℕ)) (xs : List (List ℕ)) → body_name r ++ xs ≡ cons_option (opens r) xs
    by (Opens x) xs = refl
    by _ xs = refl

pub channels_distinct : (ls : List (Line (List ℕ))) → Kept ls → Distinct (channel_names ls)
channels_distinct ls k = subst Distinct (channels_listed ls) (admitted_lawful ls k.admitted).channels_differ

pub bodies_distinct : (ls : List (Line (List ℕ))) → Kept ls → Distinct (body_names ls)
bodies_distinct ls k = subst Distinct (bodies_listed ls) (admitted_lawful ls k.admitted).bodies_differ

-- ---- as many names as what they name
pub as_many_named : (ls : List (Line (List ℕ))) → length (channels ls) ≡ length (channel_names ls)
as_many_named ls = length-map (named_channels ls) (λ c. c.declared) ∙ sym (length-map (named_channels ls) (λ c. c.name))

-- ---- a number that can be used goes by its name to that number
used_below : (w : Option Kind) (ds : List Declared) (c : ℕ) → Uses ds w c → c < length ds
used_below w ds c u = by (slice_get ds c) refl u
  where
    by : (o : Option Declared) → slice_get ds c ≡ o → suited w o ≡ true → c < length ds
    by None e u = absurd (false≢true u)
    by (Some d) e u = slice_get_within ds c d e

module _ (ls : List (Line (List ℕ))) (kept : Kept ls) where
  pub channel_found : (w : Option Kind) (c : ℕ) → Uses (channels ls) w c → channel (known ls) w (name_at (channel_names ls) c) ≡ Some c
  channel_found w c u =
      let below : c < length (channel_names ls) = omega (arith, used_below w (channels ls) c u, as_many_named ls) in
      ap (of_kind w (channels ls)) (place_at (channel_names ls) c (channels_distinct ls kept) below) ∙ cond-true (suited w (slice_get (channels ls) c)) _ _ u

  pub body_found : (b : ℕ) → b < length (parts 1 ls) → place (name_at (body_names ls) b) (body_names ls) ≡ Some b
  body_found b h = place_at (body_names ls) b (bodies_distinct ls kept) (omega (arith, parts_counted 1 ls, names_counted ls))
