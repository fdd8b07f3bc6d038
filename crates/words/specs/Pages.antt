-- What a page holds, and what writing leaves on it.
use Rattle.std.specs.Prelude.{◌≡◌, ℕ, ◌+◌, ◌-◌, true, cond, Bool, List, [], ◌++◌, length, take, drop, Some, None, Option, Ok, Err, Result, nat_le, nat_lt}
use Rattle.std.specs.Borrow.{MutBor}
use Rattle.words.specs.declared.refusal.Refusal.{Refusal}
use Rattle.words.specs.declared.refusal.Refusal.TheVariants.{Small}
use Rattle.words.specs.declared.page.Page.{Page}

-- how many bytes are written, and how many there are
abbrev pub page_len : Page → ℕ
page_len p = p.len

abbrev pub page_size : Page → ℕ
page_size p = length p.out.now

-- a page over that buffer, on which what stands before `at` counts as written
pub record BeginsAt (out : MutBor (List ℕ)) (at : ℕ) (p : Page) : Type 0 where
  pub len : p.len ≡ at
  pub now : p.out.now ≡ out.now
  pub same_reference : p.out.ghost_name ≡ out.ghost_name

-- the same with nothing on it
abbrev pub Begins : MutBor (List ℕ) → Page → Type 0
Begins out p = BeginsAt out 0 p

-- ys was written next, and nothing else changed
pub record Wrote (p : Page) (ys : List ℕ) (q : Page) : Type 0 where
  pub len : q.len ≡ p.len + length ys
  pub size : length q.out.now ≡ length p.out.now
  pub front : take q.len q.out.now ≡ take p.len p.out.now ++ ys
  pub rest : drop q.len q.out.now ≡ drop q.len p.out.now
  pub same_reference : q.out.ghost_name ≡ p.out.ghost_name

-- whether there is room for that text
abbrev pub fits : Page → List ℕ → Bool
fits p ys = nat_le (p.len + length ys) (length p.out.now)

-- n without k, where there are so many
abbrev pub less : ℕ → ℕ → Option ℕ
less n k = cond (nat_le k n) (Some (n - k)) None

-- how much room is left after that text, where it fits
abbrev pub left : Page → List ℕ → Option ℕ
left p ys = less (length p.out.now) (p.len + length ys)

-- ys was written next if there is room; else nothing changed
pub record Put (p : Page) (ys : List ℕ) (q : Page) (r : Result (Unit {0}) Refusal) : Type 0 where
  pub answer : r ≡ cond (fits p ys) (Ok tt) (Err Small)
  pub after : Wrote p (cond (fits p ys) ys []) q

-- ys is written next on a page that has room for it
pub record Prints (p : Page) (ys : List ℕ) (q : Page) (r : Result (Unit {0}) Refusal) : Type 0 where
  pub answer : fits p ys ≡ true → r ≡ Ok tt
  pub after : fits p ys ≡ true → Wrote p ys q

-- the text stands at the front of what there was, if that has n bytes, and its length is answered; else nothing changed
pub record Printed (n : ℕ) (out t out' : List ℕ) (r : Result ℕ Refusal) : Type 0 where
  pub answered : r ≡ cond (nat_lt (length out) n) (Err Small) (Ok (length t))
  pub after : out' ≡ cond (nat_lt (length out) n) out (t ++ drop (length t) out)
