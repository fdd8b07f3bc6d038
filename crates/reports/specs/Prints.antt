-- What printing leaves on a page.
use Rattle.std.specs.Prelude.{◌≡◌, ℕ, ◌+◌, ◌≤◌, List, length, Ok, Result}
use Rattle.words.specs.declared.refusal.Refusal.{Refusal}
use Rattle.words.specs.declared.page.Page.{Page}
use Rattle.words.specs.Pages.{page_len, page_size, Wrote}

-- ys is written next, and has at most 128 bytes, on a page that has room for so many
pub record PrintsShort (p : Page) (ys : List ℕ) (q : Page) (r : Result (Unit {0}) Refusal) : Type 0 where
  pub answer : page_len p + 128 ≤ page_size p → r ≡ Ok tt
  pub after : page_len p + 128 ≤ page_size p → Wrote p ys q
  pub short : page_len p + 128 ≤ page_size p → length ys ≤ 128
