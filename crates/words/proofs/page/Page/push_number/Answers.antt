use Rattle.std.proofs.Common.{◌≡◌, ◌+◌, ◌≤◌, ◌++◌, ℕ, length, take, drop, decimal, refl, sym, ap, ◌∙◌, subst, arith}
use Rattle.std.proofs.lemmas.Bool.{leb-true}
use Rattle.words.proofs.Pages.{same_size, front_is, rest_is}
use Rattle.words.proofs.page.Page.push_number.Goals as goal

pub returns : goal.returns
returns c =
    let xs = c.args.self.now.out.now in
    let at = c.args.self.now.len in
    let ys = decimal c.args.n in
    let new = c.write_digits.new.buf in
    let wide : c.from.result ≡ c.args.n = c.from.ensures in
    let many : c.digits.result ≡ length ys = c.digits.ensures.value in
    let room : at + length ys ≤ length xs = leb-true (at + length ys) (length xs) c.requires in
    let start : c.write_digits.result ≡ at = omega (arith, c.write_digits.ensures.start, many, ap (λ n. length (decimal n)) wide) in
    let before : take at new ≡ take at xs = (let P : ℕ → Type 0 = λ k. take k new ≡ take k xs in subst P start c.write_digits.ensures.before) in
    let behind : drop at new ≡ ys ++ drop (at + length ys) xs =
    ap (λ k. drop k new) (sym start) ∙ c.write_digits.ensures.written ∙ ap (λ n. decimal n ++ drop (at + c.digits.result) xs) wide ∙ ap (λ k. ys ++ drop (at + k) xs) many in
    record {
      len = ap (λ k. at + k) many;
      size = same_size xs new ys at room before behind;
      front = ap (λ k. take (at + k) new) many ∙ front_is xs new ys at room before behind;
      rest = ap (λ k. drop (at + k) new) many ∙ rest_is xs new ys at room before behind ∙ ap (λ k. drop (at + k) xs) (sym many);
      same_reference = refl;
    }
