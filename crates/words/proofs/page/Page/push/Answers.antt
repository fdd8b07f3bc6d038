use Rattle.std.proofs.Common.{◌≡◌, ◌+◌, ◌-◌, ◌≤◌, ◌++◌, length, take, refl, ap, ◌∙◌, arith}
use Rattle.std.proofs.lemmas.Bool.{leb-true}
use Rattle.std.proofs.lemmas.List.{length-append, length-take-le, length-drop}
use Rattle.std.proofs.lemmas.Slice.{take-put_mid, drop-put_mid}
use Rattle.words.proofs.page.Page.push.Goals as goal

pub returns : goal.returns
returns c =
    let xs = c.args.self.now.out.now in
    let len = c.args.self.now.len in
    let end = len + length c.args.bytes.now in
    let new = c.copy_from_slice.new.self in
    let same = c.copy_from_slice.ensures.after in
    let size : length new ≡ length c.args.bytes.now = ap length same in
    let room : end ≤ length xs = leb-true end (length xs) c.requires in
    let le : len ≤ length xs = omega (arith, room) in
    record {
      len = refl;
      size = simp (length-append, length-take-le, length-drop) (omega arith);
      front = take-put_mid len (end - len) xs new end (omega arith) (omega arith) ∙ ap (λ l. take len xs ++ l) same;
      rest = drop-put_mid len (end - len) xs new end (omega arith) (omega arith) (omega arith);
      same_reference = refl;
    }
