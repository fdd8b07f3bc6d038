-- What is linked stands for the script, and has what running needs.
use Rattle.std.proofs.Common.{◌≡◌, ℕ, ◌+◌, ◌≤◌, List, length, Some, sym, refl, ◌∙◌, subst, arith}
use Rattle.std.specs.List.{AllByRecursion, AllZip}
use Rattle.lines.specs.declared.line.Kind.TheVariants.{Value, Handle}
use Rattle.lines.specs.declared.line.Line.{Line}
use Rattle.script.specs.Rules.{place}
use Rattle.script.specs.Kept.{Kept}
use Rattle.script_laws.proofs.Whole.{admitted_lawful}
use Rattle.linking.specs.Programs.{Block, Program}
use Rattle.linking.specs.Naming.{known, channels, body_names}
use Rattle.linking.specs.Parts.{parts}
use Rattle.linking.specs.Links.{link_parts, main_name}
use Rattle.linking.specs.Sound.{SoundBlock, Sound}
use Rattle.linking.specs.Meaning.{named_block, StandsFor, LinksOnly}
use Rattle.linking.proofs.Found.{place_back}
use Rattle.std.proofs.lemmas.Slice.Zip.{AllZip-long}
use Rattle.linking.proofs.Paired.{pairs_all, pairs_map}
use Rattle.linking.proofs.Inverted.{LineLinked, PartLinked, parts_back, main_back}
use Rattle.linking.proofs.Within.{Well, parts_well, all_fit}
use Rattle.linking.proofs.Totals.{channels_counted, names_counted, parts_counted, channels_small, cells_counted}
use Rattle.linking.proofs.Placed.{parts_placed, lines_few}
use Rattle.linking.proofs.Runnable.{block_sound, block_back}

module _ (ls : List (Line (List ℕ))) (bs : List Block) (i : ℕ) (named : place main_name (body_names ls) ≡ Some i) (linked : AllZip (PartLinked (known ls)) (parts 1 ls) bs) where
  -- the program that was made
  abbrev made : Program
  made = record { channels = channels ls; bodies = bs; main = i }

  stands : StandsFor ls made
  stands = record {
    same_channels = refl;
    same_bodies = pairs_map (PartLinked (known ls)) (named_block (known ls)) (block_back (known ls)) (parts 1 ls) bs linked;
    main_named = (place_back main_name (body_names ls) i named).1;
  }

  -- as many bodies as names of bodies
  as_many : length bs ≡ length (body_names ls)
  as_many = AllZip-long (PartLinked (known ls)) (parts 1 ls) bs linked ∙ parts_counted 1 ls ∙ sym (names_counted ls)

  sound : Kept ls → Sound made
  sound kept =
      let law = admitted_lawful ls kept.admitted in
      let well = parts_well 1 ls (all_fit ls kept.good law.small_selects) law.cases_follow in
      let blocks = pairs_all (PartLinked (known ls)) (λ p. Well p.lines) (SoundBlock (channels ls) (length (body_names ls))) (block_sound (known ls)) (parts 1 ls) bs linked well in
      record {
        few_channels = omega (arith, channels_counted ls, law.few_channels);
        few_bodies = omega (arith, as_many, names_counted ls, law.few_bodies);
        small_channels = channels_small ls law.small_channels;
        value_cells = omega (arith, cells_counted Value ls, law.value_cells);
        handle_cells = omega (arith, cells_counted Handle ls, law.handle_cells);
        main_there = omega (arith, as_many, (place_back main_name (body_names ls) i named).0);
        placed = pairs_all (PartLinked (known ls)) (λ q. q.line + length q.lines ≤ 576) (λ b. b.line + length b.operations ≤ 576)
            (λ q b h f. omega (arith, h.0, AllZip-long (LineLinked (known ls) q.lines) q.lines b.operations h.1, f)) (parts 1 ls) bs linked
            (parts_placed 576 1 ls (omega (arith, lines_few ls law)));
        blocks = subst (λ n. AllByRecursion (SoundBlock (channels ls) n) bs) (sym as_many) blocks;
      }

pub links_only : LinksOnly
links_only ls p kept e =
    let m = main_back (channels ls) (place main_name (body_names ls)) (link_parts (known ls) (parts 1 ls)) p e in
    let linked = parts_back (known ls) (parts 1 ls) m.1 m.3 in
    let P : Program → Type 0 = λ q. StandsFor ls q × Sound q in
    subst P m.4 (stands ls m.1 m.0 m.2 linked, sound ls m.1 m.0 m.2 linked kept)
