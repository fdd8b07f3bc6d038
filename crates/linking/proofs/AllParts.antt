-- A sound program that stands for a script is what the script is linked to.
use Rattle.std.proofs.Common.{◌≡◌, ℕ, ◌+◌, List, [], ◌∷◌, map, length, Some, Ok, sym, refl, ap, ◌∙◌, subst, arith}
use Rattle.std.specs.List.{AllByRecursion}
use Rattle.std.proofs.lemmas.List.{length-map}
use Rattle.lines.specs.declared.line.Line.{Line}
use Rattle.script.specs.Rules.{place}
use Rattle.script.specs.Kept.{Kept}
use Rattle.linking.specs.declared.declared.Declared.{Declared}
use Rattle.linking.specs.Programs.{Block, Program}
use Rattle.linking.specs.Naming.{Known, known, channels, body_names}
use Rattle.linking.specs.Parts.{parts}
use Rattle.linking.specs.Links.{both, blocked, link_part, link_parts, with_main, main_name, link_script}
use Rattle.linking.specs.Sound.{SoundBlock, Sound}
use Rattle.linking.specs.Meaning.{named_block, StandsFor, LinksAll}
use Rattle.linking.proofs.AllNames.{channel_found, body_found}
use Rattle.linking.proofs.AllLines.{ChannelsFound, BodiesFound, lines_back}

-- ---- bodies, where each number that can be used is found by its name
module _ (k : Known) (bodies : ℕ) (found : ChannelsFound k) (opened : BodiesFound k bodies) where
  block_back : (b : Block) → SoundBlock k.channels bodies b → link_part k (named_block k b) ≡ Ok b
  block_back b s = ap (blocked b.line) (lines_back k bodies found opened b.operations (b.line + 1) b.operations s.in_range s.targets)

  blocks_back : (bs : List Block) → AllByRecursion (SoundBlock k.channels bodies) bs → link_parts k (map (named_block k) bs) ≡ Ok bs
  unfolding link_parts
  blocks_back [] s = refl
  blocks_back (b ∷ bs) s = ap (λ r. both r (link_parts k (map (named_block k) bs))) (block_back b s.0) ∙ ap (both (Ok b)) (blocks_back bs s.1)

-- ---- the script
module _ (ls : List (Line (List ℕ))) (p : Program) (kept : Kept ls) (stands : StandsFor ls p) (sound : Sound p) where
  -- there are as many bodies as the text has
  as_many : length p.bodies ≡ length (parts 1 ls)
  as_many = sym (length-map p.bodies (named_block (known ls))) ∙ ap length stands.same_bodies

  opened : BodiesFound (known ls) (length p.bodies)
  opened b h = body_found ls kept b (omega (arith, as_many))

  bodies_back : link_parts (known ls) (parts 1 ls) ≡ Ok p.bodies
  bodies_back =
      let blocks = subst (λ (ds : List Declared). AllByRecursion (SoundBlock ds (length p.bodies)) p.bodies) stands.same_channels sound.blocks in
      ap (link_parts (known ls)) (sym stands.same_bodies) ∙ blocks_back (known ls) (length p.bodies) (channel_found ls kept) opened p.bodies blocks

  main_back : place main_name (body_names ls) ≡ Some p.main
  main_back = ap (λ x. place x (body_names ls)) (sym stands.main_named) ∙ opened p.main sound.main_there

  script_back : link_script ls ≡ Ok p
  script_back =
      ap (λ m. with_main (channels ls) m (link_parts (known ls) (parts 1 ls))) main_back
      ∙ ap (with_main (channels ls) (Some p.main)) bodies_back
      ∙ ap (λ ds. with_main ds (Some p.main) (Ok p.bodies)) (sym stands.same_channels)

pub links_all : LinksAll
links_all = script_back
