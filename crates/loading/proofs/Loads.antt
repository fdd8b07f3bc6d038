-- A text is loaded exactly if it lists a lawful script that has a program: from the laws of reading and of linking.
use Rattle.std.proofs.Common.{◌≡◌, ℕ, List, Ok, Err, Result, refl, sym, ap, ◌∙◌}
use Rattle.script.specs.Texts.{read_script}
use Rattle.script.proofs.Kept.{read_kept}
use Rattle.script_laws.proofs.Exact.{exactly}
use Rattle.linking.specs.declared.linked.Linked.{Linked}
use Rattle.linking.specs.declared.stop.Stop.{Stop}
use Rattle.linking.specs.declared.stop.Stop.TheVariants.{Faulty, Memory}
use Rattle.linking.specs.Links.{link_script}
use Rattle.linking.proofs.LinksOnly.{links_only}
use Rattle.linking.proofs.AllParts.{links_all}
use Rattle.loading.specs.Loads.{link_read, load_text, Loads, LoadsExactly}

pub loads_exactly : (t : List ℕ) (o : Result Linked Stop) → Loads t o → LoadsExactly t o
loads_exactly t (Ok l) h =
    let linked : link_script l.script ≡ Ok l.program = ap link_read (sym h.0) ∙ h.1 in
    let right = links_only l.script l.program (read_kept t l.script h.0) linked in
    record { listed = (exactly t (read_script t) refl).only l.script h.0; stands = right.0; sound = right.1 }
loads_exactly t (Err (Faulty f)) h = λ ls p g.
    let read = (exactly t (read_script t) refl).all ls g.listed in
    let linked = links_all ls p (read_kept t ls read) g.stands g.sound in
    let loaded : load_text t ≡ Ok p = ap link_read read ∙ linked in
    cc
loads_exactly t (Err Memory) h = tt
