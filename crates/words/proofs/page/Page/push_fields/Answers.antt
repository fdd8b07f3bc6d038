use Rattle.std.proofs.Common.{ap, length, map, sym, ◌∙◌, arith}
use Rattle.std.proofs.lemmas.Bool.Decides.{nat_tests}
use Rattle.std.proofs.lemmas.List.{length-append}
use Rattle.words.specs.Shows.{show_fields, field_said}
use Rattle.words.proofs.Fields.{field, fields_are}
use Rattle.words.proofs.Shown.{shown, shown_more, shown_room, shown_all}
use Rattle.words.proofs.Pages.{wrote_then}
use Rattle.words.proofs.page.Page.push_fields.Goals as goal

pub push_field-requires : goal.push_field-requires
push_field-requires c =
    let fields = c.args.fields.now in
    grind (arith, nat_tests, length-append c.args.mark.now (show_fields (map field_said fields)), ap length (fields_are fields), shown_room field fields c.loop-field.field-index c.loop-field-test.true c.field-item.result c.field-item.is)

pub loop-field-preserved : goal.loop-field-preserved
loop-field-preserved c =
    rw (shown_more field c.args.fields.now c.loop-field.field-index c.loop-field-test.true c.field-item.result c.field-item.is)
    (wrote_then c.push.new.self (shown field c.args.fields.now c.loop-field.field-index) c.loop-field.self _ _ c.loop-field.invariant c.push_field.ensures)

pub returns : goal.returns
returns c =
    rw (sym (shown_all field c.args.fields.now c.loop-field.field-index c.loop-field-test.false ∙ sym (fields_are c.args.fields.now)))
    (wrote_then c.args.self.now c.args.mark.now c.push.new.self _ _ c.push.ensures c.loop-field.invariant)
