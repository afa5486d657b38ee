use Rattle.std.proofs.Common.{◌∙◌, ap, sym}
use Rattle.std.specs.Prelude.{None, Some}
use Rattle.h5_names.specs.AttributeText.{attribute_text}
use Rattle.h5_names.specs.declared.qualified.QualName.{QualName}
use Rattle.h5_tables.specs.Tables.{by_text, name_of}
use Rattle.h5_tables.proofs.TableLaws.{same_found}
use Rattle.h5_tables.proofs.attributes.rename.Goals as goal

pub returns-in_ok-attribute : goal.returns-in_ok-attribute
returns-in_ok-attribute c =
    let old = c.args.attribute.now in
    ap (λ (name : QualName). attribute_text (record { name = name; value = old.value }))
    (c.in_ok-attribute.ensures ∙ same_found name_of (by_text c.args.table.now) (Some (c.in-Some.place, c.in-Some.local)) old.name.local _ old.name c.in-Some.ensures c.as_str.ensures)

pub returns-in_default : goal.returns-in_default
returns-in_default c =
    let old = c.args.attribute.now in
    ap (λ (name : QualName). attribute_text (record { name = name; value = old.value }))
    (same_found name_of (by_text c.args.table.now) None old.name.local _ old.name (sym c.in_default.is ∙ c.find.ensures) c.as_str.ensures)
