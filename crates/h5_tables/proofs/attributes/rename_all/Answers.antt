use Rattle.std.proofs.Common.{◌<◌, arith, length}
use Rattle.h5_names.specs.AttributeText.{attribute_text}
use Rattle.h5_tables.specs.AdjustedNames.{renamed}
use Rattle.h5_tables.specs.Tables.{names_in}
use Rattle.h5_tables.proofs.ChangeLaws.{changed_so_far, rest_unchanged}
use Rattle.h5_tables.proofs.attributes.rename_all.Goals as goal

pub loop-attribute-preserved : goal.loop-attribute-preserved
loop-attribute-preserved c =
    let items = c.loop-attribute.attribute-items in
    let i = c.loop-attribute.attribute-index in
    let before = c.loop-attribute.invariant in
    let here : i < length items = omega arith in
    record {
      done = changed_so_far attribute_text (renamed (names_in c.args.table.now)) items c.args.attrs.items i c.attribute-item.result c.rename.new.attribute here before.rest c.in_ok-rename.ensures before.done;
      rest = rest_unchanged items c.args.attrs.items i c.rename.new.attribute before.rest;
    }
