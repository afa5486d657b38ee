use Rattle.std.proofs.Common.{◌∙◌}
use Rattle.std.specs.Prelude.{None, Some}
use Rattle.h5_tables.proofs.TableLaws.{adjusted_by_row}
use Rattle.h5_tables.proofs.svg_tags.adjust_svg_tag_name.Goals as goal

pub returns-in-Some : goal.returns-in-Some
returns-in-Some c = c.from_known.ensures ∙ adjusted_by_row (Some c.in-Some.known) c.args.name _ c.in-Some.ensures c.as_str.ensures

pub returns-in-None : goal.returns-in-None
returns-in-None c = adjusted_by_row None c.args.name _ c.in-None.ensures c.as_str.ensures
