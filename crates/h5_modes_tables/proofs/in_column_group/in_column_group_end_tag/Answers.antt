use Rattle.h5_builder_spec.specs.modes.InColumnGroup.{in_column_group_end}
use Rattle.h5_names.specs.declared.known_name.KnownName.TheVariants.{Col, Colgroup, Template}
use Rattle.std.proofs.Common.{rules}
use Rattle.h5_names.specs.KnownNames.{name_text}
use Rattle.h5_token.specs.TokenText.{tag_text}
use Rattle.h5_builder_spec.specs.ByName.{NonePasses}
use Rattle.h5_modes_head.proofs.DefaultLaws.{default_of, only_apart}
use Rattle.h5_modes_tables.proofs.in_column_group.in_column_group_end_tag.Goals as goal

pub returns-in_default : goal.returns-in_default
unfolding in_column_group_end
returns-in_default g c =
    let known = c.known.result in
    let no = c.in_default in
    let none : NonePasses in_column_group_end (name_text known) = (only_apart known Colgroup no.not-Colgroup, (only_apart known Col no.not-Col, (only_apart known Template no.not-Template, tt))) in
    rw (default_of in_column_group_end _ (tag_text c.args.tag) known c.known.ensures none) (search rules)
