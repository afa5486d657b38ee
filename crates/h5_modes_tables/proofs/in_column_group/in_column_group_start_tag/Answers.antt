use Rattle.h5_builder_spec.proofs.modes.ReadyLaws.{ready_open}
use Rattle.h5_builder_state.specs.Steps.{world_of}
use Rattle.h5_builder_spec.specs.modes.InColumnGroup.{in_column_group_start}
use Rattle.h5_names.specs.declared.known_name.KnownName.TheVariants.{Col, Html, Template}
use Rattle.std.proofs.Common.{rules}
use Rattle.h5_names.specs.KnownNames.{name_text}
use Rattle.h5_token.specs.TokenText.{tag_text}
use Rattle.h5_builder_spec.specs.ByName.{NonePasses}
use Rattle.h5_modes_head.proofs.DefaultLaws.{default_of, only_apart}
use Rattle.h5_modes_tables.proofs.in_column_group.in_column_group_start_tag.Goals as goal

pub in_body_start_html-requires : goal.in_body_start_html-requires
in_body_start_html-requires g c = record {
  sound = c.requires.sound;
  some = ready_open (world_of g.S.TreeSink c.args.sink.now c.args.state.now) c.requires.ready;
}

pub in_head_start_tag-requires : goal.in_head_start_tag-requires
in_head_start_tag-requires g c = record {
  sound = c.requires.sound;
  some = ready_open (world_of g.S.TreeSink c.args.sink.now c.args.state.now) c.requires.ready;
}

pub returns-in_default : goal.returns-in_default
unfolding in_column_group_start
returns-in_default g c =
    let known = c.known.result in
    let no = c.in_default in
    let none : NonePasses in_column_group_start (name_text known) = (only_apart known Html no.not-Html, (only_apart known Col no.not-Col, (only_apart known Template no.not-Template, tt))) in
    rw (default_of in_column_group_start _ (tag_text c.args.tag) known c.known.ensures none) (search rules)
