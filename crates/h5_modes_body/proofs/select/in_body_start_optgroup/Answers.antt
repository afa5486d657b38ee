use Rattle.std.proofs.Common.{sym, ◌∙◌}
use Rattle.h5_tables.specs.TagSets.{is_html_named}
use Rattle.h5_builder_spec.proofs.changes.PopLaws.{first_is_open}
use Rattle.h5_builder_state.specs.Steps.{world_of}
use Rattle.h5_modes_body.proofs.select.in_body_start_optgroup.Goals as goal

pub pop-requires : goal.pop-requires
pop-requires g c = record {
  sound = c.requires;
  some = first_is_open (is_html_named c.from_known-option.result) (world_of g.S.TreeSink c.args.sink.now c.args.state.now) (sym c.is_current_html.ensures ∙ c.if-is_current_html.true);
}
