use Rattle.std.proofs.Common.{[], codes, ◌∙◌, ◌∷◌}
use Rattle.h5_builder_spec.specs.World.{names_of}
use Rattle.h5_builder_spec.specs.modes.InTableBody.{is_table_section}
use Rattle.h5_builder_spec.specs.stack.Closing.{is_html_among}
use Rattle.h5_builder_state.specs.Steps.{world_of}
use Rattle.h5_builder_state.proofs.NewestLaws.{among_three, newest_same}
use Rattle.h5_modes_tables.proofs.in_table_body.TableSectionNewestTest.newest.Goals as goal

pub returns : goal.returns
returns g c =
    let all = names_of (world_of g.S.TreeSink c.args.sink.now c.args.state.now) in
    c.newest_among.ensures ∙ newest_same (is_html_among (codes "tbody" ∷ codes "tfoot" ∷ codes "thead" ∷ [])) is_table_section (among_three (codes "tbody") (codes "tfoot") (codes "thead")) all
