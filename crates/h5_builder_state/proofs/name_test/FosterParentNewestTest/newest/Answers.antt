use Rattle.std.proofs.Common.{[], codes, ◌∙◌, ◌∷◌}
use Rattle.h5_builder_spec.specs.World.{names_of}
use Rattle.h5_builder_spec.specs.insertion.Place.{is_foster_parent}
use Rattle.h5_builder_spec.specs.stack.Closing.{is_html_among}
use Rattle.h5_builder_state.specs.View.{world}
use Rattle.h5_builder_state.proofs.NewestLaws.{among_two, newest_same}
use Rattle.h5_builder_state.proofs.name_test.FosterParentNewestTest.newest.Goals as goal

pub returns : goal.returns
returns g c =
    let all = names_of (world g.S.TreeSink.sees g.S.TreeSink.node c.args.sink.now c.args.state.now) in
    c.newest_among.ensures ∙ newest_same (is_html_among (codes "template" ∷ codes "table" ∷ [])) is_foster_parent (among_two (codes "template") (codes "table")) all
