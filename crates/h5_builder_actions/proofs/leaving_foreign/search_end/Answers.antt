use Rattle.std.proofs.Common.{ap, sym, ◌∙◌}
use Rattle.h5_builder_spec.specs.World.{names_of}
use Rattle.h5_builder_spec.proofs.changes.PopLaws.{names_length}
use Rattle.h5_builder_state.specs.Steps.{world_of}
use Rattle.h5_builder_state.specs.Newest.{is_foreign_named, newest_where}
use Rattle.h5_builder_actions.specs.EndSearches.{end_by}
use Rattle.h5_builder_actions.proofs.EndLaws.{found_by_places, search_by_places}
use Rattle.h5_builder_actions.proofs.leaving_foreign.search_end.Goals as goal

pub returns-in-Ok-clause-search : goal.returns-in-Ok-clause-search
returns-in-Ok-clause-search g c =
    let w = world_of g.S.TreeSink c.args.sink.now c.args.state.now in
    c.end_by.ensures.search ∙ ap (λ here. end_by here c.newest_html.result) c.in-Ok.ensures ∙ ap (λ html. end_by (newest_where (is_foreign_named c.args.local.now) (names_of w)) html) c.newest_html.ensures ∙ sym (search_by_places c.args.local.now (names_of w))

pub returns-in-Ok-clause-place : goal.returns-in-Ok-clause-place
returns-in-Ok-clause-place g c =
    let w = world_of g.S.TreeSink c.args.sink.now c.args.state.now in
    found_by_places c.args.local.now w c.in-Ok.here c.newest_html.result c.end_by.result (names_length w) c.in-Ok.ensures c.newest_html.ensures c.end_by.ensures.place
