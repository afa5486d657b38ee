use Rattle.std.proofs.Common.{ap, refl, sym, ◌∙◌}
use Rattle.h5_tables.specs.ElementSets.{holds_element}
use Rattle.h5_tables.specs.TagSets.{cell_names, heading_names, implied_names, is_cell, is_default_scope, is_heading, is_implied, is_list_item_scope, is_table_body_context, is_table_outer, is_table_row_context, is_table_scope, is_thorough_implied, list_item_scope_names, table_body_context_names, table_outer_names, table_row_context_names, table_scope_names, thorough_implied_names}
use Rattle.h5_builder_spec.specs.World.{names_of}
use Rattle.h5_builder_spec.specs.stack.Closing.{is_html_among}
use Rattle.h5_builder_state.specs.Newest.{newer_of, newest_where}
use Rattle.h5_builder_state.specs.Steps.{world_of}
use Rattle.h5_builder_state.proofs.NewestLaws.{newest_either}
use Rattle.h5_builder_state.proofs.set_test.ElementSetNewestTest.newest.Goals as goal

pub returns-in-ListItemScope : goal.returns-in-ListItemScope
unfolding is_list_item_scope list_item_scope_names
returns-in-ListItemScope g c =
    let all = names_of (world_of g.S.TreeSink c.args.sink.now c.args.state.now) in
    c.newer.ensures
    ∙ ap (λ z. newer_of z c.newest_among.result) c.newest_scope_end-in-ListItemScope.ensures
    ∙ ap (newer_of (newest_where is_default_scope all)) c.newest_among.ensures
    ∙ sym (newest_either is_default_scope (is_html_among list_item_scope_names) is_list_item_scope (λ n. refl) all)
    ∙ ap (λ s. newest_where (holds_element s) all) (sym c.in-ListItemScope.is)

pub returns-in-TableScope : goal.returns-in-TableScope
unfolding is_table_scope table_scope_names
returns-in-TableScope g c =
    c.newest_among-in-TableScope.ensures ∙ ap (λ s. newest_where (holds_element s) (names_of (world_of g.S.TreeSink c.args.sink.now c.args.state.now))) (sym c.in-TableScope.is)

pub returns-in-TableBodyContext : goal.returns-in-TableBodyContext
unfolding is_table_body_context table_body_context_names
returns-in-TableBodyContext g c =
    c.newest_among-in-TableBodyContext.ensures ∙ ap (λ s. newest_where (holds_element s) (names_of (world_of g.S.TreeSink c.args.sink.now c.args.state.now))) (sym c.in-TableBodyContext.is)

pub returns-in-TableRowContext : goal.returns-in-TableRowContext
unfolding is_table_row_context table_row_context_names
returns-in-TableRowContext g c =
    c.newest_among-in-TableRowContext.ensures ∙ ap (λ s. newest_where (holds_element s) (names_of (world_of g.S.TreeSink c.args.sink.now c.args.state.now))) (sym c.in-TableRowContext.is)

pub returns-in-CursoryImpliedEnd : goal.returns-in-CursoryImpliedEnd
unfolding is_implied implied_names
returns-in-CursoryImpliedEnd g c =
    c.newest_among-in-CursoryImpliedEnd.ensures ∙ ap (λ s. newest_where (holds_element s) (names_of (world_of g.S.TreeSink c.args.sink.now c.args.state.now))) (sym c.in-CursoryImpliedEnd.is)

pub returns-in-ThoroughImpliedEnd : goal.returns-in-ThoroughImpliedEnd
unfolding is_thorough_implied thorough_implied_names implied_names
returns-in-ThoroughImpliedEnd g c =
    c.newest_among-in-ThoroughImpliedEnd.ensures ∙ ap (λ s. newest_where (holds_element s) (names_of (world_of g.S.TreeSink c.args.sink.now c.args.state.now))) (sym c.in-ThoroughImpliedEnd.is)

pub returns-in-Heading : goal.returns-in-Heading
unfolding is_heading heading_names
returns-in-Heading g c =
    c.newest_among-in-Heading.ensures ∙ ap (λ s. newest_where (holds_element s) (names_of (world_of g.S.TreeSink c.args.sink.now c.args.state.now))) (sym c.in-Heading.is)

pub returns-in-TdTh : goal.returns-in-TdTh
unfolding is_cell cell_names
returns-in-TdTh g c =
    c.newest_among-in-TdTh.ensures ∙ ap (λ s. newest_where (holds_element s) (names_of (world_of g.S.TreeSink c.args.sink.now c.args.state.now))) (sym c.in-TdTh.is)

pub returns-in-TableOuter : goal.returns-in-TableOuter
unfolding is_table_outer table_outer_names
returns-in-TableOuter g c =
    c.newest_among-in-TableOuter.ensures ∙ ap (λ s. newest_where (holds_element s) (names_of (world_of g.S.TreeSink c.args.sink.now c.args.state.now))) (sym c.in-TableOuter.is)
