use Rattle.std.proofs.Common.{◌≡◌, Some, ap, subst, sym, ◌∙◌}
use Rattle.h5_tables.specs.TagSets.{is_html_named}
use Rattle.h5_builder_spec.specs.stack.Expected.{names_behind_item, names_behind_named}
use Rattle.h5_builder_spec.specs.stack.Scope.{cut_names}
use Rattle.h5_builder_spec.specs.World.{names_of}
use Rattle.h5_builder_spec.proofs.changes.ExpectedLaws.{no_item_behind}
use Rattle.h5_builder_spec.proofs.changes.NameLaws.{names-cut}
use Rattle.h5_builder_actions.specs.Items.{item_names}
use Rattle.h5_builder_state.specs.Steps.{world_of}
use Rattle.h5_builder_actions.proofs.list_items.close_list_item.Goals as goal

pub returns-in-Some-clause-names : goal.returns-in-Some-clause-names
unfolding names_behind_item
returns-in-Some-clause-names g c =
    let law = g.S.TreeSink in
    let local = c.from_known-name.result in
    let names = names_of (world_of law c.args.sink.now c.args.state.now) in
    let left = world_of law c.generate_implied_end_except.new.sink c.generate_implied_end_except.new.state in
    subst (λ o. names_of (world_of law c.generate_implied_end_except.new.sink c.pop_until_named.new.state) ≡ names_behind_named o names)
    (ap Some c.from_known-name.ensures ∙ c.in-Some.ensures)
    (ap names_of c.pop_until_named.ensures.world ∙ names-cut local left ∙ ap (cut_names (is_html_named local)) c.generate_implied_end_except.ensures.names)

pub returns-in-None-clause-names : goal.returns-in-None-clause-names
returns-in-None-clause-names g c =
    sym (no_item_behind (item_names c.args.kind) (names_of (world_of g.S.TreeSink c.args.sink.now c.args.state.now)) (sym c.in-None.ensures))
