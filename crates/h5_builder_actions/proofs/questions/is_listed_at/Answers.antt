use Rattle.std.proofs.Common.{ap, length, sym, ◌++◌, ◌+◌, ◌∙◌, ◌≤◌, arith}
use Rattle.std.proofs.lemmas.Bool.{le-ltb}
use Rattle.h5_builder_spec.specs.formatting.FormattingList.{nodes_of}
use Rattle.h5_builder_state.specs.Steps.{world_of}
use Rattle.h5_builder_state.specs.View.{listed_node, world}
use Rattle.h5_builder_state.specs.Listed.{entry_of}
use Rattle.h5_builder_actions.specs.EntryPlaces.{entry_at, is_entry_of}
use Rattle.h5_builder_actions.specs.View.{list_under}
use Rattle.h5_builder_actions.proofs.EntryLaws.{list_cut}
use Rattle.h5_builder_actions.proofs.GoneLaws.{no_entry_past}
use Rattle.h5_builder_actions.proofs.ListLaws.{entry_at_cut}
use Rattle.h5_builder_actions.proofs.NodeLaws.{entry_is_node, listed_nodes}
use Rattle.h5_builder_actions.proofs.questions.is_listed_at.Goals as goal

pub is_entry_of-requires-clause-entry : goal.is_entry_of-requires-clause-entry
unfolding world
is_entry_of-requires-clause-entry g c =
    let w = world_of g.S.TreeSink c.args.sink.now c.args.state.now in
    entry_is_node w.forest (nodes_of w.formatting) (entry_of (listed_node g.S.TreeSink.node) c.entry_at.result.now) (listed_nodes w c.requires.sound.sound) c.entry_at.ensures.listed

pub returns-then-at-entry_count : goal.returns-then-at-entry_count
unfolding world
returns-then-at-entry_count g c =
    let node = g.S.TreeSink.node in
    let state = c.args.state.now in
    let cut = list_cut node state (c.args.at + 1) in
    c.is_entry_of.ensures
    ∙ ap (is_entry_of (node c.args.handle.now))
    (sym (ap (entry_at c.args.at) (cut.cut ∙ ap (λ l. cut.newer ++ l) c.entry_at.ensures.list)
    ∙ entry_at_cut c.args.at cut.newer (entry_of (listed_node node) c.entry_at.result.now) (list_under node state c.args.at) c.entry_at.ensures.count))

pub returns-else-at-entry_count : goal.returns-else-at-entry_count
returns-else-at-entry_count g c =
    let l = (world_of g.S.TreeSink c.args.sink.now c.args.state.now).formatting in
    let past : length l ≤ c.args.at = omega (arith, c.entry_count.ensures.count, c.if-at-entry_count.false) in
    le-ltb c.args.at c.entry_count.result c.if-at-entry_count.false ∙ sym (no_entry_past (g.S.TreeSink.node c.args.handle.now) c.args.at l past)
