use Rattle.std.proofs.Common.{ap, sym, ◌++◌, ◌+◌, ◌∙◌, ◌≡◌, ◌∷◌, arith}
use Rattle.std.specs.Prelude.{◌==◌}
use Rattle.h5_builder_spec.specs.formatting.AdoptionAgency.{is_formatting_element}
use Rattle.h5_builder_spec.specs.World.{current}
use Rattle.h5_builder_spec.specs.formatting.FormattingList.{ElementEntry, nodes_of}
use Rattle.h5_builder_state.specs.Steps.{world_of}
use Rattle.h5_builder_state.specs.View.{listed_node, world}
use Rattle.h5_builder_state.specs.Listed.{entry_of}
use Rattle.h5_builder_actions.specs.EntryPlaces.{is_entry_of}
use Rattle.h5_builder_actions.specs.View.{list_under}
use Rattle.h5_builder_actions.proofs.EntryLaws.{list_cut}
use Rattle.h5_builder_state.proofs.SeenLaws.{same_tail}
use Rattle.h5_builder_actions.proofs.NodeLaws.{entry_is_node, listed_nodes}
use Rattle.h5_builder_actions.proofs.questions.closes_current.Goals as goal

pub is_entry_of-requires-clause-entry : goal.is_entry_of-requires-clause-entry
unfolding world
is_entry_of-requires-clause-entry g c =
    let w = world_of g.S.TreeSink c.args.sink.now c.args.state.now in
    entry_is_node w.forest (nodes_of w.formatting) (entry_of (listed_node g.S.TreeSink.node) c.entry_at.result.now) (listed_nodes w c.requires.sound) c.entry_at.ensures.listed

pub returns-in-Some : goal.returns-in-Some
unfolding world
returns-in-Some g c =
    let node = g.S.TreeSink.node in
    let state = c.args.state.now in
    let w = world_of g.S.TreeSink c.args.sink.now state in
    let k = c.in-Some.ensures.place in
    let cut = list_cut node state (c.in-Some.place + 1) in
    let rest = list_under node state c.in-Some.place in
    let same = same_tail cut.newer (entry_of (listed_node node) c.entry_at.result.now ∷ rest) k.newer (ElementEntry k.element.node k.element.tag ∷ k.older)
    (sym (cut.cut ∙ ap (λ l. cut.newer ++ l) c.entry_at.ensures.list) ∙ k.cut) (omega (arith, c.entry_at.ensures.count, k.here)) in
    let first : entry_of (listed_node node) c.entry_at.result.now ≡ ElementEntry k.element.node k.element.tag = cc (same.1) in
    c.is_entry_of.ensures
    ∙ ap (is_entry_of (node c.current_node.result)) first
    ∙ ap (λ n. n == k.element.node) c.current_node.ensures.current
    ∙ ap (is_formatting_element (current w)) (sym k.newest)
