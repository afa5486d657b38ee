use Rattle.std.proofs.Common.{ap, arith, refl}
use Rattle.h5_token.specs.TokenText.{tag_text}
use Rattle.h5_builder_state.specs.Listed.{entry_of}
use Rattle.h5_builder_state.specs.View.{listed_node, world}
use Rattle.h5_builder_actions.proofs.ListLaws.{entries_cut, length_entries}
use Rattle.h5_builder_actions.proofs.NodeLaws.{entry_in, listed_nodes}
use Rattle.h5_builder_actions.proofs.RenewLaws.{relisted_seen, relisted_stamped, sound_with_list, with_list}
use Rattle.h5_builder_actions.proofs.reconstruct.set_place.Goals as goal

-- a listed element is a node
pub clone_handle-requires : goal.clone_handle-requires
unfolding world
clone_handle-requires g c =
    let node = g.S.TreeSink.node in
    let seen = listed_node node in
    let items = c.args.state.now.active_formatting in
    let n = node c.in-Element.listed.handle in
    listed_nodes (world g.S.TreeSink.sees node c.args.sink.now c.args.state.now) c.requires.sound.sound n
    (entry_in _ _ _ (entry_of seen c.get.result.now) n (tag_text c.in-Element.field-1)
    (entries_cut seen items c.args.at c.get.result.now (omega (arith, c.requires.at, length_entries seen items)) c.get.ensures) (ap (entry_of seen) c.in-Element.is))

-- the entry is seen as it was
pub returns-in-Element-clause-world : goal.returns-in-Element-clause-world
unfolding world
returns-in-Element-clause-world g c =
    let w = world g.S.TreeSink.sees g.S.TreeSink.node c.args.sink.now c.args.state.now in
    ap (λ l. with_list l w)
    (relisted_seen g.S.TreeSink c.args.sink.now c.args.state.now c.args.at c.in-Element.listed _ c.in-Element.field-1 c.requires.at c.get.result.now c.get.ensures c.in-Element.is c.clone_handle.ensures c.set_handle.new.self c.set_handle.ensures)

-- it has its stamp
pub returns-in-Element-clause-sound : goal.returns-in-Element-clause-sound
unfolding world
returns-in-Element-clause-sound g c =
    let law = g.S.TreeSink in
    let sink = c.args.sink.now in
    let state = c.args.state.now in
    let w = world law.sees law.node sink state in
    let k = c.requires.sound in
    sound_with_list law sink state _ w.formatting
    (ap (λ l. with_list l w) (relisted_seen law sink state c.args.at c.in-Element.listed _ c.in-Element.field-1 c.requires.at c.get.result.now c.get.ensures c.in-Element.is c.clone_handle.ensures c.set_handle.new.self c.set_handle.ensures))
    refl k.sound.listed k.sound.formatting
    (relisted_stamped law sink state c.args.at c.in-Element.listed _ c.in-Element.field-1 c.requires.at c.get.result.now c.get.ensures c.in-Element.is c.clone_handle.ensures c.set_handle.new.self c.set_handle.ensures refl k.stamped)
    k
