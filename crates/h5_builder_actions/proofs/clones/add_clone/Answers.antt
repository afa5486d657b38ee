use Rattle.std.proofs.Common.{subst, sym}
use Rattle.h5_token.specs.TokenText.{tag_text}
use Rattle.h5_interface.specs.Forest.{IsNode}
use Rattle.h5_builder_state.specs.View.{world}
use Rattle.h5_builder_state.proofs.StepLaws.{sound_rearranged}
use Rattle.h5_builder_actions.proofs.CloneLaws.{cloned_kinds, cloned_loose, cloned_sound}
use Rattle.h5_builder_actions.proofs.HangLaws.{may_hang}
use Rattle.h5_builder_actions.proofs.NodeLaws.{nodes_kept, nodes_pushed}
use Rattle.h5_builder_actions.proofs.clones.add_clone.Goals as goal

pub wrap-requires-clause-is_forest : goal.wrap-requires-clause-is_forest
unfolding world
wrap-requires-clause-is_forest g c = c.requires.sound.sound.stands.is_forest

pub wrap-requires-clause-last : goal.wrap-requires-clause-last
unfolding world
wrap-requires-clause-last g c = let may = c.requires.may in may_hang _ _ may.block _ may.loose

pub returns-in_err-outer-clause-sound : goal.returns-in_err-outer-clause-sound
returns-in_err-outer-clause-sound g c = sound_rearranged g.S.TreeSink c.args.sink.now c.wrap.new.sink c.args.state.now c.requires.sound c.in_err-outer.ensures.err

pub returns-in_err-push-clause-kinds : goal.returns-in_err-push-clause-kinds
returns-in_err-push-clause-kinds g c =
    cloned_kinds g.S.TreeSink c.args.sink.now c.wrap.new.sink c.args.state.now (tag_text c.args.tag.now) (g.S.TreeSink.node c.args.clones.now.outermost) c.requires.sound c.requires.may c.in_ok-outer.ensures.ok

pub returns-clause-kinds : goal.returns-clause-kinds
returns-clause-kinds g c =
    cloned_kinds g.S.TreeSink c.args.sink.now c.wrap.new.sink c.args.state.now (tag_text c.args.tag.now) (g.S.TreeSink.node c.args.clones.now.outermost) c.requires.sound c.requires.may c.in_ok-outer.ensures.ok

pub returns-in_err-push-clause-sound : goal.returns-in_err-push-clause-sound
returns-in_err-push-clause-sound g c =
    cloned_sound g.S.TreeSink c.args.sink.now c.wrap.new.sink c.args.state.now (tag_text c.args.tag.now) (g.S.TreeSink.node c.args.clones.now.outermost) c.requires.sound c.requires.may c.in_ok-outer.ensures.ok

pub returns-clause-sound : goal.returns-clause-sound
returns-clause-sound g c =
    cloned_sound g.S.TreeSink c.args.sink.now c.wrap.new.sink c.args.state.now (tag_text c.args.tag.now) (g.S.TreeSink.node c.args.clones.now.outermost) c.requires.sound c.requires.may c.in_ok-outer.ensures.ok

pub returns-clause-nodes : goal.returns-clause-nodes
returns-clause-nodes g c = λ there.
    let node = g.S.TreeSink.node in
    let old = (g.S.TreeSink.sees c.args.sink.now).forest in
    let new = (g.S.TreeSink.sees c.wrap.new.sink).forest in
    let kinds = cloned_kinds g.S.TreeSink c.args.sink.now c.wrap.new.sink c.args.state.now (tag_text c.args.tag.now) (node c.args.clones.now.outermost) c.requires.sound c.requires.may c.in_ok-outer.ensures.ok in
    nodes_pushed node new c.args.clones.now.made.items _ _ c.in_ok-push.ensures.items (nodes_kept old new _ kinds there) (subst (IsNode new) (sym c.clone_handle-copy.ensures) c.in_ok-outer.ensures.node)

pub returns-clause-loose : goal.returns-clause-loose
returns-clause-loose g c = λ block loose.
    cloned_loose g.S.TreeSink c.args.sink.now c.wrap.new.sink c.args.state.now (tag_text c.args.tag.now) (g.S.TreeSink.node c.args.clones.now.outermost) c.requires.sound c.requires.may c.in_ok-outer.ensures.ok
    (g.S.TreeSink.node c.in_ok-outer.outer) block c.in_ok-outer.ensures.handle loose
