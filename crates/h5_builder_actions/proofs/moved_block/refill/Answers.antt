use Rattle.std.proofs.Common.{◌≡◌, ap, sym, subst, ◌∙◌}
use Rattle.h5_token.specs.TokenText.{tag_text}
use Rattle.h5_interface.specs.Changes.{reparent}
use Rattle.h5_interface.specs.Forest.{ChildNode, ElementNode, IsNode}
use Rattle.h5_interface.specs.Seen.{CanAppend, CanReparent, Seen, changed, with_last_child}
use Rattle.h5_interface.proofs.ForestLaws.{node_of_kind, rearranges_refl}
use Rattle.h5_interface.specs.SinkChoices.{Rearranges}
use Rattle.h5_builder_spec.specs.formatting.AdoptionAgency.{make_for}
use Rattle.h5_builder_spec.specs.formatting.FormattingNames.{html_name}
use Rattle.h5_builder_spec.proofs.adoption.AdoptionForest.{can_append_clone, can_reparent, emptied, emptied_kinds, filled, filled_all, filled_kinds, filled_of_tag, make_for_kinds, made_all, reparented_all}
use Rattle.h5_builder_state.specs.Steps.{world_of}
use Rattle.h5_builder_state.specs.View.{world}
use Rattle.h5_builder_state.proofs.StepLaws.{sound_rearranged}
use Rattle.h5_builder_actions.proofs.ViewLaws.{kinds_by, sound_by}
use Rattle.h5_builder_actions.proofs.moved_block.refill.Goals as goal

pub returns-in_err-clone-clause-sound : goal.returns-in_err-clone-clause-sound
unfolding world
returns-in_err-clone-clause-sound g c =
    let seen = g.S.TreeSink.sees c.args.sink.now in
    sound_rearranged g.S.TreeSink c.args.sink.now c.make_for.new.sink c.args.state.now c.requires.sound
    (subst (λ (s : Seen). Rearranges seen.forest s.forest) (sym c.in_err-clone.ensures.err) (rearranges_refl seen.forest c.requires.sound.sound.stands.is_forest))

pub reparent_children-requires : goal.reparent_children-requires
unfolding world
reparent_children-requires g c =
    let seen = g.S.TreeSink.sees c.args.sink.now in
    let choices = g.S.TreeSink.choices in
    let tag = tag_text c.args.tag.now in
    let b = g.S.TreeSink.node c.args.block.now in
    let w = world_of g.S.TreeSink c.args.sink.now c.args.state.now in
    subst (λ (s : Seen). CanReparent s.forest b (g.S.TreeSink.node c.in_ok-clone.clone)) (sym c.in_ok-clone.ensures.ok)
    (subst (CanReparent (make_for choices tag seen.forest) b) (sym c.in_ok-clone.ensures.handle) (can_reparent choices tag seen.forest w.stack b c.requires.sound.sound.stands c.requires.block))

pub returns-in_err-reparent_children-clause-sound : goal.returns-in_err-reparent_children-clause-sound
unfolding world
returns-in_err-reparent_children-clause-sound g c =
    let seen = g.S.TreeSink.sees c.args.sink.now in
    let choices = g.S.TreeSink.choices in
    let tag = tag_text c.args.tag.now in
    let w = world_of g.S.TreeSink c.args.sink.now c.args.state.now in
    sound_by g.S.TreeSink c.args.sink.now c.reparent_children.new.self c.args.state.now (make_for choices tag) (c.in_err-reparent_children.ensures.err ∙ c.in_ok-clone.ensures.ok) c.requires.sound
    (made_all choices tag seen.forest w.stack c.requires.sound.sound) (make_for_kinds choices tag seen.forest c.requires.sound.sound.stands.is_forest)

pub returns-in_err-reparent_children-clause-kinds : goal.returns-in_err-reparent_children-clause-kinds
unfolding world
returns-in_err-reparent_children-clause-kinds g c =
    let seen = g.S.TreeSink.sees c.args.sink.now in
    let choices = g.S.TreeSink.choices in
    let tag = tag_text c.args.tag.now in
    kinds_by seen _ (make_for choices tag) (c.in_err-reparent_children.ensures.err ∙ c.in_ok-clone.ensures.ok) (make_for_kinds choices tag seen.forest c.requires.sound.sound.stands.is_forest)

pub clone_handle-requires : goal.clone_handle-requires
unfolding world
clone_handle-requires g c =
    let seen = g.S.TreeSink.sees c.args.sink.now in
    let choices = g.S.TreeSink.choices in
    let tag = tag_text c.args.tag.now in
    let node = g.S.TreeSink.node in
    let b = node c.args.block.now in
    let w = world_of g.S.TreeSink c.args.sink.now c.args.state.now in
    let done : g.S.TreeSink.sees c.reparent_children.new.self ≡ changed (emptied choices tag b) seen =
    c.in_ok-reparent_children.ensures.ok ∙ ap (changed (reparent b (node c.in_ok-clone.clone))) c.in_ok-clone.ensures.ok
    ∙ ap (λ n. changed (reparent b n) (changed (make_for choices tag) seen)) c.in_ok-clone.ensures.handle in
    subst (λ (s : Seen). IsNode s.forest (node c.in_ok-clone.clone)) (sym done)
    (subst (IsNode (emptied choices tag b seen.forest)) (sym c.in_ok-clone.ensures.handle)
    (can_append_clone choices tag seen.forest w.stack b c.requires.sound.sound.stands c.requires.block).child.is_node)

pub append-requires : goal.append-requires
unfolding world
append-requires g c =
    let seen = g.S.TreeSink.sees c.args.sink.now in
    let choices = g.S.TreeSink.choices in
    let tag = tag_text c.args.tag.now in
    let node = g.S.TreeSink.node in
    let b = node c.args.block.now in
    let w = world_of g.S.TreeSink c.args.sink.now c.args.state.now in
    let done : g.S.TreeSink.sees c.reparent_children.new.self ≡ changed (emptied choices tag b) seen =
    c.in_ok-reparent_children.ensures.ok ∙ ap (changed (reparent b (node c.in_ok-clone.clone))) c.in_ok-clone.ensures.ok
    ∙ ap (λ n. changed (reparent b n) (changed (make_for choices tag) seen)) c.in_ok-clone.ensures.handle in
    subst (λ (s : Seen). CanAppend s.forest b (ChildNode (node c.clone_handle.result))) (sym done)
    (subst (λ n. CanAppend (emptied choices tag b seen.forest) b (ChildNode n)) (sym (c.clone_handle.ensures ∙ c.in_ok-clone.ensures.handle))
    (can_append_clone choices tag seen.forest w.stack b c.requires.sound.sound.stands c.requires.block))

pub returns-in_err-append-clause-sound : goal.returns-in_err-append-clause-sound
unfolding world
returns-in_err-append-clause-sound g c =
    let seen = g.S.TreeSink.sees c.args.sink.now in
    let choices = g.S.TreeSink.choices in
    let tag = tag_text c.args.tag.now in
    let node = g.S.TreeSink.node in
    let b = node c.args.block.now in
    let w = world_of g.S.TreeSink c.args.sink.now c.args.state.now in
    let done : g.S.TreeSink.sees c.append.new.self ≡ changed (emptied choices tag b) seen =
    c.in_err-append.ensures.err ∙ c.in_ok-reparent_children.ensures.ok ∙ ap (changed (reparent b (node c.in_ok-clone.clone))) c.in_ok-clone.ensures.ok
    ∙ ap (λ n. changed (reparent b n) (changed (make_for choices tag) seen)) c.in_ok-clone.ensures.handle in
    sound_by g.S.TreeSink c.args.sink.now c.append.new.self c.args.state.now (emptied choices tag b) done c.requires.sound
    (reparented_all choices tag seen.forest w.stack b c.requires.sound.sound.stands c.requires.block c.requires.sound.sound)
    (emptied_kinds choices tag seen.forest w.stack b c.requires.sound.sound.stands c.requires.block)

pub returns-in_err-append-clause-kinds : goal.returns-in_err-append-clause-kinds
unfolding world
returns-in_err-append-clause-kinds g c =
    let seen = g.S.TreeSink.sees c.args.sink.now in
    let choices = g.S.TreeSink.choices in
    let tag = tag_text c.args.tag.now in
    let node = g.S.TreeSink.node in
    let b = node c.args.block.now in
    let w = world_of g.S.TreeSink c.args.sink.now c.args.state.now in
    let done : g.S.TreeSink.sees c.append.new.self ≡ changed (emptied choices tag b) seen =
    c.in_err-append.ensures.err ∙ c.in_ok-reparent_children.ensures.ok ∙ ap (changed (reparent b (node c.in_ok-clone.clone))) c.in_ok-clone.ensures.ok
    ∙ ap (λ n. changed (reparent b n) (changed (make_for choices tag) seen)) c.in_ok-clone.ensures.handle in
    kinds_by seen _ (emptied choices tag b) done (emptied_kinds choices tag seen.forest w.stack b c.requires.sound.sound.stands c.requires.block)

pub returns-clause-node : goal.returns-clause-node
unfolding world
returns-clause-node g c =
    let seen = g.S.TreeSink.sees c.args.sink.now in
    let choices = g.S.TreeSink.choices in
    let tag = tag_text c.args.tag.now in
    let node = g.S.TreeSink.node in
    let b = node c.args.block.now in
    let w = world_of g.S.TreeSink c.args.sink.now c.args.state.now in
    let done : g.S.TreeSink.sees c.append.new.self ≡ changed (filled choices tag b) seen =
    c.in_ok-append.ensures.ok
    ∙ ap (changed (with_last_child b (ChildNode (node c.clone_handle.result)))) (c.in_ok-reparent_children.ensures.ok ∙ ap (changed (reparent b (node c.in_ok-clone.clone))) c.in_ok-clone.ensures.ok)
    ∙ ap (λ n. changed (with_last_child b (ChildNode n)) (changed (reparent b (node c.in_ok-clone.clone)) (changed (make_for choices tag) seen))) (c.clone_handle.ensures ∙ c.in_ok-clone.ensures.handle)
    ∙ ap (λ n. changed (with_last_child b (ChildNode (choices.fresh seen.forest))) (changed (reparent b n) (changed (make_for choices tag) seen))) c.in_ok-clone.ensures.handle in
    subst (λ n. IsNode (g.S.TreeSink.sees c.append.new.self).forest n) (sym c.in_ok-clone.ensures.handle)
    (subst (λ (s : Seen). IsNode s.forest (choices.fresh seen.forest)) (sym done)
    (node_of_kind (filled choices tag b seen.forest) (choices.fresh seen.forest) (ElementNode (html_name tag.name)) (filled_of_tag choices tag seen.forest w.stack b c.requires.sound.sound.stands c.requires.block)))

pub returns-clause-sound : goal.returns-clause-sound
unfolding world
returns-clause-sound g c =
    let seen = g.S.TreeSink.sees c.args.sink.now in
    let choices = g.S.TreeSink.choices in
    let tag = tag_text c.args.tag.now in
    let node = g.S.TreeSink.node in
    let b = node c.args.block.now in
    let w = world_of g.S.TreeSink c.args.sink.now c.args.state.now in
    let done : g.S.TreeSink.sees c.append.new.self ≡ changed (filled choices tag b) seen =
    c.in_ok-append.ensures.ok
    ∙ ap (changed (with_last_child b (ChildNode (node c.clone_handle.result)))) (c.in_ok-reparent_children.ensures.ok ∙ ap (changed (reparent b (node c.in_ok-clone.clone))) c.in_ok-clone.ensures.ok)
    ∙ ap (λ n. changed (with_last_child b (ChildNode n)) (changed (reparent b (node c.in_ok-clone.clone)) (changed (make_for choices tag) seen))) (c.clone_handle.ensures ∙ c.in_ok-clone.ensures.handle)
    ∙ ap (λ n. changed (with_last_child b (ChildNode (choices.fresh seen.forest))) (changed (reparent b n) (changed (make_for choices tag) seen))) c.in_ok-clone.ensures.handle in
    sound_by g.S.TreeSink c.args.sink.now c.append.new.self c.args.state.now (filled choices tag b) done c.requires.sound
    (filled_all choices tag seen.forest w.stack b c.requires.sound.sound.stands c.requires.block c.requires.sound.sound)
    (filled_kinds choices tag seen.forest w.stack b c.requires.sound.sound.stands c.requires.block)

pub returns-clause-kinds : goal.returns-clause-kinds
unfolding world
returns-clause-kinds g c =
    let seen = g.S.TreeSink.sees c.args.sink.now in
    let choices = g.S.TreeSink.choices in
    let tag = tag_text c.args.tag.now in
    let node = g.S.TreeSink.node in
    let b = node c.args.block.now in
    let w = world_of g.S.TreeSink c.args.sink.now c.args.state.now in
    let done : g.S.TreeSink.sees c.append.new.self ≡ changed (filled choices tag b) seen =
    c.in_ok-append.ensures.ok
    ∙ ap (changed (with_last_child b (ChildNode (node c.clone_handle.result)))) (c.in_ok-reparent_children.ensures.ok ∙ ap (changed (reparent b (node c.in_ok-clone.clone))) c.in_ok-clone.ensures.ok)
    ∙ ap (λ n. changed (with_last_child b (ChildNode n)) (changed (reparent b (node c.in_ok-clone.clone)) (changed (make_for choices tag) seen))) (c.clone_handle.ensures ∙ c.in_ok-clone.ensures.handle)
    ∙ ap (λ n. changed (with_last_child b (ChildNode (choices.fresh seen.forest))) (changed (reparent b n) (changed (make_for choices tag) seen))) c.in_ok-clone.ensures.handle in
    kinds_by seen _ (filled choices tag b) done (filled_kinds choices tag seen.forest w.stack b c.requires.sound.sound.stands c.requires.block)
