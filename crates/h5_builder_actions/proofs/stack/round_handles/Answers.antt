use Rattle.std.proofs.Common.{[], ap, map, reverse, sym, ◌++◌, ◌∙◌, ◌∷◌, ◌≡◌}
use Rattle.std.proofs.lemmas.List.{append-nil}
use Rattle.h5_builder_state.specs.Steps.{world_of}
use Rattle.h5_builder_state.specs.View.{world}
use Rattle.h5_builder_state.proofs.StackLaws.{seen_pushed}
use Rattle.h5_builder_actions.proofs.NodeLaws.{open_nodes}
use Rattle.h5_builder_actions.proofs.stack.round_handles.Goals as goal

pub clone_handle-requires : goal.clone_handle-requires
unfolding world
clone_handle-requires g c = open_nodes (world_of g.S.TreeSink c.args.sink.now c.args.state.now) c.requires.sound.sound (g.S.TreeSink.node c.handle_at.result.now) c.handle_at.ensures.open

pub returns : goal.returns
returns g c = λ b older e.
    let node = g.S.TreeSink.node in
    let clones = map node c.args.clones.now.items in
    let n = node c.args.clone.now in
    let block : b ≡ node c.handle_at.result.now = cc (e, c.handle_at.ensures.stack) in
    let none : reverse (map node c.new-handles.result.items) ≡ [] = ap (λ xs. reverse (map node xs)) c.new-handles.ensures.items in
    let first : reverse (map node c.push_clones.new.handles.items) ≡ clones = c.in_ok-push_clones.ensures ∙ ap (λ z. clones ++ z) none ∙ append-nil clones in
    let second : reverse (map node c.push.new.self.items) ≡ b ∷ clones =
    seen_pushed node _ _ _ c.in_ok-push.ensures.items ∙ ap (λ m. m ∷ reverse (map node c.push_clones.new.handles.items)) (c.clone_handle.ensures ∙ sym block) ∙ ap (λ z. b ∷ z) first in
    seen_pushed node _ _ _ c.in_ok-push-2.ensures.items ∙ ap (λ m. m ∷ reverse (map node c.push.new.self.items)) c.clone_handle-2.ensures ∙ ap (λ z. n ∷ z) second
