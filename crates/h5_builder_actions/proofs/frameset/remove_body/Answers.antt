use Rattle.std.proofs.Common.{◌≡◌, ap, sym, subst, ◌∙◌}
use Rattle.h5_builder_spec.specs.Changes.{only_last, remove_body}
use Rattle.h5_builder_spec.specs.Sound.{Sound}
use Rattle.h5_builder_spec.proofs.changes.FramesetLaws.{remove_body_stands}
use Rattle.h5_builder_state.specs.View.{elements_of, open_node, stack_under, with_stack, world}
use Rattle.h5_builder_state.proofs.StackLaws.{seen_world}
use Rattle.h5_builder_actions.proofs.FramesetLaws.{only_root}
use Rattle.h5_builder_actions.proofs.frameset.remove_body.Goals as goal

pub returns : goal.returns
unfolding world stack_under remove_body
returns g c =
    let node = g.S.TreeSink.node in
    let w = world g.S.TreeSink.sees node c.args.sink.now c.args.state.now in
    let mid = world g.S.TreeSink.sees node c.detach_body.new.sink c.args.state.now in
    let same : world g.S.TreeSink.sees node c.detach_body.new.sink c.truncate.new.state ≡ remove_body w =
    c.truncate.ensures.world ∙ ap (λ s. with_stack s mid) (only_root (open_node node) (elements_of c.args.state.now)) ∙ ap (λ s. seen_world w s (only_last w.stack)) c.in_ok-detach_body.ensures.done in
    record {
      world = same;
      quiet = c.detach_body.ensures.quiet;
      sound = record { sound = subst Sound (sym same) (remove_body_stands w c.requires.sound); kept = c.truncate.ensures.kept; stamped = c.truncate.ensures.stamped };
    }
