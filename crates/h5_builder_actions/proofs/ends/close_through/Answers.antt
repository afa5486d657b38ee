use Rattle.std.proofs.Common.{[], ap, append_assoc, refl, subst, sym, ◌++◌, ◌∙◌, ◌∷◌, ◌≡◌}
use Rattle.h5_builder_spec.specs.Sound.{AllStand, Sound}
use Rattle.h5_builder_spec.specs.formatting.Adoption.{newer_than, older_than}
use Rattle.h5_builder_spec.proofs.changes.RemovalLaws.{all_older}
use Rattle.h5_builder_spec.proofs.entries.PassLaws.{stack_split}
use Rattle.h5_builder_state.specs.View.{elements_of, open_node, stack_under, with_stack, world}
use Rattle.h5_builder_state.proofs.SeenLaws.{seen_at}
use Rattle.h5_builder_actions.proofs.ends.close_through.Goals as goal

pub returns : goal.returns
unfolding world stack_under
returns g c = λ n k.
    let node = g.S.TreeSink.node in
    let w = world g.S.TreeSink.sees node c.args.sink.now c.args.state.now in
    let newer = newer_than n w.stack ++ n ∷ [] in
    let cut : w.stack ≡ newer ++ older_than n w.stack = stack_split n w.stack k.is_open ∙ sym (append_assoc (newer_than n w.stack) (n ∷ []) (older_than n w.stack)) in
    let left : stack_under node c.args.state.now c.args.place ≡ older_than n w.stack = sym (seen_at (open_node node) (elements_of c.args.state.now) c.args.place newer (older_than n w.stack) cut k.here).1 in
    let same : world g.S.TreeSink.sees node c.args.sink.now c.truncate.new.state ≡ with_stack (older_than n w.stack) w = c.truncate.ensures.world ∙ ap (λ s. with_stack s w) left in
    record {
      world = same;
      quiet = refl;
      sound = record {
        sound = subst Sound (sym same) (all_older w.forest newer (older_than n w.stack) (subst (λ s. AllStand w.forest s w.formatting w.head w.form w.context) cut c.requires.sound));
        kept = c.truncate.ensures.kept;
        stamped = c.truncate.ensures.stamped;
      };
    }
