use Rattle.std.proofs.Common.{ap, map, refl, reverse, subst, sym, ◌∙◌}
use Rattle.h5_interface.specs.Seen.{Seen}
use Rattle.h5_builder_spec.specs.Sound.{AllStand}
use Rattle.h5_builder_spec.specs.World.{names_of}
use Rattle.h5_builder_spec.proofs.changes.PopLaws.{names-pop}
use Rattle.h5_builder_state.specs.Numbered.{values}
use Rattle.h5_builder_state.specs.Summaries.{IsKept}
use Rattle.h5_builder_state.specs.View.{elements_of, open_node, world}
use Rattle.h5_builder_state.proofs.StackLaws.{all_popped, popped_world}
use Rattle.h5_builder_state.proofs.StampLaws.{stamped_popped}
use Rattle.h5_builder_state.proofs.SummaryLaws.{kept_popped}
use Rattle.h5_builder_state.proofs.steps.pop.Goals as goal

pub returns-in-Some : goal.returns-in-Some
unfolding world
returns-in-Some g c =
    let node = open_node g.S.TreeSink.node in
    let choices = g.S.TreeSink.choices in
    let seen = g.S.TreeSink.sees c.args.sink.now in
    let w = world g.S.TreeSink.sees g.S.TreeSink.node c.args.sink.now c.args.state.now in
    let items = elements_of c.args.state.now in
    let left = values c.pop.new.self in
    let more = c.in-Some.ensures.value in
    let made = popped_world node choices w seen _ items left c.in-Some.element more c.pop-in-Some.ensures in
    record {
      world = made;
      quiet = ap (λ (s : Seen). s.errors) c.pop-in-Some.ensures;
      sound = record {
        sound = subst (λ (s : Seen). AllStand s.forest (reverse (map node left)) w.formatting w.head w.form w.context) (sym c.pop-in-Some.ensures)
            (all_popped node left items c.in-Some.element _ _ more c.requires.sound.sound);
        kept = subst (IsKept _) (sym (ap names_of made ∙ names-pop choices w))
            (kept_popped c.args.state.now.open_elems _ c.in-Some.element _ (names_of w) more (c.in-Some.ensures.numbers refl) refl c.requires.sound.kept);
        stamped = stamped_popped g.S.TreeSink.node c.args.state.now.open_elems _ c.args.state.now.active_formatting c.in-Some.element more refl c.requires.sound.stamped;
      };
    }
