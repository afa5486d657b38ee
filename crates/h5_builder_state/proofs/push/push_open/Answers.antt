use Rattle.std.proofs.Common.{◌≡◌, ap, arith, length, map, refl, reverse, subst, sym, ◌∙◌}
use Rattle.std.proofs.lemmas.Result.{err_from_is_err_and}
use Rattle.h5_builder_spec.specs.Sound.{AllStand}
use Rattle.h5_builder_spec.specs.World.{name_in, names_of}
use Rattle.h5_builder_spec.proofs.changes.PopLaws.{names_length}
use Rattle.h5_builder_state.specs.Numbered.{values}
use Rattle.h5_builder_state.proofs.ItemLaws.{length-values}
use Rattle.h5_builder_state.specs.Numbers.{name_number}
use Rattle.h5_builder_state.specs.Stamps.{stamp_of}
use Rattle.h5_builder_state.specs.Summaries.{IsKept, summary_of}
use Rattle.h5_builder_state.specs.View.{open_node, world}
use Rattle.h5_builder_state.specs.declared.open_element.OpenElement.{OpenElement}
use Rattle.h5_builder_state.specs.declared.open_element.OpenElements.{OpenElements}
use Rattle.h5_builder_state.proofs.AttributeLaws.{open_length}
use Rattle.h5_builder_state.proofs.StackLaws.{named, seen_pushed}
use Rattle.h5_builder_state.proofs.StampLaws.{stamped_pushed, stamped_same}
use Rattle.h5_builder_state.proofs.SummaryLaws.{kept_grown, kept_pushed, pushed_values}
use Rattle.h5_builder_state.proofs.push.push_open.Goals as goal

pub returns-in_err-number : goal.returns-in_err-number
unfolding world
returns-in_err-number g c =
    let refused = err_from_is_err_and c.from_residual-in_err-number.result c.from_residual-in_err-number.ensures.1 in
    record {
      world = rw (refused.1) tt;
      quiet = refl;
      sound = record {
        sound = c.requires.sound.sound;
        kept = kept_grown c.args.state.now.open_elems _ _ refl c.in_err-number.ensures.stay c.requires.sound.kept;
        stamped = stamped_same g.S.TreeSink.node c.args.state.now.open_elems _ c.args.state.now.active_formatting refl refl c.requires.sound.stamped;
      };
    }

pub returns-in_err-push : goal.returns-in_err-push
unfolding world names_of
returns-in_err-push g c =
    let node = open_node g.S.TreeSink.node in
    let w = world g.S.TreeSink.sees g.S.TreeSink.node c.args.sink.now c.args.state.now in
    let refused = err_from_is_err_and c.from_residual-in_err-push.result c.from_residual-in_err-push.ensures.1 in
    let old = c.args.state.now.open_elems in
    let same = c.in_err-push.ensures.err in
    let new : OpenElements _ = record { elements = c.push.new.self; numbers = c.number.new.self; last = old.last } in
    record {
      world = rw (refused.1) tt;
      quiet = refl;
      sound = record {
        sound = subst (λ es. AllStand w.forest (reverse (map node (values es))) w.formatting w.head w.form w.context) (sym same) c.requires.sound.sound;
        kept = subst (λ es. IsKept new (map (name_in w.forest) (reverse (map node (values es))))) (sym same) (kept_grown old new (names_of w) same c.in_ok-number.ensures.stay c.requires.sound.kept);
        stamped = stamped_same g.S.TreeSink.node old new c.args.state.now.active_formatting (ap (λ es. map (λ (o : OpenElement _). stamp_of g.S.TreeSink.node o) (values es)) same) refl c.requires.sound.stamped;
      };
    }

pub returns : goal.returns
unfolding world names_of
returns g c =
    let node = open_node g.S.TreeSink.node in
    let n = g.S.TreeSink.node c.args.handle in
    let w = world g.S.TreeSink.sees g.S.TreeSink.node c.args.sink.now c.args.state.now in
    let old = c.args.state.now.open_elems in
    let number = c.in_ok-number.number in
    let stack = seen_pushed node (values old.elements) (values c.push.new.self) _ (pushed_values old.elements c.push.new.self number _ c.in_ok-push.ensures.ok) in
    let name : c.elem_name-name.result.now ≡ name_in w.forest n = sym (named w.forest n c.elem_name-name.result.now c.elem_name-name.ensures) in
    let place : c.in_ok-place.place ≡ length (names_of w) =
    omega (arith, c.in_ok-place.ensures.place, names_length w, open_length node (values old.elements), length-values old.elements) in
    let summary = c.new-summary.ensures (names_of w) c.all_open-all.ensures.known place ∙ ap (λ m. summary_of m (names_of w)) name in
    let numbered = ap (name_number c.number.new.self) (sym name) ∙ c.in_ok-number.ensures.ok in
    record {
      world = ap (λ s. record w { stack = s }) stack;
      quiet = refl;
      sound = record {
        sound = subst (λ s. AllStand w.forest s w.formatting w.head w.form w.context) (sym stack) c.requires.stands;
        kept = subst (IsKept _) (sym (ap (map (name_in w.forest)) stack))
            (kept_pushed old _ _ number (name_in w.forest n) (names_of w) c.in_ok-push.ensures.ok summary numbered c.in_ok-number.ensures.stay (omega (arith, c.in_ok-place.ensures.place, c.in_ok-place.ensures.few)) c.requires.sound.kept);
        stamped = stamped_pushed g.S.TreeSink.node old _ c.args.state.now.active_formatting _ (pushed_values old.elements c.push.new.self number _ c.in_ok-push.ensures.ok) c.next_stamp-stamp.ensures refl c.requires.sound.stamped;
      };
    }
