use Rattle.std.proofs.Common.{ap, arith, refl, sym, ◌∙◌, ◌≡◌}
use Rattle.h5_builder_spec.specs.World.{name_in}
use Rattle.h5_builder_state.specs.Numbers.{name_number}
use Rattle.h5_builder_state.specs.Summaries.{summary_of}
use Rattle.h5_builder_state.specs.View.{names_under, world}
use Rattle.h5_builder_state.proofs.StackLaws.{named}
use Rattle.h5_builder_state.proofs.WalkLaws.{names_count}
use Rattle.h5_builder_state.proofs.replace.put_at.Goals as goal

pub returns-clause-ok : goal.returns-clause-ok
unfolding world names_under
returns-clause-ok g c =
    let node = g.S.TreeSink.node in
    let f = (g.S.TreeSink.sees c.args.sink.now).forest in
    let below = names_under g.S.TreeSink.sees node c.args.sink.now c.args.state.now c.args.place in
    let name : c.elem_name-name.result.now ≡ name_in f (node c.args.handle) = sym (named f (node c.args.handle) c.elem_name-name.result.now c.elem_name-name.ensures) in
    let here = sym (names_count g.S.TreeSink.sees node c.args.sink.now c.args.state.now c.args.place (omega (arith, c.requires.place))) in
    record {
      element = _;
      number = c.in_ok-number.number;
      elements = c.in_ok-replace.ensures.ok;
      here = refl;
      stamped = refl;
      summary = c.new-summary.ensures below c.all_under-all.ensures.known here ∙ ap (λ n. summary_of n below) name;
      numbered = ap (name_number c.number.new.self) (sym name) ∙ c.in_ok-number.ensures.ok;
    }
