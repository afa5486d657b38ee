use Rattle.std.proofs.Common.{ap, arith, map, reverse, sym, ◌∙◌, ◌≡◌}
use Rattle.h5_builder_spec.specs.World.{name_in, names_of}
use Rattle.h5_builder_state.specs.Summaries.{all_open}
use Rattle.h5_builder_state.specs.View.{elements_of, open_node, world}
use Rattle.h5_builder_state.specs.declared.open_element.AllOpen.{AllOpen}
use Rattle.h5_builder_state.proofs.AttributeLaws.{open_length}
use Rattle.h5_builder_state.proofs.StackLaws.{last_none}
use Rattle.h5_builder_state.proofs.SummaryLaws.{all_of_newest, few_templates, names}
use Rattle.h5_builder_state.proofs.open_elems.all_open.Goals as goal

pub returns-in-Some-clause-known : goal.returns-in-Some-clause-known
unfolding world names_of
returns-in-Some-clause-known g c = all_of_newest g.S.TreeSink.node (g.S.TreeSink.sees c.args.sink.now).forest (elements_of c.args.state.now) c.in-Some.newest.now c.in-Some.ensures c.requires.kept.summarized

pub returns-in-Some-clause-few : goal.returns-in-Some-clause-few
unfolding world names_of
returns-in-Some-clause-few g c =
    let node = g.S.TreeSink.node in
    let f = (g.S.TreeSink.sees c.args.sink.now).forest in
    let v = elements_of c.args.state.now in
    let known : c.in-Some.newest.now.summary.all ≡ all_open (names node f v) = all_of_newest node f v c.in-Some.newest.now c.in-Some.ensures c.requires.kept.summarized in
    omega (arith, ap (λ (a : AllOpen). a.templates) known, few_templates node f v, open_length (open_node node) v)

pub returns-in-None-clause-known : goal.returns-in-None-clause-known
unfolding world names_of
returns-in-None-clause-known g c =
    c.none.ensures
    ∙ ap (λ xs. all_open (map (name_in (g.S.TreeSink.sees c.args.sink.now).forest) (reverse (map (open_node g.S.TreeSink.node) xs)))) (sym (last_none (elements_of c.args.state.now) c.in-None.ensures))
