use Rattle.std.proofs.Common.{ap, arith, length, take, ◌≤◌, ◌≡◌}
use Rattle.std.proofs.lemmas.List.{length-take}
use Rattle.h5_builder_state.specs.Summaries.{all_open}
use Rattle.h5_builder_state.specs.View.{elements_of, kept_under, names_under, open_node, world}
use Rattle.h5_builder_state.specs.declared.open_element.AllOpen.{AllOpen}
use Rattle.h5_builder_state.proofs.AttributeLaws.{open_length}
use Rattle.h5_builder_state.proofs.RenewLaws.{all_of_place}
use Rattle.h5_builder_state.proofs.SummaryLaws.{few_templates, names}
use Rattle.h5_builder_state.proofs.renew.all_under.Goals as goal

pub returns-else-count-eq0-clause-known : goal.returns-else-count-eq0-clause-known
unfolding world names_under kept_under
returns-else-count-eq0-clause-known g c =
    let items = (elements_of c.args.state.now) in
    let inside : c.args.count ≤ length items = omega (arith, c.requires.count, open_length (open_node g.S.TreeSink.node) items) in
    all_of_place g.S.TreeSink.node (g.S.TreeSink.sees c.args.sink.now).forest items c.args.count c.get.result.now c.if-count-eq0.false inside c.get.ensures c.requires.kept

pub returns-else-count-eq0-clause-few : goal.returns-else-count-eq0-clause-few
unfolding world names_under kept_under
returns-else-count-eq0-clause-few g c =
    let node = g.S.TreeSink.node in
    let f = (g.S.TreeSink.sees c.args.sink.now).forest in
    let items = elements_of c.args.state.now in
    let inside : c.args.count ≤ length items = omega (arith, c.requires.count, open_length (open_node node) items) in
    let known : c.get.result.now.summary.all ≡ all_open (names node f (take c.args.count items)) = all_of_place node f items c.args.count c.get.result.now c.if-count-eq0.false inside c.get.ensures c.requires.kept in
    omega (arith, ap (λ (a : AllOpen). a.templates) known, few_templates node f (take c.args.count items), length-take c.args.count items)
