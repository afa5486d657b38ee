use Rattle.std.proofs.Common.{is_some, option_map, ap, refl, ◌∙◌}
use Rattle.h5_interface.specs.Forest.{children_of}
use Rattle.h5_builder_spec.specs.Changes.{create_root}
use Rattle.h5_builder_spec.specs.World.{World}
use Rattle.h5_tree_builder.specs.Fragment.{context_world}
use Rattle.h5_tree_builder.proofs.FragmentLaws.{form_is_there, fragment_kept}
use Rattle.h5_tree_builder.proofs.RootLaws.{root_is_last}
use Rattle.h5_tree_builder.proofs.builder.TreeBuilder.new_for_fragment.Goals as goal

pub invariant_of-result : goal.invariant_of-result
invariant_of-result g c =
    let law = g.Sink.TreeSink in
    let seen = law.sees c.args.sink in
    fragment_kept law c.fragment_state.new.sink c.in_ok-state.state law.choices seen (law.node c.args.context_elem) (option_map law.node c.args.form_elem) c.args.opts c.get_document-document.ensures.is_forest c.requires.context
    (form_is_there law.node seen.forest c.args.form_elem c.requires.form) c.in_ok-state.ensures.sound c.in_ok-state.ensures.world

pub returns-clause-fitting : goal.returns-clause-fitting
returns-clause-fitting g c =
    let law = g.Sink.TreeSink in
    let seen = law.sees c.args.sink in
    let k = fragment_kept law c.fragment_state.new.sink c.in_ok-state.state law.choices seen (law.node c.args.context_elem) (option_map law.node c.args.form_elem) c.args.opts c.get_document-document.ensures.is_forest c.requires.context
    (form_is_there law.node seen.forest c.args.form_elem c.requires.form) c.in_ok-state.ensures.sound c.in_ok-state.ensures.world in
    record { sound = k.sound.sound; fits = k.fits refl refl }

pub returns-clause-fragment : goal.returns-clause-fragment
unfolding create_root
returns-clause-fragment g c = ap (λ (w : World). is_some w.context) c.in_ok-state.ensures.world

pub returns-clause-last : goal.returns-clause-last
returns-clause-last g c =
    let law = g.Sink.TreeSink in
    let seen = law.sees c.args.sink in
    let start = context_world seen (law.node c.args.context_elem) (option_map law.node c.args.form_elem) c.args.opts in
    ap (λ (w : World). children_of w.forest seen.forest.document) c.in_ok-state.ensures.world ∙ root_is_last law.choices start c.get_document-document.ensures.is_forest
