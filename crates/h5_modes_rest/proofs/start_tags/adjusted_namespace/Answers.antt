use Rattle.std.proofs.Common.{◌≡◌, IfOk, List, ℕ, ap, subst, sym, ◌∙◌}
use Rattle.h5_names.specs.declared.qualified.QualName.{QualName}
use Rattle.h5_builder_spec.specs.insertion.Foreign.{adjusted_namespace, namespace_at}
use Rattle.h5_builder_state.specs.View.{world}
use Rattle.h5_builder_state.proofs.StackLaws.{named}
use Rattle.h5_builder_actions.proofs.CurrentLaws.{adjusted_is_element}
use Rattle.h5_modes_rest.proofs.start_tags.adjusted_namespace.Goals as goal

pub elem_name-requires : goal.elem_name-requires
unfolding world
elem_name-requires g c =
    let w = world g.S.TreeSink.sees g.S.TreeSink.node c.args.sink.now c.args.state.now in
    adjusted_is_element w (g.S.TreeSink.node c.in-Some.node.now) c.requires.sound c.in-Some.ensures

pub returns-in-Some : goal.returns-in-Some
unfolding world
returns-in-Some g c =
    let w = world g.S.TreeSink.sees g.S.TreeSink.node c.args.sink.now c.args.state.now in
    let f = w.forest in
    let name = c.elem_name.result.now in
    let same : name.ns ≡ adjusted_namespace w = sym (ap (λ (x : QualName). x.ns) (named f (g.S.TreeSink.node c.in-Some.node.now) name c.elem_name.ensures)) ∙ ap (namespace_at f) c.in-Some.ensures in
    subst (λ (ns : List ℕ). IfOk c.clone.result (λ namespace. namespace ≡ ns)) same c.clone.ensures.value
