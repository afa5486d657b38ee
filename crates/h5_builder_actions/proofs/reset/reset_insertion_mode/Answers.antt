use Rattle.std.proofs.Common.{◌≡◌, ◌∷◌, ◌++◌, ◌+◌, [], ap, arith, Some, None, refl, sym, ◌∙◌}
use Rattle.std.specs.Prelude.{option_map}
use Rattle.h5_builder_spec.specs.reset.ResetByRoles.{decide_root}
use Rattle.h5_builder_spec.specs.reset.Roles.{role_of, roles}
use Rattle.h5_builder_spec.specs.reset.Reset.{reset_mode}
use Rattle.h5_builder_spec.specs.Sound.{role_at, situation_of}
use Rattle.h5_builder_state.specs.View.{world}
use Rattle.h5_builder_state.proofs.StackLaws.{named}
use Rattle.h5_builder_state.proofs.WalkLaws.{names_cut, names_more}
use Rattle.h5_builder_actions.proofs.ResetLaws.{reset_context, reset_root}
use Rattle.h5_builder_actions.proofs.reset.reset_insertion_mode.Goals as goal

pub returns-in-Some-context_elem : goal.returns-in-Some-context_elem
unfolding world reset_mode
returns-in-Some-context_elem g c =
    let law = g.S.TreeSink in
    let w = world law.sees law.node c.args.sink.now c.args.state.now in
    let s = situation_of w in
    let root = names_more law.sees law.node c.args.sink.now c.args.state.now 0 (omega (arith, c.if-open_count-eq0.false, c.open_count.ensures.count)) in
    let cut = names_cut law.sees law.node c.args.sink.now c.args.state.now (0 + 1) in
    let alone = cut.1 ∙ ap (λ z. cut.0 ++ z) (root.1 ∙ ap (λ z. root.0 ∷ z) c.open_count.ensures.none) in
    let name = c.elem_name.result.now in
    let context : s.context ≡ Some (role_of name) =
    ap (λ o. role_at w.forest (option_map law.node o)) c.in-Some-context_elem.is ∙ ap (λ n. Some (role_of n)) (named w.forest _ name c.elem_name.ensures) in
    c.decide_root.ensures ∙ ap (decide_root s) c.role_of.ensures ∙ sym (reset_context s (roles (root.0 ∷ [])) (role_of name) refl context) ∙ sym (c.in_default.ensures.none refl root.0 cut.0 alone)

pub returns-in-None : goal.returns-in-None
unfolding world reset_mode
returns-in-None g c =
    let law = g.S.TreeSink in
    let w = world law.sees law.node c.args.sink.now c.args.state.now in
    let s = situation_of w in
    let name = c.name_at.result.now in
    let cut = names_cut law.sees law.node c.args.sink.now c.args.state.now (0 + 1) in
    let alone = cut.1 ∙ ap (λ z. cut.0 ++ z) (c.name_at.ensures.names ∙ ap (λ z. name ∷ z) c.open_count.ensures.none) in
    let context : s.context ≡ None = ap (λ o. role_at w.forest (option_map law.node o)) c.in-None.is in
    c.decide_root-in-None.ensures ∙ ap (decide_root s) c.role_of-in-None.ensures ∙ sym (reset_root s (role_of name) context) ∙ sym (c.in_default.ensures.none refl name cut.0 alone)
