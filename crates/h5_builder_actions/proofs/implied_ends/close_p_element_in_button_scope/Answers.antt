use Rattle.std.proofs.Common.{◌≡◌, cond, codes, ap, subst, sym, ◌∙◌}
use Rattle.h5_tables.specs.TagSets.{is_html_named}
use Rattle.h5_builder_spec.specs.stack.Expected.{names_behind, names_behind_p}
use Rattle.h5_builder_spec.specs.stack.Scope.{is_implied_but}
use Rattle.h5_builder_spec.specs.World.{names_of}
use Rattle.h5_builder_spec.proofs.changes.ClosingLaws.{names-close_p}
use Rattle.h5_builder_spec.proofs.changes.ExpectedLaws.{no_p_behind}
use Rattle.h5_builder_state.specs.Steps.{world_of}
use Rattle.h5_builder_actions.proofs.implied_ends.close_p_element_in_button_scope.Goals as goal

pub returns-then-has_p_in_button_scope-clause-names : goal.returns-then-has_p_in_button_scope-clause-names
unfolding names_behind_p
returns-then-has_p_in_button_scope-clause-names g c =
    let law = g.S.TreeSink in
    let w = world_of law c.args.sink.now c.args.state.now in
    subst (λ b. names_of (world_of law c.close_p_element.new.sink c.close_p_element.new.state) ≡ cond b (names_behind (is_implied_but (codes "p")) (is_html_named (codes "p")) (names_of w)) (names_of w))
    (sym c.if-has_p_in_button_scope.true ∙ c.has_p_in_button_scope.ensures)
    (ap names_of c.close_p_element.ensures.made.world ∙ names-close_p law.choices w)

pub returns-else-has_p_in_button_scope-clause-names : goal.returns-else-has_p_in_button_scope-clause-names
returns-else-has_p_in_button_scope-clause-names g c =
    sym (no_p_behind (names_of (world_of g.S.TreeSink c.args.sink.now c.args.state.now)) (sym c.has_p_in_button_scope.ensures ∙ c.if-has_p_in_button_scope.false))
