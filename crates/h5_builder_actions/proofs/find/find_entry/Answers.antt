use Rattle.std.proofs.Common.{inl, inr, ap, arith, sym, ◌+◌, ◌-◌, ◌∙◌, ◌≡◌, ◌∷◌}
use Rattle.std.proofs.lemmas.Bool.{eqb-false}
use Rattle.h5_token.specs.TokenText.{tag_text}
use Rattle.h5_builder_spec.specs.formatting.FormattingList.{ElementEntry, MarkerEntry, nodes_of}
use Rattle.h5_builder_spec.specs.stack.Order.{is_in}
use Rattle.h5_builder_state.specs.Listed.{entry_of}
use Rattle.h5_builder_state.specs.View.{listed_node}
use Rattle.h5_builder_actions.specs.View.{list_under}
use Rattle.h5_builder_actions.proofs.EntryLaws.{other_entry, passed_more}
use Rattle.h5_builder_actions.proofs.find.find_entry.Goals as goal

pub same_node-requires-clause-x : goal.same_node-requires-clause-x
same_node-requires-clause-x g c =
    let node = g.S.TreeSink.node in
    let m = node c.in-Element.listed.handle in
    c.requires.listed m (c.entry_at.ensures.listed m (tag_text c.in-Element.field-1) (ap (entry_of (listed_node node)) c.in-Element.is))

pub down-preserved-else-same_node : goal.down-preserved-else-same_node
down-preserved-else-same_node g c =
    let node = g.S.TreeSink.node in
    let state = c.args.state.now in
    let n = node c.args.handle.now in
    let m = node c.in-Element.listed.handle in
    let tag = tag_text c.in-Element.field-1 in
    let rest = list_under node state (c.down.place - 1) in
    let here : c.down.place ≡ c.down.place - 1 + 1 = omega (arith, c.down-test.true) in
    let left : list_under node state c.down.place ≡ ElementEntry m tag ∷ rest =
    ap (list_under node state) here ∙ c.entry_at.ensures.list ∙ ap (λ e. entry_of (listed_node node) e ∷ rest) c.in-Element.is in
    let other = eqb-false m n (sym c.same_node.ensures ∙ c.if-same_node.false) in
    record {
      place = omega (arith, c.down.invariant.place);
      left = sym (other_entry n m tag rest other) ∙ ap (λ l. is_in n (nodes_of l)) (sym left) ∙ c.down.invariant.left;
      passed = passed_more n _ _ rest (ElementEntry m tag) left (λ i. elim i [ inl e ↦ other (sym e) | inr v ↦ absurd v ]) c.down.invariant.passed;
    }

pub down-preserved : goal.down-preserved
down-preserved g c =
    let node = g.S.TreeSink.node in
    let state = c.args.state.now in
    let n = node c.args.handle.now in
    let rest = list_under node state (c.down.place - 1) in
    let here : c.down.place ≡ c.down.place - 1 + 1 = omega (arith, c.down-test.true) in
    let left : list_under node state c.down.place ≡ MarkerEntry ∷ rest =
    ap (list_under node state) here ∙ c.entry_at.ensures.list ∙ ap (λ e. entry_of (listed_node node) e ∷ rest) c.in_default.is in
    record {
      place = omega (arith, c.down.invariant.place);
      left = ap (λ l. is_in n (nodes_of l)) (sym left) ∙ c.down.invariant.left;
      passed = passed_more n _ _ rest MarkerEntry left (λ i. i) c.down.invariant.passed;
    }
