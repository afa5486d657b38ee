use Rattle.std.proofs.Common.{ap, arith, inl, length, length-append, refl, subst, sym, true, ◌++◌, ◌∙◌, ◌∷◌, ◌≡◌}
use Rattle.std.proofs.lemmas.Bool.{false≢true}
use Rattle.h5_builder_state.specs.Steps.{world_of}
use Rattle.h5_builder_spec.specs.formatting.FormattingList.{ElementEntry, nodes_of}
use Rattle.h5_builder_spec.specs.stack.Order.{IsIn, is_in}
use Rattle.h5_builder_spec.proofs.entries.EntryLaws.{nodes_of-append}
use Rattle.h5_builder_spec.proofs.entries.PairLaws.{in_right, is_in_telling}
use Rattle.h5_builder_actions.proofs.RelistLaws.{same_first}
use Rattle.h5_builder_actions.proofs.relisting.move_above.Goals as goal

pub returns-then-from-to-clause-done : goal.returns-then-from-to-clause-done
returns-then-from-to-clause-done g c = λ newer middle older tag e cut out from.
    let n = g.S.TreeSink.node c.args.handle.now in
    let k = c.in-Some.ensures.place in
    c.move_entry.ensures.done newer middle older e (ElementEntry n tag) cut from (k.here ∙ same_first n k.tag tag k.newer k.older newer (middle ++ e ∷ older) k.first out (sym k.cut ∙ cut))

-- it is higher
pub returns-else-from-to-clause-done : goal.returns-else-from-to-clause-done
returns-else-from-to-clause-done g c = λ newer middle older tag e cut out from.
    let n = g.S.TreeSink.node c.args.handle.now in
    let k = c.in-Some.ensures.place in
    let to : c.in-Some.to ≡ length (middle ++ e ∷ older) = k.here ∙ same_first n k.tag tag k.newer k.older newer (middle ++ e ∷ older) k.first out (sym k.cut ∙ cut) in
    absurd (omega (arith, to, from, length-append middle (e ∷ older), c.if-from-to.false))

pub returns-in_default-clause-done : goal.returns-in_default-clause-done
returns-in_default-clause-done g c = λ newer middle older tag e cut out from.
    let n = g.S.TreeSink.node c.args.handle.now in
    let here : IsIn n (nodes_of (newer ++ ElementEntry n tag ∷ (middle ++ e ∷ older))) = subst (IsIn n) (sym (nodes_of-append newer (ElementEntry n tag ∷ (middle ++ e ∷ older)))) (in_right n (nodes_of newer) _ (inl refl)) in
    let w = world_of g.S.TreeSink c.args.sink.now c.args.state.now in
    let listed : is_in n (nodes_of w.formatting) ≡ true = ap (λ l. is_in n (nodes_of l)) cut ∙ is_in_telling n _ here in
    absurd (false≢true (c.in_default.ensures.found ∙ listed))
