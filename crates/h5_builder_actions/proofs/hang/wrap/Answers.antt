use Rattle.std.proofs.Common.{[], Some, ap, sym, subst, ◌∙◌, ◌≡◌}
use Rattle.h5_token.specs.TokenText.{tag_text}
use Rattle.h5_interface.specs.Changes.{detach}
use Rattle.h5_interface.specs.Forest.{ChildNode, ElementNode, IsNode}
use Rattle.h5_interface.specs.Seen.{CanAppend, CanDetach, Seen, changed, with_last_child}
use Rattle.h5_interface.specs.SinkChoices.{Rearranges}
use Rattle.h5_interface.proofs.ForestLaws.{node_of_kind}
use Rattle.h5_builder_spec.specs.formatting.AdoptionAgency.{make_for, wrapped}
use Rattle.h5_builder_spec.specs.formatting.FormattingNames.{html_name}
use Rattle.h5_builder_spec.proofs.adoption.AdoptionForest.{can_wrap, loosened_rearranges, make_for_rearranges, made_can_detach, wrapped_of_tag}
use Rattle.h5_builder_actions.proofs.HangLaws.{loose_alone, on_err, seen_after}
use Rattle.h5_builder_actions.proofs.hang.wrap.Goals as goal

pub remove_from_parent-requires : goal.remove_from_parent-requires
remove_from_parent-requires g c =
    let seen = g.S.TreeSink.sees c.args.sink.now in
    let choices = g.S.TreeSink.choices in
    let tag = tag_text c.args.tag.now in
    let n = g.S.TreeSink.node c.args.last.now in
    seen_after seen _ (make_for choices tag) (λ f. CanDetach f n) c.in_ok-element.ensures.ok
    (made_can_detach choices tag seen.forest [] n n c.requires.is_forest (loose_alone seen.forest n c.requires.last))

pub returns-in_err-remove_from_parent-clause-err : goal.returns-in_err-remove_from_parent-clause-err
returns-in_err-remove_from_parent-clause-err g c =
    let seen = g.S.TreeSink.sees c.args.sink.now in
    let choices = g.S.TreeSink.choices in
    let tag = tag_text c.args.tag.now in
    on_err _ _
    (subst (λ (s : Seen). Rearranges seen.forest s.forest) (sym (c.in_err-remove_from_parent.ensures.err ∙ c.in_ok-element.ensures.ok)) (make_for_rearranges choices tag seen.forest c.requires.is_forest))

pub clone_handle-requires : goal.clone_handle-requires
clone_handle-requires g c =
    let seen = g.S.TreeSink.sees c.args.sink.now in
    let choices = g.S.TreeSink.choices in
    let tag = tag_text c.args.tag.now in
    let n = g.S.TreeSink.node c.args.last.now in
    subst (λ (s : Seen). IsNode s.forest n) (sym (c.in_ok-remove_from_parent.ensures.ok ∙ ap (changed (detach n)) c.in_ok-element.ensures.ok))
    (can_wrap choices tag seen.forest [] n n c.requires.is_forest (loose_alone seen.forest n c.requires.last)).child.is_node

pub append-requires : goal.append-requires
append-requires g c =
    let seen = g.S.TreeSink.sees c.args.sink.now in
    let choices = g.S.TreeSink.choices in
    let tag = tag_text c.args.tag.now in
    let n = g.S.TreeSink.node c.args.last.now in
    subst (λ (s : Seen). CanAppend s.forest (g.S.TreeSink.node c.in_ok-element.element) (ChildNode (g.S.TreeSink.node c.clone_handle.result)))
    (sym (c.in_ok-remove_from_parent.ensures.ok ∙ ap (changed (detach n)) c.in_ok-element.ensures.ok))
    (subst (λ e. CanAppend (detach n (make_for choices tag seen.forest)) e (ChildNode (g.S.TreeSink.node c.clone_handle.result))) (sym c.in_ok-element.ensures.handle)
    (subst (λ e. CanAppend (detach n (make_for choices tag seen.forest)) (choices.fresh seen.forest) (ChildNode e)) (sym c.clone_handle.ensures)
    (can_wrap choices tag seen.forest [] n n c.requires.is_forest (loose_alone seen.forest n c.requires.last))))

pub returns-in_err-append-clause-err : goal.returns-in_err-append-clause-err
returns-in_err-append-clause-err g c =
    let seen = g.S.TreeSink.sees c.args.sink.now in
    let choices = g.S.TreeSink.choices in
    let tag = tag_text c.args.tag.now in
    let n = g.S.TreeSink.node c.args.last.now in
    on_err _ _
    (subst (λ (s : Seen). Rearranges seen.forest s.forest)
    (sym (c.in_err-append.ensures.err ∙ c.in_ok-remove_from_parent.ensures.ok ∙ ap (changed (detach n)) c.in_ok-element.ensures.ok))
    (loosened_rearranges choices tag seen.forest [] n n c.requires.is_forest (loose_alone seen.forest n c.requires.last)))

pub returns-clause-node : goal.returns-clause-node
returns-clause-node g c =
    let seen = g.S.TreeSink.sees c.args.sink.now in
    let choices = g.S.TreeSink.choices in
    let tag = tag_text c.args.tag.now in
    let node = g.S.TreeSink.node in
    let n = node c.args.last.now in
    let e = choices.fresh seen.forest in
    let done : g.S.TreeSink.sees c.append.new.self ≡ changed (wrapped choices (Some tag) n) seen =
    c.in_ok-append.ensures.ok ∙ ap (changed (with_last_child (node c.in_ok-element.element) (ChildNode (node c.clone_handle.result)))) (c.in_ok-remove_from_parent.ensures.ok ∙ ap (changed (detach n)) c.in_ok-element.ensures.ok)
    ∙ ap (λ m. changed (with_last_child m (ChildNode (node c.clone_handle.result))) (changed (detach n) (changed (make_for choices tag) seen))) c.in_ok-element.ensures.handle
    ∙ ap (λ m. changed (with_last_child e (ChildNode m)) (changed (detach n) (changed (make_for choices tag) seen))) c.clone_handle.ensures in
    subst (λ m. IsNode (g.S.TreeSink.sees c.append.new.self).forest m) (sym c.in_ok-element.ensures.handle)
    (seen_after seen _ (wrapped choices (Some tag) n) (λ f. IsNode f e) done
    (node_of_kind (wrapped choices (Some tag) n seen.forest) e (ElementNode (html_name tag.name)) (wrapped_of_tag choices tag seen.forest [] n n c.requires.is_forest (loose_alone seen.forest n c.requires.last))))
