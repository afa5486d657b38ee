use Rattle.std.proofs.Common.{◌∙◌, [], ◌∷◌, ap, sym}
use Rattle.h5_serialize.specs.Call.{EndOf}
use Rattle.h5_tree_block.specs.Html.{end_calls}
use Rattle.h5_tree_block.specs.Read as r
use Rattle.h5_tree_block.proofs.HtmlLaws.{element_ends, none_told, nothing_ends, one_told}
use Rattle.h5_tree_block.proofs.view.View.close.Goals as goal

pub returns-then-kind-eq-ELEMENT : goal.returns-then-kind-eq-ELEMENT
returns-then-kind-eq-ELEMENT c =
    let block = c.args.self.now.block.now in
    let named = c.in_ok-qual_name.ensures ∙ ap (r.name_of block) c.name.ensures in
    one_told (end_calls block c.args.node) (EndOf c.in_ok-qual_name.field-0) c.end_elem.result c.args.html.now c.end_elem.new.self
    (element_ends block c.args.node (sym c.kind.ensures ∙ c.if-kind-eq-ELEMENT.true) ∙ ap (λ name. EndOf name ∷ []) (sym named)) c.end_elem.ensures

pub returns : goal.returns
returns c =
    let block = c.args.self.now.block.now in
    none_told (end_calls block c.args.node) c.args.html.now (nothing_ends block c.args.node (λ is. c.if-kind-eq-ELEMENT.false (c.kind.ensures ∙ is)))
