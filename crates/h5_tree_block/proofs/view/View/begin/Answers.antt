use Rattle.std.proofs.Common.{◌∙◌, [], ◌∷◌, ap, rules, subst, sym}
use Rattle.std.specs.Prelude.{OnOk}
use Rattle.h5_serialize.specs.Call.{CommentOf, DoctypeOf, InstructionOf, TextOf}
use Rattle.h5_tree_block.specs.Html.{AreTold, begin_calls}
use Rattle.h5_tree_block.specs.Read.{value_of}
use Rattle.h5_tree_block.proofs.HtmlLaws.{comment_begins, doctype_begins, element_begins, instruction_begins, none_told, nothing_begins, one_told, text_begins}
use Rattle.h5_tree_block.proofs.view.View.begin.Goals as goal

pub returns-in-1 : goal.returns-in-1
returns-in-1 c =
    let block = c.args.self.now.block.now in
    subst (λ calls. OnOk c.start.result (AreTold calls c.args.html.now c.start.new.html)) (sym (element_begins block c.args.node (sym c.kind.ensures ∙ c.in-1.is))) c.start.ensures

pub returns-in-3 : goal.returns-in-3
returns-in-3 c =
    let block = c.args.self.now.block.now in
    one_told (begin_calls block c.args.node) (TextOf c.text_of.result.now) c.write_text.result c.args.html.now c.write_text.new.self
    (text_begins block c.args.node (sym c.kind.ensures ∙ c.in-3.is) ∙ ap (λ t. TextOf t ∷ []) (sym c.text_of.ensures)) c.write_text.ensures

pub returns-in-8 : goal.returns-in-8
returns-in-8 c =
    let block = c.args.self.now.block.now in
    one_told (begin_calls block c.args.node) (CommentOf c.value_of.result.now) c.write_comment.result c.args.html.now c.write_comment.new.self
    (comment_begins block c.args.node (sym c.kind.ensures ∙ c.in-8.is) ∙ ap (λ t. CommentOf t ∷ []) (sym c.value_of.ensures)) c.write_comment.ensures

pub returns-in-10 : goal.returns-in-10
returns-in-10 c =
    let block = c.args.self.now.block.now in
    one_told (begin_calls block c.args.node) (DoctypeOf c.value_of-in-10.result.now) c.write_doctype.result c.args.html.now c.write_doctype.new.self
    (doctype_begins block c.args.node (sym c.kind.ensures ∙ c.in-10.is) ∙ ap (λ t. DoctypeOf t ∷ []) (sym c.value_of-in-10.ensures)) c.write_doctype.ensures

pub returns-in-7 : goal.returns-in-7
returns-in-7 c =
    let block = c.args.self.now.block.now in
    let target = c.value_of-in-7.result.now in
    let content = c.value_of-in-7-2.result.now in
    one_told (begin_calls block c.args.node) (InstructionOf target content) c.write_processing_instruction.result c.args.html.now c.write_processing_instruction.new.self
    (instruction_begins block c.args.node (sym c.kind.ensures ∙ c.in-7.is)
    ∙ ap (λ t. InstructionOf t (value_of block c.args.node 1) ∷ []) (sym c.value_of-in-7.ensures)
    ∙ ap (λ t. InstructionOf target t ∷ []) (sym c.value_of-in-7-2.ensures)
    ) c.write_processing_instruction.ensures

pub returns-in_default : goal.returns-in_default
returns-in_default c =
    let block = c.args.self.now.block.now in
    none_told (begin_calls block c.args.node) c.args.html.now (nothing_begins block c.args.node (search rules) (search rules) (search rules) (search rules) (search rules))
