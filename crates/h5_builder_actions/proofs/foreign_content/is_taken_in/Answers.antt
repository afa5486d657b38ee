use Rattle.std.proofs.Common.{◌≡◌, ℕ, List, [], ap, inl, inr, refl, string_bytes, sym, ◌∙◌}
use Rattle.h5_token.specs.TokenText.{tag_text}
use Rattle.h5_tables.specs.TagSets.{html_namespace}
use Rattle.h5_tables.specs.TurnText.{turn_text}
use Rattle.h5_tables.specs.declared.turns.Token.{Token}
use Rattle.h5_builder_spec.specs.insertion.Foreign.{is_taken_in}
use Rattle.h5_builder_actions.proofs.CurrentLaws.{comment_taken, end_taken}
use Rattle.h5_builder_actions.proofs.foreign_content.is_taken_in.Goals as goal

pub returns-in-StartTag : goal.returns-in-StartTag
returns-in-StartTag g c =
    c.takes_start_tag.ensures (tag_text c.in-Tag.tag) c.in-StartTag.is refl
    ∙ ap (λ token. is_taken_in g.S.TreeSink.choices (turn_text token) (g.S.TreeSink.sees c.args.sink.now).forest (g.S.TreeSink.node c.args.node.now)) (sym c.in-Tag.is)

pub returns-in-EndTag : goal.returns-in-EndTag
unfolding html_namespace
returns-in-EndTag g c =
    let f = (g.S.TreeSink.sees c.args.sink.now).forest in
    let n = g.S.TreeSink.node c.args.node.now in
    c.is_html.ensures ∙ sym (end_taken g.S.TreeSink.choices f n c.elem_name.result.now (tag_text c.in-Tag.tag) c.elem_name.ensures c.in-EndTag.is)
    ∙ ap (λ token. is_taken_in g.S.TreeSink.choices (turn_text token) f n) (sym c.in-Tag.is)

pub returns-in-Comment : goal.returns-in-Comment
unfolding html_namespace
returns-in-Comment g c =
    let f = (g.S.TreeSink.sees c.args.sink.now).forest in
    let n = g.S.TreeSink.node c.args.node.now in
    let same = λ (text : List ℕ). c.is_html-in-Comment.ensures ∙ sym (comment_taken g.S.TreeSink.choices f n c.elem_name-in-Comment.result.now text c.elem_name-in-Comment.ensures) in
    let of = λ (token : Token). is_taken_in g.S.TreeSink.choices (turn_text token) f n in
    elim c.in-Comment.is as (λ _. c.is_html-in-Comment.result ≡ of c.args.token.now) [
      | inl comment ↦ same (string_bytes comment.0) ∙ ap of (sym comment.1)
      | inr eof ↦ same [] ∙ ap of (sym eof)
    ]
