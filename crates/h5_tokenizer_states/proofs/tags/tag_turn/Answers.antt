use Rattle.std.proofs.lemmas.Result.{IfOk-weaker}
use Rattle.std.specs.Prelude.{string_bytes}
use Rattle.h5_tokenizer_states.proofs.OutcomeLaws.{does_silently}
use Rattle.h5_tokenizer_states.proofs.tags.tag_turn.Goals as goal

pub returns-in-TagOpen : goal.returns-in-TagOpen
returns-in-TagOpen c = λ table last. rw c.in-TagOpen.is c.tag_open.ensures

pub returns-in-TagName : goal.returns-in-TagName
returns-in-TagName c =
    λ table last. rw c.in-TagName.is
    (IfOk-weaker c.tag_name.result _ _ (λ transition h parts. does_silently transition (string_bytes c.args.out.now) _ _ (h (record parts { comment = string_bytes c.args.comment.now }))) c.tag_name.ensures)

pub returns-in-BeforeAttributeName : goal.returns-in-BeforeAttributeName
returns-in-BeforeAttributeName c =
    λ table last. rw c.in-BeforeAttributeName.is
    (IfOk-weaker c.before_attribute_name.result _ _ (λ transition h parts. does_silently transition (string_bytes c.args.out.now) _ _ (h (record parts { comment = string_bytes c.args.comment.now }))) c.before_attribute_name.ensures)

pub returns-in-AttributeName : goal.returns-in-AttributeName
returns-in-AttributeName c =
    λ table last. rw c.in-AttributeName.is
    (IfOk-weaker c.attribute_name.result _ _ (λ transition h parts. does_silently transition (string_bytes c.args.out.now) _ _ (h (record parts { comment = string_bytes c.args.comment.now }))) c.attribute_name.ensures)

pub returns-in-AfterAttributeName : goal.returns-in-AfterAttributeName
returns-in-AfterAttributeName c =
    λ table last. rw c.in-AfterAttributeName.is
    (IfOk-weaker c.after_attribute_name.result _ _ (λ transition h parts. does_silently transition (string_bytes c.args.out.now) _ _ (h (record parts { comment = string_bytes c.args.comment.now }))) c.after_attribute_name.ensures)

pub returns-in-BeforeAttributeValue : goal.returns-in-BeforeAttributeValue
returns-in-BeforeAttributeValue c =
    λ table last. rw c.in-BeforeAttributeValue.is
    (IfOk-weaker c.before_attribute_value.result _ _ (λ transition h parts. does_silently transition (string_bytes c.args.out.now) _ _ (h (record parts { comment = string_bytes c.args.comment.now }))) c.before_attribute_value.ensures)

pub returns-in-AttributeValue : goal.returns-in-AttributeValue
returns-in-AttributeValue c =
    λ table last. rw c.in-AttributeValue.is
    (IfOk-weaker c.attribute_value.result _ _ (λ transition h parts. does_silently transition (string_bytes c.args.out.now) _ _ (h (record parts { comment = string_bytes c.args.comment.now }))) c.attribute_value.ensures)

pub returns-in-AfterAttributeValueQuoted : goal.returns-in-AfterAttributeValueQuoted
returns-in-AfterAttributeValueQuoted c =
    λ table last. rw c.in-AfterAttributeValueQuoted.is
    (IfOk-weaker c.after_attribute_value_quoted.result _ _ (λ transition h parts. does_silently transition (string_bytes c.args.out.now) _ _ (h (record parts { comment = string_bytes c.args.comment.now }))) c.after_attribute_value_quoted.ensures)

pub returns-in-SelfClosingStartTag : goal.returns-in-SelfClosingStartTag
returns-in-SelfClosingStartTag c =
    λ table last. rw c.in-SelfClosingStartTag.is
    (IfOk-weaker c.self_closing_start_tag.result _ _ (λ transition h parts. does_silently transition (string_bytes c.args.out.now) _ _ (h (record parts { comment = string_bytes c.args.comment.now }))) c.self_closing_start_tag.ensures)
