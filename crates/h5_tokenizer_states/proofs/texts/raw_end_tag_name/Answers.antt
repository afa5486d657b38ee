use Rattle.std.proofs.Common.{sym, ◌∙◌}
use Rattle.h5_tokenizer_states.proofs.TextLaws.{does_end_tag, does_no_end_tag}
use Rattle.h5_tokenizer_states.proofs.texts.raw_end_tag_name.Goals as goal

pub returns-then-ends_end_tag : goal.returns-then-ends_end_tag
returns-then-ends_end_tag c =
    does_end_tag _ _ _ _ c.args.last.now c.args.kind _ c.args.b c.as_str.ensures.value (sym c.ends_end_tag.ensures ∙ c.if-ends_end_tag.true) c.appropriate_end_tag.ensures

pub returns : goal.returns
returns c =
    does_no_end_tag c.text_of.result _ _ _ _ _ c.args.last.now c.args.kind c.args.tag.now c.args.b (sym c.ends_end_tag.ensures ∙ c.if-ends_end_tag.false)
    (sym c.is_ascii_alphabetic.ensures.value ∙ c.if-is_ascii_alphabetic.false) c.in_ok-push_str.ensures.bytes c.in_ok-push_str-2.ensures.bytes c.as_str-2.ensures.value c.text_of.ensures
