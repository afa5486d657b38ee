use Rattle.std.proofs.Common.{◌∙◌, ap, sym}
use Rattle.std.specs.Prelude.{string_bytes}
use Rattle.h5_names.specs.AttributeText.{attribute_texts}
use Rattle.h5_tokenizer_spec.specs.Construction.{Tag}
use Rattle.h5_tokenizer_states.specs.Parts.{current_of}
use Rattle.h5_tokenizer_states.proofs.TagErrorLaws.{no_current, some_current}
use Rattle.h5_tokenizer_states.proofs.tag.OpenTag.has_attributes.Goals as goal

pub returns-then-self : goal.returns-then-self
returns-then-self c =
    some_current c.args.self.now _
    (ap (λ (t : Tag). t.current) (sym c.self.view_is) ∙ ap (λ b. current_of b c.self.inside.attribute (string_bytes c.self.inside.value)) c.if-self.true)

pub returns : goal.returns
returns c =
    no_current c.args.self.now c.as_slice.result.now c.is_empty.result
    (ap (λ (t : Tag). t.current) (sym c.self.view_is) ∙ ap (λ b. current_of b c.self.inside.attribute (string_bytes c.self.inside.value)) c.if-self.false)
    (ap (λ (t : Tag). t.attrs) (sym c.self.view_is) ∙ ap attribute_texts (sym c.as_slice.ensures.value)) c.is_empty.ensures
