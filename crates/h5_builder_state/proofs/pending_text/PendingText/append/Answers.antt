use Rattle.std.proofs.Common.{◌++◌, ◌&&◌, ap, string_bytes, sym, ◌∙◌}
use Rattle.h5_builder_spec.specs.Blanks.{all_blank}
use Rattle.h5_builder_spec.proofs.BlankLaws.{all_blank-append}
use Rattle.h5_builder_state.proofs.pending_text.PendingText.append.Goals as goal

pub invariant_of-self-2 : goal.invariant_of-self-2
invariant_of-self-2 c =
    let was = string_bytes c.self.inside.text in
    let more = string_bytes c.args.text in
    ap (λ b. b && c.is_blank_text-is_blank.result) c.self.invariant
    ∙ ap (λ b. all_blank was && b) (c.is_blank_text-is_blank.ensures ∙ ap all_blank c.as_str.ensures.value)
    ∙ sym (all_blank-append was more)
    ∙ ap all_blank (sym (c.in_ok-push_str.ensures.bytes ∙ ap (λ t. was ++ t) c.as_str-2.ensures.value))
