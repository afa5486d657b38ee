use Rattle.std.proofs.Common.{refl, sym, ap, ◌∙◌}
use Rattle.std.specs.Prelude.{string_bytes}
use Rattle.h5_tokenizer_spec.specs.References.{ends_in}
use Rattle.h5_tokenizer_states.proofs.ReferenceNameLaws.{closed_is_whole}
use Rattle.h5_tokenizer_states.proofs.ReferenceLaws.{no_beginning}
use Rattle.h5_tokenizer_states.proofs.references.goes_on.Goals as goal
use Rattle.h5_tokenizer_states.proofs.references.goes_on.Goals.{then-b-ge128-via-then-b-ge128, then-b-ge128-via-else-b-ge128+then-is_closed}

pub returns-then-b-ge128 : goal.returns-then-b-ge128
returns-then-b-ge128 c = elim c.then-b-ge128.branch [
  | then-b-ge128-via-then-b-ge128 w ↦ (sym (no_beginning (string_bytes c.args.seen.now) c.args.b w.if-b-ge128.true), refl)
  | then-b-ge128-via-else-b-ge128+then-is_closed w ↦ (sym (closed_is_whole (string_bytes c.args.seen.now) c.args.b (ap (ends_in 59) (sym w.as_str.ensures.value) ∙ sym w.is_closed.ensures ∙ w.if-is_closed.true)), refl)
]
