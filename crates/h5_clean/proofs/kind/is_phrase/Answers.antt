use Rattle.std.proofs.Common.{◌||◌, ap, sym, ◌∙◌}
use Rattle.h5_tables.specs.TagSets.{is_one_of}
use Rattle.h5_clean.specs.Kinds.{late_phrase_names}
use Rattle.h5_clean.proofs.NameLaws.{phrase_parts}
use Rattle.h5_clean.proofs.kind.is_phrase.Goals as goal

pub returns-then-is_early_phrase : goal.returns-then-is_early_phrase
returns-then-is_early_phrase c =
    let name = c.args.name.now in
    c.if-is_early_phrase.true ∙ ap (λ b. b || is_one_of late_phrase_names name) (sym (sym c.is_early_phrase.ensures ∙ c.if-is_early_phrase.true)) ∙ phrase_parts name

pub returns-else-is_early_phrase : goal.returns-else-is_early_phrase
returns-else-is_early_phrase c =
    let name = c.args.name.now in
    c.is_late_phrase.ensures ∙ ap (λ b. b || is_one_of late_phrase_names name) (sym (sym c.is_early_phrase.ensures ∙ c.if-is_early_phrase.false)) ∙ phrase_parts name
