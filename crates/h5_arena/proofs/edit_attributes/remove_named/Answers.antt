use Rattle.std.proofs.Common.{◌∙◌, ap, not, rules, sym, tests}
use Rattle.std.specs.List.{list_any}
use Rattle.h5_names.specs.AttributeText.{attribute_text, attribute_texts}
use Rattle.h5_interface.proofs.ElementLemmas.{any_of_texts}
use Rattle.h5_arena.specs.Edits.{is_named}
use Rattle.h5_arena.proofs.EditLaws.{kept_pass, texts_without}
use Rattle.h5_arena.proofs.edit_attributes.remove_named.Goals as goal

pub returns-clause-changed : goal.returns-clause-changed
returns-clause-changed c =
    ap attribute_texts (kept_pass _ (λ a. not (is_named c.args.name.now (attribute_text a))) _ (λ x b q k. search (rules, tests)) c.args.attrs.now.items c.retain.new.self.items c.retain.ensures.filtered)
    ∙ texts_without c.args.name.now c.args.attrs.now.items

pub returns-clause-had : goal.returns-clause-had
returns-clause-had c =
    c.has_named-had.ensures ∙ ap (list_any (λ a. is_named c.args.name.now (attribute_text a))) c.as_slice.ensures.value ∙ sym (any_of_texts (is_named c.args.name.now) c.args.attrs.now.items)
