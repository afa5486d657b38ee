use Rattle.std.proofs.Common.{ap, string_bytes, sym, ◌∙◌}
use Rattle.std.specs.List.{list_any}
use Rattle.h5_names.specs.AttributeText.{is_same_text}
use Rattle.h5_tables.specs.TagSets.{is_one_of}
use Rattle.h5_clean.proofs.ListLaws.{any_of_map}
use Rattle.h5_clean.proofs.name_list.NameList.has.Goals as goal

pub returns : goal.returns
returns c =
    let name = c.args.name.now in
    c.is_among.ensures
    ∙ (ap (list_any (λ other. is_same_text (string_bytes other) name)) c.as_slice.ensures.value
    ∙ (sym (any_of_map (λ n. is_same_text n name) string_bytes c.self.inside.names.items)
    ∙ ap (λ l. is_one_of l name) c.self.view_is))
