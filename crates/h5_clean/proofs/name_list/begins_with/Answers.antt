use Rattle.std.proofs.Common.{string_bytes, sym, ◌∙◌}
use Rattle.std.specs.List.{starts_with}
use Rattle.std.specs.Prelude.{nat_eq}
use Rattle.h5_clean.proofs.ListLaws.{any_of_map}
use Rattle.h5_clean.proofs.name_list.begins_with.Goals as goal

pub returns : goal.returns
returns c = c.begins_with_one.ensures ∙ sym (any_of_map (starts_with nat_eq c.args.text.now) string_bytes c.args.prefixes.now)
