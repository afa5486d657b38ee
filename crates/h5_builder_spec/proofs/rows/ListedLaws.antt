-- The list of active formatting elements is of their names: each change and each rule keeps it so, whatever the world.
use Rattle.std.proofs.Common.{List, [], ◌∷◌, ◌++◌, IsTrue}
use Rattle.h5_token.specs.TokenText.{TagText}
use Rattle.h5_tables.specs.TagSets.{formatting_names, is_one_of}
use Rattle.h5_builder_spec.specs.Rows.{Change, CreateFormattingElement}

abbrev IsFormattingTag : TagText → Type 0
IsFormattingTag t = IsTrue (is_one_of formatting_names t.name)

-- ANY CHANGE, where only formatting elements are created as such
abbrev pub AllListable : List Change → Type 0
AllListable [] = Unit {0}
AllListable (CreateFormattingElement tag ∷ xs) = IsFormattingTag tag × AllListable xs
AllListable (x ∷ xs) = AllListable xs

pub listable_append : (xs ys : List Change) → AllListable xs → AllListable ys → AllListable (xs ++ ys)
listable_append [] ys h k = k
listable_append (CreateFormattingElement tag ∷ xs) ys h k = (h.0, listable_append xs ys h.1 k)
listable_append (_ ∷ xs) ys h k = listable_append xs ys h k
