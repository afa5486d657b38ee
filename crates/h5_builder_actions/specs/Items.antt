-- Kinds of list items, in the form of the code.
use Rattle.std.specs.Prelude.{ℕ, List}
use Rattle.h5_builder_spec.specs.modes.InBody.{description_names, list_item_names}
use Rattle.h5_builder_actions.specs.declared.list_items.ItemKind.{ItemKind}
use Rattle.h5_builder_actions.specs.declared.list_items.ItemKind.TheVariants as kinds

abbrev pub item_names : ItemKind → List (List ℕ)
item_names kinds.ListItem = list_item_names
item_names kinds.Description = description_names
