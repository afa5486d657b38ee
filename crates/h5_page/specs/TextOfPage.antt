-- The text of a page.
use Rattle.std.specs.Prelude.{◌≡◌, ℕ, List, None}
use Rattle.html_tree_builder.specs.Types.{ChildrenOnly}
use Rattle.html_tree_builder.specs.ArenaModel.{ArenaView, arena_choices, forest_seen, new_arena, seen_of}
use Rattle.html_tree_builder.specs.NodeCalls.{walk_of}
use Rattle.html_tree_builder.specs.Options.{default_options}
use Rattle.html_tree_builder.specs.StandardTexts.{ParsesDocument}
use Rattle.h5_page.specs.Text.{plain_opts, text_of}

-- lines are the text of a page: that of the tree that a parser with default options makes from it
pub record IsTextOf (page lines : List ℕ) : Type 0 where
  pub arena : ArenaView
  pub parsed : ParsesDocument arena_choices (seen_of new_arena) default_options page (seen_of arena)
  pub text : lines ≡ text_of plain_opts (walk_of (forest_seen arena) 0 (ChildrenOnly None))
