-- The links of a page.
use Rattle.std.specs.Prelude.{◌≡◌, ℕ, List, None}
use Rattle.html_tree_builder.specs.Types.{ChildrenOnly}
use Rattle.html_tree_builder.specs.ArenaModel.{ArenaView, arena_choices, forest_seen, new_arena, seen_of}
use Rattle.html_tree_builder.specs.NodeCalls.{walk_of}
use Rattle.html_tree_builder.specs.Options.{default_options}
use Rattle.html_tree_builder.specs.StandardTexts.{ParsesDocument}
use Rattle.h5_page.specs.Links.{LinkText, links_of}

-- these are the links of a page: those of the tree that a parser with default options makes from it
pub record AreLinksOf (page : List ℕ) (links : List LinkText) : Type 0 where
  pub arena : ArenaView
  pub parsed : ParsesDocument arena_choices (seen_of new_arena) default_options page (seen_of arena)
  pub are_all : links ≡ links_of (walk_of (forest_seen arena) 0 (ChildrenOnly None))
