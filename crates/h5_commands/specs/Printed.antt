-- The program's output for an input.
use Rattle.std.specs.Prelude.{◌≡◌, ℕ, ◌+◌, true, false, List, [], ◌∷◌, ◌++◌, None, codes}
use Rattle.h5_names.specs.declared.qualified.QualName.{QualName}
use Rattle.h5_token.specs.Reply.{Reply}
use Rattle.h5_serialize.specs.Standing.{new_standing, walk_text}
use Rattle.h5_serialize.specs.declared.options.SerializeOpts.{SerializeOpts}
use Rattle.h5_serialize.specs.declared.options.TraversalScope.TheVariants.{ChildrenOnly}
use Rattle.h5_arena.specs.ArenaModel.{ArenaView, arena_choices, forest_seen, new_arena, seen_of}
use Rattle.h5_arena.specs.NodeCalls.{walk_of}
use Rattle.h5_builder_spec.specs.Run.{View, after_token, reply_to}
use Rattle.h5_tree_builder.specs.Builder.{ended_view, first_building}
use Rattle.h5_driver.specs.Options.{default_options}
use Rattle.h5_driver.specs.Texts.{ParsesDocument, ParsesFragment}
use Rattle.h5_print.specs.Items.{ItemText, TheEnd, TokenAt}
use Rattle.h5_print.specs.Printed.{IsTreeText}
use Rattle.h5_print.specs.Replies.{quirks_line, reply_line}

-- a new tree builder over an arena with only its document, with the default options
abbrev pub first_view : View
first_view = (first_building (seen_of new_arena) default_options.tree_builder).view

-- the meaning of a tree builder after the items of a text: tokens that it processes, and calls of `end`
abbrev pub after_items : List ItemText → View → View
after_items [] v = v
after_items (TokenAt token line ∷ items) v = after_items items (after_token arena_choices token v)
after_items (TheEnd ∷ items) v = after_items items (ended_view arena_choices v)

-- its replies to the tokens
abbrev pub replies_to_items : List ItemText → View → List Reply
replies_to_items [] v = []
replies_to_items (TokenAt token line ∷ items) v = reply_to arena_choices token v ∷ replies_to_items items (after_token arena_choices token v)
replies_to_items (TheEnd ∷ items) v = replies_to_items items (ended_view arena_choices v)

-- the lines of replies, the first of which is that to the token with this number
abbrev pub reply_lines : ℕ → List Reply → List ℕ
reply_lines n [] = []
reply_lines n (r ∷ rs) = reply_line n r ++ reply_lines (n + 1) rs

-- an arena is what a tree builder has built
pub record IsBuilt (v : View) (a : ArenaView) : Type 0 where
  pub forest : forest_seen a ≡ v.world.forest
  pub quirks : a.quirks ≡ v.world.seen_quirks

-- a tree, and its quirks mode
pub record IsTreeOutput (a : ArenaView) (output : List ℕ) : Type 0 where
  pub tree : List ℕ
  pub is_tree : IsTreeText a tree
  pub whole : output ≡ tree ++ quirks_line a.quirks

-- the output of the items of a text: the tree that they build, followed by the end, then the replies
pub record ItemsPrint (items : List ItemText) (output : List ℕ) : Type 0 where
  pub arena : ArenaView
  pub built : IsBuilt (ended_view arena_choices (after_items items first_view)) arena
  pub tree : List ℕ
  pub is_tree : IsTreeOutput arena tree
  pub whole : output ≡ tree ++ reply_lines 1 (replies_to_items items first_view)

-- an arena is what a parser with the default options makes of a text
abbrev pub IsParsed : List ℕ → ArenaView → Type 0
IsParsed text a = ParsesDocument arena_choices (seen_of new_arena) default_options text (seen_of a)

-- the output is its tree
pub record TreePrints (text output : List ℕ) : Type 0 where
  pub arena : ArenaView
  pub parsed : IsParsed text arena
  pub is_tree : IsTreeOutput arena output

-- an arena is what a parser with the default options makes of a text in an HTML element of this name, without attributes, and with
-- scripting
abbrev pub html_name : List ℕ → QualName
html_name local = record { prefix = None; ns = codes "http://www.w3.org/1999/xhtml"; local = local }

abbrev pub IsParsedIn : (context : List ℕ) → List ℕ → ArenaView → Type 0
IsParsedIn context text a = ParsesFragment arena_choices (seen_of new_arena) default_options (html_name context) [] true text (seen_of a)

-- the output is its tree
pub record FragmentPrints (context text output : List ℕ) : Type 0 where
  pub arena : ArenaView
  pub parsed : IsParsedIn context text arena
  pub is_tree : IsTreeOutput arena output

-- the default options of a serializer
abbrev pub default_serializing : SerializeOpts
default_serializing = record { scripting_enabled = true; traversal_scope = ChildrenOnly None; create_missing_parent = false }

-- the HTML of an arena: the text of the walk over the content of its document
abbrev pub html_of : ArenaView → List ℕ
html_of a = walk_text (new_standing default_serializing) (walk_of (forest_seen a) 0 (ChildrenOnly None))

-- the output is its HTML
pub record HtmlPrints (text output : List ℕ) : Type 0 where
  pub arena : ArenaView
  pub parsed : IsParsed text arena
  pub whole : output ≡ html_of arena
