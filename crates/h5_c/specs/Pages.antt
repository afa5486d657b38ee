-- What the calls for whole pages return: blocks, texts, links.
use Rattle.std.specs.Prelude.{◌≡◌, ℕ, ◌/◌, ◌%◌, ◌==◌, Bool, false, if◌then◌else◌, List, [], ◌∷◌, ◌++◌, Option, None, Some}
use Rattle.std.specs.List.{flat_map}
use Rattle.std.specs.Str.Lossy.{utf8_lossy}
use Rattle.html_tree_builder.specs.ArenaModel.{ArenaView, arena_choices, forest_seen, new_arena, seen_of}
use Rattle.html_tree_builder.specs.NodeCalls.{walk_of}
use Rattle.html_tree_builder.specs.Options.{default_options}
use Rattle.html_tree_builder.specs.StandardTexts.{ParsesDocument, ParsesFragment}
use Rattle.html_tree_builder.specs.Types.{ChildrenOnly, ParseOpts, QualName}
use Rattle.html_tree_builder.specs.Urls.{html_text, mathml_text, svg_text}
use Rattle.h5_tree_block.specs.Columns.{document_columns, fragment_columns, held}
use Rattle.h5_tree_block.specs.Packed.{block_of}
use Rattle.h5_tree_block.specs.declared.columns.Columns.{Columns}
use Rattle.h5_page.specs.Links.{LinkText, links_of}
use Rattle.h5_page.specs.Text.{text_of}
use Rattle.h5_page.specs.declared.text_writer.TextOpts.{TextOpts}

-- options: the first bit means that scripting is on, the second that the page is the `srcdoc` of an `iframe`
abbrev pub is_scripting : ℕ → Bool
is_scripting options = options % 2 == 1

abbrev pub is_srcdoc : ℕ → Bool
is_srcdoc options = options / 2 % 2 == 1

abbrev pub options_of : ℕ → ParseOpts
options_of options =
    let builder = default_options.tree_builder in
    record default_options { tree_builder = record builder { scripting_enabled = is_scripting options; iframe_srcdoc = is_srcdoc options } }

-- the tree of the text of a page
abbrev pub IsTreeOfText : (options : ℕ) → (text : List ℕ) → ArenaView → Type 0
IsTreeOfText options text arena = ParsesDocument arena_choices (seen_of new_arena) (options_of options) text (seen_of arena)

-- a block holds it
pub record IsBlockOfText (options : ℕ) (text block : List ℕ) : Type 0 where
  pub arena : ArenaView
  pub is_tree : IsTreeOfText options text arena
  pub columns : Columns
  pub holds : held columns ≡ document_columns arena (is_scripting options)
  pub packed : block ≡ block_of columns

-- the tree of a page in UTF-8, and a block that holds it
abbrev pub IsTree : (options : ℕ) → (page : List ℕ) → ArenaView → Type 0
IsTree options page arena = IsTreeOfText options (utf8_lossy page) arena

abbrev pub IsBlockOfPage : (options : ℕ) → (page block : List ℕ) → Type 0
IsBlockOfPage options page = IsBlockOfText options (utf8_lossy page)

-- the namespaces of contexts, by their numbers
abbrev pub context_url : ℕ → Option (List ℕ)
context_url ns =
    if ns == 1 then Some html_text
    else (if ns == 2 then Some mathml_text
    else (if ns == 3 then Some svg_text else None))

abbrev pub context_name : (local url : List ℕ) → QualName
context_name local url = record { prefix = None; ns = url; local = local }

-- the tree of a fragment in a context of this name
abbrev pub IsFragmentTree : (options : ℕ) → (page : List ℕ) → QualName → ArenaView → Type 0
IsFragmentTree options page name arena =
    ParsesFragment arena_choices (seen_of new_arena) (options_of options) name [] (is_scripting options) (utf8_lossy page) (seen_of arena)

pub record IsBlockOfFragment (options : ℕ) (page : List ℕ) (name : QualName) (block : List ℕ) : Type 0 where
  pub arena : ArenaView
  pub is_tree : IsFragmentTree options page name arena
  pub columns : Columns
  pub holds : held columns ≡ fragment_columns arena (is_scripting options)
  pub packed : block ≡ block_of columns

-- the text of a page, parsed without scripting, in lines of at most this width; 0 doesn't wrap them
abbrev pub text_opts : (width : ℕ) → TextOpts
text_opts width = record { width = if width == 0 then None else Some width; has_numbers = false; scripting_enabled = false }

pub record IsTextOfPage (page : List ℕ) (width : ℕ) (text : List ℕ) : Type 0 where
  pub arena : ArenaView
  pub is_tree : IsTree 0 page arena
  pub text_is : text ≡ text_of (text_opts width) (walk_of (forest_seen arena) 0 (ChildrenOnly None))

-- its links: the target of each, a NUL, its text, a NUL
abbrev pub bytes_of_link : LinkText → List ℕ
bytes_of_link link = link.href ++ 0 ∷ link.text ++ 0 ∷ []

abbrev pub bytes_of_links : List LinkText → List ℕ
bytes_of_links = flat_map bytes_of_link

pub record AreLinksOfPage (page bytes : List ℕ) : Type 0 where
  pub arena : ArenaView
  pub is_tree : IsTree 0 page arena
  pub links_are : bytes ≡ bytes_of_links (links_of (walk_of (forest_seen arena) 0 (ChildrenOnly None)))
