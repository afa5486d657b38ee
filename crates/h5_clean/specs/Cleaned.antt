-- What is left of a text.
use Rattle.std.specs.Prelude.{◌≡◌, ℕ, true, false, List, [], Option, Some, None, codes}
use Rattle.std.specs.Io.KnownBytes.{Appends}
use Rattle.h5_names.specs.declared.qualified.QualName.{QualName}
use Rattle.h5_interface.specs.Forest.{Forest}
use Rattle.h5_builder_spec.specs.formatting.FormattingNames.{html_name}
use Rattle.h5_serialize.specs.Call.{Call}
use Rattle.h5_serialize.specs.declared.options.TraversalScope.TheVariants.{ChildrenOnly}
use Rattle.h5_arena.specs.ArenaModel.{ArenaView, arena_choices, forest_seen, fragment_root, seen_of, new_arena}
use Rattle.h5_arena.specs.NodeCalls.{walk_of}
use Rattle.h5_builder_laws.specs.Plain.{Flow, IsPlain, Nodes}
use Rattle.h5_round_trip.specs.Readable.{CanBeRead}
use Rattle.h5_round_trip.specs.Written.{written_fragment}
use Rattle.h5_driver.specs.Options.{default_options}
use Rattle.h5_driver.specs.PlainFragments.{FragmentStands, IsFragmentText}
use Rattle.h5_driver.specs.StandardTexts.{ParsesFragment}
use Rattle.h5_clean.specs.Pass.{AllLet, IsWithin, cleaned, first_place, with_first}
use Rattle.h5_clean.specs.Places.{around}
use Rattle.h5_clean.specs.Policies.{Rules}
use Rattle.h5_clean.specs.Source.{Source, calls_before}
use Rattle.h5_clean.specs.Texts.{without_marks}

-- the context in which a text is parsed
abbrev pub div : QualName
div = html_name (codes "div")

-- the calls for the children of a root, if there is one
abbrev pub calls_below : Forest → Option ℕ → List Call
calls_below f None = []
calls_below f (Some root) = walk_of f root (ChildrenOnly None)

-- a parser of fragments with the default options builds this arena from a text
abbrev pub Builds : List ℕ → ArenaView → Type 0
Builds text a = ParsesFragment arena_choices (seen_of new_arena) default_options div [] true text (seen_of a)

-- the tree that it builds below the root
pub record IsTreeOf (text : List ℕ) (source : Source) : Type 0 where
  pub arena : ArenaView
  pub builds : Builds text arena
  pub told : calls_before source [] ≡ calls_below (forest_seen arena) (fragment_root arena)

-- WHAT IS LEFT OF A TEXT: the text of what the rules allow of the tree that a parser builds from it. It is a plain
-- fragment that can be read; the rules allow each of its elements and attributes, and none is too deep
pub record IsCleaned (r : Rules) (html out : List ℕ) : Type 0 where
  pub source : Source
  pub is_tree : IsTreeOf html source
  pub text : IsFragmentText (cleaned r source) out
  pub allowed : AllLet r (cleaned r source)
  pub within : IsWithin r.depth (cleaned r source)

-- these calls are those of a tree, and what is left of the tree was appended to what had been written
pub record WritesCleaned (r : Rules) (calls : List Call) (before after : Option (List ℕ)) : Type 0 where
  pub source : Source
  pub told : calls_before source [] ≡ calls
  pub written : Appends before after (written_fragment (cleaned r source))

-- a fragment that the rules allow completely
pub record IsClean (r : Rules) (nodes : Nodes) : Type 0 where
  pub plain : IsPlain true (Flow false (around (first_place r))) nodes
  pub readable : CanBeRead nodes
  pub allowed : AllLet r nodes
  pub within : IsWithin r.depth nodes
  pub unmarked : with_first without_marks nodes ≡ nodes

-- a parser builds this fragment from a text
pub record BuildsFragment (text : List ℕ) (nodes : Nodes) : Type 0 where
  pub arena : ArenaView
  pub builds : Builds text arena
  pub stands : FragmentStands (forest_seen arena) nodes
