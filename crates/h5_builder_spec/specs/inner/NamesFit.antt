-- What an insertion mode says about the open elements by their names.
use Rattle.std.specs.Prelude.{◌≡◌, Bool, true, List, IsTrue, Some, codes}
use Rattle.h5_names.specs.declared.qualified.QualName.{QualName}
use Rattle.h5_tables.specs.TagSets.{is_html_named}
use Rattle.h5_tables.specs.declared.modes.InsertionMode.{InsertionMode}
use Rattle.h5_tables.specs.declared.modes.InsertionMode.TheVariants.{InHeadNoscript, Text}
use Rattle.h5_builder_spec.specs.stack.Scope.{first_passes, later_names}
use Rattle.h5_builder_spec.specs.inner.Fits.{Fits, is_table_mode}
use Rattle.h5_builder_spec.specs.reset.Situation.{Situation}
use Rattle.h5_builder_spec.specs.reset.Roles.{is_html_element, roles}

-- what a mode says about the current node's name that the role doesn't show
abbrev pub IsNamed : InsertionMode → List QualName → Type 0
IsNamed InHeadNoscript ns = IsTrue (first_passes (is_html_named (codes "noscript")) ns)
IsNamed _ ns = Unit {0}

-- in a text also about the next older element, for the mode that was left
abbrev pub AreNamed : Situation → InsertionMode → List QualName → Type 0
AreNamed s Text ns = IsTrue (first_passes is_html_element ns) × ((m : InsertionMode) → s.saved_mode ≡ Some m → IsNamed m (later_names ns))
AreNamed s m ns = IsNamed m ns

-- the open elements fit the mode; holds at every turn and between tokens
pub record NamesFit (s : Situation) (m : InsertionMode) (ns : List QualName) : Type 0 where
  pub fits : Fits s m (roles ns)
  pub named : AreNamed s m ns

-- the open elements without the one of a text: the mode that was left, and its condition
pub record ModeBelow (s : Situation) (ns : List QualName) : Type 0 where
  pub mode : InsertionMode
  pub saved : s.saved_mode ≡ Some mode
  pub fit : NamesFit s mode (later_names ns)

-- in a text in a table: the mode that was left, and its condition
pub record TableMode (s : Situation) (ns : List QualName) : Type 0 where
  pub mode : InsertionMode
  pub saved : s.saved_mode ≡ Some mode
  pub is_table : is_table_mode mode ≡ true
  pub fit : NamesFit s mode ns
