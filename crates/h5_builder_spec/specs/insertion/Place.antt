-- The place of insertion (HTML standard, section 13.2.6.1, "Creating and inserting nodes").
use Rattle.std.specs.Prelude.{ℕ, Bool, ◌&&◌, ◌||◌, if◌then◌else◌, List, [], ◌∷◌, codes, unwrap_or}
use Rattle.h5_names.specs.declared.qualified.QualName.{QualName}
use Rattle.h5_interface.specs.Forest.{Child, Forest, IsElement, IsNode, contents_of, parent_of}
use Rattle.h5_interface.specs.NewElement.{is_html_template}
use Rattle.h5_interface.specs.Seen.{CanAppend, CanAppendBasedOnParent, with_child_by, with_last_child}
use Rattle.h5_tables.specs.TagSets.{is_html_named, is_table_outer}
use Rattle.h5_builder_spec.specs.World.{World, current, name_in, root}
use Rattle.h5_builder_spec.specs.stack.Order.{first_or}

-- as the last child of a node; or, by foster parenting, before a table if the table has a parent, and otherwise as the
-- last child of the element next older than the table
pub data Place : Type 0 where
  LastChild : (parent : ℕ) → Place
  TableFosterParenting : (element prev_element : ℕ) → Place

-- the node that gets the children of a node: the contents of a template, otherwise the node itself
abbrev pub inside : Forest → ℕ → ℕ
inside f n = if is_html_template (name_in f n) then unwrap_or (contents_of f n) n else n

-- the newest of the open `template` and `table` elements decides where content is foster-parented
abbrev pub is_foster_parent : QualName → Bool
is_foster_parent name = is_html_named (codes "template") name || is_html_named (codes "table") name

-- the open elements from that one on
abbrev pub from_foster_parent : Forest → List ℕ → List ℕ
from_foster_parent f [] = []
from_foster_parent f (n ∷ s) = if is_foster_parent (name_in f n) then n ∷ s else from_foster_parent f s

-- in the template; at the table, with the next older element (the root itself if the table is the root); or in the
-- root, if neither is open
abbrev pub foster_place : Forest → ℕ → List ℕ → Place
foster_place f html [] = LastChild html
foster_place f html (n ∷ s) = if is_html_template (name_in f n) then LastChild (inside f n) else TableFosterParenting n (first_or n s)

-- the appropriate place for inserting a node: in the target, unless foster parenting is on and the target is a `table`,
-- `tbody`, `tfoot`, `thead` or `tr`
unfoldable pub appropriate_place : World → (target : ℕ) → Place
appropriate_place w target =
    if w.foster && is_table_outer (name_in w.forest target)
    then foster_place w.forest (root w) (from_foster_parent w.forest w.stack)
    else LastChild (inside w.forest target)

-- the appropriate place with the current node as the target
abbrev pub place : World → Place
place w = appropriate_place w (current w)

-- a node or a text is put at a place
abbrev pub put : Place → Child → Forest → Forest
put (LastChild p) x f = with_last_child p x f
put (TableFosterParenting element prev) x f = with_child_by (parent_of f element) element prev x f

-- the nodes of a place exist
abbrev pub IsPlaceIn : Forest → Place → Type 0
IsPlaceIn f (LastChild p) = IsNode f p
IsPlaceIn f (TableFosterParenting element prev) = IsElement f element × IsNode f prev

-- this child may be put at a place
abbrev pub CanPut : Forest → Place → Child → Type 0
CanPut f (LastChild p) x = CanAppend f p x
CanPut f (TableFosterParenting element prev) x = CanAppendBasedOnParent f element prev x
