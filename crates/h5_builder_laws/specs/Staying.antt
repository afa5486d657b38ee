-- A builder in the middle of a page, at an element that takes nodes of flow, and the meaning of "nodes stay in their
-- box".
use Rattle.std.specs.Prelude.{◌≡◌, ℕ, Bool, true, false, List, [], ◌∷◌, ◌++◌, Option, None, Some, map, codes}
use Rattle.h5_names.specs.AttributeText.{AttributeText}
use Rattle.h5_names.specs.declared.qualified.QualName.{QualName}
use Rattle.h5_token.specs.Joins.{join}
use Rattle.h5_token.specs.TokenText.{TokenText}
use Rattle.h5_interface.specs.Forest.{Child, ChildText, ChildNode, ElementNode, Forest, kind_of}
use Rattle.h5_interface.specs.NewElement.{is_html_template}
use Rattle.h5_interface.specs.SinkChoices.{SinkChoices}
use Rattle.h5_tables.specs.TagSets.{is_default_scope, is_heading, is_html_named}
use Rattle.h5_tables.specs.declared.modes.InsertionMode.{InsertionMode}
use Rattle.h5_tables.specs.declared.modes.InsertionMode.TheVariants.{InBody, InCaption, InCell}
use Rattle.h5_builder_spec.specs.Run.{View, after_all, all_quiet, replies}
use Rattle.h5_builder_spec.specs.inner.Kept.{Fitting}
use Rattle.h5_builder_spec.specs.Sound.{role_at}
use Rattle.h5_builder_spec.specs.World.{World, names_of}
use Rattle.h5_builder_spec.specs.reset.Situation.{Situation}
use Rattle.h5_builder_spec.specs.reset.Roles.{is_html_element, roles}
use Rattle.h5_builder_spec.specs.reset.ResetByRoles.{reset}
use Rattle.h5_builder_spec.specs.formatting.FormattingList.{after_marker}
use Rattle.h5_builder_spec.specs.modes.InBody.{description_names, list_item_names}
use Rattle.h5_builder_spec.specs.stack.Closing.{newest_item}
use Rattle.h5_builder_spec.specs.stack.Scope.{first_passes, has_p_in_button_scope, in_scope}
use Rattle.h5_builder_laws.specs.Plain.{Around, Flow, IsPlain, Nodes, as_written, plain_reply, tokens_before}
use Rattle.h5_builder_laws.specs.Rebuilding.{ChangesOne, Looks, Stands}

-- the modes that handle nodes of flow by the rules of "in body"
abbrev pub takes_flow : InsertionMode → Bool
takes_flow InBody = true
takes_flow InCell = true
takes_flow InCaption = true
takes_flow _ = false

-- the context, if a fragment is parsed, is an element of HTML; a document has none
abbrev pub HasHtmlContext : Forest → Option ℕ → Type 0
HasHtmlContext f None = Unit {0}
HasHtmlContext f (Some n) = (name : QualName) × ((kind_of f n ≡ Some (ElementNode name)) × (is_html_element name ≡ true))

-- the last child is a text
abbrev pub has_text_last : List Child → Bool
has_text_last [] = false
has_text_last (ChildNode n ∷ cs) = has_text_last cs
has_text_last (ChildText t ∷ []) = true
has_text_last (ChildText t ∷ c ∷ cs) = has_text_last (c ∷ cs)

-- A BOX FOR NODES: the current node is an element of HTML, not a template. The mode takes nodes of flow, and a reset of
-- the mode chooses it again. As far as the rules of "in body" need it, no more is open than `o` says: a `p` in button
-- scope, a heading as the current node, an `li`, and a `dd` or `dt`, for which the search isn't ended; no `select` is
-- in scope. If `o` says that the parent is a `ruby`, the current node is one. No formatting element is listed after the
-- last marker. Foster parenting is off, no newline will be dropped, no text is buffered, and there is no form element
pub record IsBox (o : Around) (w : World) : Type 0 where
  pub node : ℕ
  pub below : List ℕ
  pub name : QualName
  pub attrs : List AttributeText
  pub children : List Child
  pub is_open : w.stack ≡ node ∷ below
  pub looks : Looks w.forest node (ElementNode name) attrs children
  pub of_html : is_html_element name ≡ true
  pub no_template : is_html_template name ≡ false
  pub no_text_last : has_text_last children ≡ false
  pub mode : takes_flow w.mode ≡ true
  pub resets : (s : Situation) → s.context ≡ role_at w.forest w.context → reset s (roles (names_of w)) ≡ w.mode
  pub no_p : o.in_p ≡ false → has_p_in_button_scope (names_of w) ≡ false
  pub no_heading : o.in_heading ≡ false → first_passes is_heading (names_of w) ≡ false
  pub no_item : o.in_item ≡ false → newest_item list_item_names (names_of w) ≡ None
  pub no_description : o.in_description ≡ false → newest_item description_names (names_of w) ≡ None
  pub in_ruby : o.in_ruby ≡ true → first_passes (is_html_named (codes "ruby")) (names_of w) ≡ true
  pub no_select : in_scope (is_html_named (codes "select")) is_default_scope (names_of w) ≡ false
  pub none_listed : after_marker w.formatting ≡ []
  pub ignore_lf : w.ignore_lf ≡ false
  pub no_foster : w.foster ≡ false
  pub no_pending : w.pending ≡ []
  pub no_form : w.form ≡ None
  pub context : HasHtmlContext w.forest w.context

-- the tokens of a list of nodes, and no others
abbrev pub tokens_of : Nodes → List TokenText
tokens_of nodes = tokens_before (as_written nodes) []

-- the view before, with another forest, frameset-ok flag, and saved mode
abbrev pub standing : View → Forest → Bool → Option InsertionMode → View
standing v f ok saved = record v { world = record v.world { forest = f; frameset_ok = ok; saved_mode = saved } }

-- NODES STAY IN THEIR BOX: after their tokens the same elements are open, and the mode, the list of active formatting
-- elements and all else are unchanged. In the forest only the box has changed: these nodes follow its children
pub record Stays (choices : SinkChoices) (ts : List TokenText) (o : Around) (nodes : Nodes) (v : View) (b : IsBox o v.world) : Type 0 where
  pub forest : Forest
  pub ok : Bool
  pub saved : Option InsertionMode
  pub view : after_all choices ts v ≡ standing v forest ok saved
  pub added : List Child
  pub looks : Looks forest b.node (ElementNode b.name) b.attrs (b.children ++ added)
  pub stands : Stands forest added nodes
  pub changes : ChangesOne v.world.forest forest b.node
  pub answers : replies choices ts v ≡ map plain_reply ts
  pub quiet : IsPlain false (Flow false o) nodes → all_quiet choices ts v ≡ true

-- `Stays` for any split of the texts of their tokens
abbrev pub StayInBox : SinkChoices → List TokenText → View → Type 0
StayInBox choices ts v =
    (o : Around) (nodes : Nodes) (b : IsBox o v.world) → IsPlain true (Flow false o) nodes → Fitting v.world → v.ended ≡ false → v.failed ≡ false
    → join ts ≡ tokens_of nodes → Stays choices ts o nodes v b
