-- What holds for a builder and its sink at every moment (HTML standard, sections 13.2.4.1 and 13.2.4.2).
use Rattle.std.specs.Prelude.{◌≡◌, ℕ, is_some, List, [], ◌∷◌, codes, Option, Some, None, IsTrue}
use Rattle.h5_interface.specs.Forest.{ElementNode, Forest, HasContents, IsElement, IsForest, kind_of, parent_of}
use Rattle.h5_interface.specs.NewElement.{is_html_template}
use Rattle.h5_builder_spec.specs.formatting.FormattingList.{Entry}
use Rattle.h5_builder_spec.specs.formatting.FormattingNames.{AllFormatting, AllOfTags, html_name}
use Rattle.h5_builder_spec.specs.stack.Order.{IsIn, IsOrdered}
use Rattle.h5_builder_spec.specs.reset.Situation.{Situation}
use Rattle.h5_builder_spec.specs.reset.Roles.{Role, role_of}
use Rattle.h5_builder_spec.specs.World.{World, name_in, names_of}

-- the forest is a forest; the open elements are elements of it; none is an ancestor of an older one; templates have
-- contents
pub record Stands (f : Forest) (s : List ℕ) : Type 0 where
  pub is_forest : IsForest f
  pub elements : (n : ℕ) → IsIn n s → IsElement f n
  pub ordered : IsOrdered (parent_of f) s
  pub templates : (n : ℕ) → IsIn n s → IsTrue (is_html_template (name_in f n)) → HasContents f n

-- the root, if one is open, has no parent except the document
abbrev pub RootIsTop : Forest → List ℕ → Type 0
RootIsTop f [] = Unit {0}
RootIsTop f (n ∷ []) = (p : ℕ) → parent_of f n ≡ Some p → p ≡ f.document
RootIsTop f (n ∷ m ∷ s) = RootIsTop f (m ∷ s)

-- a node is an HTML element of this name
abbrev pub IsHtml : Forest → List ℕ → ℕ → Type 0
IsHtml f local n = kind_of f n ≡ Some (ElementNode (html_name local))

-- what holds at every moment, also after a failed allocation: the above, and that the nodes that the builder refers to
-- exist. The head element is a `head`. The form element is another one, and is a `form` if it is open. The context of a
-- fragment isn't the head element, and is never open. Each element in the list of active formatting elements, open or
-- not, has its tag's name, which is that of a formatting element
pub record AllStand (f : Forest) (s : List ℕ) (l : List Entry) (head form context : Option ℕ) : Type 0 where
  pub stands : Stands f s
  pub root_top : RootIsTop f s
  pub head_node : (n : ℕ) → head ≡ Some n → IsHtml f (codes "head") n
  pub form_node : (n : ℕ) → form ≡ Some n → IsElement f n
  pub form_name : (n : ℕ) → form ≡ Some n → IsIn n s → IsHtml f (codes "form") n
  pub apart : (n : ℕ) → head ≡ Some n → form ≡ Some n → ⊥
  pub context_node : (n : ℕ) → context ≡ Some n → IsElement f n
  pub context_out : (n : ℕ) → context ≡ Some n → ¬ (IsIn n s)
  pub context_no_head : (n : ℕ) → head ≡ Some n → context ≡ Some n → ⊥
  pub listed : AllOfTags f l
  pub formatting : AllFormatting l

abbrev pub Sound : World → Type 0
Sound w = AllStand w.forest w.stack w.formatting w.head w.form w.context

-- the role of the context element, if a fragment is parsed (section 13.4)
abbrev pub role_at : Forest → Option ℕ → Option Role
role_at f None = None
role_at f (Some n) = Some (role_of (name_in f n))

-- what a reset of the mode reads of a world in addition to its mode and its open elements
abbrev pub situation_of : World → Situation
situation_of w = record {
  template_modes = w.template_modes;
  saved_mode = w.saved_mode;
  has_head = is_some w.head;
  frameset_ok = w.frameset_ok;
  context = role_at w.forest w.context;
}
