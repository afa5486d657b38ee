-- The choices of a sink, each a function of the forest alone, and their laws.
use Rattle.std.specs.Prelude.{◌≡◌, ℕ, Bool, true, List, Option, None, Some}
use Rattle.h5_names.specs.declared.qualified.QualName.{QualName}
use Rattle.h5_names.specs.AttributeText.{AttributeText}
use Rattle.h5_interface.specs.Forest.{Forest, HasContents, IsForest, IsNode, Marks, kind_of, parent_of}

-- a forest in which some nodes were removed from their parents, and others are new: each node keeps its kind, a template keeps having
-- contents, and only new nodes were given parents
pub record Rearranges (f g : Forest) : Type 0 where
  pub is_forest : IsForest g
  pub same_document : g.document ≡ f.document
  pub same_kind : (n : ℕ) → IsNode f n → kind_of g n ≡ kind_of f n
  pub contents : (n : ℕ) → HasContents f n → HasContents g n
  pub parents : (n p : ℕ) → IsNode f n → parent_of g n ≡ Some p → parent_of f n ≡ Some p

pub record SinkChoices : Type 0 where
  -- the next node
  pub fresh : Forest → ℕ
  pub fresh_is_new : (f : Forest) → IsForest f → f.node (fresh f) ≡ None
  -- the marks of each node after one was popped, or was marked as a script that started
  pub marks_after_pop : Forest → (popped : ℕ) → ℕ → Marks
  pub marks_after_started : Forest → (script : ℕ) → ℕ → Marks
  -- the marks of each node after an element was associated with a form; `place` and `outer` are the nodes passed with it
  pub marks_after_associate : Forest → (element form place : ℕ) → (outer : Option ℕ) → ℕ → Marks
  -- true if an element is an HTML integration point, as MathML's `annotation-xml` may be
  pub is_integration_point : QualName → List AttributeText → Marks → Bool
  -- true if a declarative shadow root is allowed below this parent
  pub allows_shadow : Forest → (parent : ℕ) → Bool
  -- true if a declarative shadow root is attached; the forest after that
  pub attaches : Forest → (host template : ℕ) → List AttributeText → Bool
  pub after_attach : Forest → (host template : ℕ) → List AttributeText → Forest
  pub attach_rearranges : (f : Forest) (host template : ℕ) (attrs : List AttributeText) → IsForest f → IsNode f host → IsNode f template
      → attaches f host template attrs ≡ true → Rearranges f (after_attach f host template attrs)
  -- the forest after an option was copied into `selectedcontent` elements
  pub after_option_copy : Forest → (option : ℕ) → Forest
  pub option_copy_rearranges : (f : Forest) (option : ℕ) → IsForest f → IsNode f option → Rearranges f (after_option_copy f option)
