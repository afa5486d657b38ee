-- An element with a text and a comment, as the document's last child.
use Rattle.std.specs.Prelude.{◌≡◌, ◌≢◌, ℕ, List, [], ◌∷◌, ◌++◌, None, Some}
use Rattle.h5_names.specs.declared.qualified.QualName.{QualName}
use Rattle.h5_names.specs.AttributeText.{AttributeText}
use Rattle.h5_interface.specs.Forest.{ChildNode, ChildText, CommentNode, Forest, children_of}
use Rattle.h5_interface.specs.Seen.{element, no_flags, plain}

-- the new forest is the old one with this tree added, and its root is `root`
pub record IsSmallTree (old new : Forest) (root : ℕ) (name : QualName) (attrs : List AttributeText) (text comment : List ℕ) : Type 0 where
  pub note : ℕ
  pub root_is_new : old.node root ≡ None
  pub note_is_new : old.node note ≡ None
  pub same_document : new.document ≡ old.document
  pub in_document : children_of new old.document ≡ children_of old old.document ++ ChildNode root ∷ []
  pub root_node : new.node root ≡ Some (record (element name attrs no_flags) { children = ChildText text ∷ ChildNode note ∷ []; parent = Some old.document })
  pub note_node : new.node note ≡ Some (record (plain (CommentNode comment)) { parent = Some root })
  pub others : (n : ℕ) → n ≢ root → n ≢ note → n ≢ old.document → new.node n ≡ old.node n
