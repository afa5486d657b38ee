-- The text of a tree.
use Rattle.std.specs.Prelude.{◌≡◌, ℕ, suc, List, [], ◌∷◌, ◌++◌, None, Some, slice_get, codes}
use Rattle.h5_interface.specs.Forest.{Child, ChildNode, ChildText, Node}
use Rattle.h5_arena.specs.ArenaModel.{ArenaView}
use Rattle.h5_print.specs.Nodes.{attribute_lines, kind_line, line, quoted}

-- the lines of a node before those of its contents and its children
abbrev pub first_lines : ℕ → Node → List ℕ
first_lines level d = kind_line level d.kind ++ attribute_lines (suc level) d.attrs

-- the text of children at a level: texts, nodes with their subtrees, and templates with their contents, which are one level deeper
pub data Printed (a : ArenaView) : ℕ → List Child → List ℕ → Type 0 where
  NoChild : {level : ℕ} → Printed a level [] []
  TextChild : {level : ℕ} {children : List Child} {rest : List ℕ} (text : List ℕ) → Printed a level children rest → Printed a level (ChildText text ∷ children) (line level (quoted text) ++ rest)
  NodeChild : {level : ℕ} {children : List Child} {inner rest : List ℕ} (n : ℕ) (d : Node) → slice_get a.nodes n ≡ Some d → d.contents ≡ None → Printed a (suc level) d.children inner → Printed a level children rest → Printed a level (ChildNode n ∷ children) (first_lines level d ++ (inner ++ rest))
  TemplateChild : {level : ℕ} {children : List Child} {held inner rest : List ℕ} (n c : ℕ) (d e : Node) → slice_get a.nodes n ≡ Some d → d.contents ≡ Some c → slice_get a.nodes c ≡ Some e → Printed a (suc (suc level)) e.children held → Printed a (suc level) d.children inner → Printed a level children rest → Printed a level (ChildNode n ∷ children) (first_lines level d ++ (line (suc level) (codes "content") ++ (held ++ (inner ++ rest))))

-- the text of a whole tree
abbrev pub IsTreeText : ArenaView → List ℕ → Type 0
IsTreeText a text = (root : Node) × (slice_get a.nodes 0 ≡ Some root) × Printed a 0 root.children text
