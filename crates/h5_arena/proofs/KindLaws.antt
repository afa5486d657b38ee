-- Edits keep what each node is.
use Rattle.std.proofs.Common.{◌≡◌, ◌∙◌, ℕ, Bool, List, [], ◌∷◌, ◌++◌, ap, cond, refl}
use Rattle.std.specs.Prelude.{◌==◌, Option, None, Some}
use Rattle.h5_names.specs.AttributeText.{AttributeText}
use Rattle.h5_interface.specs.Changes.{change_nodes, detach_from, edit_children, has_child, insert_before, insert_node_below, insert_text_below, joined, set_parents, without}
use Rattle.h5_interface.specs.Forest.{Child, ChildNode, ChildText, Forest, IsElement, Node, children_of, kind_of, parent_of}
use Rattle.h5_interface.specs.Seen.{with_child_before, with_last_child}
use Rattle.h5_arena.specs.Edits.{edit_attrs, text_alone, with_text}

-- g has the nodes of f, each of the same kind
abbrev pub KeepsKinds : Forest → Forest → Type 0
KeepsKinds f g = (n : ℕ) → kind_of g n ≡ kind_of f n

pub same_kinds : (f : Forest) → KeepsKinds f f
same_kinds f = λ n. refl

kinds_trans : (f g h : Forest) → KeepsKinds f g → KeepsKinds g h → KeepsKinds f h
kinds_trans f g h k m = λ n. m n ∙ k n

kinds_changed : (change : ℕ → Node → Node) (f : Forest) → ((n : ℕ) (d : Node) → (change n d).kind ≡ d.kind) → KeepsKinds f (change_nodes change f)
kinds_changed change f same = λ n. at n (f.node n) refl
  where
    at : (n : ℕ) (o : Option Node) → f.node n ≡ o → kind_of (change_nodes change f) n ≡ kind_of f n
    at n None e = rw e refl
    at n (Some d) e = rw e (ap (λ k. Some k) (same n d))

edited_kinds : (p : ℕ) (edit : List Child → List Child) (f : Forest) → KeepsKinds f (edit_children p edit f)
edited_kinds p edit f = kinds_changed (λ n d. record d { children = cond (n == p) (joined (edit d.children)) d.children }) f (λ n d. refl)

hung_kinds : (chosen : ℕ → Bool) (q : Option ℕ) (f : Forest) → KeepsKinds f (set_parents chosen q f)
hung_kinds chosen q f = kinds_changed (λ n d. record d { parent = cond (chosen n) q d.parent }) f (λ n d. refl)

moved_kinds : (chosen : ℕ → Bool) (q : Option ℕ) (p : ℕ) (edit : List Child → List Child) (f : Forest) → KeepsKinds f (set_parents chosen q (edit_children p edit f))
moved_kinds chosen q p edit f = kinds_trans f (edit_children p edit f) (set_parents chosen q (edit_children p edit f)) (edited_kinds p edit f) (hung_kinds chosen q (edit_children p edit f))

pub attrs_kinds : (n : ℕ) (edit : List AttributeText → List AttributeText) (f : Forest) → KeepsKinds f (edit_attrs n edit f)
attrs_kinds n edit f = kinds_changed (λ m d. record d { attrs = cond (m == n) (edit d.attrs) d.attrs }) f (λ m d. refl)

pub text_kinds : (n : ℕ) (t : List ℕ) (f : Forest) → KeepsKinds f (with_text n t f)
text_kinds n t f = moved_kinds (has_child (children_of f n)) None n (λ _. text_alone t) f

pub detached_kinds : (o : Option ℕ) (c : ℕ) (f : Forest) → KeepsKinds f (detach_from o c f)
detached_kinds None c f = same_kinds f
detached_kinds (Some p) c f = moved_kinds (λ n. n == c) None p (without c) f

pub last_child_kinds : (p : ℕ) (x : Child) (f : Forest) → KeepsKinds f (with_last_child p x f)
last_child_kinds p (ChildNode c) f = moved_kinds (λ n. n == c) (Some p) p (λ cs. cs ++ ChildNode c ∷ []) f
last_child_kinds p (ChildText t) f = edited_kinds p (λ cs. cs ++ ChildText t ∷ []) f

node_below_kinds : (o : Option ℕ) (s c : ℕ) (f : Forest) → KeepsKinds f (insert_node_below o s c f)
node_below_kinds None s c f = same_kinds f
node_below_kinds (Some p) s c f = moved_kinds (λ n. n == c) (Some p) p (insert_before s (ChildNode c)) f

text_below_kinds : (o : Option ℕ) (s : ℕ) (t : List ℕ) (f : Forest) → KeepsKinds f (insert_text_below o s t f)
text_below_kinds None s t f = same_kinds f
text_below_kinds (Some p) s t f = edited_kinds p (insert_before s (ChildText t)) f

pub child_before_kinds : (s : ℕ) (x : Child) (f : Forest) → KeepsKinds f (with_child_before s x f)
child_before_kinds s (ChildNode c) f = node_below_kinds (parent_of f s) s c f
child_before_kinds s (ChildText t) f = text_below_kinds (parent_of f s) s t f

-- so elements stay elements
pub elements_after : (f g h : Forest) → h ≡ g → KeepsKinds f g → (n : ℕ) → IsElement f n → IsElement h n
elements_after f g h e k n is = (is.0, ap (λ (x : Forest). kind_of x n) e ∙ k n ∙ is.1)
