-- What each call of a sink keeps, if its conditions hold.
use Rattle.std.proofs.Common.{◌≡◌, ◌∙◌, ℕ, Bool, true, false, List, refl, subst, sym}
use Rattle.std.specs.Prelude.{◌==◌, Option, None, Some, unwrap_or}
use Rattle.h5_names.specs.AttributeText.{AttributeText}
use Rattle.h5_interface.specs.Forest.{Child, ChildNode, ChildText, Forest, IsForest, IsNode, parent_of}
use Rattle.h5_interface.specs.Seen.{CanAppend, CanAppendBasedOnParent, CanInsertBefore, CanStandBy, attach, attach_where, with_child_before, with_child_by, with_last_child}
use Rattle.h5_interface.specs.SinkChoices.{Rearranges, SinkChoices}
use Rattle.h5_interface.proofs.ForestLaws.{rearranges_refl}
use Rattle.h5_interface.proofs.HangingLaws.{append_node_keeps, append_node_rehangs, append_text_rearranges, append_text_rehangs, insert_node_keeps, insert_node_rehangs, insert_text_rearranges, insert_text_rehangs}
use Rattle.h5_interface.proofs.RehangLaws.{Rehangs, none_chosen}

-- the nodes that get a parent by a child: itself, or none
abbrev pub is_child : Child → ℕ → Bool
is_child (ChildNode c) n = n == c
is_child (ChildText t) n = false

-- if no node gets a parent, the parent is ignored
none_hung : (f g : Forest) (q : Option ℕ) → Rehangs f g none_chosen None → Rehangs f g none_chosen q
none_hung f g q r = record {
  document = r.document;
  bound = r.bound;
  kinds = r.kinds;
  parents = r.parents;
  counts = r.counts;
  texts = r.texts;
  hosts = r.hosts;
  contents = r.contents;
}

pub last_child_rehangs : (f : Forest) (p : ℕ) (x : Child) → IsForest f → CanAppend f p x → Rehangs f (with_last_child p x f) (is_child x) (Some p)
last_child_rehangs f p (ChildNode c) k may = append_node_rehangs f p c k may.is_node may.child
last_child_rehangs f p (ChildText t) k may = none_hung f (with_last_child p (ChildText t) f) (Some p) (append_text_rehangs f p t k may)

pub last_child_keeps : (f : Forest) (p : ℕ) (x : Child) → IsForest f → CanAppend f p x → IsForest (with_last_child p x f)
last_child_keeps f p (ChildNode c) k may = append_node_keeps f p c k may
last_child_keeps f p (ChildText t) k may = (append_text_rearranges f p t k may).is_forest

pub child_before_rehangs : (f : Forest) (s : ℕ) (x : Child) → IsForest f → (may : CanInsertBefore f s x) → Rehangs f (with_child_before s x f) (is_child x) (Some may.parent)
child_before_rehangs f s (ChildNode c) k may = insert_node_rehangs f s c k may
child_before_rehangs f s (ChildText t) k may = none_hung f (with_child_before s (ChildText t) f) (Some may.parent) (insert_text_rehangs f s t k may)

pub child_before_keeps : (f : Forest) (s : ℕ) (x : Child) → IsForest f → CanInsertBefore f s x → IsForest (with_child_before s x f)
child_before_keeps f s (ChildNode c) k may = insert_node_keeps f s c k may
child_before_keeps f s (ChildText t) k may = (insert_text_rearranges f s t k may).is_forest

some_inj : (a b : ℕ) → Some a ≡ Some b → a ≡ b
some_inj a b e = cc

-- before `element` it gets that one's parent, and else `prev`
pub child_by_rehangs : (f : Forest) (element prev : ℕ) (x : Child) → IsForest f → CanAppendBasedOnParent f element prev x → Rehangs f (with_child_by (parent_of f element) element prev x f) (is_child x) (Some (unwrap_or (parent_of f element) prev))
child_by_rehangs f element prev x k may = at (parent_of f element) refl may.child
  where
    at : (o : Option ℕ) → parent_of f element ≡ o → CanStandBy o f element prev x → Rehangs f (with_child_by o element prev x f) (is_child x) (Some (unwrap_or o prev))
    at None e m = last_child_rehangs f prev x k m
    at (Some p) e m =
        subst (λ q. Rehangs f (with_child_before element x f) (is_child x) (Some q)) (some_inj m.parent p (sym m.is_parent ∙ e)) (child_before_rehangs f element x k m)

pub child_by_keeps : (f : Forest) (element prev : ℕ) (x : Child) → IsForest f → CanAppendBasedOnParent f element prev x → IsForest (with_child_by (parent_of f element) element prev x f)
child_by_keeps f element prev x k may = at (parent_of f element) may.child
  where
    at : (o : Option ℕ) → CanStandBy o f element prev x → IsForest (with_child_by o element prev x f)
    at None m = last_child_keeps f prev x k m
    at (Some p) m = child_before_keeps f element x k m

-- an attach rearranges, both if it happens and if it doesn't
pub attach_rearranges : (choices : SinkChoices) (f : Forest) (host template : ℕ) (attrs : List AttributeText) → IsForest f → IsNode f host → IsNode f template → Rearranges f (attach choices host template attrs f)
attach_rearranges choices f host template attrs k a b = at (choices.attaches f host template attrs) refl
  where
    at : (c : Bool) → choices.attaches f host template attrs ≡ c → Rearranges f (attach_where c choices host template attrs f)
    at true e = choices.attach_rearranges f host template attrs k a b e
    at false e = rearranges_refl f k
