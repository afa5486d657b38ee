-- What changes leave of a forest and its open elements.
use Rattle.std.proofs.Common.{◌≡◌, inl, inr, ℕ, List, [], ◌∷◌, codes, Option, Some, None, Result, Ok, Err, OnOk, OnErr, IsTrue, refl, ap, sym, subst, ◌∙◌}
use Rattle.h5_interface.specs.Ancestors.{AtOrAbove}
use Rattle.h5_interface.specs.Forest.{ElementNode, Forest, HasContents, IsElement, IsForest, IsNode, kind_of, parent_of}
use Rattle.h5_interface.specs.NewElement.{is_html_template}
use Rattle.h5_interface.specs.Seen.{Seen, changed}
use Rattle.h5_interface.specs.SinkChoices.{Rearranges}
use Rattle.h5_interface.proofs.ForestLaws.{ancestor_is_node, document_is_node, node_of_kind, rearranged_ancestor, rearranges_refl}
use Rattle.h5_builder_spec.specs.formatting.FormattingList.{ElementEntry, Entry, MarkerEntry}
use Rattle.h5_builder_spec.specs.formatting.FormattingNames.{AllOfTags, html_name}
use Rattle.h5_builder_spec.specs.stack.Order.{Before, IsIn, but_first, first_or, last_or}
use Rattle.h5_builder_spec.specs.Sound.{AllStand, IsHtml, RootIsTop, Sound, Stands}
use Rattle.h5_builder_spec.specs.World.{World, name_in, name_of_found, root}

-- an element is a node
pub element_is_node : (f : Forest) (n : ℕ) → IsElement f n → IsNode f n
element_is_node f n e = node_of_kind f n (ElementNode e.0) e.1

before_second : (s : List ℕ) (x y : ℕ) → Before s x y → IsIn y s
before_second [] x y h = absurd h
before_second (n ∷ s) x y (inl h) = inr h.1
before_second (n ∷ s) x y (inr h) = inr (before_second s x y h)

-- a rearranged forest keeps the names of its nodes
pub name_kept : (f g : Forest) (n : ℕ) → Rearranges f g → IsNode f n → name_in g n ≡ name_in f n
name_kept f g n r there = ap name_of_found (r.same_kind n there)

-- what was sound stays sound after a rearrangement
pub stands_rearranged : (f g : Forest) (s : List ℕ) → Stands f s → Rearranges f g → Stands g s
stands_rearranged f g s k r = record {
  is_forest = r.is_forest;
  elements = λ n h. let e = k.elements n h in (e.0, r.same_kind n (element_is_node f n e) ∙ e.1);
  ordered = record { newer = λ x y b h. newer x y b h };
  templates = λ n h t. r.contents n (k.templates n h (ap is_html_template (sym (name_kept f g n r (element_is_node f n (k.elements n h)))) ∙ t));
}
  where
    newer : (x y : ℕ) → Before s x y → AtOrAbove (parent_of g) x y → ⊥
    newer x y b (inl e) = k.ordered.newer x y b (inl e)
    newer x y b (inr a) = k.ordered.newer x y b (inr (rearranged_ancestor f g x y k.is_forest r (element_is_node f y (k.elements y (before_second s x y b))) a))

-- a new element is pushed
pub stands_pushed : (f g : Forest) (n : ℕ) (s : List ℕ) → Stands f s → Rearranges f g → f.node n ≡ None → IsElement g n → (IsTrue (is_html_template (name_in g n)) → HasContents g n) → Stands g (n ∷ s)
stands_pushed f g n s k r new element template =
    let kept = stands_rearranged f g s k r in
    record {
      is_forest = r.is_forest;
      elements = λ m h. elements kept m h;
      ordered = record { newer = λ x y b h. newer kept x y b h };
      templates = λ m h t. templates kept m h t;
    }
  where
    elements : Stands g s → (m : ℕ) → IsIn m (n ∷ s) → IsElement g m
    elements kept m (inl e) = subst (IsElement g) (sym e) element
    elements kept m (inr h) = kept.elements m h

    templates : Stands g s → (m : ℕ) → IsIn m (n ∷ s) → IsTrue (is_html_template (name_in g m)) → HasContents g m
    templates kept m (inl e) t = subst (HasContents g) (sym e) (template (subst (λ x. IsTrue (is_html_template (name_in g x))) e t))
    templates kept m (inr h) t = kept.templates m h t

    newer : Stands g s → (x y : ℕ) → Before (n ∷ s) x y → AtOrAbove (parent_of g) x y → ⊥
    newer kept x y (inl b) (inl e) = element_is_node f y (k.elements y b.1) (subst (λ z. f.node z ≡ None) (sym b.0 ∙ e) new)
    newer kept x y (inl b) (inr a) =
        ancestor_is_node f x y k.is_forest (rearranged_ancestor f g x y k.is_forest r (element_is_node f y (k.elements y b.1)) a) (subst (λ z. f.node z ≡ None) (sym b.0) new)
    newer kept x y (inr b) h = kept.ordered.newer x y b h

-- fewer are open
pub stands_tail : (f : Forest) (n : ℕ) (s : List ℕ) → Stands f (n ∷ s) → Stands f s
stands_tail f n s k = record {
  is_forest = k.is_forest;
  elements = λ m h. k.elements m (inr h);
  ordered = record { newer = λ x y b. k.ordered.newer x y (inr b) };
  templates = λ m h. k.templates m (inr h);
}

-- the current node and the root are nodes
pub first_is_node : (f : Forest) (s : List ℕ) → Stands f s → IsNode f (first_or f.document s)
first_is_node f [] k = document_is_node f k.is_forest
first_is_node f (n ∷ s) k = element_is_node f n (k.elements n (inl refl))

pub last_is_node : (f : Forest) (d : ℕ) (s : List ℕ) → IsNode f d → ((n : ℕ) → IsIn n s → IsElement f n) → IsNode f (last_or d s)
last_is_node f d [] there k = there
last_is_node f d (n ∷ s) there k = last_is_node f n s (element_is_node f n (k n (inl refl))) (λ m h. k m (inr h))

pub root_is_node : (w : World) → Sound w → IsNode w.forest (root w)
root_is_node w k = last_is_node w.forest w.forest.document w.stack (document_is_node w.forest k.stands.is_forest) k.stands.elements

-- what a forest that was rearranged keeps of a node
html_kept : (f g : Forest) (local : List ℕ) (n : ℕ) → Rearranges f g → IsHtml f local n → IsHtml g local n
html_kept f g local n r e = r.same_kind n (node_of_kind f n (ElementNode (html_name local)) e) ∙ e

pub element_kept : (f g : Forest) (n : ℕ) → Rearranges f g → IsElement f n → IsElement g n
element_kept f g n r e = (e.0, html_kept_kind e)
  where
    html_kept_kind : (e : IsElement f n) → kind_of g n ≡ Some (ElementNode e.0)
    html_kept_kind e = r.same_kind n (element_is_node f n e) ∙ e.1

pub listed_kept : (f g : Forest) (l : List Entry) → Rearranges f g → AllOfTags f l → AllOfTags g l
listed_kept f g [] r k = tt
listed_kept f g (MarkerEntry ∷ l) r k = listed_kept f g l r k
listed_kept f g (ElementEntry n t ∷ l) r k = (html_kept f g t.name n r k.0, listed_kept f g l r k.1)

top_kept : (f g : Forest) (s : List ℕ) → Rearranges f g → ((n : ℕ) → IsIn n s → IsElement f n) → RootIsTop f s → RootIsTop g s
top_kept f g [] r there k = tt
top_kept f g (n ∷ []) r there k = λ p e. k p (r.parents n p (element_is_node f n (there n (inl refl))) e) ∙ sym r.same_document
top_kept f g (n ∷ m ∷ s) r there k = top_kept f g (m ∷ s) r (λ x h. there x (inr h)) k

top_tail : (f : Forest) (n : ℕ) (s : List ℕ) → RootIsTop f (n ∷ s) → RootIsTop f s
top_tail f n [] k = tt
top_tail f n (m ∷ s) k = k

module _ {l : List Entry} {head form context : Option ℕ} where
  -- the world is sound after a rearrangement
  pub all_rearranged : (f g : Forest) (s : List ℕ) → AllStand f s l head form context → Rearranges f g → AllStand g s l head form context
  all_rearranged f g s k r = record {
    stands = stands_rearranged f g s k.stands r;
    root_top = top_kept f g s r k.stands.elements k.root_top;
    head_node = λ n e. html_kept f g (codes "head") n r (k.head_node n e);
    form_node = λ n e. element_kept f g n r (k.form_node n e);
    form_name = λ n e h. html_kept f g (codes "form") n r (k.form_name n e h);
    apart = k.apart;
    context_node = λ n e. element_kept f g n r (k.context_node n e);
    context_out = k.context_out;
    context_no_head = k.context_no_head;
    listed = listed_kept f g l r k.listed;
    formatting = k.formatting;
  }

  -- fewer are open
  pub all_tail : (f : Forest) (n : ℕ) (s : List ℕ) → AllStand f (n ∷ s) l head form context → AllStand f s l head form context
  all_tail f n s k = record {
    stands = stands_tail f n s k.stands;
    root_top = top_tail f n s k.root_top;
    head_node = k.head_node;
    form_node = k.form_node;
    form_name = λ m e h. k.form_name m e (inr h);
    apart = k.apart;
    context_node = k.context_node;
    context_out = λ m e h. k.context_out m e (inr h);
    context_no_head = k.context_no_head;
    listed = k.listed;
    formatting = k.formatting;
  }

  pub all_but_first : (f : Forest) (s : List ℕ) → AllStand f s l head form context → AllStand f (but_first s) l head form context
  all_but_first f [] k = k
  all_but_first f (n ∷ s) k = all_tail f n s k

  -- a new element is pushed; the first one is below the document
  pub all_pushed : (f g : Forest) (n : ℕ) (s : List ℕ) → AllStand f s l head form context → Rearranges f g → f.node n ≡ None → IsElement g n → (IsTrue (is_html_template (name_in g n)) → HasContents g n)
      → (s ≡ [] → (p : ℕ) → parent_of g n ≡ Some p → p ≡ g.document) → AllStand g (n ∷ s) l head form context
  all_pushed f g n s k r new element template top =
      let kept = all_rearranged f g s k r in
      record {
        stands = stands_pushed f g n s k.stands r new element template;
        root_top = at s refl kept.root_top;
        head_node = kept.head_node;
        form_node = kept.form_node;
        form_name = λ m e h. named kept m e h;
        apart = k.apart;
        context_node = kept.context_node;
        context_out = λ m e h. out kept m e h;
        context_no_head = kept.context_no_head;
        listed = kept.listed;
        formatting = k.formatting;
      }
    where
      at : (t : List ℕ) → s ≡ t → RootIsTop g t → RootIsTop g (n ∷ t)
      at [] e h = top e
      at (m ∷ t) e h = h

      named : AllStand g s l head form context → (m : ℕ) → form ≡ Some m → IsIn m (n ∷ s) → IsHtml g (codes "form") m
      named kept m e (inl same) = absurd (element_is_node f m (k.form_node m e) (subst (λ x. f.node x ≡ None) (sym same) new))
      named kept m e (inr h) = kept.form_name m e h

      out : AllStand g s l head form context → (m : ℕ) → context ≡ Some m → ¬ (IsIn m (n ∷ s))
      out kept m e (inl same) = element_is_node f m (k.context_node m e) (subst (λ x. f.node x ≡ None) (sym same) new)
      out kept m e (inr h) = kept.context_out m e h

-- a call that may be refused: the forest is rearranged or as it was
pub rearranged_or_not : {T E : Type 0} (r : Result T E) (old new : Seen) (change : Forest → Forest) → OnOk r (new ≡ changed change old) → OnErr r (new ≡ old) → IsForest old.forest → Rearranges old.forest (change old.forest) → Rearranges old.forest new.forest
rearranged_or_not (Ok x) old new change ok er k h = subst (λ (s : Seen). Rearranges old.forest s.forest) (sym ok) h
rearranged_or_not (Err x) old new change ok er k h = subst (λ (s : Seen). Rearranges old.forest s.forest) (sym er) (rearranges_refl old.forest k)

pub errors_or_not : {T E : Type 0} (r : Result T E) (old new : Seen) (change : Forest → Forest) → OnOk r (new ≡ changed change old) → OnErr r (new ≡ old) → new.errors ≡ old.errors
errors_or_not (Ok x) old new change ok er = ap (λ (s : Seen). s.errors) ok
errors_or_not (Err x) old new change ok er = ap (λ (s : Seen). s.errors) er
