-- The forests while a small tree is built.
use Rattle.std.proofs.Common.{◌≡◌, ◌≢◌, ◌∙◌, ℕ, Bool, true, false, List, [], ◌∷◌, ◌++◌, ap, inl, inr, refl, subst, sym}
use Rattle.std.specs.Prelude.{◌==◌, Option, None, Some}
use Rattle.std.proofs.lemmas.Bool.{eq-eqb, eqb-true}
use Rattle.h5_names.specs.declared.qualified.QualName.{QualName}
use Rattle.h5_names.specs.AttributeText.{AttributeText}
use Rattle.h5_interface.specs.Ancestors.{AtOrAbove}
use Rattle.h5_interface.specs.Changes.{append_node, append_text}
use Rattle.h5_interface.specs.Forest.{ChildNode, ChildText, CommentNode, DocumentNode, ElementNode, Forest, IsForest, IsNode, Node, children_of, parent_of}
use Rattle.h5_interface.specs.Seen.{CanAppend, Seen, after_append, after_create, after_create_element, element, make, no_flags, plain}
use Rattle.h5_interface.specs.SinkChoices.{Rearranges, SinkChoices}
use Rattle.h5_interface.specs.SmallTree.{IsSmallTree}
use Rattle.h5_interface.proofs.ChildLaws.{joined-append_node}
use Rattle.h5_interface.proofs.ForestLaws.{ancestor_is_node, document_is_node, rearranged_ancestor, rearranged_node, rearranges_trans}
use Rattle.h5_interface.proofs.HangingLaws.{append_text_rearranges}
use Rattle.h5_interface.proofs.MakingLaws.{append_new_rearranges, element_lone, make_rearranges, new_is_free, new_is_node, new_kind, new_parent, old_is_node, plain_lone}

-- the element is made, gets its text, then the comment is made, and comes below the element
abbrev pub with_root : SinkChoices → QualName → List AttributeText → Forest → Forest
with_root choices name attrs f = make choices (element name attrs no_flags) f

abbrev pub with_text : SinkChoices → QualName → List AttributeText → List ℕ → Forest → Forest
with_text choices name attrs t f = append_text (choices.fresh f) t (with_root choices name attrs f)

abbrev pub with_note : SinkChoices → QualName → List AttributeText → List ℕ → List ℕ → Forest → Forest
with_note choices name attrs t u f = make choices (plain (CommentNode u)) (with_text choices name attrs t f)

abbrev pub with_both : SinkChoices → QualName → List AttributeText → List ℕ → List ℕ → Forest → Forest
with_both choices name attrs t u f = append_node (choices.fresh f) (choices.fresh (with_text choices name attrs t f)) (with_note choices name attrs t u f)

root_made : (choices : SinkChoices) (name : QualName) (attrs : List AttributeText) (f : Forest) → IsForest f → Rearranges f (with_root choices name attrs f)
root_made choices name attrs f k = make_rearranges choices f (element name attrs no_flags) k (element_lone name attrs no_flags)

pub can_append_text : (choices : SinkChoices) (name : QualName) (attrs : List AttributeText) (t : List ℕ) (f : Forest) → t ≢ [] → CanAppend (with_root choices name attrs f) (choices.fresh f) (ChildText t)
can_append_text choices name attrs t f full = record { is_node = new_is_node f (choices.fresh f) (element name attrs no_flags); child = full }

text_put : (choices : SinkChoices) (name : QualName) (attrs : List AttributeText) (t : List ℕ) (f : Forest) → IsForest f → t ≢ [] → Rearranges (with_root choices name attrs f) (with_text choices name attrs t f)
text_put choices name attrs t f k full = append_text_rearranges (with_root choices name attrs f) (choices.fresh f) t (root_made choices name attrs f k).is_forest (can_append_text choices name attrs t f full)

root_with_text : (choices : SinkChoices) (name : QualName) (attrs : List AttributeText) (t : List ℕ) (f : Forest) → IsForest f → t ≢ [] → IsNode (with_text choices name attrs t f) (choices.fresh f)
root_with_text choices name attrs t f k full =
    rearranged_node (with_root choices name attrs f) (with_text choices name attrs t f) (choices.fresh f) (text_put choices name attrs t f k full) (new_is_node f (choices.fresh f) (element name attrs no_flags))

pub can_append_note : (choices : SinkChoices) (name : QualName) (attrs : List AttributeText) (t u : List ℕ) (f : Forest) → IsForest f → t ≢ [] → CanAppend (with_note choices name attrs t u f) (choices.fresh f) (ChildNode (choices.fresh (with_text choices name attrs t f)))
can_append_note choices name attrs t u f k full =
    let g : Forest = with_text choices name attrs t f in
    let kept : IsForest g = (text_put choices name attrs t f k full).is_forest in
    let there : IsNode g (choices.fresh f) = root_with_text choices name attrs t f k full in
    record {
      is_node = old_is_node g (choices.fresh g) (choices.fresh f) (plain (CommentNode u)) there;
      child = new_is_free g (choices.fresh g) (choices.fresh f) (plain (CommentNode u)) kept (choices.fresh_is_new g kept) (plain_lone (CommentNode u)) (λ e. cc) there;
    }

note_put : (choices : SinkChoices) (name : QualName) (attrs : List AttributeText) (t u : List ℕ) (f : Forest) → IsForest f → t ≢ [] → Rearranges (with_root choices name attrs f) (with_both choices name attrs t u f)
note_put choices name attrs t u f k full =
    let g : Forest = with_text choices name attrs t f in
    let kept : IsForest g = (text_put choices name attrs t f k full).is_forest in
    rearranges_trans (with_root choices name attrs f) g (with_both choices name attrs t u f) (text_put choices name attrs t f k full)
    (append_new_rearranges g (choices.fresh g) (choices.fresh f) (plain (CommentNode u)) kept (choices.fresh_is_new g kept) (plain_lone (CommentNode u)) (λ e. cc) (root_with_text choices name attrs t f k full))

pub can_append_root : (choices : SinkChoices) (name : QualName) (attrs : List AttributeText) (t u : List ℕ) (f : Forest) → IsForest f → t ≢ [] → CanAppend (with_both choices name attrs t u f) f.document (ChildNode (choices.fresh f))
can_append_root choices name attrs t u f k full = record {
  is_node = rearranged_node f g f.document (rearranges_trans f (with_root choices name attrs f) g (root_made choices name attrs f k) put) there;
  child = record {
    is_node = rearranged_node (with_root choices name attrs f) g (choices.fresh f) put made;
    no_document = λ e. let w : Some (ElementNode name) ≡ Some DocumentNode = sym (new_kind f (choices.fresh f) (element name attrs no_flags)) ∙ sym (put.same_kind (choices.fresh f) made) ∙ e in cc;
    no_parent = lone (parent_of g (choices.fresh f)) refl;
    not_above = apart;
  };
}
  where
    g : Forest
    g = with_both choices name attrs t u f

    put : Rearranges (with_root choices name attrs f) (with_both choices name attrs t u f)
    put = note_put choices name attrs t u f k full

    there : IsNode f f.document
    there = document_is_node f k

    made : IsNode (with_root choices name attrs f) (choices.fresh f)
    made = new_is_node f (choices.fresh f) (element name attrs no_flags)

    lone : (o : Option ℕ) → parent_of g (choices.fresh f) ≡ o → o ≡ None
    lone None e = refl
    lone (Some p) e =
        let w : None ≡ Some p = sym (new_parent f (choices.fresh f) (element name attrs no_flags) (element_lone name attrs no_flags)) ∙ put.parents (choices.fresh f) p made e in cc

    apart : ¬ (AtOrAbove (parent_of g) (choices.fresh f) f.document)
    apart (inl e) = there (rw (← e) (choices.fresh_is_new f k))
    apart (inr h) =
        ancestor_is_node f (choices.fresh f) f.document k
        (rearranged_ancestor f g (choices.fresh f) f.document k (rearranges_trans f (with_root choices name attrs f) g (root_made choices name attrs f k) put) there h)
        (choices.fresh_is_new f k)

apart_from : (f : Forest) (n m : ℕ) → f.node n ≡ None → IsNode f m → (b : Bool) → (m == n) ≡ b → (m == n) ≡ false
apart_from f n m new there true w = absurd (there (rw (eqb-true m n w) new))
apart_from f n m new there false w = w

other_way : (n m : ℕ) (b : Bool) → (n == m) ≡ false → (m == n) ≡ b → (m == n) ≡ false
other_way n m true e w = let v : (n == m) ≡ true = eq-eqb n m (sym (eqb-true m n w)) in let z : false ≡ true = sym e ∙ v in cc
other_way n m false e w = w

unlike : (n m : ℕ) (b : Bool) → (n == m) ≡ b → n ≢ m → (n == m) ≡ false
unlike n m true w h = absurd (h (eqb-true n m w))
unlike n m false w h = w

pub small_tree : (choices : SinkChoices) (name : QualName) (attrs : List AttributeText) (t u : List ℕ) (f : Forest) → IsForest f → t ≢ [] → IsSmallTree f (append_node f.document (choices.fresh f) (with_both choices name attrs t u f)) (choices.fresh f) name attrs t u
small_tree choices name attrs t u f k full = record {
  note = c;
  root_is_new = choices.fresh_is_new f k;
  note_is_new = gone (f.node c) refl;
  same_document = refl;
  in_document = in_document (f.node d) refl;
  root_node = rw (eq-eqb e e refl, e_d, e_c) refl;
  note_node = rw (eq-eqb c c refl, c_e, c_d) refl;
  others = λ n a b h. other n (unlike n e (n == e) refl a) (unlike n c (n == c) refl b) (unlike n d (n == d) refl h) (f.node n) refl;
}
  where
    g : Forest
    g = with_text choices name attrs t f

    kept : IsForest g
    kept = (text_put choices name attrs t f k full).is_forest

    both : Rearranges f (with_text choices name attrs t f)
    both = rearranges_trans f (with_root choices name attrs f) g (root_made choices name attrs f k) (text_put choices name attrs t f k full)

    e : ℕ
    e = choices.fresh f

    c : ℕ
    c = choices.fresh (with_text choices name attrs t f)

    d : ℕ
    d = f.document

    d_e : (d == e) ≡ false
    d_e = apart_from f e d (choices.fresh_is_new f k) (document_is_node f k) (d == e) refl

    e_c : (e == c) ≡ false
    e_c = apart_from g c e (choices.fresh_is_new g kept) (root_with_text choices name attrs t f k full) (e == c) refl

    d_c : (d == c) ≡ false
    d_c = apart_from g c d (choices.fresh_is_new g kept) (rearranged_node f g d both (document_is_node f k)) (d == c) refl

    e_d : (e == d) ≡ false
    e_d = other_way d e (e == d) d_e refl

    c_e : (c == e) ≡ false
    c_e = other_way e c (c == e) e_c refl

    c_d : (c == d) ≡ false
    c_d = other_way d c (c == d) d_c refl

    gone : (o : Option Node) → f.node c ≡ o → o ≡ None
    gone None w = refl
    gone (Some x) w = absurd (rearranged_node f g c both (λ z. let v : Some x ≡ None = sym w ∙ z in cc) (choices.fresh_is_new g kept))

    other : (n : ℕ) → (n == e) ≡ false → (n == c) ≡ false → (n == d) ≡ false → (o : Option Node) → f.node n ≡ o → (append_node d e (with_both choices name attrs t u f)).node n ≡ f.node n
    other n x y z None w = rw (x, y, z, w) refl
    other n x y z (Some v) w = rw (x, y, z, w) refl

    in_document : (o : Option Node) → f.node d ≡ o → children_of (append_node d e (with_both choices name attrs t u f)) d ≡ children_of f d ++ ChildNode e ∷ []
    in_document None w = absurd (document_is_node f k w)
    in_document (Some x) w = rw (d_e, d_c, eq-eqb d d refl, w) (joined-append_node x.children e (rw w at (k.parted d)))

-- as above, but as the sink shows it step by step
pub shows_root : (choices : SinkChoices) (name : QualName) (attrs : List AttributeText) (t u : List ℕ) (s0 s1 s2 s3 : Seen) (h n : ℕ)
    → h ≡ choices.fresh s0.forest → s1 ≡ after_create_element choices name attrs no_flags s0 → s2 ≡ after_append h (ChildText t) s1
    → n ≡ choices.fresh s2.forest → s3 ≡ after_create choices (CommentNode u) s2 → IsForest s0.forest → t ≢ [] → CanAppend s3.forest h (ChildNode n)
shows_root choices name attrs t u s0 s1 s2 s3 h n eh e1 e2 en e3 k full = rw (e3, en, e2, e1, eh) (can_append_note choices name attrs t u s0.forest k full)

shows_both : (choices : SinkChoices) (name : QualName) (attrs : List AttributeText) (t u : List ℕ) (s0 s1 s2 s3 s4 : Seen) (h n : ℕ)
    → h ≡ choices.fresh s0.forest → s1 ≡ after_create_element choices name attrs no_flags s0 → s2 ≡ after_append h (ChildText t) s1
    → n ≡ choices.fresh s2.forest → s3 ≡ after_create choices (CommentNode u) s2 → s4 ≡ after_append h (ChildNode n) s3 → s4.forest ≡ with_both choices name attrs t u s0.forest
shows_both choices name attrs t u s0 s1 s2 s3 s4 h n eh e1 e2 en e3 e4 = rw (e4, e3, en, e2, e1, eh) refl

pub shows_free : (choices : SinkChoices) (name : QualName) (attrs : List AttributeText) (t u : List ℕ) (s0 s1 s2 s3 s4 : Seen) (h n d m : ℕ)
    → h ≡ choices.fresh s0.forest → s1 ≡ after_create_element choices name attrs no_flags s0 → s2 ≡ after_append h (ChildText t) s1
    → n ≡ choices.fresh s2.forest → s3 ≡ after_create choices (CommentNode u) s2 → s4 ≡ after_append h (ChildNode n) s3
    → d ≡ s0.forest.document → m ≡ h → IsForest s0.forest → t ≢ [] → CanAppend s4.forest d (ChildNode m)
shows_free choices name attrs t u s0 s1 s2 s3 s4 h n d m eh e1 e2 en e3 e4 ed em k full =
    rw (shows_both choices name attrs t u s0 s1 s2 s3 s4 h n eh e1 e2 en e3 e4, ed, em, eh) (can_append_root choices name attrs t u s0.forest k full)

pub shows_tree : (choices : SinkChoices) (name : QualName) (attrs : List AttributeText) (t u : List ℕ) (s0 s1 s2 s3 s4 s5 : Seen) (h n d m : ℕ)
    → h ≡ choices.fresh s0.forest → s1 ≡ after_create_element choices name attrs no_flags s0 → s2 ≡ after_append h (ChildText t) s1
    → n ≡ choices.fresh s2.forest → s3 ≡ after_create choices (CommentNode u) s2 → s4 ≡ after_append h (ChildNode n) s3
    → d ≡ s0.forest.document → m ≡ h → s5 ≡ after_append d (ChildNode m) s4 → IsForest s0.forest → t ≢ [] → IsSmallTree s0.forest s5.forest h name attrs t u
shows_tree choices name attrs t u s0 s1 s2 s3 s4 s5 h n d m eh e1 e2 en e3 e4 ed em e5 k full =
    subst (λ g. IsSmallTree s0.forest g h name attrs t u) (sym last) (rw eh (small_tree choices name attrs t u s0.forest k full))
  where
    last : s5.forest ≡ append_node s0.forest.document (choices.fresh s0.forest) (with_both choices name attrs t u s0.forest)
    last = ap (λ s. s.forest) e5 ∙ rw (shows_both choices name attrs t u s0 s1 s2 s3 s4 h n eh e1 e2 en e3 e4, ed, em, eh) refl
