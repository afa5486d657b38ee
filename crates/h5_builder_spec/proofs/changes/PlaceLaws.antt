-- The place of insertion is there, and what putting something there leaves.
use Rattle.std.proofs.Common.{◌≡◌, ◌≢◌, inl, inr, ℕ, Bool, true, false, ◌==◌, cond, List, [], ◌∷◌, ◌&&◌, codes, Option, Some, None, IsTrue, option_map, option_and_then, refl, ap, sym, subst, ◌∙◌}
use Rattle.std.proofs.lemmas.Bool.{eq-eqb}
use Rattle.std.specs.Prelude.{unwrap_or}
use Rattle.h5_names.specs.AttributeText.{AttributeText}
use Rattle.h5_names.specs.declared.qualified.QualName.{QualName}
use Rattle.h5_interface.specs.Forest.{Child, ChildNode, ChildText, CommentNode, DocumentNode, ElementNode, Forest, FragmentNode, HasContents, IsElement, IsForest, IsNode, Node, contents_of, kind_of, parent_of}
use Rattle.h5_interface.specs.Ancestors.{AtOrAbove}
use Rattle.h5_interface.specs.NewElement.{flags_of, is_html_template}
use Rattle.h5_interface.specs.Seen.{CanStandBy, IsFreeFor, make, make_element, plain, with_child_by}
use Rattle.h5_interface.specs.SinkChoices.{Rearranges, SinkChoices}
use Rattle.h5_interface.proofs.CallLaws.{child_by_keeps, child_by_rehangs, last_child_keeps, last_child_rehangs}
use Rattle.h5_interface.proofs.ForestLaws.{contents_are_node, node_of_kind, rearranged_node, rearranges_refl, rearranges_trans}
use Rattle.h5_interface.proofs.HangingLaws.{append_text_rearranges, insert_text_rearranges}
use Rattle.h5_interface.proofs.MakingLaws.{hung_fresh_rearranges, make_element_rearranges, make_rearranges, mark_rearranges, made_contents, made_is_free, made_kind, new_is_free}
use Rattle.h5_interface.proofs.RehangLaws.{Rehangs}
use Rattle.h5_interface.proofs.CallLaws.{is_child}
use Rattle.h5_tables.specs.TagSets.{html_namespace, is_table_outer}
use Rattle.h5_builder_spec.specs.stack.Order.{IsIn, first_or}
use Rattle.h5_builder_spec.specs.Changes.{clear_form, insert_and_pop_element, insert_and_pop_form, insert_element, insert_form, insert_head, new_comment, new_element, owned}
use Rattle.h5_builder_spec.specs.insertion.FormOwner.{Marking, marked_by}
use Rattle.h5_builder_spec.specs.insertion.Place.{CanPut, IsPlaceIn, LastChild, Place, TableFosterParenting, appropriate_place, foster_place, from_foster_parent, inside, is_foster_parent, place, put}
use Rattle.h5_builder_spec.specs.formatting.FormattingNames.{html_name}
use Rattle.h5_builder_spec.specs.Sound.{AllStand, IsHtml, Sound}
use Rattle.h5_builder_spec.specs.World.{World, current, name_in, name_of_found, names_of, no_name, root}
use Rattle.h5_builder_spec.proofs.changes.SoundLaws.{all_pushed, element_is_node, first_is_node, root_is_node}
use Rattle.h5_builder_spec.specs.stack.Scope.{has_template}

-- the parent of what is put there
abbrev pub parent_at : Forest → Place → ℕ
parent_at f (LastChild p) = p
parent_at f (TableFosterParenting element prev) = unwrap_or (parent_of f element) prev

pub put_rehangs : (f : Forest) (p : Place) (x : Child) → IsForest f → CanPut f p x → Rehangs f (put p x f) (is_child x) (Some (parent_at f p))
put_rehangs f (LastChild p) x k may = last_child_rehangs f p x k may
put_rehangs f (TableFosterParenting element prev) x k may = child_by_rehangs f element prev x k may

pub put_keeps : (f : Forest) (p : Place) (x : Child) → IsForest f → CanPut f p x → IsForest (put p x f)
put_keeps f (LastChild p) x k may = last_child_keeps f p x k may
put_keeps f (TableFosterParenting element prev) x k may = child_by_keeps f element prev x k may

-- the place of insertion

pub inside_is_node : (f : Forest) (n : ℕ) → IsForest f → IsNode f n → IsNode f (inside f n)
inside_is_node f n k there = at (is_html_template (name_in f n)) (contents_of f n) refl
  where
    at : (b : Bool) (o : Option ℕ) → contents_of f n ≡ o → IsNode f (cond b (unwrap_or o n) n)
    at false o e = there
    at true None e = there
    at true (Some c) e = contents_are_node f n c k e

foster_is_place : (f : Forest) (html : ℕ) (s : List ℕ) → IsForest f → IsNode f html → ((n : ℕ) → IsIn n s → IsElement f n) → IsPlaceIn f (foster_place f html (from_foster_parent f s))
foster_is_place f html [] k root there = root
foster_is_place f html (n ∷ s) k root there =
    elim (is_foster_parent (name_in f n)) as (λ b. IsPlaceIn f (foster_place f html (cond b (n ∷ s) (from_foster_parent f s)))) [
      | true ↦ elim (is_html_template (name_in f n)) as (λ b. IsPlaceIn f (cond b (LastChild (inside f n)) (TableFosterParenting n (first_or n s)))) [
        | true ↦ inside_is_node f n k (element_is_node f n (there n (inl refl)))
        | false ↦ (there n (inl refl), below s there)
      ]
      | false ↦ foster_is_place f html s k root (λ m h. there m (inr h))
    ]
  where
    below : (s : List ℕ) → ((m : ℕ) → IsIn m (n ∷ s) → IsElement f m) → IsNode f (first_or n s)
    below [] h = element_is_node f n (h n (inl refl))
    below (m ∷ s) h = element_is_node f m (h m (inr (inl refl)))

pub place_is_there : (w : World) (target : ℕ) → Sound w → IsNode w.forest target → IsPlaceIn w.forest (appropriate_place w target)
unfolding appropriate_place
place_is_there w target k there =
    elim (w.foster && is_table_outer (name_in w.forest target)) as (λ b. IsPlaceIn w.forest (cond b (foster_place w.forest (root w) (from_foster_parent w.forest w.stack)) (LastChild (inside w.forest target)))) [
      | true ↦ foster_is_place w.forest (root w) w.stack k.stands.is_forest (root_is_node w k) k.stands.elements
      | false ↦ inside_is_node w.forest target k.stands.is_forest there
    ]

pub current_place_is_there : (w : World) → Sound w → IsPlaceIn w.forest (place w)
current_place_is_there w k = place_is_there w (current w) k (first_is_node w.forest w.stack k.stands)

-- what was made, and is free for each node that was there, may be put at a place that was there
pub free_can_be_put : (f g : Forest) (p : Place) (n : ℕ) → IsForest f → Rearranges f g → IsPlaceIn f p → ((q : ℕ) → IsNode f q → IsFreeFor g q n) → CanPut g p (ChildNode n)
free_can_be_put f g (LastChild q) n k r there free = record { is_node = rearranged_node f g q r there; child = free q there }
free_can_be_put f g (TableFosterParenting element prev) n k r there free = record {
  element_is_node = rearranged_node f g element r (element_is_node f element there.0);
  prev_is_node = rearranged_node f g prev r there.1;
  child = at (parent_of g element) refl;
}
  where
    kind : kind_of g element ≡ Some (ElementNode there.0.0)
    kind = r.same_kind element (element_is_node f element there.0) ∙ there.0.1

    at : (o : Option ℕ) → parent_of g element ≡ o → CanStandBy o g element prev (ChildNode n)
    at None e = record { is_node = rearranged_node f g prev r there.1; child = free prev there.1 }
    at (Some q) e = record {
      parent = q;
      is_parent = e;
      no_fragment = λ h. let w : Some (ElementNode there.0.0) ≡ Some FragmentNode = sym kind ∙ h in cc;
      child = free q (k.inside q element (r.parents element q (element_is_node f element there.0) e));
    }

fresh_put_rearranges : (choices : SinkChoices) (f g : Forest) (p : Place) → IsForest f → Rearranges f g → CanPut g p (ChildNode (choices.fresh f)) → Rearranges f (put p (ChildNode (choices.fresh f)) g)
fresh_put_rearranges choices f g p k r may =
    hung_fresh_rearranges f g (put p (ChildNode (choices.fresh f)) g) (choices.fresh f) (parent_at g p) (choices.fresh_is_new f k) r
    (put_keeps g p (ChildNode (choices.fresh f)) r.is_forest may)
    (put_rehangs g p (ChildNode (choices.fresh f)) r.is_forest may)

-- what is done to a new element before it is put in its place leaves all but marks
marked_rearranges : (marks : Marking) (f : Forest) → IsForest f → Rearranges f (marked_by marks f)
marked_rearranges None f k = rearranges_refl f k
marked_rearranges (Some marks) f k = mark_rearranges f (marks f) k

marked_parent : (marks : Marking) (f : Forest) (n : ℕ) → parent_of (marked_by marks f) n ≡ parent_of f n
marked_parent None f n = refl
marked_parent (Some marks) f n = at (f.node n)
  where
    at : (o : Option Node) → option_and_then (λ (d : Node). d.parent) (option_map (λ (d : Node). record d { marks = marks f n }) o) ≡ option_and_then (λ (d : Node). d.parent) o
    at None = refl
    at (Some d) = refl

pub marked_kind : (marks : Marking) (f : Forest) (n : ℕ) → kind_of (marked_by marks f) n ≡ kind_of f n
marked_kind None f n = refl
marked_kind (Some marks) f n = at (f.node n)
  where
    at : (o : Option Node) → option_map (λ (d : Node). d.kind) (option_map (λ (d : Node). record d { marks = marks f n }) o) ≡ option_map (λ (d : Node). d.kind) o
    at None = refl
    at (Some d) = refl

marked_free : (marks : Marking) (f : Forest) (q n : ℕ) → IsForest f → IsFreeFor f q n → IsFreeFor (marked_by marks f) q n
marked_free marks f q n k free =
    let r = marked_rearranges marks f k in
    record {
      is_node = rearranged_node f (marked_by marks f) n r free.is_node;
      no_document = subst (λ o. o ≢ Some DocumentNode) (sym (r.same_kind n free.is_node)) free.no_document;
      no_parent = marked_parent marks f n ∙ free.no_parent;
      not_above = subst (λ parents. ¬ (AtOrAbove parents n q)) (λ i m. sym (marked_parent marks f m) i) free.not_above;
    }

-- a new element at a place
module _ (choices : SinkChoices) (f : Forest) (p : Place) (name : QualName) (attrs : List AttributeText) (duplicates : Bool) (marks : Marking) (k : IsForest f) (there : IsPlaceIn f p) where
  abbrev pub made : Forest
  made = marked_by marks (make_element choices name attrs (flags_of name attrs duplicates) f)

  raw_rearranges : Rearranges f (make_element choices name attrs (flags_of name attrs duplicates) f)
  raw_rearranges = make_element_rearranges choices f name attrs (flags_of name attrs duplicates) k

  marking : Rearranges (make_element choices name attrs (flags_of name attrs duplicates) f) made
  marking = marked_rearranges marks (make_element choices name attrs (flags_of name attrs duplicates) f) raw_rearranges.is_forest

  pub made_rearranges : Rearranges f made
  made_rearranges = rearranges_trans f (make_element choices name attrs (flags_of name attrs duplicates) f) made raw_rearranges marking

  pub element_can_be_put : CanPut made p (ChildNode (choices.fresh f))
  element_can_be_put =
      free_can_be_put f made p (choices.fresh f) k made_rearranges there
      (λ q h.
      marked_free marks (make_element choices name attrs (flags_of name attrs duplicates) f) q (choices.fresh f) raw_rearranges.is_forest
      (made_is_free choices f name attrs (flags_of name attrs duplicates) q k h))

  pub new_element_rearranges : Rearranges f (new_element choices p name attrs duplicates marks f)
  new_element_rearranges = fresh_put_rearranges choices f made p k made_rearranges element_can_be_put

  rehangs : Rehangs made (new_element choices p name attrs duplicates marks f) (λ n. n == choices.fresh f) (Some (parent_at made p))
  rehangs = put_rehangs made p (ChildNode (choices.fresh f)) made_rearranges.is_forest element_can_be_put

  pub new_element_kind : kind_of (new_element choices p name attrs duplicates marks f) (choices.fresh f) ≡ Some (ElementNode name)
  new_element_kind =
      let kind = made_kind choices f name attrs (flags_of name attrs duplicates) k in
      rehangs.kinds (choices.fresh f) ∙ marking.same_kind (choices.fresh f) (node_of_kind (make_element choices name attrs (flags_of name attrs duplicates) f) (choices.fresh f) (ElementNode name) kind) ∙ kind

  pub new_element_parent : parent_of (new_element choices p name attrs duplicates marks f) (choices.fresh f) ≡ Some (parent_at made p)
  new_element_parent = rehangs.parents (choices.fresh f) ∙ ap (λ b. cond b (Some (parent_at made p)) (parent_of made (choices.fresh f))) (eq-eqb (choices.fresh f) (choices.fresh f) refl)

  pub new_element_contents : IsTrue (is_html_template (name_in (new_element choices p name attrs duplicates marks f) (choices.fresh f))) → HasContents (new_element choices p name attrs duplicates marks f) (choices.fresh f)
  new_element_contents t =
      rehangs.contents (choices.fresh f)
      (marking.contents (choices.fresh f) (made_contents choices f name attrs (flags_of name attrs duplicates) (ap (λ x. is_html_template (name_of_found x)) (sym new_element_kind) ∙ t)))

-- a new comment at a place
pub comment_can_be_put : (choices : SinkChoices) (f : Forest) (p : Place) (t : List ℕ) → IsForest f → IsPlaceIn f p → CanPut (make choices (plain (CommentNode t)) f) p (ChildNode (choices.fresh f))
comment_can_be_put choices f p t k there =
    free_can_be_put f (make choices (plain (CommentNode t)) f) p (choices.fresh f) k (make_rearranges choices f (plain (CommentNode t)) k (record { children = refl; contents = refl; parent = refl })) there
    (λ q h. new_is_free f (choices.fresh f) q (plain (CommentNode t)) k (choices.fresh_is_new f k) (record { children = refl; contents = refl; parent = refl }) (λ e. cc) h)

pub new_comment_rearranges : (choices : SinkChoices) (f : Forest) (p : Place) (t : List ℕ) → IsForest f → IsPlaceIn f p → Rearranges f (new_comment choices p t f)
new_comment_rearranges choices f p t k there =
    fresh_put_rearranges choices f (make choices (plain (CommentNode t)) f) p k (make_rearranges choices f (plain (CommentNode t)) k (record { children = refl; contents = refl; parent = refl }))
    (comment_can_be_put choices f p t k there)

-- a text at a place
pub text_can_be_put : (f : Forest) (p : Place) (t : List ℕ) → IsForest f → t ≢ [] → IsPlaceIn f p → CanPut f p (ChildText t)
text_can_be_put f (LastChild q) t k some there = record { is_node = there; child = some }
text_can_be_put f (TableFosterParenting element prev) t k some there = record {
  element_is_node = element_is_node f element there.0;
  prev_is_node = there.1;
  child = at (parent_of f element) refl;
}
  where
    at : (o : Option ℕ) → parent_of f element ≡ o → CanStandBy o f element prev (ChildText t)
    at None e = record { is_node = there.1; child = some }
    at (Some q) e = record {
      parent = q;
      is_parent = e;
      no_fragment = λ h. let w : Some (ElementNode there.0.0) ≡ Some FragmentNode = sym there.0.1 ∙ h in cc;
      child = some;
    }

pub text_put_rearranges : (f : Forest) (p : Place) (t : List ℕ) → IsForest f → t ≢ [] → IsPlaceIn f p → Rearranges f (put p (ChildText t) f)
text_put_rearranges f (LastChild q) t k some there = append_text_rearranges f q t k (record { is_node = there; child = some })
text_put_rearranges f (TableFosterParenting element prev) t k some there = at (parent_of f element) (text_can_be_put f (TableFosterParenting element prev) t k some there).child
  where
    at : (o : Option ℕ) → CanStandBy o f element prev (ChildText t) → Rearranges f (with_child_by o element prev (ChildText t) f)
    at None may = append_text_rearranges f prev t k may
    at (Some q) may = insert_text_rearranges f element t k may

-- an element at a place is pushed, and the world is sound
pub all_inserted : (choices : SinkChoices) (p : Place) (name : QualName) (attrs : List AttributeText) (duplicates : Bool) (marks : Marking) (w : World) → Sound w → IsPlaceIn w.forest p → (w.stack ≡ [] → p ≡ LastChild w.forest.document)
    → AllStand (new_element choices p name attrs duplicates marks w.forest) (choices.fresh w.forest ∷ w.stack) w.formatting w.head w.form w.context
all_inserted choices p name attrs duplicates marks w k there first =
    let f = w.forest in
    let r = new_element_rearranges choices f p name attrs duplicates marks k.stands.is_forest there in
    let made = marked_by marks (make_element choices name attrs (flags_of name attrs duplicates) f) in
    all_pushed f (new_element choices p name attrs duplicates marks f) (choices.fresh f) w.stack k r (choices.fresh_is_new f k.stands.is_forest)
    (name, new_element_kind choices f p name attrs duplicates marks k.stands.is_forest there)
    (new_element_contents choices f p name attrs duplicates marks k.stands.is_forest there)
    (λ e q h.
    let same : Some (parent_at made p) ≡ Some q = sym (new_element_parent choices f p name attrs duplicates marks k.stands.is_forest there) ∙ h in
    let up : parent_at made p ≡ q = cc in
    sym up ∙ ap (parent_at made) (first e) ∙ sym r.same_document)

-- the element that was pushed last is the head element, where it is a `head`
pub head_stands : (choices : SinkChoices) (attrs : List AttributeText) (duplicates : Bool) (w : World) → Sound w → Sound (insert_element choices (codes "head") attrs duplicates w) → Sound (insert_head choices attrs duplicates w)
unfolding insert_element insert_head
head_stands choices attrs duplicates w k new = record {
  stands = new.stands;
  root_top = new.root_top;
  head_node = λ n e. subst (IsHtml v.forest (codes "head")) (same n e) (new_element_kind choices w.forest (place w) (html_name (codes "head")) attrs duplicates (owned choices (codes "head") attrs w) k.stands.is_forest (current_place_is_there w k));
  form_node = new.form_node;
  form_name = new.form_name;
  apart = λ n e d. element_is_node w.forest n (k.form_node n d) (subst (λ m. w.forest.node m ≡ None) (same n e) (choices.fresh_is_new w.forest k.stands.is_forest));
  context_node = new.context_node;
  context_out = new.context_out;
  context_no_head = λ n e d. element_is_node w.forest n (k.context_node n d) (subst (λ m. w.forest.node m ≡ None) (same n e) (choices.fresh_is_new w.forest k.stands.is_forest));
  listed = new.listed;
  formatting = new.formatting;
}
  where
    v : World
    v = insert_element choices (codes "head") attrs duplicates w

    same : (n : ℕ) → Some (choices.fresh w.forest) ≡ Some n → choices.fresh w.forest ≡ n
    same n e = cc

-- the element that was made last is the form element, where it is a `form`, open or not
pub form_stands : (choices : SinkChoices) (attrs : List AttributeText) (duplicates : Bool) (w : World) → Sound w → Sound (insert_and_pop_element choices (codes "form") attrs duplicates w) → Sound (insert_and_pop_form choices attrs duplicates w)
unfolding insert_and_pop_element insert_and_pop_form
form_stands choices attrs duplicates w k new = record {
  stands = new.stands;
  root_top = new.root_top;
  head_node = new.head_node;
  form_node = λ n e. (html_name (codes "form"), is_form n e);
  form_name = λ n e i. is_form n e;
  apart = λ n e d. node_of_kind w.forest n (ElementNode (html_name (codes "head"))) (k.head_node n e) (subst (λ m. w.forest.node m ≡ None) (same n d) (choices.fresh_is_new w.forest k.stands.is_forest));
  context_node = new.context_node;
  context_out = new.context_out;
  context_no_head = new.context_no_head;
  listed = new.listed;
  formatting = new.formatting;
}
  where
    v : World
    v = insert_and_pop_element choices (codes "form") attrs duplicates w

    same : (n : ℕ) → Some (choices.fresh w.forest) ≡ Some n → choices.fresh w.forest ≡ n
    same n e = cc

    is_form : (n : ℕ) → Some (choices.fresh w.forest) ≡ Some n → IsHtml v.forest (codes "form") n
    is_form n e = subst (IsHtml v.forest (codes "form")) (same n e) (new_element_kind choices w.forest (place w) (html_name (codes "form")) attrs duplicates (owned choices (codes "form") attrs w) k.stands.is_forest (current_place_is_there w k))

-- one that is pushed
pub form_open_stands : (choices : SinkChoices) (attrs : List AttributeText) (duplicates : Bool) (w : World) → Sound w → Sound (insert_element choices (codes "form") attrs duplicates w) → Sound (insert_form choices attrs duplicates w)
unfolding insert_element insert_form
form_open_stands choices attrs duplicates w k new = at (has_template (names_of w))
  where
    v : World
    v = insert_element choices (codes "form") attrs duplicates w

    same : (n : ℕ) → Some (choices.fresh w.forest) ≡ Some n → choices.fresh w.forest ≡ n
    same n e = cc

    is_form : (n : ℕ) → Some (choices.fresh w.forest) ≡ Some n → IsHtml v.forest (codes "form") n
    is_form n e = subst (IsHtml v.forest (codes "form")) (same n e) (new_element_kind choices w.forest (place w) (html_name (codes "form")) attrs duplicates (owned choices (codes "form") attrs w) k.stands.is_forest (current_place_is_there w k))

    at : (b : Bool) → Sound (record v { form = cond b w.form (Some (choices.fresh w.forest)) })
    at true = new
    at false = record {
      stands = new.stands;
      root_top = new.root_top;
      head_node = new.head_node;
      form_node = λ n e. (html_name (codes "form"), is_form n e);
      form_name = λ n e i. is_form n e;
      apart = λ n e d. node_of_kind w.forest n (ElementNode (html_name (codes "head"))) (k.head_node n e) (subst (λ m. w.forest.node m ≡ None) (same n d) (choices.fresh_is_new w.forest k.stands.is_forest));
      context_node = new.context_node;
      context_out = new.context_out;
      context_no_head = new.context_no_head;
      listed = new.listed;
      formatting = new.formatting;
    }

-- there is no form element any more
pub no_form_stands : (w : World) → Sound w → Sound (clear_form w)
no_form_stands w k = record {
  stands = k.stands;
  root_top = k.root_top;
  head_node = k.head_node;
  form_node = λ n e. absurd (cc);
  form_name = λ n e i. absurd (cc);
  apart = λ n e d. cc;
  context_node = k.context_node;
  context_out = k.context_out;
  context_no_head = k.context_no_head;
  listed = k.listed;
  formatting = k.formatting;
}

-- if nothing is open, the place of insertion is the document
pub first_place : (w : World) → IsForest w.forest → w.stack ≡ [] → place w ≡ LastChild w.forest.document
unfolding appropriate_place is_table_outer html_namespace
first_place w k e =
    ap (λ s. appropriate_place w (first_or w.forest.document s)) e ∙ document_place
  where
    no_name_there : name_in w.forest w.forest.document ≡ no_name
    no_name_there = ap name_of_found k.root

    never : (b : Bool) → cond (b && false) (foster_place w.forest (root w) (from_foster_parent w.forest w.stack)) (LastChild w.forest.document) ≡ LastChild w.forest.document
    never true = refl
    never false = refl

    document_place : appropriate_place w w.forest.document ≡ LastChild w.forest.document
    document_place =
        ap (λ (n : QualName). cond (w.foster && is_table_outer n) (foster_place w.forest (root w) (from_foster_parent w.forest w.stack)) (LastChild (cond (is_html_template n) (unwrap_or (contents_of w.forest w.forest.document) w.forest.document) w.forest.document))) no_name_there
        ∙ never w.foster
