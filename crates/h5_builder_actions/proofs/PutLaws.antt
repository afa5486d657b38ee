-- What is put at a place, as it is seen.
use Rattle.std.proofs.Common.{◌≡◌, ℕ, Bool, List, None, Option, Some, Result, Ok, Err, OnOk, OnErr, refl, ap, sym, subst, ◌∙◌}
use Rattle.std.specs.Prelude.{MatchOption, option_map}
use Rattle.std.proofs.lemmas.Option.{same_Some}
use Rattle.h5_names.specs.declared.qualified.QualName.{QualName}
use Rattle.h5_names.specs.AttributeText.{AttributeText}
use Rattle.h5_interface.specs.Changes.{mark}
use Rattle.h5_interface.specs.Forest.{ChildNode, CommentNode, Forest, IsElement, IsForest, IsNode, kind_of}
use Rattle.h5_interface.specs.NewElement.{flags_of}
use Rattle.h5_interface.specs.Seen.{Seen, changed, make, make_element, plain}
use Rattle.h5_interface.specs.SinkChoices.{Rearranges, SinkChoices}
use Rattle.h5_interface.proofs.MakingLaws.{made_kind, make_element_rearranges, make_rearranges, mark_rearranges}
use Rattle.h5_builder_spec.specs.insertion.Place.{CanPut, IsPlaceIn, LastChild, Place, TableFosterParenting, put}
use Rattle.h5_builder_spec.specs.World.{World}
use Rattle.h5_builder_spec.proofs.changes.PlaceLaws.{comment_can_be_put, element_can_be_put, made_rearranges, new_comment_rearranges}
use Rattle.h5_builder_state.proofs.StackLaws.{seen_world}
use Rattle.h5_builder_spec.specs.Changes.{new_element}
use Rattle.h5_builder_spec.specs.insertion.FormOwner.{Marking, marked_by, stands_else_in}
use Rattle.h5_interface.proofs.ForestLaws.{rearranged_node}
use Rattle.h5_builder_spec.proofs.changes.SoundLaws.{element_is_node, element_kept}

-- what is seen is a rearrangement
pub seen_rearranged : (old new : Seen) (change : Forest → Forest) → new ≡ changed change old → Rearranges old.forest (change old.forest) → Rearranges old.forest new.forest
seen_rearranged old new change e r = subst (λ (s : Seen). Rearranges old.forest s.forest) (sym e) r

place_rearranged : (f g : Forest) (p : Place) → Rearranges f g → IsPlaceIn f p → IsPlaceIn g p
place_rearranged f g (LastChild n) r there = rearranged_node f g n r there
place_rearranged f g (TableFosterParenting element prev) r there = (element_kept f g element r there.0, rearranged_node f g prev r there.1)

-- what a place stands else in is a node
pub outer_is_node : {X : Type 0} (f : Forest) (node : X → ℕ) (o : Option X) (p : Place) → option_map node o ≡ stands_else_in p → IsPlaceIn f p → MatchOption o (Unit {0}) (λ x. IsNode f (node x))
outer_is_node f node None p e there = tt
outer_is_node f node (Some x) (LastChild n) e there = absurd (cc)
outer_is_node f node (Some x) (TableFosterParenting element prev) e there = subst (IsNode f) (sym (same_Some (node x) prev e)) there.1

-- a node stays one where nodes are marked
marked_is_node : (f : Forest) (n : ℕ) (marking : Marking) → IsForest f → IsNode f n → IsNode (marked_by marking f) n
marked_is_node f n None k there = there
marked_is_node f n (Some marks) k there = rearranged_node f (mark (marks f) f) n (mark_rearranges f (marks f) k) there

-- a new element, as it was made, marked and put at a place
module _ (choices : SinkChoices) (old mid : Seen) (p : Place) (n : ℕ) (name : QualName) (attrs : List AttributeText) (duplicates : Bool) (marking : ℕ → Place → Marking)
    (made : mid ≡ changed (make_element choices name attrs (flags_of name attrs duplicates)) old) (is : n ≡ choices.fresh old.forest) where
  abbrev pub marks : Marking
  marks = marking (choices.fresh old.forest) p

  module _ (k : IsForest old.forest) where
    pub mid_rearranged : Rearranges old.forest mid.forest
    mid_rearranged = seen_rearranged old mid (make_element choices name attrs (flags_of name attrs duplicates)) made (make_element_rearranges choices old.forest name attrs (flags_of name attrs duplicates) k)

    pub mid_element : IsElement mid.forest n
    mid_element = (name, ap (λ (s : Seen). kind_of s.forest n) made ∙ ap (kind_of (make_element choices name attrs (flags_of name attrs duplicates) old.forest)) is ∙ made_kind choices old.forest name attrs (flags_of name attrs duplicates) k)

  pub place_in_mid : IsForest old.forest → IsPlaceIn old.forest p → IsPlaceIn mid.forest p
  place_in_mid k there = place_rearranged old.forest mid.forest p (mid_rearranged k) there

  module _ (marked : Seen) (e : marked ≡ changed (marked_by (marking n p)) mid) where
    pub marked_seen : marked ≡ changed (λ f. marked_by marks (make_element choices name attrs (flags_of name attrs duplicates) f)) old
    marked_seen = e ∙ ap (λ m. changed (marked_by (marking m p)) mid) is ∙ ap (λ s. changed (marked_by marks) s) made

    pub element_may : (m : ℕ) → m ≡ n → IsForest old.forest → IsPlaceIn old.forest p → CanPut marked.forest p (ChildNode m)
    element_may m same k there =
        subst (λ (s : Seen). CanPut s.forest p (ChildNode m)) (sym marked_seen)
        (subst (λ i. CanPut (marked_by marks (make_element choices name attrs (flags_of name attrs duplicates) old.forest)) p (ChildNode i)) (sym (same ∙ is)) (element_can_be_put choices old.forest p name attrs duplicates marks k there))

    pub element_is_there : IsForest old.forest → IsNode marked.forest n
    element_is_there k =
        subst (λ (s : Seen). IsNode s.forest n) (sym e) (marked_is_node mid.forest n (marking n p) (mid_rearranged k).is_forest (element_is_node mid.forest n (mid_element k)))

    pub marked_rearranged : IsForest old.forest → IsPlaceIn old.forest p → Rearranges old.forest marked.forest
    marked_rearranged k there = seen_rearranged old marked (λ f. marked_by marks (make_element choices name attrs (flags_of name attrs duplicates) f)) marked_seen (made_rearranges choices old.forest p name attrs duplicates marks k there)

    pub element_seen : (new : Seen) (m : ℕ) → m ≡ n → new ≡ changed (put p (ChildNode m)) marked → new ≡ changed (new_element choices p name attrs duplicates marks) old
    element_seen new m same done = done ∙ ap (λ i. changed (put p (ChildNode i)) marked) (same ∙ is) ∙ ap (λ s. changed (put p (ChildNode (choices.fresh old.forest))) s) marked_seen

pub comment_may : (choices : SinkChoices) (old new : Seen) (p : Place) (n : ℕ) (t : List ℕ) → IsForest old.forest → IsPlaceIn old.forest p
    → new ≡ changed (make choices (plain (CommentNode t))) old → n ≡ choices.fresh old.forest → CanPut new.forest p (ChildNode n)
comment_may choices old new p n t k there e h =
    subst (λ (s : Seen). CanPut s.forest p (ChildNode n)) (sym e)
    (subst (λ m. CanPut (make choices (plain (CommentNode t)) old.forest) p (ChildNode m)) (sym h) (comment_can_be_put choices old.forest p t k there))

pub same_seen : (old mid new : Seen) → new ≡ mid → Rearranges old.forest mid.forest → Rearranges old.forest new.forest
same_seen old mid new e r = subst (λ (s : Seen). Rearranges old.forest s.forest) (sym e) r

pub same_world : (w : World) (s t : Seen) (a b : List ℕ) → s ≡ t → a ≡ b → seen_world w s a ≡ seen_world w t b
same_world w s t a b e h = ap (λ x. seen_world w x a) e ∙ ap (seen_world w t) h

-- a comment that was made, and then put at a place or not
pub comment_or_not : {T E : Type 0} (r : Result T E) (choices : SinkChoices) (old mid new : Seen) (p : Place) (n : ℕ) (t : List ℕ) → IsForest old.forest → IsPlaceIn old.forest p
    → mid ≡ changed (make choices (plain (CommentNode t))) old → n ≡ choices.fresh old.forest → OnOk r (new ≡ changed (put p (ChildNode n)) mid) → OnErr r (new ≡ mid) → Rearranges old.forest new.forest
comment_or_not (Ok x) choices old mid new p n t k there m h ok er =
    subst (λ (s : Seen). Rearranges old.forest s.forest)
    (sym (ok ∙ ap (λ s. changed (put p (ChildNode n)) s) m ∙ ap (λ q. changed (put p (ChildNode q)) (changed (make choices (plain (CommentNode t))) old)) h))
    (new_comment_rearranges choices old.forest p t k there)
comment_or_not (Err x) choices old mid new p n t k there m h ok er =
    same_seen old mid new er (seen_rearranged old mid (make choices (plain (CommentNode t))) m (make_rearranges choices old.forest (plain (CommentNode t)) k (record { children = refl; contents = refl; parent = refl })))

-- what holds for a world if there is a result, and what follows from it
pub onok_then : {T E A : Type 0} (r : Result T E) (x y z : A) → OnOk r (x ≡ y) → y ≡ z → OnOk r (x ≡ z)
onok_then (Ok t) x y z p q = p ∙ q
onok_then (Err e) x y z p q = tt
