-- What changes do to the names of open elements.
use Rattle.std.proofs.Common.{◌≡◌, ◌≢◌, inl, inr, ℕ, Bool, true, false, cond, List, [], ◌∷◌, map, Option, Some, None, codes, refl, ap, ◌∙◌}
use Rattle.h5_names.specs.AttributeText.{AttributeText}
use Rattle.h5_names.specs.declared.qualified.QualName.{QualName}
use Rattle.h5_interface.specs.Forest.{ChildText, Forest, IsElement}
use Rattle.h5_interface.specs.SinkChoices.{Rearranges, SinkChoices}
use Rattle.h5_interface.proofs.ForestLaws.{document_is_node}
use Rattle.h5_interface.proofs.MakingLaws.{add_missing_rearranges}
use Rattle.h5_tables.specs.TagSets.{is_cell, is_html_named}
use Rattle.h5_builder_spec.specs.insertion.FormOwner.{Marking}
use Rattle.h5_builder_spec.specs.Changes.{owned, add_attrs_to_html, add_attrs_to_second, add_attrs_at, append_text, append_comment, append_comment_to_doc, append_comment_to_html, pop_until_named, generate_implied_end_except, insert_and_pop_element, insert_and_pop_form, insert_element, insert_head, create_root, new_element, pop, pop_until_current, pop_while, push_new}
use Rattle.h5_builder_spec.specs.stack.Closing.{pop_until_cell}
use Rattle.h5_builder_spec.specs.insertion.Place.{IsPlaceIn, LastChild, Place, place, put}
use Rattle.h5_builder_spec.specs.stack.Order.{IsIn}
use Rattle.h5_builder_spec.specs.stack.Scope.{cut_above, cut_names, cut_through, down_names, drop_while, is_implied_but, later_names}
use Rattle.h5_builder_spec.specs.Sound.{Sound}
use Rattle.h5_builder_spec.specs.World.{World, name_in, name_of_found, names_of, root}
use Rattle.h5_builder_spec.specs.formatting.FormattingNames.{html_name}
use Rattle.h5_builder_spec.specs.stack.Order.{second_from_last}
use Rattle.h5_builder_spec.proofs.changes.PopLaws.{names-pop}
use Rattle.h5_builder_spec.proofs.changes.PlaceLaws.{current_place_is_there, new_comment_rearranges, new_element_kind, new_element_rearranges, text_put_rearranges}
use Rattle.h5_builder_spec.proofs.changes.SoundLaws.{element_is_node, name_kept, root_is_node}

-- a rearranged forest keeps the names of open elements
kept : (f g : Forest) (s : List ℕ) → ((n : ℕ) → IsIn n s → IsElement f n) → Rearranges f g → map (name_in g) s ≡ map (name_in f) s
kept f g [] k r = refl
kept f g (n ∷ s) k r =
    ap (λ x. x ∷ map (name_in g) s) (name_kept f g n r (element_is_node f n (k n (inl refl))))
    ∙ ap (λ xs. name_in f n ∷ xs) (kept f g s (λ m h. k m (inr h)) r)

pub names_kept : (w : World) (g : Forest) → Sound w → Rearranges w.forest g → map (name_in g) w.stack ≡ names_of w
unfolding names_of
names_kept w g k r = kept w.forest g w.stack k.stands.elements r

-- a new element is the first
pub names_pushed : (choices : SinkChoices) (p : Place) (local : List ℕ) (attrs : List AttributeText) (duplicates : Bool) (marks : Marking) (w : World) → Sound w → IsPlaceIn w.forest p → names_of (push_new choices p local attrs duplicates marks w) ≡ html_name local ∷ names_of w
unfolding names_of
names_pushed choices p local attrs duplicates marks w k there =
    let name = html_name local in
    let g = new_element choices p name attrs duplicates marks w.forest in
    ap (λ x. x ∷ map (name_in g) w.stack) (ap name_of_found (new_element_kind choices w.forest p name attrs duplicates marks k.stands.is_forest there))
    ∙ ap (λ xs. name ∷ xs) (kept w.forest g w.stack k.stands.elements (new_element_rearranges choices w.forest p name attrs duplicates marks k.stands.is_forest there))

pub names-insert : (choices : SinkChoices) (local : List ℕ) (attrs : List AttributeText) (duplicates : Bool) (w : World) → Sound w → names_of (insert_element choices local attrs duplicates w) ≡ html_name local ∷ names_of w
unfolding insert_element
names-insert choices local attrs duplicates w k = names_pushed choices (place w) local attrs duplicates (owned choices local attrs w) w k (current_place_is_there w k)

-- one that isn't open changes none
pub names-insert_and_pop : (choices : SinkChoices) (local : List ℕ) (attrs : List AttributeText) (duplicates : Bool) (w : World) → Sound w → names_of (insert_and_pop_element choices local attrs duplicates w) ≡ names_of w
unfolding insert_and_pop_element names_of
names-insert_and_pop choices local attrs duplicates w k =
    kept w.forest _ w.stack k.stands.elements (new_element_rearranges choices w.forest (place w) (html_name local) attrs duplicates (owned choices local attrs w) k.stands.is_forest (current_place_is_there w k))

pub names-form : (choices : SinkChoices) (attrs : List AttributeText) (duplicates : Bool) (w : World) → Sound w → names_of (insert_and_pop_form choices attrs duplicates w) ≡ names_of w
unfolding insert_and_pop_form names_of
names-form choices attrs duplicates w k = names-insert_and_pop choices (codes "form") attrs duplicates w k

pub names-insert_root : (choices : SinkChoices) (attrs : List AttributeText) (w : World) → Sound w → names_of (create_root choices attrs w) ≡ html_name (codes "html") ∷ names_of w
unfolding create_root
names-insert_root choices attrs w k = names_pushed choices (LastChild w.forest.document) (codes "html") attrs false None w k (document_is_node w.forest k.stands.is_forest)

pub names-insert_head : (choices : SinkChoices) (attrs : List AttributeText) (duplicates : Bool) (w : World) → Sound w → names_of (insert_head choices attrs duplicates w) ≡ html_name (codes "head") ∷ names_of w
unfolding insert_head names_of insert_element
names-insert_head choices attrs duplicates w k = names-insert choices (codes "head") attrs duplicates w k

pub names-append : (t : List ℕ) (w : World) → t ≢ [] → Sound w → names_of (append_text t w) ≡ names_of w
unfolding append_text names_of
names-append t w some k = kept w.forest (put (place w) (ChildText t) w.forest) w.stack k.stands.elements (text_put_rearranges w.forest (place w) t k.stands.is_forest some (current_place_is_there w k))

pub names-append_comment : (choices : SinkChoices) (t : List ℕ) (w : World) → Sound w → names_of (append_comment choices t w) ≡ names_of w
unfolding append_comment names_of
names-append_comment choices t w k = kept w.forest _ w.stack k.stands.elements (new_comment_rearranges choices w.forest (place w) t k.stands.is_forest (current_place_is_there w k))

pub names-append_comment_to_document : (choices : SinkChoices) (t : List ℕ) (w : World) → Sound w → names_of (append_comment_to_doc choices t w) ≡ names_of w
unfolding append_comment_to_doc names_of
names-append_comment_to_document choices t w k = kept w.forest _ w.stack k.stands.elements (new_comment_rearranges choices w.forest (LastChild w.forest.document) t k.stands.is_forest (document_is_node w.forest k.stands.is_forest))

pub names-append_comment_to_root : (choices : SinkChoices) (t : List ℕ) (w : World) → Sound w → names_of (append_comment_to_html choices t w) ≡ names_of w
unfolding append_comment_to_html names_of
names-append_comment_to_root choices t w k = kept w.forest _ w.stack k.stands.elements (new_comment_rearranges choices w.forest (LastChild (root w)) t k.stands.is_forest (root_is_node w k))

pub names-add_to_root : (attrs : List AttributeText) (w : World) → Sound w → names_of (add_attrs_to_html attrs w) ≡ names_of w
unfolding add_attrs_to_html names_of
names-add_to_root attrs w k = kept w.forest _ w.stack k.stands.elements (add_missing_rearranges w.forest (root w) attrs k.stands.is_forest)

pub names-add_to_second : (attrs : List AttributeText) (w : World) → Sound w → names_of (add_attrs_to_second attrs w) ≡ names_of w
unfolding add_attrs_to_second names_of
names-add_to_second attrs w k = at (second_from_last w.stack)
  where
    at : (o : Option ℕ) → map (name_in (add_attrs_at o attrs w).forest) (add_attrs_at o attrs w).stack ≡ map (name_in w.forest) w.stack
    at None = refl
    at (Some n) = kept w.forest _ w.stack k.stands.elements (add_missing_rearranges w.forest n attrs k.stands.is_forest)

pub cut_map : (f : Forest) (is : QualName → Bool) (s : List ℕ) → map (name_in f) (cut_through is (map (name_in f) s) s) ≡ cut_names is (map (name_in f) s)
cut_map f is [] = refl
cut_map f is (n ∷ s) =
    elim (is (name_in f n)) as (λ b. map (name_in f) (cond b s (cut_through is (map (name_in f) s) s)) ≡ cond b (map (name_in f) s) (cut_names is (map (name_in f) s))) [
      | true ↦ refl
      | false ↦ cut_map f is s
    ]

pub names-cut : (local : List ℕ) (w : World) → names_of (pop_until_named local w) ≡ cut_names (is_html_named local) (names_of w)
unfolding names_of pop_until_named
names-cut local w = cut_map w.forest (is_html_named local) w.stack

down_map : (f : Forest) (is : QualName → Bool) (s : List ℕ) → map (name_in f) (cut_above is (map (name_in f) s) s) ≡ down_names is (map (name_in f) s)
down_map f is [] = refl
down_map f is (n ∷ s) =
    elim (is (name_in f n)) as (λ b. map (name_in f) (cond b (n ∷ s) (cut_above is (map (name_in f) s) s)) ≡ cond b (map (name_in f) (n ∷ s)) (down_names is (map (name_in f) s))) [
      | true ↦ refl
      | false ↦ down_map f is s
    ]

pub names-until_current : (is : QualName → Bool) (w : World) → names_of (pop_until_current is w) ≡ down_names is (names_of w)
unfolding names_of pop_until_current
names-until_current is w = down_map w.forest is w.stack

pub names-until_cell : (w : World) → names_of (pop_until_cell w) ≡ cut_names is_cell (names_of w)
unfolding names_of pop_until_cell
names-until_cell w = cut_map w.forest is_cell w.stack

pub names_while : (choices : SinkChoices) (p : QualName → Bool) (ns : List QualName) (w : World) → names_of w ≡ ns → names_of (pop_while choices p ns w) ≡ drop_while p ns
names_while choices p [] w e = e
names_while choices p (n ∷ ns) w e =
    elim (p n) as (λ b. names_of (cond b (pop_while choices p ns (pop choices w)) w) ≡ cond b (drop_while p ns) (n ∷ ns)) [
      | true ↦ names_while choices p ns (pop choices w) (names-pop choices w ∙ ap later_names e)
      | false ↦ e
    ]

pub names-implied : (choices : SinkChoices) (local : List ℕ) (w : World) → names_of (generate_implied_end_except choices local w) ≡ drop_while (is_implied_but local) (names_of w)
unfolding generate_implied_end_except
names-implied choices local w = names_while choices (is_implied_but local) (names_of w) w refl
