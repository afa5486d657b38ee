-- Who owns a new element; a `form` that is inserted is the form element, unless a template is open.
use Rattle.std.proofs.Common.{◌≡◌, ℕ, Bool, true, false, cond, codes, List, None, Option, Some, refl, ap, subst, sym}
use Rattle.h5_names.specs.AttributeText.{AttributeText, is_same_text}
use Rattle.std.proofs.lemmas.Slice.Eq.{bytes_eq-Decides}
use Rattle.h5_interface.specs.Forest.{ElementNode}
use Rattle.h5_interface.specs.SinkChoices.{SinkChoices}
use Rattle.h5_interface.proofs.ForestLaws.{node_of_kind}
use Rattle.h5_builder_spec.specs.formatting.FormattingNames.{html_name}
use Rattle.h5_builder_spec.specs.stack.Scope.{has_template}
use Rattle.h5_builder_spec.specs.Changes.{insert_element, insert_form, owned}
use Rattle.h5_builder_spec.specs.insertion.FormOwner.{form_associatable_names, form_owner}
use Rattle.h5_builder_spec.specs.insertion.Place.{place}
use Rattle.h5_builder_spec.specs.Sound.{IsHtml, Sound}
use Rattle.h5_builder_spec.specs.World.{World, names_of}
use Rattle.h5_builder_spec.proofs.changes.PlaceLaws.{current_place_is_there, new_element_kind}
use Rattle.h5_names.proofs.KnownNameLemmas.{same_tests}

pub turned : (x y : List ℕ) → is_same_text x y ≡ true → is_same_text y x ≡ true
turned x y h =
    let e : x ≡ y = (bytes_eq-Decides x y).0 h in
    subst (λ z. is_same_text z x ≡ true) e (subst (λ z. is_same_text x z ≡ true) (sym e) h)

pub same_turned : (x y : List ℕ) → is_same_text x y ≡ is_same_text y x
same_turned x y = same_tests (is_same_text x y) (is_same_text y x) (turned x y) (turned y x)

-- a `form` has no form owner
pub form_unowned : (attrs : List AttributeText) (w : World) → form_owner (codes "form") attrs w ≡ None
unfolding form_owner form_associatable_names
form_unowned attrs w = refl

abbrev pub with_form : World → Option ℕ → World
with_form w form = record w { form = form }

module _ (choices : SinkChoices) (attrs : List AttributeText) (duplicates : Bool) (w : World) where
  abbrev pub pushed : World
  pushed = insert_element choices (codes "form") attrs duplicates w

  pub form_set : has_template (names_of w) ≡ false → with_form pushed (Some (choices.fresh w.forest)) ≡ insert_form choices attrs duplicates w
  unfolding insert_form
  form_set e = ap (λ b. with_form pushed (cond b w.form (Some (choices.fresh w.forest)))) (sym e)

  pub form_left : has_template (names_of w) ≡ true → pushed ≡ insert_form choices attrs duplicates w
  unfolding insert_form insert_element
  form_left e = ap (λ b. with_form pushed (cond b w.form (Some (choices.fresh w.forest)))) (sym e)

  pub form_pushed : Sound w → Sound pushed → Sound (with_form pushed (Some (choices.fresh w.forest)))
  unfolding insert_element
  form_pushed k new = record {
    stands = new.stands;
    root_top = new.root_top;
    head_node = new.head_node;
    form_node = λ n e. (html_name (codes "form"), is_form n e);
    form_name = λ n e i. is_form n e;
    apart = λ n e d. node_of_kind w.forest n (ElementNode (html_name (codes "head"))) (k.head_node n e) (subst (λ m. w.forest.node m ≡ None) (same n d) (choices.fresh_is_new w.forest k.stands.is_forest));
    context_node = new.context_node;
    context_out = new.context_out;
    context_no_head = new.context_no_head;
    listed = new.listed;
    formatting = new.formatting;
  }
    where
      same : (n : ℕ) → Some (choices.fresh w.forest) ≡ Some n → choices.fresh w.forest ≡ n
      same n e = cc

      is_form : (n : ℕ) → Some (choices.fresh w.forest) ≡ Some n → IsHtml (insert_element choices (codes "form") attrs duplicates w).forest (codes "form") n
      is_form n e = subst (IsHtml (insert_element choices (codes "form") attrs duplicates w).forest (codes "form")) (same n e) (new_element_kind choices w.forest (place w) (html_name (codes "form")) attrs duplicates (owned choices (codes "form") attrs w) k.stands.is_forest (current_place_is_there w k))
