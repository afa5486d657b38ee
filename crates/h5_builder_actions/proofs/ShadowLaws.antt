-- A template that is put in place, or whose contents become a shadow root, as it is seen.
use Rattle.std.proofs.Common.{◌≡◌, ◌<◌, ℕ, Bool, false, List, length, codes, rules, Result, Ok, Err, OnOk, cond, ap, sym, ◌∙◌}
use Rattle.h5_names.specs.AttributeText.{AttributeText}
use Rattle.h5_interface.specs.Seen.{attach, attach_where}
use Rattle.h5_interface.specs.SinkChoices.{SinkChoices}
use Rattle.h5_builder_spec.specs.Changes.{insert_element, pop, with_forest}
use Rattle.h5_builder_spec.specs.insertion.Templates.{attach_or_put, push_loose_template}
use Rattle.h5_builder_spec.specs.World.{World}

-- what holds for a result holds for what is made of it
pub onok_ap : {T E A B : Type 0} (r : Result T E) (f : A → B) (x y : A) → OnOk r (x ≡ y) → OnOk r (f x ≡ f y)
onok_ap (Ok t) f x y e = ap f e
onok_ap (Err t) f x y e = tt

-- the shadow root was attached, or wasn't, and another template is put
module _ (choices : SinkChoices) (host template : ℕ) (attrs : List AttributeText) (duplicates : Bool) (w : World) where
  pub not_attached_is : choices.attaches w.forest host template attrs ≡ false
      → insert_element choices (codes "template") attrs duplicates (pop choices (with_forest (attach choices host template attrs w.forest) w)) ≡ attach_or_put choices host template attrs duplicates w
  not_attached_is e =
      ap (λ b. insert_element choices (codes "template") attrs duplicates (pop choices (with_forest (attach_where b choices host template attrs w.forest) w))) e
      ∙ sym (ap (λ b. cond b (with_forest (choices.after_attach w.forest host template attrs) w) (insert_element choices (codes "template") attrs duplicates (pop choices w))) e)

-- a template that asks for a shadow root, and one that doesn't
module _ (choices : SinkChoices) (attrs : List AttributeText) (duplicates : Bool) (w : World) where
  pub loose_is_open : 0 < length (push_loose_template choices attrs duplicates w).stack
  unfolding push_loose_template
  loose_is_open = search rules
