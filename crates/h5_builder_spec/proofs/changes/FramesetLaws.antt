-- What is left where a frameset takes the place of the body: the body leaves its parent, and only the root stays open
-- (HTML standard, section 13.2.6.4.7, a start tag whose tag name is "frameset").
use Rattle.std.proofs.Common.{◌≡◌, inl, inr, ℕ, true, List, [], ◌∷◌, map, codes, Option, Some, None, refl, ap, sym, ◌∙◌}
use Rattle.h5_names.specs.declared.qualified.QualName.{QualName}
use Rattle.h5_interface.specs.Forest.{ElementNode, Forest, FragmentNode, IsElement, IsForest}
use Rattle.h5_interface.specs.SinkChoices.{Rearranges}
use Rattle.h5_interface.proofs.ForestLaws.{rearranges_refl}
use Rattle.h5_interface.proofs.HangingLaws.{detach_rearranges}
use Rattle.h5_tables.specs.TagSets.{is_html_named}
use Rattle.h5_builder_spec.specs.formatting.FormattingList.{Entry}
use Rattle.h5_builder_spec.specs.inner.Lists.{Lists}
use Rattle.h5_builder_spec.specs.stack.Order.{Distinct, IsIn, second_from_last}
use Rattle.h5_builder_spec.proofs.entries.PassLaws.{lists_but_first, ordered_distinct}
use Rattle.h5_builder_spec.specs.stack.Root.{IsRootOpen}
use Rattle.h5_builder_spec.specs.formatting.AdoptionAgency.{KeepsKinds}
use Rattle.h5_builder_spec.specs.Changes.{detach_known, only_last, remove_body}
use Rattle.h5_builder_spec.specs.Sound.{AllStand, Sound}
use Rattle.h5_builder_spec.specs.inner.Kept.{HasLists}
use Rattle.h5_builder_spec.specs.World.{World, name_in, names_of}
use Rattle.h5_builder_spec.proofs.changes.NameLaws.{names_kept}
use Rattle.h5_builder_spec.proofs.changes.SituationLaws.{KeepsSituation, situation_tree}
use Rattle.h5_builder_spec.proofs.changes.SoundLaws.{all_rearranged, all_tail, element_is_node}
use Rattle.h5_builder_spec.proofs.changes.TreeLaws.{tree_remove_body}

-- the second open element is open
pub second_is_open : (s : List ℕ) (n : ℕ) → second_from_last s ≡ Some n → IsIn n s
second_is_open [] n e = absurd (cc)
second_is_open (x ∷ []) n e = absurd (cc)
second_is_open (x ∷ y ∷ []) n e = inl (cc)
second_is_open (x ∷ y ∷ z ∷ s) n e = inr (second_is_open (y ∷ z ∷ s) n e)

-- an element that may have a parent leaves it
detached_rearranges : (f : Forest) (o : Option ℕ) → IsForest f → ((n : ℕ) → o ≡ Some n → IsElement f n) → Rearranges f (detach_known o f)
detached_rearranges f None k there = rearranges_refl f k
detached_rearranges f (Some n) k there =
    let e = there n refl in
    detach_rearranges f n k (record { is_node = element_is_node f n e; no_fragment = λ h. let w : Some (ElementNode e.0) ≡ Some FragmentNode = sym e.1 ∙ h in cc })

-- only the root stays open
all_only_last : {l : List Entry} {head form context : Option ℕ} (f : Forest) (s : List ℕ) → AllStand f s l head form context → AllStand f (only_last s) l head form context
all_only_last f [] k = k
all_only_last f (n ∷ []) k = k
all_only_last f (n ∷ m ∷ s) k = all_only_last f (m ∷ s) (all_tail f n (m ∷ s) k)

lists_only_last : (s : List ℕ) (l : List Entry) → Distinct s → Lists s l → Lists (only_last s) l
lists_only_last [] l d k = k
lists_only_last (n ∷ []) l d k = k
lists_only_last (n ∷ m ∷ s) l d k = lists_only_last (m ∷ s) l (λ x h. d x (inr h)) (lists_but_first (n ∷ m ∷ s) l d k)

-- the name of the root alone
abbrev pub root_name : List QualName → List QualName
root_name [] = []
root_name (n ∷ []) = n ∷ []
root_name (n ∷ m ∷ ns) = root_name (m ∷ ns)

last_map : (name : ℕ → QualName) (s : List ℕ) → map name (only_last s) ≡ root_name (map name s)
last_map name [] = refl
last_map name (n ∷ []) = refl
last_map name (n ∷ m ∷ s) = last_map name (m ∷ s)

module _ (w : World) (k : Sound w) where
  pub remove_body_rearranges : Rearranges w.forest (detach_known (second_from_last w.stack) w.forest)
  remove_body_rearranges = detached_rearranges w.forest (second_from_last w.stack) k.stands.is_forest (λ n e. k.stands.elements n (second_is_open w.stack n e))

  pub remove_body_kinds : KeepsKinds w.forest (remove_body w).forest
  unfolding remove_body
  remove_body_kinds = remove_body_rearranges.same_kind

  pub remove_body_stands : Sound (remove_body w)
  unfolding remove_body
  remove_body_stands = all_only_last _ w.stack (all_rearranged w.forest _ w.stack k remove_body_rearranges)

  pub remove_body_lists : HasLists w → HasLists (remove_body w)
  unfolding remove_body
  remove_body_lists h = lists_only_last w.stack w.formatting (ordered_distinct _ w.stack k.stands.ordered) h

  pub remove_body_situation : KeepsSituation w (remove_body w)
  remove_body_situation = situation_tree w (remove_body w) (tree_remove_body w) remove_body_kinds

  pub names-remove_body : names_of (remove_body w) ≡ root_name (names_of w)
  unfolding names_of remove_body
  names-remove_body =
      last_map (name_in (detach_known (second_from_last w.stack) w.forest)) w.stack
      ∙ ap root_name (names_kept w (detach_known (second_from_last w.stack) w.forest) k remove_body_rearranges)

-- where the root is open, it is the one that stays
pub record RootStays (w : World) : Type 0 where
  pub root : QualName
  pub is_html : is_html_named (codes "html") root ≡ true
  pub names : names_of (remove_body w) ≡ root ∷ []

pub root_stays : (w : World) → Sound w → IsRootOpen (names_of w) → RootStays w
root_stays w k h = at (names_of w) h (names-remove_body w k)
  where
    at : (ns : List QualName) → IsRootOpen ns → names_of (remove_body w) ≡ root_name ns → RootStays w
    at [] o e = absurd o
    at (n ∷ []) o e = record { root = n; is_html = o; names = e }
    at (n ∷ m ∷ ns) o e = at (m ∷ ns) o e
