-- The place where a template would be inserted, and the open elements.
use Rattle.std.proofs.Common.{◌≡◌, ℕ, nat_eq, nat_lt, List, [], ◌∷◌, length, map, reverse, refl, ap, sym, ◌∙◌, rules}
use Rattle.std.proofs.lemmas.List.{length-map}
use Rattle.h5_names.specs.declared.qualified.QualName.{QualName}
use Rattle.h5_interface.specs.Forest.{Forest, IsNode}
use Rattle.h5_builder_spec.specs.insertion.FormOwner.{stands_by}
use Rattle.h5_builder_spec.specs.modes.InFrameset.{is_root_alone}
use Rattle.h5_builder_spec.specs.insertion.Place.{IsPlaceIn, LastChild, Place, TableFosterParenting}
use Rattle.h5_builder_spec.specs.insertion.Templates.{is_more_open}
use Rattle.h5_builder_spec.proofs.changes.SoundLaws.{element_is_node}
use Rattle.h5_builder_state.proofs.AttributeLaws.{open_length}

-- it stands in a node, or beside one
pub stands_by_node : (f : Forest) (p : Place) → IsPlaceIn f p → IsNode f (stands_by p)
stands_by_node f (LastChild n) k = k
stands_by_node f (TableFosterParenting element prev) k = element_is_node f element k.0

-- one name alone
pub alone : (ns : List QualName) → nat_eq (length ns) 1 ≡ is_root_alone ns
alone [] = refl
alone (n ∷ []) = refl
alone (n ∷ m ∷ ns) = search rules

pub alone_by_length : {H : Type 0} (name : ℕ → QualName) (node : H → ℕ) (xs : List H) → nat_eq (length xs) 1 ≡ is_root_alone (map name (reverse (map node xs)))
alone_by_length name node xs =
    ap (λ n. nat_eq n 1) (sym (length-map (reverse (map node xs)) name ∙ open_length node xs)) ∙ alone (map name (reverse (map node xs)))

-- more than one node
pub more : (s : List ℕ) → nat_lt 1 (length s) ≡ is_more_open s
more [] = refl
more (n ∷ []) = refl
more (n ∷ m ∷ s) = search rules

pub more_by_length : {H : Type 0} (node : H → ℕ) (xs : List H) → nat_lt 1 (length xs) ≡ is_more_open (reverse (map node xs))
more_by_length node xs = ap (λ n. nat_lt 1 n) (sym (open_length node xs)) ∙ more (reverse (map node xs))
