-- What is listed, open or cloned is a node, and stays one.
use Rattle.std.proofs.Common.{◌≡◌, ◌<◌, ℕ, zero, suc, get_or, List, [], ◌∷◌, ◌++◌, length, map, inl, inr, refl, ap, sym, subst, ◌∙◌, arith}
use Rattle.std.proofs.lemmas.List.{map-append}
use Rattle.h5_token.specs.TokenText.{TagText}
use Rattle.h5_interface.specs.Forest.{Forest, IsNode}
use Rattle.h5_interface.proofs.ForestLaws.{there_alike}
use Rattle.h5_builder_spec.specs.formatting.AdoptionAgency.{KeepsKinds}
use Rattle.h5_builder_spec.specs.formatting.FormattingList.{ElementEntry, Entry, MarkerEntry, nodes_of}
use Rattle.h5_builder_spec.specs.Sound.{Sound}
use Rattle.h5_builder_spec.specs.stack.Order.{IsIn}
use Rattle.h5_builder_spec.specs.World.{World}
use Rattle.h5_builder_spec.proofs.entries.EntryLaws.{nodes_of-append}
use Rattle.h5_builder_spec.proofs.entries.FreshLaws.{each_listed}
use Rattle.h5_builder_spec.proofs.entries.PairLaws.{in_right, in_split}
use Rattle.h5_builder_state.proofs.StackLaws.{open_is_node}
use Rattle.h5_builder_actions.specs.FormattingPlaces.{AreNodes, IsNodeIn}

-- where nodes keep their kinds they stay nodes
pub node_kept : (f g : Forest) (n : ℕ) → KeepsKinds f g → IsNode f n → IsNode g n
node_kept f g n k there = there_alike f g n (k n there) there

pub nodes_kept : (f g : Forest) (ns : List ℕ) → KeepsKinds f g → AreNodes f ns → AreNodes g ns
nodes_kept f g ns k there = λ n i. node_kept f g n k (there n i)

-- open elements and listed ones are nodes
pub open_nodes : (w : World) → Sound w → AreNodes w.forest w.stack
open_nodes w k = λ n i. open_is_node w n k i

pub listed_nodes : (w : World) → Sound w → AreNodes w.forest (nodes_of w.formatting)
listed_nodes w k = λ n i. each_listed w.forest w.formatting n k.listed i

-- one more handle, and the handle at a place
pub nodes_pushed : {H : Type 0} (node : H → ℕ) (f : Forest) (xs ys : List H) (x : H) → ys ≡ xs ++ x ∷ [] → AreNodes f (map node xs) → IsNode f (node x) → AreNodes f (map node ys)
nodes_pushed node f xs ys x e there here = λ n i.
    elim (in_split n (map node xs) (node x ∷ []) (subst (IsIn n) (ap (map node) e ∙ map-append node xs (x ∷ [])) i)) [
      | inl h ↦ there n h
      | inr h ↦ elim h [ inl same ↦ subst (IsNode f) (sym same) here | inr none ↦ absurd none ]
    ]

pub handle_in : {H : Type 0} (node : H → ℕ) (xs : List H) (i : ℕ) (x : H) → i < length xs → x ≡ get_or xs i x → IsIn (node x) (map node xs)
handle_in node [] i x h e = absurd (omega arith)
handle_in node (y ∷ ys) zero x h e = inl (ap node e)
handle_in node (y ∷ ys) (suc i) x h e = inr (handle_in node ys i x (omega arith) e)

-- the element of an entry is listed, and a node
pub entry_in : (l newer older : List Entry) (e : Entry) (n : ℕ) (t : TagText) → l ≡ newer ++ e ∷ older → e ≡ ElementEntry n t → IsIn n (nodes_of l)
entry_in l newer older e n t cut is =
    subst (λ x. IsIn n (nodes_of x)) (sym (cut ∙ ap (λ x. newer ++ x ∷ older) is))
    (subst (IsIn n) (sym (nodes_of-append newer (ElementEntry n t ∷ older))) (in_right n (nodes_of newer) (n ∷ nodes_of older) (inl refl)))

pub entry_is_node : (f : Forest) (ns : List ℕ) (e : Entry) → AreNodes f ns → ((n : ℕ) → (t : TagText) → e ≡ ElementEntry n t → IsIn n ns) → IsNodeIn f e
entry_is_node f ns MarkerEntry k h = tt
entry_is_node f ns (ElementEntry n t) k h = k n (h n t refl)

-- an entry is removed, or becomes that of another node
pub nodes_dropped : (f : Forest) (newer older : List Entry) (e : Entry) → AreNodes f (nodes_of (newer ++ e ∷ older)) → AreNodes f (nodes_of (newer ++ older))
nodes_dropped f [] older MarkerEntry k = k
nodes_dropped f [] older (ElementEntry m t) k = λ n i. k n (inr i)
nodes_dropped f (MarkerEntry ∷ newer) older e k = nodes_dropped f newer older e k
nodes_dropped f (ElementEntry x t ∷ newer) older e k = λ n i.
    elim i [ inl same ↦ k n (inl same) | inr h ↦ nodes_dropped f newer older e (λ m j. k m (inr j)) n h ]

pub nodes_swapped : (f : Forest) (newer older : List Entry) (m y : ℕ) (t : TagText) → AreNodes f (nodes_of (newer ++ ElementEntry m t ∷ older)) → IsNode f y → AreNodes f (nodes_of (newer ++ ElementEntry y t ∷ older))
nodes_swapped f [] older m y t k there = λ n i. elim i [ inl same ↦ subst (IsNode f) (sym same) there | inr h ↦ k n (inr h) ]
nodes_swapped f (MarkerEntry ∷ newer) older m y t k there = nodes_swapped f newer older m y t k there
nodes_swapped f (ElementEntry x u ∷ newer) older m y t k there = λ n i.
    elim i [ inl same ↦ k n (inl same) | inr h ↦ nodes_swapped f newer older m y t (λ j w. k j (inr w)) there n h ]
