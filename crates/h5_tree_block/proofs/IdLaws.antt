-- The identifiers of the first doctype among children.
use Rattle.std.proofs.Common.{◌≡◌, ◌∙◌, ℕ, ◌+◌, ◌<◌, ◌≤◌, List, ◌∷◌, None, Some, ap, drop, get_or, length, refl, sym}
use Rattle.std.specs.Option.{unwrap_or}
use Rattle.std.proofs.lemmas.List.{drop_all, drop_more}
use Rattle.h5_interface.specs.Forest as forest
use Rattle.h5_interface.specs.Forest.{Forest}
use Rattle.h5_arena.specs.ArenaModel.{child_view, child_views}
use Rattle.h5_arena.specs.declared.nodes.Child.{Child}
use Rattle.h5_tree_block.specs.Columns.{DoctypeIds, ids_among, ids_of_child, no_ids}

at_first : (f : Forest) (c : forest.Child) (cs : List forest.Child) → ids_among f (c ∷ cs) ≡ unwrap_or (ids_of_child f c) (ids_among f cs)
unfolding ids_among
at_first f c cs = refl

-- the remaining children begin with the next one
left : (f : Forest) (cs : List Child) (i : ℕ) (c : Child) → i < length cs → c ≡ get_or cs i c
    → ids_among f (child_views (drop i cs)) ≡ unwrap_or (ids_of_child f (child_view c)) (ids_among f (child_views (drop (i + 1) cs)))
left f cs i c lt is =
    ap (λ xs. ids_among f (child_views xs)) (drop_more cs i c lt)
    ∙ at_first f (child_view (get_or cs i c)) (child_views (drop (i + 1) cs))
    ∙ ap (λ x. unwrap_or (ids_of_child f (child_view x)) (ids_among f (child_views (drop (i + 1) cs)))) (sym is)

-- the next one has none
pub passed : (f : Forest) (cs : List Child) (i : ℕ) (c : Child) (all : DoctypeIds) → i < length cs → c ≡ get_or cs i c → ids_of_child f (child_view c) ≡ None
    → ids_among f (child_views (drop i cs)) ≡ all → ids_among f (child_views (drop (i + 1) cs)) ≡ all
passed f cs i c all lt is none h =
    sym (left f cs i c lt is ∙ ap (λ o. unwrap_or o (ids_among f (child_views (drop (i + 1) cs)))) none) ∙ h

-- or it has some
pub met : (f : Forest) (cs : List Child) (i : ℕ) (c : Child) (all ids : DoctypeIds) → i < length cs → c ≡ get_or cs i c → ids_of_child f (child_view c) ≡ Some ids
    → ids_among f (child_views (drop i cs)) ≡ all → ids ≡ all
met f cs i c all ids lt is some h =
    sym (left f cs i c lt is ∙ ap (λ o. unwrap_or o (ids_among f (child_views (drop (i + 1) cs)))) some) ∙ h

-- none is left
pub none_met : (f : Forest) (cs : List Child) (i : ℕ) (all : DoctypeIds) → length cs ≤ i → ids_among f (child_views (drop i cs)) ≡ all → no_ids ≡ all
unfolding ids_among
none_met f cs i all past h = ap (λ xs. ids_among f (child_views xs)) (sym (drop_all i cs past)) ∙ h
