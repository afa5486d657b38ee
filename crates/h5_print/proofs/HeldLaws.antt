-- The children that an arena shows.
use Rattle.std.proofs.Common.{All, List, [], ap, arith, drop, get_or, length, refl, subst, suc, sym, zero, ℕ, ◌+◌, ◌<◌, ◌∙◌, ◌∷◌, ◌≡◌, ◌≤◌}
use Rattle.std.proofs.lemmas.List.{drop_more}
use Rattle.h5_interface.specs.Forest.{Child}
use Rattle.h5_arena.specs.ArenaModel.{ArenaView, IsChildHeld, IsHeld, child_view, child_views}
use Rattle.h5_arena.specs.declared.nodes.Child as child
use Rattle.h5_arena.specs.declared.nodes.Child.TheVariants as child_is
use Rattle.h5_arena.specs.declared.nodes.NodeId.{NodeId}

view_at : (xs : List child.Child) (k : ℕ) (x : child.Child) → k < length xs → get_or (child_views xs) k (child_view x) ≡ child_view (get_or xs k x)
view_at [] k x lt = absurd (omega arith)
view_at (y ∷ xs) zero x lt = refl
view_at (y ∷ xs) (suc k) x lt = view_at xs k x (omega arith)

length-views : (xs : List child.Child) → length (child_views xs) ≡ length xs
length-views [] = refl
length-views (x ∷ xs) = ap suc (length-views xs)

pub child_held : (a : ArenaView) (xs : List child.Child) (k : ℕ) (x : child.Child) (id : NodeId) → All (IsChildHeld a) xs → k < length xs → get_or xs k x ≡ x → x ≡ child_is.Node id → IsHeld a id
child_held a xs k x id held lt here same = subst (IsChildHeld a) (here ∙ same) (held k x lt)

-- the next child, as the arena shows it
pub child_next : (cs : List Child) (xs : List child.Child) (k : ℕ) (x : child.Child) (c : Child) → cs ≡ child_views xs → k < length xs → get_or xs k x ≡ x → child_view x ≡ c → drop k cs ≡ c ∷ drop (k + 1) cs
child_next cs xs k x c e lt here same =
    let views = child_views xs in
    ap (drop k) e ∙ drop_more views k (child_view x) (omega (arith, length-views xs))
    ∙ ap (λ (y : Child). y ∷ drop (k + 1) views) (view_at xs k x lt ∙ ap child_view here ∙ same)
    ∙ ap (λ (l : List Child). c ∷ drop (k + 1) l) (sym e)

pub no_child : (cs : List Child) (xs : List child.Child) (k : ℕ) → cs ≡ child_views xs → length xs ≤ k → length cs ≤ k
no_child cs xs k e le = omega (arith, ap length e, length-views xs)
