-- The items of a list are changed one after another, each once.
use Rattle.std.proofs.Common.{◌≡◌, ◌<◌, ◌+◌, ◌∙◌, ℕ, List, ◌∷◌, map, take, drop, length, get_or, arith, ap, length-drop}
use Rattle.std.proofs.Math.ListN.{set}
use Rattle.std.proofs.lemmas.List.{drop_more, drop-set-lt, map-append, take_more, take_more_set}
use Rattle.std.proofs.lemmas.Grind.{drop_more_same}

-- the view of the items so far is the changed view
pub changed_so_far : {X Y : Type 0} (view : X → Y) (change : Y → Y) (items old : List X) (i : ℕ) (d x : X) → i < length items → drop i items ≡ drop i old → view x ≡ change (view (get_or items i d))
    → map view (take i items) ≡ map change (map view (take i old)) → map view (take (i + 1) (set items i x)) ≡ map change (map view (take (i + 1) old))
changed_so_far view change items old i d x here same new done =
    let within : i < length old = omega (arith, simp length-drop at (ap length same)) in
    let this : drop i items ≡ get_or items i d ∷ drop (i + 1) items = drop_more items i d here in
    let that : drop i old ≡ get_or old i d ∷ drop (i + 1) old = drop_more old i d within in
    let at_i : get_or old i d ≡ get_or items i d = cc in
    rw (take_more_set items i x here, take_more old i d within, at_i) (simp map-append (cc))

-- and the others are unchanged
pub rest_unchanged : {X : Type 0} (items old : List X) (i : ℕ) (x : X) → drop i items ≡ drop i old → drop (i + 1) (set items i x) ≡ drop (i + 1) old
rest_unchanged items old i x same = drop-set-lt (i + 1) items i x (omega arith) ∙ drop_more_same items old i same
