-- The root and the second open element, and what their attributes change.
use Rattle.std.proofs.Common.{◌≡◌, ◌<◌, ◌≤◌, ℕ, get_or, length-append, List, [], ◌∷◌, ◌++◌, length, map, reverse, Some, None, Result, Ok, Err, OnOk, OnErr, refl, ap, sym, ◌∙◌, arith}
use Rattle.std.proofs.lemmas.List.{length-map, length-reverse, reverse-append}
use Rattle.h5_names.specs.AttributeText.{AttributeText}
use Rattle.h5_interface.specs.Changes.{add_missing_attributes}
use Rattle.h5_interface.specs.Forest.{IsForest}
use Rattle.h5_interface.specs.Seen.{Seen, changed}
use Rattle.h5_interface.specs.SinkChoices.{Rearranges}
use Rattle.h5_interface.proofs.MakingLaws.{add_missing_rearranges}
use Rattle.h5_builder_spec.specs.stack.Order.{last_or, second_from_last}
use Rattle.h5_builder_spec.proofs.changes.SoundLaws.{rearranged_or_not}
use Rattle.h5_builder_spec.proofs.changes.RemovalLaws.{last_or-append}

pub on_ok : {T E : Type 0} {P Q : Type 0} (r : Result T E) → (P → Q) → OnOk r P → OnOk r Q
on_ok (Ok x) f h = f h
on_ok (Err x) f h = h

pub root_at : {H : Type 0} (node : H → ℕ) (d : ℕ) (xs : List H) (x : H) → 0 < length xs → x ≡ get_or xs 0 x → last_or d (reverse (map node xs)) ≡ node x
root_at node d [] x h e = absurd (omega arith)
root_at node d (y ∷ ys) x h e = ap (last_or d) (reverse-append (node y ∷ []) (map node ys)) ∙ last_or-append d (node y) (reverse (map node ys)) ∙ ap node (sym e)

second_more : (n : ℕ) (ns : List ℕ) → 2 ≤ length ns → second_from_last (n ∷ ns) ≡ second_from_last ns
second_more n [] h = absurd (omega arith)
second_more n (m ∷ []) h = absurd (omega arith)
second_more n (m ∷ k ∷ ns) h = refl

second_from_last-append : (ns : List ℕ) (m k : ℕ) → second_from_last (ns ++ m ∷ k ∷ []) ≡ Some m
second_from_last-append [] m k = refl
second_from_last-append (n ∷ ns) m k = second_more n (ns ++ m ∷ k ∷ []) (omega (arith, length-append ns (m ∷ k ∷ []))) ∙ second_from_last-append ns m k

pub second_at : {H : Type 0} (node : H → ℕ) (xs : List H) (x : H) → 1 < length xs → x ≡ get_or xs 1 x → second_from_last (reverse (map node xs)) ≡ Some (node x)
second_at node [] x h e = absurd (omega arith)
second_at node (a ∷ []) x h e = absurd (omega arith)
second_at node (a ∷ b ∷ cs) x h e =
    ap second_from_last (reverse-append (node a ∷ node b ∷ []) (map node cs)) ∙ second_from_last-append (reverse (map node cs)) (node b) (node a) ∙ ap (λ z. Some (node z)) (sym e)

pub second_missing : {H : Type 0} (node : H → ℕ) (xs : List H) → length xs ≤ 1 → second_from_last (reverse (map node xs)) ≡ None
second_missing node [] h = refl
second_missing node (a ∷ []) h = refl
second_missing node (a ∷ b ∷ cs) h = absurd (omega arith)

pub open_length : {H : Type 0} (node : H → ℕ) (xs : List H) → length (reverse (map node xs)) ≡ length xs
open_length node xs = length-reverse (map node xs) ∙ length-map xs node

-- attributes that are added, or not
pub added_rearranges : {T E : Type 0} (r : Result T E) (old new : Seen) (n : ℕ) (attrs : List AttributeText) → OnOk r (new ≡ changed (add_missing_attributes n attrs) old) → OnErr r (new ≡ old) → IsForest old.forest → Rearranges old.forest new.forest
added_rearranges r old new n attrs ok er k = rearranged_or_not r old new (add_missing_attributes n attrs) ok er k (add_missing_rearranges old.forest n attrs k)
