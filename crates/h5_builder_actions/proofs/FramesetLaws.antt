-- The element next older than the current node, and the root alone, as they are stored and as contracts see them.
use Rattle.std.proofs.Common.{◌≡◌, ℕ, ◌-◌, ◌<◌, ◌≤◌, suc, List, [], ◌∷◌, ◌++◌, length, map, reverse, take, get_or, codes, refl, ap, sym, ◌∙◌, arith}
use Rattle.std.proofs.lemmas.List.{length-map, length-reverse, map-append, reverse-append}
use Rattle.h5_names.specs.declared.qualified.QualName.{QualName}
use Rattle.h5_interface.specs.Forest.{Forest}
use Rattle.h5_tables.specs.TagSets.{is_html_named}
use Rattle.h5_builder_spec.specs.Changes.{only_last}
use Rattle.h5_builder_spec.specs.modes.InFrameset.{is_in_frameset}
use Rattle.h5_builder_spec.specs.World.{name_in}

-- an older element doesn't matter where two are newer
in_frameset_more : (ns : List QualName) (m : QualName) → 2 ≤ length ns → is_in_frameset (ns ++ m ∷ []) ≡ is_in_frameset ns
in_frameset_more [] m h = absurd (omega arith)
in_frameset_more (n ∷ []) m h = absurd (omega arith)
in_frameset_more (n ∷ k ∷ ns) m h = refl

pub below_named : {H : Type 0} (node : H → ℕ) (f : Forest) (xs : List H) (x : H) → 1 < length xs → x ≡ get_or xs (length xs - 2) x
    → is_in_frameset (map (name_in f) (reverse (map node xs))) ≡ is_html_named (codes "frameset") (name_in f (node x))
below_named node f [] x h e = absurd (omega arith)
below_named node f (a ∷ []) x h e = absurd (omega arith)
below_named node f (a ∷ b ∷ []) x h e = ap (λ z. is_html_named (codes "frameset") (name_in f (node z))) (sym e)
below_named node f (a ∷ b ∷ c ∷ ds) x h e =
    let older : length (a ∷ b ∷ c ∷ ds) - 2 ≡ suc (length (b ∷ c ∷ ds) - 2) = omega arith in
    let names = map (name_in f) (reverse (map node (b ∷ c ∷ ds))) in
    let two : 2 ≤ length names = omega (arith, length-map (reverse (map node (b ∷ c ∷ ds))) (name_in f), length-reverse (map node (b ∷ c ∷ ds)), length-map (b ∷ c ∷ ds) node) in
    ap (λ s. is_in_frameset (map (name_in f) s)) (reverse-append (node a ∷ []) (map node (b ∷ c ∷ ds)))
    ∙ ap is_in_frameset (map-append (name_in f) (reverse (map node (b ∷ c ∷ ds))) (node a ∷ []))
    ∙ in_frameset_more names (name_in f (node a)) two
    ∙ below_named node f (b ∷ c ∷ ds) x (omega arith) (e ∙ ap (λ k. get_or (a ∷ b ∷ c ∷ ds) k x) older)

-- the root alone
only_last-append : (s : List ℕ) (n : ℕ) → only_last (s ++ n ∷ []) ≡ n ∷ []
only_last-append [] n = refl
only_last-append (m ∷ []) n = refl
only_last-append (m ∷ k ∷ s) n = only_last-append (k ∷ s) n

pub only_root : {H : Type 0} (node : H → ℕ) (xs : List H) → reverse (map node (take 1 xs)) ≡ only_last (reverse (map node xs))
only_root node [] = refl
only_root node (a ∷ []) = refl
only_root node (a ∷ b ∷ cs) = sym (ap only_last (reverse-append (node a ∷ []) (map node (b ∷ cs))) ∙ only_last-append (reverse (map node (b ∷ cs))) (node a))
