-- Joins of adjacent texts.
use Rattle.std.proofs.Common.{◌≡◌, ℕ, List, [], ◌∷◌, ◌++◌, refl, sym, ap, ◌∙◌, append_assoc}
use Rattle.h5_token.specs.TokenText.{TokenText, Characters}
use Rattle.h5_token.specs.Joins.{glue, join}

-- a list before another, with its texts joined
abbrev onto : List TokenText → List TokenText → List TokenText
onto [] acc = acc
onto (Characters t ∷ ts) acc = glue t (onto ts acc)
onto (t ∷ ts) acc = t ∷ onto ts acc

join_append : (ts us : List TokenText) → join (ts ++ us) ≡ onto ts (join us)
join_append [] us = refl
join_append (Characters t ∷ ts) us = ap (glue t) (join_append ts us)
join_append (t ∷ ts) us = ap (λ l. t ∷ l) (join_append ts us)

-- a text before another, and that before a list
pub glue_twice : (b : ℕ) (t : List ℕ) (d : ℕ) (u : List ℕ) (k : List TokenText) → glue (b ∷ t) (glue (d ∷ u) k) ≡ glue ((b ∷ t) ++ d ∷ u) k
glue_twice b t d u [] = refl
glue_twice b t d u (Characters [] ∷ k) = refl
glue_twice b t d u (Characters (e ∷ v) ∷ k) = ap (λ l. Characters l ∷ k) (sym (append_assoc (b ∷ t) (d ∷ u) (e ∷ v)))
glue_twice b t d u (x ∷ k) = refl

glue_onto : (t : List ℕ) (l acc : List TokenText) → glue t (onto l acc) ≡ onto (glue t l) acc
glue_onto [] l acc = refl
glue_onto (b ∷ t) [] acc = refl
glue_onto (b ∷ t) (Characters [] ∷ l) acc = refl
glue_onto (b ∷ t) (Characters (d ∷ u) ∷ l) acc = glue_twice b t d u (onto l acc)
glue_onto (b ∷ t) (x ∷ l) acc = refl

onto_join : (ts acc : List TokenText) → onto ts acc ≡ onto (join ts) acc
onto_join [] acc = refl
onto_join (Characters t ∷ ts) acc = ap (glue t) (onto_join ts acc) ∙ glue_onto t (join ts) acc
onto_join (x ∷ ts) acc = ap (λ l. x ∷ l) (onto_join ts acc)

-- lists whose joins are equal may replace each other, before and after other lists
pub joins_append : (ts ts' us us' : List TokenText) → join ts ≡ join ts' → join us ≡ join us' → join (ts ++ us) ≡ join (ts' ++ us')
joins_append ts ts' us us' e f =
    join_append ts us ∙ onto_join ts (join us) ∙ ap (λ l. onto l (join us)) e ∙ sym (onto_join ts' (join us)) ∙ ap (onto ts') f ∙ sym (join_append ts' us')
