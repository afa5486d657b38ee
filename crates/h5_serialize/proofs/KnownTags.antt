-- The tables have the tags and the attribute of each name at the name's number, and the indices at which they are split.
use Rattle.std.proofs.Common.{◌≡◌, ◌+◌, ◌-◌, ◌++◌, ◌∷◌, ℕ, List, [], drop, get_or, length, map, refl, sym, ap, ◌∙◌, arith, take}
use Rattle.std.proofs.Math.Seq.{take-append_seam, take-length, drop-append_seam}
use Rattle.std.proofs.lemmas.List.{length-append, length-drop, take-append-le}
use denote.Enum.Declared.{tag_of}
use Rattle.h5_names.specs.contracts.known_name.KnownName.{the_type}
use Rattle.h5_names.specs.declared.known_name.KnownName.{KnownName}
use Rattle.h5_names.specs.declared.known_name.KnownName.TheVariants.{A}
use Rattle.h5_names.specs.KnownNames.{name_text}
use Rattle.std.specs.Prelude.{codes}
use Rattle.h5_serialize.specs.Writing.{both_tags}
use Rattle.h5_serialize.specs.declared.known_tags.TheConstants.{ATTRIBUTES, TAGS}

pub tags_at_number : (known : KnownName) → get_or (map (λ text. text.now) TAGS) (tag_of the_type known) [] ≡ both_tags (name_text known)
tags_at_number A = refl
tags_at_number _ = refl

pub attribute_at_number : (known : KnownName) → get_or (map (λ text. text.now) ATTRIBUTES) (tag_of the_type known) [] ≡ codes "\" " ++ name_text known ++ codes "=\""
attribute_at_number A = refl
attribute_at_number _ = refl

-- a start tag without attributes
abbrev bare : List ℕ → List ℕ
bare name = 60 ∷ (name ++ 62 ∷ [])

bare_length : (name : List ℕ) → length (bare name) ≡ length name + 2
bare_length name = omega (arith, length-append name (62 ∷ []))

pub cut_start : (name tags text : List ℕ) → tags ≡ both_tags name → text ≡ name → take (length text + 1) tags ≡ 60 ∷ name
cut_start name tags text e f =
    let same : length text ≡ length name = ap (λ (l : List ℕ). length l) f in
    let n : length text + 1 ≡ length (60 ∷ name) = omega (arith, same) in
    let end = 60 ∷ 47 ∷ (name ++ 62 ∷ []) in
    ap (take (length text + 1)) e
    ∙ (take-append-le (length text + 1) (bare name) end (omega (arith, same, bare_length name))
    ∙ (ap (λ k. take k (bare name)) n ∙ take-append_seam (60 ∷ name) (62 ∷ [])))

pub cut_whole : (name tags text : List ℕ) → tags ≡ both_tags name → text ≡ name → take (length text + 2) tags ≡ 60 ∷ (name ++ 62 ∷ [])
cut_whole name tags text e f =
    let same : length text ≡ length name = ap (λ (l : List ℕ). length l) f in
    let n : length text + 2 ≡ length (bare name) = omega (arith, same, bare_length name) in
    ap (take (length text + 2)) e ∙ (ap (λ k. take k (both_tags name)) n ∙ take-append_seam (bare name) (60 ∷ 47 ∷ (name ++ 62 ∷ [])))

to_the_end : (n : ℕ) (l : List ℕ) → take (length l - n) (drop n l) ≡ drop n l
to_the_end n l = ap (λ k. take k (drop n l)) (sym (length-drop n l)) ∙ take-length (drop n l)

pub cut_end : (name tags text : List ℕ) → tags ≡ both_tags name → text ≡ name → take (length tags - (length text + 2)) (drop (length text + 2) tags) ≡ 60 ∷ 47 ∷ (name ++ 62 ∷ [])
cut_end name tags text e f =
    let same : length text ≡ length name = ap (λ (l : List ℕ). length l) f in
    let n : length text + 2 ≡ length (bare name) = omega (arith, same, bare_length name) in
    let end = 60 ∷ 47 ∷ (name ++ 62 ∷ []) in
    to_the_end (length text + 2) tags
    ∙ (ap (drop (length text + 2)) e ∙ (ap (λ k. drop k (both_tags name)) n ∙ drop-append_seam (bare name) end))

-- all but the first byte
pub cut_first : (x : ℕ) (text rest : List ℕ) → text ≡ x ∷ rest → take (length text - 1) (drop 1 text) ≡ rest
cut_first x text rest e = to_the_end 1 text ∙ ap (λ l. drop 1 l) e
