-- A name that HTML knows in mixed case is found by the name in lower case.
use Rattle.std.proofs.Common.{◌≡◌, ℕ, Bool, true, false, List, map, refl, sym, ap, ◌∙◌}
use Rattle.std.specs.Prelude.{◌||◌, bytes_eq}
use Rattle.std.specs.Char.{to_ascii_lowercase}
use Rattle.h5_names.specs.declared.known_name.KnownName.{KnownName}
use Rattle.h5_names.specs.declared.known_name.KnownName.TheVariants.{A, Other}
use Rattle.h5_names.specs.KnownNames.{name_text, known_name_of, lowercase_name, mixed_name}
use Rattle.h5_names.proofs.KnownNameLemmas.{is_known, known_not_other, other_if, text_of_known}

-- the text of a name in lower case
pub lower_text : (known : KnownName) → name_text (lowercase_name known) ≡ map to_ascii_lowercase (name_text known)
lower_text A = refl
lower_text _ = refl

-- a name is its name in lower case, or that one in mixed case
in_either_case : (known : KnownName) → (bytes_eq (name_text (lowercase_name known)) (name_text known) || bytes_eq (name_text (mixed_name (lowercase_name known))) (name_text known)) ≡ true
in_either_case A = refl
in_either_case _ = refl

neither : (b c : Bool) → (b || c) ≡ true → b ≡ false → c ≡ false → true ≡ false
neither true c h e f = e
neither false c h e f = sym h ∙ f

-- if neither has a text, HTML doesn't know it
not_found_if : (b : Bool) (text : List ℕ) (lower : KnownName) → is_known (known_name_of text) ≡ b → ((k : KnownName) → text ≡ name_text k → lower ≡ lowercase_name k) → bytes_eq (name_text lower) text ≡ false → bytes_eq (name_text (mixed_name lower)) text ≡ false → Other ≡ known_name_of text
not_found_if true text lower known only e f =
    let k : KnownName = known_name_of text in
    let t : name_text k ≡ text = text_of_known text (known_not_other k known) in
    let n : lowercase_name k ≡ lower = sym (only k (sym t)) in
    let e' : bytes_eq (name_text (lowercase_name k)) (name_text k) ≡ false =
    ap (λ l. bytes_eq (name_text l) (name_text k)) n ∙ (ap (bytes_eq (name_text lower)) t ∙ e) in
    let f' : bytes_eq (name_text (mixed_name (lowercase_name k))) (name_text k) ≡ false =
    ap (λ l. bytes_eq (name_text (mixed_name l)) (name_text k)) n ∙ (ap (bytes_eq (name_text (mixed_name lower))) t ∙ f) in
    let no : true ≡ false = neither _ _ (in_either_case k) e' f' in cc
not_found_if false text lower known only e f = other_if (known_name_of text) known

pub not_found : (text : List ℕ) (lower : KnownName) → ((k : KnownName) → text ≡ name_text k → lower ≡ lowercase_name k) → bytes_eq (name_text lower) text ≡ false → bytes_eq (name_text (mixed_name lower)) text ≡ false → Other ≡ known_name_of text
not_found text lower only e f = not_found_if (is_known (known_name_of text)) text lower refl only e f
