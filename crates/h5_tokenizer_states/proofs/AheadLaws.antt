-- When the standard looks ahead: a byte outside ASCII is in none of the words.
use Rattle.std.proofs.Common.{◌≡◌, ℕ, ◌≤◌, ◌<◌, ◌-◌, List, [], ◌∷◌, ◌++◌, length, take, slice_index, refl, arith, ◌∙◌, codes, ◌==◌}
use Rattle.std.proofs.lemmas.Bool.{and_right, le-leb}
use Rattle.std.proofs.lemmas.Grind.{common_steps}
use Rattle.std.specs.Char.{to_ascii_lowercase}
use Rattle.h5_token.specs.TokenText.{DoctypeText}
use Rattle.h5_tokenizer_spec.specs.Signs.{greater_than_sign}
use Rattle.h5_tokenizer_spec.specs.Words.{same}
use Rattle.h5_tokenizer_spec.specs.Construction.{quirky}
use Rattle.h5_tokenizer_spec.specs.States.{BogusComment, BogusDoctype}
use Rattle.h5_tokenizer_spec.specs.Turn.{Reconsumed}
use Rattle.h5_tokenizer_spec.specs.Comments.{markup_declaration_open_state}
use Rattle.h5_tokenizer_spec.specs.Doctypes.{after_doctype_name_state}
use Rattle.h5_tokenizer_states.proofs.AsciiLaws.{lower_wide, wide_blank, wide_not}
use Rattle.h5_tokenizer_states.proofs.FoldLaws.{begins_wide}

pub opens_nothing : (seen : List ℕ) (x : ℕ) → 128 ≤ x → (markup_declaration_open_state seen x).outcome ≡ Reconsumed [] (BogusComment seen)
opens_nothing seen x h =
    let low : 128 ≤ to_ascii_lowercase x = rw (lower_wide x h) h in
    rw (begins_wide same seen x (codes "--") h refl, begins_wide to_ascii_lowercase seen x (codes "doctype") low refl, begins_wide same seen x (codes "[CDATA[") h refl) refl

pub ends_no_keyword : (doctype : DoctypeText) (seen : List ℕ) (x : ℕ) → 128 ≤ x → (after_doctype_name_state doctype seen x).outcome ≡ Reconsumed [] (BogusDoctype (quirky doctype))
ends_no_keyword doctype seen x h =
    let low : 128 ≤ to_ascii_lowercase x = rw (lower_wide x h) h in
    rw (
      and_right (length seen == 0) _ (wide_blank x (le-leb 128 x h)),
      and_right (length seen == 0) _ (wide_not x greater_than_sign (le-leb 128 x h) refl),
      begins_wide to_ascii_lowercase seen x (codes "public") low refl,
      begins_wide to_ascii_lowercase seen x (codes "system") low refl,
    ) refl

-- what was pushed is at the end
pushed_last : (xs : List ℕ) (x : ℕ) → slice_index (xs ++ x ∷ []) (length (xs ++ x ∷ []) - 1) ≡ x
pushed_last xs x = grind (arith, common_steps)

pushed_front : (xs : List ℕ) (x : ℕ) → take (length (xs ++ x ∷ []) - 1) (xs ++ x ∷ []) ≡ xs
pushed_front xs x = grind (arith, common_steps)

pushed_some : (xs : List ℕ) (x : ℕ) → 0 < length (xs ++ x ∷ [])
pushed_some xs x = grind (arith, common_steps)

-- and is removed from there
pub unpushed : (old new front : List ℕ) (x n : ℕ) → n ≡ length old → old ≡ front ++ x ∷ [] → x < 128
    → (0 < n → slice_index old (n - 1) < 128 → new ≡ take (n - 1) old) → new ≡ front
unpushed old new front x n counted was small cut =
    let cut_here = rw (counted, was) at cut in
    cut_here (pushed_some front x) (rw pushed_last small) ∙ pushed_front front x
