-- The error after the name of a doctype.
use Rattle.std.proofs.Common.{◌≡◌, ℕ, ◌==◌, Bool, true, false, List, [], ◌∷◌, ◌++◌, refl, sym, ap, ◌∙◌, length, codes, if◌then◌else◌}
use Rattle.std.specs.Prelude.{◌&&◌, ◌||◌, not}
use Rattle.std.specs.Char.{to_ascii_lowercase}
use Rattle.h5_token.specs.TokenText.{DoctypeText}
use Rattle.h5_tokenizer_spec.specs.declared.errors.ParseError.{ParseError}
use Rattle.h5_tokenizer_spec.specs.declared.errors.ParseError.TheVariants.{InvalidCharacterSequenceAfterDoctypeName}
use Rattle.h5_tokenizer_spec.specs.declared.kinds.Identifier.TheVariants.{Public, System}
use Rattle.h5_tokenizer_spec.specs.Construction.{quirky}
use Rattle.h5_tokenizer_spec.specs.Doctypes.{after_doctype_name_state, begins_keyword}
use Rattle.h5_tokenizer_spec.specs.Signs.{greater_than_sign, is_blank}
use Rattle.h5_tokenizer_spec.specs.States.{State, AfterDoctypeName, AfterDoctypeKeyword, BogusDoctype}
use Rattle.h5_tokenizer_spec.specs.Turn.{Turn, again, hand_doctype, to, wrong}
use Rattle.h5_tokenizer_spec.specs.Words.{begins}

keyword_by : (p p2 q q2 : Bool) (a b c d : State)
    → (if p && p2 then to a else if q && q2 then to b else if p || q then to c else wrong InvalidCharacterSequenceAfterDoctypeName (again d)).errors
    ≡ (if not (p || q) then InvalidCharacterSequenceAfterDoctypeName ∷ [] else [])
keyword_by true true q q2 a b c d = refl
keyword_by true false true true a b c d = refl
keyword_by true false true false a b c d = refl
keyword_by true false false q2 a b c d = refl
keyword_by false p2 true true a b c d = refl
keyword_by false p2 true false a b c d = refl
keyword_by false p2 false q2 a b c d = refl

name_by : (e blank gt : Bool) (a : State) (doctype : DoctypeText) (t : Turn) (errors : List ParseError) → t.errors ≡ errors
    → (if e && blank then to a else if e && gt then hand_doctype doctype else t).errors ≡ (if e && (blank || gt) then [] else errors)
name_by true true gt a doctype t errors h = refl
name_by true false true a doctype t errors h = refl
name_by true false false a doctype t errors h = h
name_by false blank gt a doctype t errors h = h

abbrev is_before : List ℕ → ℕ → Bool
is_before seen x = (length seen == 0) && (is_blank x || x == greater_than_sign)

name_errors : (doctype : DoctypeText) (seen : List ℕ) (x : ℕ) → (after_doctype_name_state doctype seen x).errors
    ≡ (if is_before seen x then [] else (if not (begins_keyword (seen ++ x ∷ [])) then InvalidCharacterSequenceAfterDoctypeName ∷ [] else []))
name_errors doctype seen x =
    let now = seen ++ x ∷ [] in
    name_by (length seen == 0) (is_blank x) (x == greater_than_sign) (AfterDoctypeName doctype []) doctype _ _
    (keyword_by (begins to_ascii_lowercase now (codes "public")) (begins to_ascii_lowercase (codes "public") now) (begins to_ascii_lowercase now (codes "system")) (begins to_ascii_lowercase (codes "system") now)
    (AfterDoctypeKeyword Public doctype) (AfterDoctypeKeyword System doctype) (AfterDoctypeName doctype now) (BogusDoctype (quirky doctype)))

-- the byte that ends the name, or follows it, before the first letter
pub before_keyword : (doctype : DoctypeText) (seen : List ℕ) (x : ℕ) (b : Bool) → b ≡ is_before seen x → b ≡ true → [] ≡ (after_doctype_name_state doctype seen x).errors
before_keyword doctype seen x b e h =
    let so : true ≡ is_before seen x = sym h ∙ e in
    ap (λ c. if c then [] else (if not (begins_keyword (seen ++ x ∷ [])) then InvalidCharacterSequenceAfterDoctypeName ∷ [] else [])) so ∙ sym (name_errors doctype seen x)

pub at_keyword : (doctype : DoctypeText) (seen : List ℕ) (x : ℕ) (b k : Bool) (errors : List ParseError) → b ≡ is_before seen x → b ≡ false → k ≡ begins_keyword (seen ++ x ∷ [])
    → errors ≡ (if not k then InvalidCharacterSequenceAfterDoctypeName ∷ [] else []) → errors ≡ (after_doctype_name_state doctype seen x).errors
at_keyword doctype seen x b k errors e h keyword are =
    let so : false ≡ is_before seen x = sym h ∙ e in
    are
    ∙ ap (λ c. if not c then InvalidCharacterSequenceAfterDoctypeName ∷ [] else []) keyword
    ∙ ap (λ c. if c then [] else (if not (begins_keyword (seen ++ x ∷ [])) then InvalidCharacterSequenceAfterDoctypeName ∷ [] else [])) so
    ∙ sym (name_errors doctype seen x)
