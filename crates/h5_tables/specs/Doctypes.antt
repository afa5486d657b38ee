-- Doctypes: parse errors, and quirks modes (HTML standard, section 13.2.6.4.1, the "initial" insertion mode, a DOCTYPE token). The
-- identifiers that aren't errors are those of html5ever. The lists are the constants that the code reads; `.ci/tables` compares them with
-- the standard's.
use Rattle.std.specs.Prelude.{ℕ, Bool, true, false, not, ◌&&◌, ◌||◌, if◌then◌else◌, List, [], ◌∷◌, codes, map, Option, Some, None, option_map}
use Rattle.std.specs.Str.{str_to_ascii_lowercase}
use Rattle.h5_names.specs.AttributeText.{is_same_text}
use Rattle.h5_token.specs.TokenText.{DoctypeText}
use Rattle.h5_interface.specs.declared.marks.QuirksMode.{QuirksMode}
use Rattle.h5_interface.specs.declared.marks.QuirksMode.TheVariants.{LimitedQuirks, NoQuirks, Quirks}
use Rattle.h5_tables.specs.declared.identifiers.TheConstants.{GOOD_IDENTIFIERS, HTML4_PUBLIC_PREFIXES, LIMITED_QUIRKY_PUBLIC_PREFIXES, QUIRKY_PUBLIC_IDS, QUIRKY_PUBLIC_PREFIXES, QUIRKY_SYSTEM_IDS}

-- a part of a doctype is present, and equals this text
abbrev pub is_part : Option (List ℕ) → List ℕ → Bool
is_part None text = false
is_part (Some part) text = is_same_text part text

abbrev pub is_missing : Option (List ℕ) → Bool
is_missing None = true
is_missing (Some part) = false

abbrev pub is_same_part : (part wanted : Option (List ℕ)) → Bool
is_same_part part None = is_missing part
is_same_part part (Some text) = is_part part text

-- the identifiers, public and system, of doctypes that aren't errors
unfoldable pub good_identifiers : List (Option (List ℕ) × Option (List ℕ))
good_identifiers = map (λ pair. (option_map (λ text. text.now) pair.0, option_map (λ text. text.now) pair.1)) GOOD_IDENTIFIERS

abbrev pub has_pair : List (Option (List ℕ) × Option (List ℕ)) → (public_id system_id : Option (List ℕ)) → Bool
has_pair [] public_id system_id = false
has_pair (pair ∷ pairs) public_id system_id =
    (is_same_part public_id pair.0 && is_same_part system_id pair.1) || has_pair pairs public_id system_id

-- a doctype that isn't an error: named `html`, with a pair of these identifiers, compared case-sensitively
abbrev pub is_good_doctype : DoctypeText → Bool
is_good_doctype d = is_part d.name (codes "html") && has_pair good_identifiers d.public_id d.system_id

-- an identifier is present and, in ASCII lower case, equals one of these, or begins with one of these
abbrev pub is_one_text : List (List ℕ) → List ℕ → Bool
is_one_text [] text = false
is_one_text (x ∷ xs) text = is_same_text text x || is_one_text xs text

abbrev pub begins_with : (text prefix : List ℕ) → Bool
begins_with text [] = true
begins_with [] (p ∷ ps) = false
begins_with (b ∷ bs) (p ∷ ps) = is_same_text (b ∷ []) (p ∷ []) && begins_with bs ps

abbrev pub begins_with_one : List (List ℕ) → List ℕ → Bool
begins_with_one [] text = false
begins_with_one (x ∷ xs) text = begins_with text x || begins_with_one xs text

abbrev pub lowered : (List ℕ → Bool) → Option (List ℕ) → Bool
lowered is None = false
lowered is (Some text) = is (str_to_ascii_lowercase text)

-- public and system identifiers that mean quirks, and prefixes of public ones
unfoldable pub quirky_public_ids : List (List ℕ)
quirky_public_ids = map (λ text. text.now) QUIRKY_PUBLIC_IDS

unfoldable pub quirky_system_ids : List (List ℕ)
quirky_system_ids = map (λ text. text.now) QUIRKY_SYSTEM_IDS

unfoldable pub quirky_public_prefixes : List (List ℕ)
quirky_public_prefixes = map (λ text. text.now) QUIRKY_PUBLIC_PREFIXES

unfoldable pub limited_quirky_public_prefixes : List (List ℕ)
limited_quirky_public_prefixes = map (λ text. text.now) LIMITED_QUIRKY_PUBLIC_PREFIXES

unfoldable pub html4_public_prefixes : List (List ℕ)
html4_public_prefixes = map (λ text. text.now) HTML4_PUBLIC_PREFIXES

-- the quirks mode of the identifiers alone
abbrev pub quirks_of_identifiers : (public_id system_id : Option (List ℕ)) → QuirksMode
quirks_of_identifiers public_id system_id =
    if lowered (is_one_text quirky_public_ids) public_id then Quirks
    else (if lowered (is_one_text quirky_system_ids) system_id then Quirks
    else (if lowered (begins_with_one quirky_public_prefixes) public_id then Quirks
    else (if lowered (begins_with_one limited_quirky_public_prefixes) public_id then LimitedQuirks
    else (if lowered (begins_with_one html4_public_prefixes) public_id then (if is_missing system_id then Quirks else LimitedQuirks)
    else NoQuirks))))

-- the quirks mode of a doctype, in a document or in the `srcdoc` of an `iframe`
abbrev pub quirks_of : (iframe_srcdoc : Bool) → DoctypeText → QuirksMode
quirks_of iframe_srcdoc d =
    if d.force_quirks || not (is_part d.name (codes "html")) then Quirks
    else (if iframe_srcdoc then NoQuirks else quirks_of_identifiers d.public_id d.system_id)
