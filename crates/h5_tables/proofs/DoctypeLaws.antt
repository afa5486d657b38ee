-- Doctypes, judged by the tables that the code reads.
use Rattle.std.proofs.Common.{◌≡◌, ◌∙◌, ◌<◌, ◌≤◌, ℕ, zero, suc, Bool, true, false, ◌&&◌, ◌||◌, List, [], ◌∷◌, cond, eqb, length, drop, map, refl, ap, arith}
use Rattle.std.specs.Prelude.{Option, option_map}
use Rattle.std.specs.Str.{str_to_ascii_lowercase}
use Rattle.h5_names.specs.AttributeText.{is_same_text}
use Rattle.h5_interface.specs.declared.marks.QuirksMode.{QuirksMode}
use Rattle.h5_interface.specs.declared.marks.QuirksMode.TheVariants.{LimitedQuirks, NoQuirks, Quirks}
use Rattle.h5_tables.specs.declared.identifiers.TheConstants.{GOOD_IDENTIFIERS, HTML4_PUBLIC_PREFIXES, LIMITED_QUIRKY_PUBLIC_PREFIXES, QUIRKY_PUBLIC_IDS, QUIRKY_PUBLIC_PREFIXES, QUIRKY_SYSTEM_IDS}
use Rattle.h5_tables.specs.Doctypes.{begins_with, begins_with_one, good_identifiers, html4_public_prefixes, is_missing, is_one_text, limited_quirky_public_prefixes, lowered, quirks_of_identifiers, quirky_public_ids, quirky_public_prefixes, quirky_system_ids}

-- a text that ends too early
pub begins_short : (text prefix : List ℕ) (i : ℕ) → i < length prefix → length text ≤ i → i ≤ length text → begins_with (str_to_ascii_lowercase (drop i text)) (drop i prefix) ≡ false
begins_short text [] i lt le ge = absurd (omega arith)
begins_short [] (p ∷ ps) zero lt le ge = refl
begins_short [] (p ∷ ps) (suc i) lt le ge = absurd (omega arith)
begins_short (b ∷ bs) (p ∷ ps) zero lt le ge = absurd (omega arith)
begins_short (b ∷ bs) (p ∷ ps) (suc i) lt le ge = begins_short bs ps i (omega arith) (omega arith) (omega arith)

-- a text is another if it is as long and begins with it
same_step : (here rest later : Bool) → rest ≡ later → (here && rest) ≡ ((here && true) && later)
same_step true rest later e = e
same_step false rest later e = refl

same_if_long : (text other : List ℕ) → length text ≡ length other → is_same_text text other ≡ begins_with text other
same_if_long [] [] long = refl
same_if_long [] (p ∷ ps) long = absurd (omega arith)
same_if_long (b ∷ bs) [] long = absurd (omega arith)
same_if_long (b ∷ bs) (p ∷ ps) long = same_step (eqb b p) (is_same_text bs ps) (begins_with bs ps) (same_if_long bs ps (omega arith))

same_length : (text : List ℕ) → length (str_to_ascii_lowercase text) ≡ length text
same_length [] = refl
same_length (b ∷ bs) = ap suc (same_length bs)

pub same_lowered : (text other : List ℕ) → length text ≡ length other → is_same_text (str_to_ascii_lowercase text) other ≡ begins_with (str_to_ascii_lowercase text) other
same_lowered text other long = same_if_long (str_to_ascii_lowercase text) other (same_length text ∙ long)

-- the tables
pub same_pairs : map (λ pair. (option_map (λ text. text.now) pair.0, option_map (λ text. text.now) pair.1)) GOOD_IDENTIFIERS ≡ good_identifiers
unfolding good_identifiers
same_pairs = refl

pub same_public_ids : map (λ text. text.now) QUIRKY_PUBLIC_IDS ≡ quirky_public_ids
unfolding quirky_public_ids
same_public_ids = refl

pub same_system_ids : map (λ text. text.now) QUIRKY_SYSTEM_IDS ≡ quirky_system_ids
unfolding quirky_system_ids
same_system_ids = refl

pub same_prefixes : map (λ text. text.now) QUIRKY_PUBLIC_PREFIXES ≡ quirky_public_prefixes
unfolding quirky_public_prefixes
same_prefixes = refl

pub same_limited : map (λ text. text.now) LIMITED_QUIRKY_PUBLIC_PREFIXES ≡ limited_quirky_public_prefixes
unfolding limited_quirky_public_prefixes
same_limited = refl

pub same_html4 : map (λ text. text.now) HTML4_PUBLIC_PREFIXES ≡ html4_public_prefixes
unfolding html4_public_prefixes
same_html4 = refl

-- one of three
pub first_of_three : (a b d : Bool) → a ≡ true → true ≡ (a || (b || d))
first_of_three a b d h = rw h refl

pub second_of_three : (a b d : Bool) → a ≡ false → b ≡ true → true ≡ (a || (b || d))
second_of_three a b d g h = rw (g, h) refl

pub third_of_three : (r a b d : Bool) → a ≡ false → b ≡ false → r ≡ d → r ≡ (a || (b || d))
third_of_three r a b d g h e = rw (g, h) e

-- the mode, by the tests of the identifiers
by_tests : (a b d : Bool) (r other : QuirksMode) → r ≡ cond (a || (b || d)) Quirks other → r ≡ cond a Quirks (cond b Quirks (cond d Quirks other))
by_tests true b d r other h = h
by_tests false true d r other h = h
by_tests false false d r other h = h

pub judged : (public_id system_id : Option (List ℕ)) (r : QuirksMode) → r ≡ cond (lowered (is_one_text quirky_public_ids) public_id || (lowered (is_one_text quirky_system_ids) system_id || lowered (begins_with_one quirky_public_prefixes) public_id))
    Quirks (cond (lowered (begins_with_one limited_quirky_public_prefixes) public_id) LimitedQuirks (cond (lowered (begins_with_one html4_public_prefixes) public_id) (cond (is_missing system_id) Quirks LimitedQuirks) NoQuirks))
    → r ≡ quirks_of_identifiers public_id system_id
judged public_id system_id r h = by_tests (lowered (is_one_text quirky_public_ids) public_id) (lowered (is_one_text quirky_system_ids) system_id) (lowered (begins_with_one quirky_public_prefixes) public_id) r _ h
