-- A known name is found by its text, and its text by its name; a text is in a list of texts exactly if its name is in theirs.
use Rattle.std.proofs.Common.{◌≡◌, ◌≢◌, ◌≤◌, ℕ, Bool, true, false, not, List, [], ◌∷◌, cond, refl, sym, ap, ◌∙◌, rules}
use denote.Enum.Bare.{sameb, same_true, same_false}
use Rattle.h5_names.specs.contracts.known_name.KnownName.{the_type}
use Rattle.std.specs.Prelude.{◌&&◌, ◌||◌, bytes_eq, slice_index}
use Rattle.std.specs.List.{list_any}
use Rattle.std.proofs.lemmas.Bool.{and_parts}
use Rattle.std.proofs.lemmas.Slice.Eq.{bytes_eq-Decides}
use Rattle.std.proofs.lemmas.List.{get_or_past}
use Rattle.h5_names.specs.declared.known_name.KnownName.{KnownName}
use Rattle.h5_names.specs.declared.known_name.KnownName.TheVariants.{A, Other}
use Rattle.h5_names.specs.declared.known_slots.TheConstants.{NUMBERS}
use Rattle.h5_names.specs.KnownNames.{name_text, known_names, first_named, known_name_of, lowercase_name, nth_name, slot_of}

-- a name that HTML knows is found by its text
pub known_of_text : (known : KnownName) → known_name_of (name_text known) ≡ known
unfolding known_name_of known_names
known_of_text A = refl
known_of_text _ = refl

-- the name found is the first one, or is found among the others
either : (b : Bool) (text : List ℕ) (known rest : KnownName) → (b ≡ true → text ≡ name_text known) → (rest ≢ Other → name_text rest ≡ text) → cond b known rest ≢ Other → name_text (cond b known rest) ≡ text
either true text known rest e f h = sym (e refl)
either false text known rest e f h = f h

first_named_text : (names : List KnownName) (text : List ℕ) → first_named names text ≢ Other → name_text (first_named names text) ≡ text
first_named_text [] text h = absurd (h refl)
first_named_text (known ∷ names) text h = either (bytes_eq text (name_text known)) text known (first_named names text) (bytes_eq-Decides text (name_text known)).0 (first_named_text names text) h

-- and it has the text by which it was found
pub text_of_known : (text : List ℕ) → known_name_of text ≢ Other → name_text (known_name_of text) ≡ text
unfolding known_name_of
text_of_known text h = first_named_text known_names text h

-- the table has the number of each name in lower case at its slot
number_at_slot : (known : KnownName) → nth_name (slice_index NUMBERS (slot_of (name_text known))) ≡ lowercase_name known
unfolding nth_name known_names slot_of
number_at_slot A = refl
number_at_slot _ = refl

pub name_at_slot : (text : List ℕ) (known : KnownName) → text ≡ name_text known → nth_name (slice_index NUMBERS (slot_of text)) ≡ lowercase_name known
name_at_slot text known e = ap (λ t. nth_name (slice_index NUMBERS (slot_of t))) e ∙ number_at_slot known

-- whether it is a name and not `Other`
abbrev pub is_known : KnownName → Bool
is_known Other = false
is_known _ = true

pub known_not_other : (known : KnownName) → is_known known ≡ true → known ≢ Other
known_not_other known h e = let f : false ≡ true = sym (ap is_known e) ∙ h in cc

-- tests that are true in the same cases are equal
pub same_tests : (b c : Bool) → (b ≡ true → c ≡ true) → (c ≡ true → b ≡ true) → b ≡ c
same_tests true c f g = sym (f refl)
same_tests false true f g = g refl
same_tests false false f g = refl

-- a known text equals a text exactly if it is the text of that text's name
pub same_by_name : (known text : List ℕ) → is_known (known_name_of known) ≡ true → bytes_eq known (name_text (known_name_of text)) ≡ bytes_eq known text
same_by_name known text h =
    same_tests _ _
    (λ p.
    let e : known ≡ name_text (known_name_of text) = (bytes_eq-Decides known (name_text (known_name_of text))).0 p in
    let k : known_name_of known ≡ known_name_of text = ap known_name_of e ∙ known_of_text (known_name_of text) in
    (bytes_eq-Decides known text).1 (e ∙ text_of_known text (known_not_other (known_name_of text) (sym (ap is_known k) ∙ h))))
    (λ p.
    let e : known ≡ text = (bytes_eq-Decides known text).0 p in
    (bytes_eq-Decides known (name_text (known_name_of text))).1
    (e ∙ sym (text_of_known text (known_not_other (known_name_of text) (sym (ap is_known (ap known_name_of e)) ∙ h)))))

-- texts of one name that HTML knows are the same, and those of two names are not
pub same_known : (x y : List ℕ) → known_name_of x ≡ known_name_of y → known_name_of x ≢ Other → bytes_eq x y ≡ true
same_known x y e h =
    (bytes_eq-Decides x y).1 (sym (text_of_known x h) ∙ (ap name_text e ∙ text_of_known y (λ k. h (e ∙ k))))

differ : (b : Bool) (x y : List ℕ) → known_name_of x ≢ known_name_of y → (b ≡ true → x ≡ y) → b ≡ false
differ true x y h f = absurd (h (ap known_name_of (f refl)))
differ false x y h f = refl

pub not_same_known : (x y : List ℕ) → known_name_of x ≢ known_name_of y → bytes_eq x y ≡ false
not_same_known x y h = differ (bytes_eq x y) x y h (bytes_eq-Decides x y).0

-- the search of a name in the table
pub past_the_names : (n : ℕ) → 220 ≤ n → nth_name n ≡ Other
unfolding nth_name known_names
past_the_names n h = get_or_past known_names n Other h

pub found : (text : List ℕ) (known : KnownName) → name_text known ≡ text → known ≡ known_name_of text
found text known e = sym (known_of_text known) ∙ ap known_name_of e

-- what isn't a name is `Other`
pub other_if : (known : KnownName) → is_known known ≡ false → Other ≡ known
other_if Other h = refl
other_if _ h = cc

-- a name that is stored as a number has its text
pub text_of_name : (text : List ℕ) (known : KnownName) → known ≡ known_name_of text → known ≢ Other → name_text known ≡ text
text_of_name text known e h = ap name_text e ∙ text_of_known text (λ k. h (e ∙ k))

-- the test of two names
not_true : (b : Bool) → not b ≡ true → b ≡ false
not_true true h = sym h
not_true false h = refl

not_false : (b : Bool) → not b ≡ false → b ≡ true
not_false true h = refl
not_false false h = sym h

pub equal_names : (x y : KnownName) → not (sameb the_type x y) ≡ false → x ≡ y
equal_names x y h = same_true the_type (search rules) x y (not_false (sameb the_type x y) h)

pub unequal_names : (x y : KnownName) → not (sameb the_type x y) ≡ true → x ≢ y
unequal_names x y h = same_false the_type x y (not_true (sameb the_type x y) h)

-- whether HTML knows each of these texts
abbrev pub are_known : List (List ℕ) → Bool
are_known [] = true
are_known (known ∷ names) = is_known (known_name_of known) && are_known names

-- a list of known texts has a text exactly if it has the text of that text's name
pub any_by_name : (names : List (List ℕ)) (text : List ℕ) → are_known names ≡ true → list_any (λ n. bytes_eq n (name_text (known_name_of text))) names ≡ list_any (λ n. bytes_eq n text) names
any_by_name [] text h = refl
any_by_name (known ∷ names) text h =
    let p = and_parts (is_known (known_name_of known)) (are_known names) h in
    ap (λ b. b || list_any (λ n. bytes_eq n (name_text (known_name_of text))) names) (same_by_name known text p.0)
    ∙ ap (λ b. bytes_eq known text || b) (any_by_name names text p.1)

-- a text that isn't found as a name isn't the name's text
pub not_text_of : (text : List ℕ) (known : KnownName) → known_name_of text ≢ known → bytes_eq text (name_text known) ≡ false
not_text_of text known h = not_same_known text (name_text known) (λ e. h (e ∙ known_of_text known))
