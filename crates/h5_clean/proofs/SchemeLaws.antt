-- The scheme of a URL, read beside a name.
use Rattle.std.proofs.Common.{◌≡◌, ◌==◌, ◌||◌, ◌&&◌, ◌++◌, ◌∷◌, ◌∙◌, Bool, true, false, not, List, [], ℕ, Option, Some, None, ap, refl, sym, codes, is_some, if◌then◌else◌, append_assoc, arith, eq-eqb, eqb-true, length, ◌<◌, map, subst}
use Rattle.std.proofs.lemmas.Bool.{false≢true}
use Rattle.std.proofs.lemmas.List.{append-nil}
use Rattle.std.specs.List.{list_any}
use Rattle.std.specs.Option.{option_eq}
use Rattle.std.specs.Char.{is_ascii_alphabetic, is_ascii_digit, to_ascii_lowercase}
use Rattle.h5_names.specs.AttributeText.{is_same_text}
use Rattle.h5_clean.proofs.ListLaws.{any_of_map}
use Rattle.h5_clean.specs.AllowLists.{leads_by}
use Rattle.h5_clean.specs.DefaultPolicy.{has_scheme_of, image_schemes, link_schemes}
use Rattle.h5_clean.specs.Urls.{is_script, script_schemes, is_scheme_byte, is_skipped, scheme_behind, scheme_of_visible}

-- bytes of a scheme up to ':'
abbrev pub has_end : List ℕ → Bool
has_end [] = false
has_end (b ∷ t) =
    if is_skipped b then has_end t
    else (if b == 58 then true
    else (if is_scheme_byte b then has_end t
    else false))

-- bytes up to ':' that are a name's in lower case
abbrev pub is_end : List ℕ → Bool
is_end [] = true
is_end (n ∷ ns) = false

abbrev pub goes_on : (List ℕ → Bool) → (name : List ℕ) → ℕ → Bool
goes_on behind [] b = false
goes_on behind (n ∷ ns) b = if n == b then behind ns else false

abbrev pub spells : (name url : List ℕ) → Bool
spells name [] = false
spells name (b ∷ t) =
    if is_skipped b then spells name t
    else (if b == 58 then is_end name
    else (if is_scheme_byte b then goes_on (λ ns. spells ns t) name (to_ascii_lowercase b)
    else false))

pub ends : (read url : List ℕ) → is_some (scheme_behind read url) ≡ has_end url
ends read [] = refl
ends read (b ∷ t) = by (is_skipped b) (b == 58) (is_scheme_byte b) (λ r. ends r t)
  where
    by : (x y z : Bool) → ((r : List ℕ) → is_some (scheme_behind r t) ≡ has_end t)
        → is_some (if x then scheme_behind read t else (if y then Some read else (if z then scheme_behind (read ++ to_ascii_lowercase b ∷ []) t else None)))
        ≡ (if x then has_end t else (if y then true else (if z then has_end t else false)))
    by true y z h = h read
    by false true z h = refl
    by false false true h = h (read ++ to_ascii_lowercase b ∷ [])
    by false false false h = refl

-- what an empty rest says
pub no_end : (url : List ℕ) → length url < 1 → has_end url ≡ false
no_end [] h = refl
no_end (b ∷ t) h = absurd (omega arith)

pub no_spelling : (name url : List ℕ) → length url < 1 → spells name url ≡ false
no_spelling name [] h = refl
no_spelling name (b ∷ t) h = absurd (omega arith)

-- texts with a common prefix
same_behind : (front x y : List ℕ) → is_same_text (front ++ x) (front ++ y) ≡ is_same_text x y
same_behind [] x y = refl
same_behind (b ∷ front) x y = by (b == b) (eq-eqb b b refl) (same_behind front x y)
  where
    by : (v : Bool) → v ≡ true → is_same_text (front ++ x) (front ++ y) ≡ is_same_text x y → (v && is_same_text (front ++ x) (front ++ y)) ≡ is_same_text x y
    by true e h = h
    by false e h = absurd (false≢true e)

-- a text isn't a scheme if it doesn't begin with what was read
others : (text read url : List ℕ) → ((s : List ℕ) → is_same_text text (read ++ s) ≡ false) → option_eq is_same_text (Some text) (scheme_behind read url) ≡ false
others text read [] h = refl
others text read (b ∷ t) h =
    by (is_skipped b) (b == 58) (is_scheme_byte b) (others text read t h)
    (rw append-nil at (h []))
    (others text (read ++ to_ascii_lowercase b ∷ []) t (λ s. rw append_assoc (h (to_ascii_lowercase b ∷ s))))
  where
    by : (x y z : Bool)
        → option_eq is_same_text (Some text) (scheme_behind read t) ≡ false
        → is_same_text text read ≡ false
        → option_eq is_same_text (Some text) (scheme_behind (read ++ to_ascii_lowercase b ∷ []) t) ≡ false
        → option_eq is_same_text (Some text) (if x then scheme_behind read t else (if y then Some read else (if z then scheme_behind (read ++ to_ascii_lowercase b ∷ []) t else None))) ≡ false
    by true y z skipped ended read_on = skipped
    by false true z skipped ended read_on = ended
    by false false true skipped ended read_on = read_on
    by false false false skipped ended read_on = refl

ended : (read name : List ℕ) → is_same_text (read ++ name) read ≡ is_end name
ended read name = ap (is_same_text (read ++ name)) (sym (append-nil read)) ∙ (same_behind read name [] ∙ by name)
  where
    by : (name : List ℕ) → is_same_text name [] ≡ is_end name
    by [] = refl
    by (n ∷ ns) = refl

-- a byte more
read_on : (read name : List ℕ) (b : ℕ) (t : List ℕ)
    → ((ns : List ℕ) → option_eq is_same_text (Some ((read ++ b ∷ []) ++ ns)) (scheme_behind (read ++ b ∷ []) t) ≡ spells ns t)
    → option_eq is_same_text (Some (read ++ name)) (scheme_behind (read ++ b ∷ []) t) ≡ goes_on (λ ns. spells ns t) name b
read_on read [] b t h = others (read ++ []) (read ++ b ∷ []) t (λ s. rw append_assoc (same_behind read [] (b ∷ s)))
read_on read (n ∷ ns) b t h = by (n == b) refl
  where
    by : (v : Bool) → n == b ≡ v → option_eq is_same_text (Some (read ++ n ∷ ns)) (scheme_behind (read ++ b ∷ []) t) ≡ (if v then spells ns t else false)
    by true e = ap (λ x. option_eq is_same_text (Some x) (scheme_behind (read ++ b ∷ []) t)) (ap (λ x. read ++ x ∷ ns) (eqb-true n b e) ∙ sym (append_assoc read (b ∷ []) ns)) ∙ h ns
    by false e =
        others (read ++ n ∷ ns) (read ++ b ∷ []) t
        (λ s. rw append_assoc (same_behind read (n ∷ ns) (b ∷ s) ∙ ap (λ v. v && is_same_text ns s) e))

pub spelled : (read name url : List ℕ) → option_eq is_same_text (Some (read ++ name)) (scheme_behind read url) ≡ spells name url
spelled read name [] = refl
spelled read name (b ∷ t) =
    by (is_skipped b) (b == 58) (is_scheme_byte b) (spelled read name t) (ended read name)
    (read_on read name (to_ascii_lowercase b) t (λ ns. spelled (read ++ to_ascii_lowercase b ∷ []) ns t))
  where
    by : (x y z : Bool)
        → option_eq is_same_text (Some (read ++ name)) (scheme_behind read t) ≡ spells name t
        → is_same_text (read ++ name) read ≡ is_end name
        → option_eq is_same_text (Some (read ++ name)) (scheme_behind (read ++ to_ascii_lowercase b ∷ []) t) ≡ goes_on (λ ns. spells ns t) name (to_ascii_lowercase b)
        → option_eq is_same_text (Some (read ++ name)) (if x then scheme_behind read t else (if y then Some read else (if z then scheme_behind (read ++ to_ascii_lowercase b ∷ []) t else None)))
        ≡ (if x then spells name t else (if y then is_end name else (if z then goes_on (λ ns. spells ns t) name (to_ascii_lowercase b) else false)))
    by true y z skipped end on = skipped
    by false true z skipped end on = end
    by false false true skipped end on = on
    by false false false skipped end on = refl

-- a scheme is read from its first letter
no_colon : (b : ℕ) → is_ascii_alphabetic b ≡ true → b == 58 ≡ false
no_colon b h = by (b == 58) refl
  where
    by : (v : Bool) → b == 58 ≡ v → v ≡ false
    by true e = absurd (false≢true (subst (λ x. is_ascii_alphabetic x ≡ true) (eqb-true b 58 e) h))
    by false e = refl

begins : (url s : List ℕ) → scheme_of_visible url ≡ Some s → scheme_behind [] url ≡ Some s
begins [] s h = cc
begins (b ∷ t) s h = by (is_skipped b) (is_ascii_alphabetic b) refl (begins t s) h
  where
    by : (x y : Bool) → is_ascii_alphabetic b ≡ y → (scheme_of_visible t ≡ Some s → scheme_behind [] t ≡ Some s)
        → (if x then scheme_of_visible t else (if y then scheme_behind (to_ascii_lowercase b ∷ []) t else None)) ≡ Some s
        → (if x then scheme_behind [] t else (if b == 58 then Some [] else (if y || (is_ascii_digit b || ((b == 43) || ((b == 45) || (b == 46)))) then scheme_behind (to_ascii_lowercase b ∷ []) t else None))) ≡ Some s
    by true y e h k = h k
    by false true e h k = ap (λ v. if v then Some [] else scheme_behind (to_ascii_lowercase b ∷ []) t) (no_colon b e) ∙ k
    by false false e h k = cc

by_names : (url : List ℕ) (names : List (List ℕ))
    → has_scheme_of names (scheme_of_visible url) ≡ (not (is_some (scheme_of_visible url)) || list_any (λ n. option_eq is_same_text (Some n) (scheme_behind [] url)) names)
by_names url names = by (scheme_of_visible url) refl
  where
    by : (o : Option (List ℕ)) → scheme_of_visible url ≡ o
        → has_scheme_of names o ≡ (not (is_some o) || list_any (λ n. option_eq is_same_text (Some n) (scheme_behind [] url)) names)
    by None e = refl
    by (Some s) e = rw (begins url s e)

-- and is one of these names
abbrev pub is_named : List ℕ → (url : List ℕ) → Bool
is_named name url = option_eq is_same_text (Some name) (scheme_behind [] url)

-- a URL with a scheme, which is spelled by one of these
pub listed : {X : Type 0} (text : X → List ℕ) (url : List ℕ) (names : List X) → is_some (scheme_of_visible url) ≡ true
    → has_scheme_of (map text names) (scheme_of_visible url) ≡ list_any (λ n. is_named (text n) url) names
listed text url names h =
    by_names url (map text names)
    ∙ (ap (λ v. not v || list_any (λ n. is_named n url) (map text names)) h ∙ any_of_map (λ n. is_named n url) text names)

-- where URLs may be relative or not, one with a scheme leads where its scheme does
pub where_some : (relative : Bool) (names : List (List ℕ)) (o : Option (List ℕ)) → is_some o ≡ true → leads_by relative names o ≡ has_scheme_of names o
where_some relative names None h = absurd (false≢true h)
where_some relative names (Some s) h = refl

pub where_none : (relative : Bool) (names : List (List ℕ)) (o : Option (List ℕ)) → is_some o ≡ false → leads_by relative names o ≡ relative
where_none relative names None h = refl
where_none relative names (Some s) h = absurd (false≢true (sym h))

-- a scheme of a script
script_some : (o : Option (List ℕ)) → is_some o ≡ true → is_script o ≡ has_scheme_of script_schemes o
script_some None h = absurd (false≢true h)
script_some (Some s) h = refl

-- a URL with a scheme, and two names
spelled_in_two : (one other url : List ℕ) → is_some (scheme_of_visible url) ≡ true → has_scheme_of (one ∷ other ∷ []) (scheme_of_visible url) ≡ (is_named one url || is_named other url)
spelled_in_two one other url h =
    by_names url (one ∷ other ∷ [])
    ∙ (ap (λ v. not v || list_any (λ n. is_named n url) (one ∷ other ∷ [])) h ∙ by (is_named one url) (is_named other url))
  where
    by : (x y : Bool) → (x || (y || false)) ≡ (x || y)
    by true y = refl
    by false true = refl
    by false false = refl

pub scripts : (url : List ℕ) → is_some (scheme_of_visible url) ≡ true → is_script (scheme_of_visible url) ≡ (is_named (codes "javascript") url || is_named (codes "vbscript") url)
unfolding script_schemes
scripts url h = script_some (scheme_of_visible url) h ∙ spelled_in_two (codes "javascript") (codes "vbscript") url h

or_three : (a x y z : Bool) → (a || (x || (y || (z || false)))) ≡ ((a || (x || (y || false))) || z)
or_three true x y z = refl
or_three false true y z = refl
or_three false false true z = refl
or_three false false false true = refl
or_three false false false false = refl

pub links : (url : List ℕ) → has_scheme_of link_schemes (scheme_of_visible url) ≡ (has_scheme_of image_schemes (scheme_of_visible url) || is_named (codes "mailto") url)
unfolding link_schemes image_schemes
links url =
    by_names url link_schemes
    ∙ (or_three (not (is_some (scheme_of_visible url))) (is_named (codes "http") url) (is_named (codes "https") url) (is_named (codes "mailto") url)
    ∙ ap (λ v. v || is_named (codes "mailto") url) (sym (by_names url image_schemes)))

pub images : (url : List ℕ) → is_some (scheme_of_visible url) ≡ true → has_scheme_of image_schemes (scheme_of_visible url) ≡ (is_named (codes "http") url || is_named (codes "https") url)
unfolding image_schemes
images url h = spelled_in_two (codes "http") (codes "https") url h
