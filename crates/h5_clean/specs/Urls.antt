-- URLs, as browsers read them (URL standard, section 4.4), and the attributes that hold them.
use Rattle.std.specs.Prelude.{ℕ, ◌==◌, nat_le, ◌||◌, Bool, false, List, [], ◌∷◌, ◌++◌, map, Option, Some, None, codes, if◌then◌else◌}
use Rattle.std.specs.Char.{is_ascii_alphabetic, is_ascii_digit, to_ascii_lowercase}
use Rattle.h5_tables.specs.TagSets.{is_one_of}
use Rattle.h5_clean.specs.declared.lists.TheConstants.{URLS}

-- a URL without leading C0 controls and spaces
abbrev pub behind_controls : List ℕ → List ℕ
behind_controls [] = []
behind_controls (b ∷ t) = if nat_le b 32 then behind_controls t else b ∷ t

-- TAB, LF and CR are skipped
abbrev pub is_skipped : ℕ → Bool
is_skipped b = (b == 9) || ((b == 10) || (b == 13))

abbrev pub is_scheme_byte : ℕ → Bool
is_scheme_byte b = is_ascii_alphabetic b || (is_ascii_digit b || ((b == 43) || ((b == 45) || (b == 46))))

-- the scheme in lower case: what was read of it before, and the bytes up to ':'
abbrev pub scheme_behind : (read : List ℕ) → List ℕ → Option (List ℕ)
scheme_behind read [] = None
scheme_behind read (b ∷ t) =
    if is_skipped b then scheme_behind read t
    else (if b == 58 then Some read
    else (if is_scheme_byte b then scheme_behind (read ++ to_ascii_lowercase b ∷ []) t
    else None))

-- a scheme begins with a letter; a URL without one is relative
abbrev pub scheme_of_visible : List ℕ → Option (List ℕ)
scheme_of_visible [] = None
scheme_of_visible (b ∷ t) =
    if is_skipped b then scheme_of_visible t
    else (if is_ascii_alphabetic b then scheme_behind (to_ascii_lowercase b ∷ []) t else None)

abbrev pub scheme_of : List ℕ → Option (List ℕ)
scheme_of url = scheme_of_visible (behind_controls url)

-- attributes that hold a URL
unfoldable pub url_names : List (List ℕ)
url_names = map (λ name. name.now) URLS

abbrev pub is_url_name : List ℕ → Bool
is_url_name local = is_one_of url_names local

-- schemes by which a browser runs a URL as a script
unfoldable pub script_schemes : List (List ℕ)
script_schemes = codes "javascript" ∷ codes "vbscript" ∷ []

abbrev pub is_script : Option (List ℕ) → Bool
is_script None = false
is_script (Some scheme) = is_one_of script_schemes scheme

-- a URL of a place in the page: '#' first
abbrev pub is_fragment_first : List ℕ → Bool
is_fragment_first [] = false
is_fragment_first (b ∷ t) = b == 35

abbrev pub is_fragment : List ℕ → Bool
is_fragment url = is_fragment_first (behind_controls url)
