-- The indices of a text in UTF-8 at which a character with a reference begins.
use Rattle.memchr.specs.Find.{is_byte3}
use Rattle.std.specs.Prelude.{◌≡◌, ℕ, ◌+◌, ◌<◌, Bool, false, ◌==◌, ◌&&◌, ◌||◌, List, slice_index}

-- a byte and the one after it, at which such a character begins: U+00A0 is C2 A0
abbrev pub begins_reference : (attr_mode : Bool) → ℕ → ℕ → Bool
begins_reference attr_mode x y =
    x == 0x26 || (x == 0x3c || (x == 0x3e || ((attr_mode && (x == 0x22)) || (x == 0xc2 && (y == 0xa0)))))

-- true if one begins at this index
abbrev pub reference_at : (attr_mode : Bool) → List ℕ → ℕ → Bool
reference_at attr_mode bytes i = begins_reference attr_mode (slice_index bytes i) (slice_index bytes (i + 1))

-- none begins before this index
abbrev pub IsPlainBefore : (attr_mode : Bool) → List ℕ → ℕ → Type 0
IsPlainBefore attr_mode bytes n = (k : ℕ) → k < n → reference_at attr_mode bytes k ≡ false

-- no `&`, `<` or `>` is before this index
abbrev pub HasNoMarkBefore : List ℕ → ℕ → Type 0
HasNoMarkBefore bytes n = (k : ℕ) → k < n → is_byte3 0x26 0x3c 0x3e (slice_index bytes k) ≡ false

-- another byte at which a character with a reference may begin
abbrev pub is_candidate : (attr_mode : Bool) → ℕ → Bool
is_candidate attr_mode x = (attr_mode && (x == 0x22)) || x == 0xc2
