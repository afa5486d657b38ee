-- Bytes that are appended to a text.
use Rattle.std.specs.Prelude.{ℕ, List, [], ◌∷◌, ◌==◌, if◌then◌else◌}
use Rattle.h5_tokenizer_spec.specs.Signs.{null, replacement}

-- U+FFFD for a NUL
abbrev pub cleaned : ℕ → List ℕ
cleaned x = if x == null then replacement else x ∷ []
