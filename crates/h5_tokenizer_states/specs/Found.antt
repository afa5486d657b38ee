-- The results of the search for a name.
use Rattle.std.specs.Prelude.{ℕ, List, Option, Some, None, take, drop}
use Rattle.h5_tokenizer_spec.specs.References.{Longest}
use Rattle.h5_tokenizer_states.specs.declared.search.Named.{Named}

-- the name with its text, and what follows it
abbrev pub found_in : List ℕ → Option Named → Option Longest
found_in seen None = None
found_in seen (Some named) = Some (record { name = take named.len seen; text = named.text.now; rest = drop named.len seen })
