-- A text that may be missing, independent of where it is in memory.
use Rattle.std.specs.Prelude.{ℕ, List, Option, String, string_bytes}
use Rattle.std.specs.Option.{option_map}
use Rattle.std.specs.declared.alloc.Global.{Global}

abbrev pub optional_text : Option (String Global) → Option (List ℕ)
optional_text = option_map string_bytes
