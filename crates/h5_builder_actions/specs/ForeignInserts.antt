-- Elements for tags, in a namespace.
use Rattle.std.specs.Prelude.{ℕ, List, []}
use Rattle.h5_token.specs.TokenText.{TagText}
use Rattle.h5_builder_spec.specs.insertion.Foreign.{adjusted_attributes, foreign_name}
use Rattle.h5_builder_spec.specs.Rows.{Row}
use Rattle.h5_builder_spec.specs.modes.Shared.{inserts_foreign}
use Rattle.h5_builder_spec.specs.World.{World}

-- an element for a tag, with adjusted attributes
abbrev pub inserts_foreign_in : (namespace : List ℕ) → TagText → World → Row
inserts_foreign_in namespace tag w = inserts_foreign (foreign_name namespace tag.name) (adjusted_attributes namespace tag.attrs) [] tag
