-- The index jis0212: the table that the code reads. It stays closed, so that no proof computes with it. `write_tables.py` writes this
-- file.
use Rattle.std.specs.Prelude.{ℕ, List}
use Rattle.h5_encodings.specs.declared.jis0212_index.TheConstants.{JIS0212}

unfoldable pub jis0212_index : List ℕ
jis0212_index = JIS0212
