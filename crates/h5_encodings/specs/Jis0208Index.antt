-- The index jis0208: the table that the code reads. It stays closed, so that no proof computes with it. `write_tables.py` writes this
-- file.
use Rattle.std.specs.Prelude.{ℕ, List}
use Rattle.h5_encodings.specs.declared.jis0208_index.TheConstants.{JIS0208}

unfoldable pub jis0208_index : List ℕ
jis0208_index = JIS0208
