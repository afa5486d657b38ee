-- The index Big5: the table that the code reads. It stays closed, so that no proof computes with it. `write_tables.py` writes this
-- file.
use Rattle.std.specs.Prelude.{ℕ, List}
use Rattle.h5_encodings.specs.declared.big5_index.TheConstants.{BIG5}

unfoldable pub big5_index : List ℕ
big5_index = BIG5
