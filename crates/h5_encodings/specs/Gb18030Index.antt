-- The index gb18030: the table that the code reads. It stays closed, so that no proof computes with it. `write_tables.py` writes this
-- file.
use Rattle.std.specs.Prelude.{ℕ, List}
use Rattle.h5_encodings.specs.declared.gb18030_index.TheConstants.{GB18030}

unfoldable pub gb18030_index : List ℕ
gb18030_index = GB18030
