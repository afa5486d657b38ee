-- The index gb18030 ranges: the table that the code reads. It stays closed, so that no proof computes with it. `write_tables.py`
-- writes this file.
use Rattle.std.specs.Prelude.{ℕ, List}
use Rattle.h5_encodings.specs.declared.gb18030_ranges.TheConstants.{GB18030_RANGES}

unfoldable pub gb18030_ranges : List (ℕ × ℕ)
gb18030_ranges = GB18030_RANGES
