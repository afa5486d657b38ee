-- The index EUC-KR: the table that the code reads. It stays closed, so that no proof computes with it. `write_tables.py` writes this
-- file.
use Rattle.std.specs.Prelude.{ℕ, List}
use Rattle.h5_encodings.specs.declared.euc_kr_index.TheConstants.{EUC_KR}

unfoldable pub euc_kr_index : List ℕ
euc_kr_index = EUC_KR
