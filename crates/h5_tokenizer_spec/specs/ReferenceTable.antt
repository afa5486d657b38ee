-- The named character references (HTML standard, section 13.5): each name without its "&", and its characters as bytes.
use Rattle.std.specs.Prelude.{List, ◌++◌}
use Rattle.h5_tokenizer_spec.specs.References.{Reference}
use Rattle.h5_tokenizer_spec.specs.named.Capitals.{capitals}
use Rattle.h5_tokenizer_spec.specs.named.FromAToF.{from_a_to_f}
use Rattle.h5_tokenizer_spec.specs.named.FromGToM.{from_g_to_m}
use Rattle.h5_tokenizer_spec.specs.named.FromNToR.{from_n_to_r}
use Rattle.h5_tokenizer_spec.specs.named.FromSToZ.{from_s_to_z}

unfoldable pub references : List Reference
references = capitals ++ (from_a_to_f ++ (from_g_to_m ++ (from_n_to_r ++ from_s_to_z)))
