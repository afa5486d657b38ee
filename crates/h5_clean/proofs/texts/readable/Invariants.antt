use Rattle.std.proofs.Common.{◌≡◌, string_bytes, encode_utf8_all}
use Rattle.h5_clean.specs.Texts.{readable}
use Rattle.h5_clean.proofs.texts.readable.Given as goal

abbrev pub invariant-loop-c : goal.invariant-loop-c
invariant-loop-c l = string_bytes l.made ≡ readable (encode_utf8_all l.yielded)
