-- Lists of proper tokens.
use Rattle.std.proofs.Common.{List, [], ◌∷◌, ◌++◌}
use Rattle.h5_token.specs.TokenText.{TokenText}
use Rattle.h5_tokenizer_input.specs.Proper.{AreProper}

pub proper_append : (ts us : List TokenText) → AreProper ts → AreProper us → AreProper (ts ++ us)
proper_append [] us h g = g
proper_append (t ∷ ts) us h g = (h.0, proper_append ts us h.1 g)
