-- Doctypes that have a name.
use Rattle.std.proofs.Common.{◌≡◌, ℕ, ◌<◌, List, [], ◌∷◌, length, refl, arith}
use Rattle.h5_markup.specs.Cuts.{past}
use Rattle.h5_markup.specs.declared.cut.Class.TheVariants.{Blank}
use Rattle.h5_markup.specs.Text.{name_of}
use Rattle.h5_markup.specs.Doctypes.{doctype_at, identified, identifiers}

pub doctype_named : (name rest : List ℕ) → 0 < length name → doctype_at name rest ≡ identified (name_of name) (identifiers (past Blank rest))
doctype_named [] rest some = absurd (omega arith)
doctype_named (x ∷ name) rest some = refl
