-- The table has the text of each name at the name's number.
use Rattle.std.proofs.Common.{◌≡◌, [], get_or, map, refl}
use denote.Enum.Declared.{tag_of}
use Rattle.h5_names.specs.contracts.known_name.KnownName.{the_type}
use Rattle.h5_names.specs.declared.known_name.KnownName.{KnownName}
use Rattle.h5_names.specs.declared.known_name.KnownName.TheVariants.{A}
use Rattle.h5_names.specs.declared.known_name.TheConstants.{TEXTS}
use Rattle.h5_names.specs.KnownNames.{name_text}

pub text_at_number : (known : KnownName) → get_or (map (λ text. text.now) TEXTS) (tag_of the_type known) [] ≡ name_text known
text_at_number A = refl
text_at_number _ = refl
