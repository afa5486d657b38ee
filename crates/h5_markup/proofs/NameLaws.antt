-- A known name is read unchanged, except for ASCII case.
use Rattle.std.proofs.Common.{◌≡◌, false, refl}
use Rattle.h5_names.specs.declared.known_name.KnownName.{KnownName}
use Rattle.h5_names.specs.declared.known_name.KnownName.TheVariants.{A}
use Rattle.h5_names.specs.KnownNames.{name_text}
use Rattle.h5_markup.specs.Text.{text_of}

pub name_stands : (known : KnownName) → text_of false (name_text known) ≡ name_text known
unfolding text_of
name_stands A = refl
name_stands _ = refl
