-- Numbers of names, by which open elements are found.
use Rattle.std.specs.Prelude.{ℕ, ◌+◌, ◌*◌, ◌%◌, ◌==◌, ◌||◌, nat_lt, Bool, if◌then◌else◌, List, Option, Some, option_map}
use Rattle.std.specs.Str.{str_to_ascii_lowercase}
use denote.Enum.Bare.{sameb}
use denote.Enum.Declared.{tag_of}
use Rattle.h5_names.specs.AttributeText.{is_same_text}
use Rattle.h5_names.specs.KnownNames.{known_name_of}
use Rattle.h5_names.specs.contracts.known_name.KnownName.{the_type}
use Rattle.h5_names.specs.declared.known_name.KnownName.TheVariants.{Other}
use Rattle.h5_names.specs.declared.qualified.QualName.{QualName}
use Rattle.h5_builder_state.specs.Numbering.{number_of}
use Rattle.h5_tables.specs.TagSets.{html_namespace}
use Rattle.h5_builder_state.specs.declared.name_numbers.NameNumbers.{NameNumbers}

-- the number of the HTML elements with a local name: that of the known name; if HTML doesn't know the name, an even one
-- by its text, if the text has a number yet
unfoldable pub html_number : NameNumbers → List ℕ → Option ℕ
html_number numbers local =
    if sameb the_type (known_name_of local) Other then option_map (λ n. 2 * n) (number_of numbers.texts local) else Some (tag_of the_type (known_name_of local))

-- the number of the elements of MathML and SVG with a local name, in any case of ASCII letters: an odd one, by its text
-- in lower case
unfoldable pub foreign_number : NameNumbers → List ℕ → Option ℕ
foreign_number numbers local = option_map (λ n. 2 * n + 1) (number_of numbers.texts (str_to_ascii_lowercase local))

-- the number of a name
unfoldable pub name_number : NameNumbers → QualName → Option ℕ
name_number numbers name = if is_same_text name.ns html_namespace then html_number numbers name.local else foreign_number numbers name.local

-- the number is one of HTML elements: those of known names are below all others, and those of other names are even
abbrev pub is_html_number : ℕ → Bool
is_html_number number = nat_lt number 256 || (number % 2 == 0)
