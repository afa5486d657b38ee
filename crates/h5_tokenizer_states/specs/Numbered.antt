-- The references of the definition's list by their indices, and the table of numbers.
use Rattle.std.specs.Prelude.{ℕ, List, [], get_or, slice_index}
use Rattle.h5_tokenizer_spec.specs.ReferenceTable.{references}
use Rattle.h5_tokenizer_states.specs.declared.numbers.TheConstants.{NAMES, NAME_BEGINS, TEXTS, TEXT_BEGINS}

abbrev pub how_many : ℕ
how_many = 2231

abbrev pub name_of : ℕ → List ℕ
name_of number = (get_or references number ([], [])).0

abbrev pub text_of : ℕ → List ℕ
text_of number = (get_or references number ([], [])).1

-- all names, concatenated, and where each begins
unfoldable pub all_names : List ℕ
all_names = NAMES

unfoldable pub name_begin : ℕ → ℕ
name_begin number = slice_index NAME_BEGINS number

-- all texts, concatenated, and where each begins
unfoldable pub all_texts : List ℕ
all_texts = TEXTS.now

unfoldable pub text_begin : ℕ → ℕ
text_begin number = slice_index TEXT_BEGINS number
