-- Tags with only a name, found faster.
use Rattle.std.specs.Prelude.{◌≡◌, ℕ, Bool, List}
use Rattle.h5_token.specs.declared.tag.TagKind.{TagKind}
use Rattle.h5_markup.specs.Bare.{bare_tag}
use Rattle.h5_markup.specs.Matching.{Found}
use Rattle.h5_plain_tokenizer.specs.Front.{Whole, front}
use Rattle.h5_plain_tokenizer.specs.declared.front.Mode.{Mode}

-- the input begins with such a tag
abbrev pub BeginsBare : Mode → List ℕ → TagKind → List ℕ → List ℕ → Type 0
BeginsBare mode xs kind name rest = (last : List ℕ) (foreign : Bool) → front mode last foreign xs ≡ Found (Whole (bare_tag kind name)) rest
