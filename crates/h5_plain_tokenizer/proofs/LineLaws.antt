-- The place after a part.
use Rattle.std.proofs.Common.{◌≡◌, ℕ, List, ◌++◌, sym, ap}
use Rattle.h5_tokenizer_input.specs.Lines.{newlines_passed}
use Rattle.h5_tokenizer_input.proofs.LineLaws.{line_on}
use Rattle.h5_plain_tokenizer.specs.Front.{ReaderPlace}
use Rattle.h5_plain_tokenizer.specs.Read.{behind}
use Rattle.h5_plain_tokenizer.specs.Steps.{further}

-- the place after a part, by the newlines in it
pub behind_by : (p : ReaderPlace) (lines : ℕ) (xs ys : List ℕ) → lines ≡ newlines_passed xs ys → behind p xs ys ≡ further lines p
behind_by p lines xs ys h = ap (λ l. further l p) (sym h)

pub behind_on : (p : ReaderPlace) (xs ys more : List ℕ) → behind p (xs ++ more) (ys ++ more) ≡ behind p xs ys
behind_on p xs ys more = ap (λ l. let q : ReaderPlace = record { at_start = p.at_start; mode = p.mode; last = p.last; line = l } in q) (line_on p.line xs ys more)
