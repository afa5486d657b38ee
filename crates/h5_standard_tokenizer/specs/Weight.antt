-- How much is left to do. Each row makes it less, even one that reconsumes its byte.
use Rattle.std.specs.Prelude.{ℕ, ◌+◌, ◌*◌, List, [], ◌∷◌, length}
use Rattle.h5_tokenizer_spec.specs.Lines.{normal}
use Rattle.h5_tokenizer_spec.specs.Rank.{rank}
use Rattle.h5_tokenizer_spec.specs.States.{State}
use Rattle.h5_tokenizer_spec.specs.Reading.{ReaderPlace}

-- how many rows reconsume the current byte at most
abbrev pub rank_at : State → List ℕ → ℕ
rank_at state [] = 0
rank_at state (x ∷ xs) = rank state (normal x)

abbrev pub weight : ReaderPlace → List ℕ → ℕ
weight p xs = 3 * length xs + rank_at p.state xs
