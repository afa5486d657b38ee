use Rattle.std.proofs.Common.{◌≡◌, ◌<◌, ℕ, true, List, ◌++◌, take}
use Rattle.h5_tokenizer_spec.specs.References.{is_beginning}
use Rattle.h5_tokenizer_spec.specs.ReferenceTable.{references}
use Rattle.h5_tokenizer_states.specs.Candidates.{AreCandidates}
use Rattle.h5_tokenizer_states.proofs.search.further_len.Given as goal

-- names that begin with what was seen and this much of the text
pub record GoOn (seen text : List ℕ) (len from to : ℕ) : Type 0 where
  pub are : AreCandidates (seen ++ take len text) from to
  pub begins : is_beginning references seen ≡ true → is_beginning references (seen ++ take len text) ≡ true
  pub some : 0 < len → is_beginning references (seen ++ take len text) ≡ true

abbrev pub invariant-loop-len : goal.invariant-loop-len
invariant-loop-len l = GoOn l.seen l.text l.len l.candidates.from l.candidates.to
