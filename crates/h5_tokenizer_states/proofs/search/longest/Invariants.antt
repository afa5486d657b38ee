use Rattle.std.proofs.Common.{◌≡◌, ℕ, List, take}
use Rattle.std.specs.Prelude.{Option}
use Rattle.h5_tokenizer_spec.specs.References.{longest_within}
use Rattle.h5_tokenizer_spec.specs.ReferenceTable.{references}
use Rattle.h5_tokenizer_states.specs.declared.search.Named.{Named}
use Rattle.h5_tokenizer_states.specs.Candidates.{AreCandidates}
use Rattle.h5_tokenizer_states.specs.Found.{found_in}
use Rattle.h5_tokenizer_states.proofs.search.longest.Given as goal

-- names that begin with this much of what was seen, and the longest in it
pub record IsLongestSoFar (seen : List ℕ) (depth from to : ℕ) (found : Option Named) : Type 0 where
  pub are : AreCandidates (take depth seen) from to
  pub longest : found_in seen found ≡ longest_within references depth seen

abbrev pub invariant-loop-depth : goal.invariant-loop-depth
invariant-loop-depth l = IsLongestSoFar l.seen l.depth l.candidates.from l.candidates.to l.found
