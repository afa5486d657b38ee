use Rattle.std.proofs.Common.{take}
use Rattle.h5_tokenizer_states.specs.Candidates.{AreCandidates}
use Rattle.h5_tokenizer_states.proofs.candidates.candidates_of.Given as goal

abbrev pub invariant-loop-depth : goal.invariant-loop-depth
invariant-loop-depth l = AreCandidates (take l.depth l.seen) l.candidates.from l.candidates.to
