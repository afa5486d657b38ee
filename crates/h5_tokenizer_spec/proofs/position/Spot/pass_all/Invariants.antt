use Rattle.std.proofs.Common.{◌≡◌, drop}
use Rattle.h5_tokenizer_spec.specs.Spots.{spot_behind_all}
use Rattle.h5_tokenizer_spec.proofs.position.Spot.pass_all.Given as goal

abbrev pub invariant-loop-b : goal.invariant-loop-b
invariant-loop-b l = spot_behind_all (drop l.b-index l.bytes) l.self ≡ spot_behind_all l.bytes l.initial.self
