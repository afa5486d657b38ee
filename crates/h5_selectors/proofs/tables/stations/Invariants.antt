use Rattle.std.proofs.Common.{◌≡◌, ◌++◌, map}
use Rattle.h5_selectors.specs.Tables.{stations_of}
use Rattle.h5_selectors.specs.Waiting.{size_of}
use Rattle.h5_selectors.proofs.tables.stations.Given as goal

abbrev pub invariant-onward : goal.invariant-onward
invariant-onward l = map (λ f. f.now) l.stations.items ++ stations_of l.at ≡ stations_of l.formula

abbrev pub decreases-onward : goal.decreases-onward
decreases-onward l = size_of l.at
