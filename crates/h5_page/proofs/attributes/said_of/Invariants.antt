use Rattle.std.proofs.Common.{◌≡◌, map}
use Rattle.h5_page.specs.Attributes as a
use Rattle.h5_page.proofs.attributes.said_of.Given as goal

abbrev pub invariant-attributes : goal.invariant-attributes
invariant-attributes g l = l.said ≡ a.said_of l.ns l.asked (map g.T.AttrRef.attribute l.yielded)
