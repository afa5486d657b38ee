use Rattle.std.proofs.Common.{◌≡◌, map}
use Rattle.h5_page.specs.Attributes as a
use Rattle.h5_page.proofs.attributes.is_hidden.Given as goal

abbrev pub invariant-attributes : goal.invariant-attributes
invariant-attributes g l = l.hidden ≡ a.is_hidden l.ns (map g.T.AttrRef.attribute l.yielded)
