use Rattle.std.proofs.Common.{◌≡◌, map, option_map, string_bytes}
use Rattle.h5_page.specs.Links.{href_of}
use Rattle.h5_page.proofs.links.href_of.Given as goal

abbrev pub invariant-attributes : goal.invariant-attributes
invariant-attributes g l = option_map string_bytes l.href ≡ href_of (map g.T.AttrRef.attribute l.yielded)
