use Rattle.std.proofs.Common.{sym, ◌∙◌, arith}
use Rattle.h5_arena.proofs.PlaceLaws.{stands_before}
use Rattle.h5_arena.proofs.children.place_of.Goals as goal

pub places-preserved : goal.places-preserved
places-preserved c = record {
  within = omega (arith, c.places.invariant.within);
  before = stands_before c.args.index c.places.behind c.index-children-at.result c.args.children.now (omega (arith, c.places-test.true)) c.places.invariant.within c.index-children-at.is (sym c.is_node.ensures ∙ c.if-is_node.false) c.places.invariant.before;
}
