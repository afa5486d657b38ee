use Rattle.std.proofs.Common.{subst, sym}
use Rattle.h5_tree_builder.specs.Held.{building}
use Rattle.h5_driver.specs.inner.Working.{Begins}
use Rattle.h5_driver.proofs.BeginningLaws.{begins_works}
use Rattle.h5_driver.proofs.standard.parse_fragment_for_element.Goals as goal

pub parser_over-requires-clause-works : goal.parser_over-requires-clause-works
parser_over-requires-clause-works g c =
    begins_works _ _ _ (subst (λ b. Begins (building g.Sink.TreeSink.sees g.Sink.TreeSink.node b).view) (sym c.new.ensures.sink) c.in_ok-builder.ensures.begins)
