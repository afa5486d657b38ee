use Rattle.std.proofs.Common.{subst, sym}
use Rattle.h5_builder_spec.specs.inner.Kept.{Fitting}
use Rattle.h5_tree_builder.specs.Builder.{Building}
use Rattle.h5_driver.specs.inner.Working.{Begins}
use Rattle.h5_driver.proofs.BeginningLaws.{document_begins}
use Rattle.h5_driver.proofs.beginning.document_builder.Goals as goal

pub returns-clause-begins : goal.returns-clause-begins
returns-clause-begins g c =
    let first = c.new.ensures.first in
    subst (λ (b : Building). Begins b.view) (sym first) (document_begins (g.Sink.TreeSink.sees c.args.sink) c.args.opts (subst (λ (b : Building). Fitting b.view.world) first c.new.ensures.fitting))
