use Rattle.std.proofs.Common.{ap, option_map, subst, sym}
use Rattle.std.specs.Option.{is_some}
use Rattle.h5_builder_spec.specs.Changes.{create_root}
use Rattle.h5_builder_spec.specs.inner.Kept.{Fitting}
use Rattle.h5_tree_builder.specs.Builder.{Building}
use Rattle.h5_driver.specs.inner.Working.{Begins}
use Rattle.h5_driver.proofs.BeginningLaws.{fragment_begins}
use Rattle.h5_driver.proofs.beginning.fragment_builder.Goals as goal

pub tokenizer_state_for_context_elem-state-requires : goal.tokenizer_state_for_context_elem-state-requires
unfolding create_root
tokenizer_state_for_context_elem-state-requires g c = ap (λ (b : Building). is_some b.view.world.context) c.in_ok-builder.ensures.first

pub returns-clause-begins : goal.returns-clause-begins
returns-clause-begins g c =
    let law = g.Sink.TreeSink in
    let first = c.in_ok-builder.ensures.first in
    subst (λ (b : Building). Begins b.view) (sym first)
    (fragment_begins law.choices (law.sees c.args.sink) (law.node c.args.context_element) (option_map law.node c.args.form_element) c.args.opts.tree_builder (subst (λ (b : Building). Fitting b.view.world) first c.in_ok-builder.ensures.fitting))
