use Rattle.std.proofs.Common.{ap, ◌∙◌}
use Rattle.h5_builder_spec.specs.Changes.{generate_implied_end_except}
use Rattle.h5_builder_spec.specs.World.{names_of}
use Rattle.h5_builder_spec.proofs.changes.NameLaws.{names-implied}
use Rattle.h5_builder_state.specs.Steps.{world_of}
use Rattle.h5_tables.specs.TagSets.{is_html_named, is_implied}
use Rattle.h5_builder_spec.proofs.BoolLaws.{and_not}
use Rattle.h5_builder_state.proofs.open_elems.generate_implied_end_except.Goals as goal

pub returns-clause-made : goal.returns-clause-made
unfolding generate_implied_end_except
returns-clause-made g c = record { world = c.pop_while.ensures.world; quiet = c.pop_while.ensures.quiet; sound = c.pop_while.ensures.sound }

pub returns-clause-older : goal.returns-clause-older
returns-clause-older g c =
    c.pop_while.ensures.older (is_html_named c.args.local.now) (λ n h. (and_not (is_implied n) (is_html_named c.args.local.now n) h).1)

pub returns-clause-names : goal.returns-clause-names
unfolding generate_implied_end_except
returns-clause-names g c =
    ap names_of c.pop_while.ensures.world ∙ names-implied g.S.TreeSink.choices c.args.local.now (world_of g.S.TreeSink c.args.sink.now c.args.state.now)
