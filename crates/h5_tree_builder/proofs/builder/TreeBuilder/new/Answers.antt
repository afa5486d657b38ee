use Rattle.std.proofs.Common.{refl, rules}
use Rattle.h5_tree_builder.proofs.BuilderLaws.{first_kept}
use Rattle.h5_tree_builder.proofs.builder.TreeBuilder.new.Goals as goal

pub invariant_of-result : goal.invariant_of-result
invariant_of-result g c = first_kept g.Sink.TreeSink c.args.sink c.first_state-state.result c.args.opts c.get_document-document.ensures.is_forest c.first_state-state.ensures.kept c.first_state-state.ensures.stamped c.first_state-state.ensures.world

pub returns-clause-fitting : goal.returns-clause-fitting
returns-clause-fitting g c = let k = invariant_of-result g c in record { sound = k.sound.sound; fits = k.fits refl refl }

pub returns-clause-first : goal.returns-clause-first
returns-clause-first g c = search rules

pub returns-clause-sink : goal.returns-clause-sink
returns-clause-sink g c = search rules
