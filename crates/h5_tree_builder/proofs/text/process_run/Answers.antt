use Rattle.h5_tree_builder.proofs.TextLaws.{run_is, run_is_quiet}
use Rattle.h5_tree_builder.proofs.text.process_run.Goals as goal

pub returns-clause-done : goal.returns-clause-done
returns-clause-done g c = run_is _ _ _ _ _ c.requires.text c.requires.run c.in_ok-taken.ensures.came.world

pub returns-clause-quiet : goal.returns-clause-quiet
returns-clause-quiet g c = λ e. c.in_ok-taken.ensures.came.quiet (run_is_quiet _ _ _ _ c.requires.text e)
