use Rattle.std.proofs.Common.{◌≡◌, length, true}
use Rattle.h5_builder_spec.specs.inner.Kept.{Fits}
use Rattle.h5_builder_spec.specs.Text.{is_quiet_text, text_any}
use Rattle.h5_builder_state.specs.Steps.{IsSound}
use Rattle.h5_builder_state.specs.View.{world}
use denote.Shadow.{shadow}
use denote.Text.{Utf8}
use Rattle.h5_tree_builder.proofs.text.process_runs.Given as goal

abbrev pub invariant-runs : goal.invariant-runs
invariant-runs g l =
    let w = world g.S.TreeSink.sees g.S.TreeSink.node l.sink l.state in
    let first = world g.S.TreeSink.sees g.S.TreeSink.node l.fn.sink l.fn.state in
    record {
      utf8 : shadow (Utf8 l.rest);
      sound : IsSound g.S.TreeSink l.sink l.state;
      fits : Fits w;
      rest : text_any g.S.TreeSink.choices l.rest w ≡ text_any g.S.TreeSink.choices l.fn.text first;
      mode : is_quiet_text first.mode ≡ true → is_quiet_text w.mode ≡ true;
      quiet : is_quiet_text first.mode ≡ true → (g.S.TreeSink.sees l.sink).errors ≡ (g.S.TreeSink.sees l.fn.sink).errors;
    }

abbrev pub decreases-runs : goal.decreases-runs
decreases-runs g l = length l.rest
