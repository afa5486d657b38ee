use Rattle.std.proofs.Common.{rules, ◌≡◌, ◌≢◌, [], take, drop, string_bytes, ap, ◌∙◌}
use Rattle.h5_builder_spec.specs.Text.{text_any}
use Rattle.h5_builder_state.specs.View.{world}
use Rattle.h5_tree_builder.proofs.TextLaws.{mode_stays, run_then_rest}
use Rattle.h5_tree_builder.proofs.text.process_runs.Goals as goal

pub runs-preserved : goal.runs-preserved
runs-preserved g c =
    let k = g.S.TreeSink.choices in
    let w = world g.S.TreeSink.sees g.S.TreeSink.node c.runs.sink c.runs.state in
    let v = world g.S.TreeSink.sees g.S.TreeSink.node c.process_run.new.sink c.process_run.new.state in
    let text = c.runs.rest.now in
    let n = c.next_run-status.result.1 in
    let run : string_bytes c.in_ok-run.run' ≡ take n text = search rules in
    let tail : c.split_at.result.1.now ≡ drop n text = search rules in
    let some : text ≢ [] = search rules in
    let done : v ≡ text_any k (take n text) w = c.in_ok-process_run.ensures.done ∙ ap (λ x. text_any k x w) run in
    record {
      utf8 = search rules;
      sound = c.process_run.ensures.sound;
      fits = c.in_ok-process_run.ensures.fits;
      rest = ap (λ x. text_any k x v) tail ∙ run_then_rest k text n w v (record { sound = c.runs.invariant.sound.sound; fits = c.runs.invariant.fits }) c.next_run-status.ensures.some some done ∙ c.runs.invariant.rest;
      mode = λ e. mode_stays k (take n text) w v (c.runs.invariant.mode e) done;
      quiet = λ e. c.in_ok-process_run.ensures.quiet (c.runs.invariant.mode e) ∙ c.runs.invariant.quiet e;
    }
