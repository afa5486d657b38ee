use Rattle.std.proofs.Common.{Some, ap, refl, subst, sym, ◌∙◌}
use Rattle.h5_tables.specs.TurnText.{TextTurn}
use Rattle.h5_tables.specs.declared.modes.SplitStatus.TheVariants.{NotSplit}
use Rattle.h5_builder_spec.specs.Changes.{take_pending_text}
use Rattle.h5_builder_spec.specs.modes.InTableText.{in_table_text_else, pending_text}
use Rattle.h5_builder_spec.specs.Rows.{Follows, Row, apply_all}
use Rattle.h5_builder_spec.specs.inner.Kept.{HasHtmlRoot}
use Rattle.h5_builder_state.specs.Steps.{errors_of, world_of}
use Rattle.h5_builder_state.specs.Turn.{turn_result}
use Rattle.h5_modes_tables.proofs.PendingLaws.{ready_taken, same_pending}
use Rattle.h5_modes_tables.proofs.in_table_text.leave_table_text.Goals as goal

pub insert_pending_text-requires-clause-ready : goal.insert_pending_text-requires-clause-ready
insert_pending_text-requires-clause-ready g c =
    subst HasHtmlRoot (sym c.take_pending_text-pending.ensures.made.world) (ready_taken (world_of g.S.TreeSink c.args.sink.now c.args.state.now) c.requires.ready)

pub returns-clause-asks : goal.returns-clause-asks
unfolding in_table_text_else
returns-clause-asks g c = λ token.
    let law = g.S.TreeSink in
    let w = world_of law c.args.sink.now c.args.state.now in
    let u = world_of law c.args.sink.now c.take_pending_text-pending.new.state in
    let v = world_of law c.insert_pending_text.new.sink c.insert_pending_text.new.state in
    let pending = c.take_pending_text-pending.result in
    let r = pending_text w.pending w in
    let inserted : Follows law.choices law.node r (TextTurn NotSplit pending) u v (errors_of law c.args.sink.now) (errors_of law c.insert_pending_text.new.sink) (turn_result c.in_ok-insert_pending_text.field-0 c.insert_pending_text.new.state) =
    subst (λ (x : Row). Follows law.choices law.node x (TextTurn NotSplit pending) u v (errors_of law c.args.sink.now) (errors_of law c.insert_pending_text.new.sink) (turn_result c.in_ok-insert_pending_text.field-0 c.insert_pending_text.new.state))
    (ap (pending_text pending) c.take_pending_text-pending.ensures.made.world
    ∙ ap (λ text. pending_text text (take_pending_text w)) c.take_pending_text-pending.ensures.text
    ∙ same_pending w.pending w)
    c.in_ok-insert_pending_text.ensures.follows in
    record {
      world = inserted.world ∙ ap (apply_all law.choices r.changes) c.take_pending_text-pending.ensures.made.world;
      ending = (ap Some (sym c.saved_mode.ensures), refl);
      quiet = inserted.quiet;
      noted = inserted.noted;
    }
