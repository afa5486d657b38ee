use Rattle.std.proofs.Common.{◌≡◌, ◌≤◌, ◌++◌, ◌+◌, ◌-◌, Option, IfSome, Some, None, ap, arith, length, sym, ◌∙◌}
use Rattle.std.specs.Prelude.{unwrap_or}
use Rattle.h5_builder_spec.specs.reset.ResetByRoles.{decide, reset}
use Rattle.h5_builder_spec.specs.reset.Roles.{roles}
use Rattle.h5_builder_spec.specs.Sound.{situation_of}
use Rattle.h5_builder_spec.specs.World.{names_of}
use Rattle.h5_builder_spec.proofs.changes.PopLaws.{names_length}
use Rattle.h5_builder_spec.specs.stack.Closing.{is_html_among}
use Rattle.h5_tables.specs.declared.modes.InsertionMode.{InsertionMode}
use Rattle.h5_tables.specs.declared.modes.InsertionMode.TheVariants.{InBody, Initial}
use Rattle.h5_builder_state.specs.Newest.{newest_where}
use Rattle.h5_builder_state.specs.View.{names_under, world}
use Rattle.h5_builder_state.proofs.NewestLaws.{newest_le, newest_same}
use Rattle.h5_builder_state.proofs.WalkLaws.{names_count, names_cut}
use Rattle.h5_builder_actions.specs.Reset.{role_as}
use Rattle.h5_builder_actions.proofs.ResetLaws.{among_decides, decides, deciding_names, reset_none, reset_some}
use Rattle.h5_builder_actions.proofs.reset.decide_above_root.Goals as goal

-- an answer is the mode, and there is one
answered : (o : Option InsertionMode) (mode : InsertionMode) (by : InsertionMode → InsertionMode) → ((below : InsertionMode) → by below ≡ unwrap_or o below) → ((below : InsertionMode) → mode ≡ by below) → IfSome o (λ m. m ≡ mode)
answered (Some m) mode by e h = sym (h InBody ∙ e InBody)
answered None mode by e h = tt

never_none : (o : Option InsertionMode) (mode : InsertionMode) (by : InsertionMode → InsertionMode) → ((below : InsertionMode) → by below ≡ unwrap_or o below) → ((below : InsertionMode) → mode ≡ by below) → o ≡ None → ⊥
never_none (Some m) mode by e h n = absurd (cc)
never_none None mode by e h n = let same : Initial ≡ InBody = sym (h Initial ∙ e Initial) ∙ (h InBody ∙ e InBody) in absurd (cc)

pub name_at-requires-clause-place : goal.name_at-requires-clause-place
name_at-requires-clause-place g c =
    let w = world g.S.TreeSink.sees g.S.TreeSink.node c.args.sink.now c.args.state.now in
    omega (arith, c.if-newest-gt1.true, c.newest_among-newest.ensures, newest_le (is_html_among deciding_names) (names_of w), names_length w)

pub returns-then-newest-gt1-clause-some : goal.returns-then-newest-gt1-clause-some
unfolding world
returns-then-newest-gt1-clause-some g c =
    let law = g.S.TreeSink in
    let w = world law.sees law.node c.args.sink.now c.args.state.now in
    let all = names_of w in
    let place = c.newest_among-newest.result in
    let deciding : place ≡ newest_where decides all = c.newest_among-newest.ensures ∙ newest_same (is_html_among deciding_names) decides among_decides all in
    let name = c.name_at.result.now in
    let cut = names_cut law.sees law.node c.args.sink.now c.args.state.now (place - 1 + 1) in
    let split = cut.1 ∙ ap (λ z. cut.0 ++ z) c.name_at.ensures.names in
    let older = names_under law.sees law.node c.args.sink.now c.args.state.now (place - 1) in
    let inside : place - 1 ≤ length w.stack = omega (arith, deciding, newest_le decides all, names_length w) in
    let count = names_count law.sees law.node c.args.sink.now c.args.state.now (place - 1) inside in
    let by : InsertionMode → InsertionMode = decide (situation_of w) (role_as c.role_of.result) in
    let mode : (below : InsertionMode) → reset (situation_of w) (roles all) ≡ by below =
    λ below. reset_some (situation_of w) all cut.0 older name below split (omega (arith, deciding, count, c.if-newest-gt1.true)) (omega (arith, count, c.if-newest-gt1.true))
    ∙ ap (λ r. decide (situation_of w) r below) (sym c.role_of.ensures) in
    answered c.decide.result (reset (situation_of w) (roles all)) by c.decide.ensures mode

pub returns-then-newest-gt1-clause-none : goal.returns-then-newest-gt1-clause-none
unfolding world
returns-then-newest-gt1-clause-none g c = λ none root newer e.
    let law = g.S.TreeSink in
    let w = world law.sees law.node c.args.sink.now c.args.state.now in
    let all = names_of w in
    let place = c.newest_among-newest.result in
    let deciding : place ≡ newest_where decides all = c.newest_among-newest.ensures ∙ newest_same (is_html_among deciding_names) decides among_decides all in
    let name = c.name_at.result.now in
    let cut = names_cut law.sees law.node c.args.sink.now c.args.state.now (place - 1 + 1) in
    let split = cut.1 ∙ ap (λ z. cut.0 ++ z) c.name_at.ensures.names in
    let older = names_under law.sees law.node c.args.sink.now c.args.state.now (place - 1) in
    let inside : place - 1 ≤ length w.stack = omega (arith, deciding, newest_le decides all, names_length w) in
    let count = names_count law.sees law.node c.args.sink.now c.args.state.now (place - 1) inside in
    let by : InsertionMode → InsertionMode = decide (situation_of w) (role_as c.role_of.result) in
    let mode : (below : InsertionMode) → reset (situation_of w) (roles all) ≡ by below =
    λ below. reset_some (situation_of w) all cut.0 older name below split (omega (arith, deciding, count, c.if-newest-gt1.true)) (omega (arith, count, c.if-newest-gt1.true))
    ∙ ap (λ r. decide (situation_of w) r below) (sym c.role_of.ensures) in
    absurd (never_none c.decide.result (reset (situation_of w) (roles all)) by c.decide.ensures mode none)

pub returns-else-newest-gt1-clause-none : goal.returns-else-newest-gt1-clause-none
returns-else-newest-gt1-clause-none g c = λ none root newer e.
    let w = world g.S.TreeSink.sees g.S.TreeSink.node c.args.sink.now c.args.state.now in
    let all = names_of w in
    let deciding : c.newest_among-newest.result ≡ newest_where decides all = c.newest_among-newest.ensures ∙ newest_same (is_html_among deciding_names) decides among_decides all in
    reset_none (situation_of w) all newer root e (omega (arith, deciding, c.if-newest-gt1.false))
