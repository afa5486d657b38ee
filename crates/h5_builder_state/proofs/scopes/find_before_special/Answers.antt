use Rattle.std.proofs.Common.{MatchOption, ap, is_some, length, subst, sym, ◌∙◌, ◌≡◌}
use Rattle.h5_tables.specs.TagSets.{is_html_named, is_special}
use Rattle.h5_builder_spec.specs.World.{names_of}
use Rattle.h5_builder_spec.specs.stack.Scope.{cut_through}
use Rattle.h5_builder_spec.proofs.changes.PopLaws.{names_length}
use Rattle.h5_builder_state.specs.Newest.{newest_where, place_before}
use Rattle.h5_builder_state.specs.Steps.{world_of}
use Rattle.h5_builder_state.specs.declared.open_element.AllOpen.{AllOpen}
use Rattle.h5_builder_state.proofs.NewestLaws.{found_before, place_cut}
use Rattle.h5_builder_state.proofs.scopes.find_before_special.Goals as goal

pub returns-clause-found : goal.returns-clause-found
returns-clause-found g c =
    let w = world_of g.S.TreeSink c.args.sink.now c.args.state.now in
    let is = is_html_named c.args.local.now in
    let asked = c.place_before.ensures ∙ ap (λ here. place_before here c.all_open.result.special) c.newest_named-here.ensures ∙ ap (λ (a : AllOpen). place_before (newest_where is (names_of w)) a.special) c.all_open.ensures.known in
    ap is_some asked ∙ found_before is is_special (names_of w)

pub returns-clause-place : goal.returns-clause-place
returns-clause-place g c =
    let w = world_of g.S.TreeSink c.args.sink.now c.args.state.now in
    let is = is_html_named c.args.local.now in
    let asked = c.place_before.ensures ∙ ap (λ here. place_before here c.all_open.result.special) c.newest_named-here.ensures ∙ ap (λ (a : AllOpen). place_before (newest_where is (names_of w)) a.special) c.all_open.ensures.known in
    subst (λ o. MatchOption o (Unit {0}) (λ place. place ≡ length (cut_through is (names_of w) w.stack))) (sym asked) (place_cut is is_special (names_of w) w.stack (names_length w))
