use Rattle.std.proofs.Common.{refl, ◌∙◌, ◌≡◌, ◌||◌}
use Rattle.h5_tables.specs.TagSets.{html_namespace, is_button_scope, is_html_named}
use Rattle.h5_builder_state.proofs.SummaryLaws.{one_more}
use Rattle.h5_builder_state.proofs.open_element.AllOpen.with_newest.Goals as goal

pub returns : goal.returns
unfolding is_html_named html_namespace
returns c = λ older e h.
    let button : (c.has-ends_scope.result || c.has.result) ≡ is_button_scope c.args.name.now = rw (c.has-ends_scope.ensures, c.has.ensures) c.requires.sets.button in
    rw (
      c.still_in_scope.ensures,
      c.still_in_scope-2.ensures,
      c.from.ensures,
      c.newest.ensures,
      c.newest-2.ensures,
      c.newest-3.ensures,
      c.newest-4.ensures,
      c.oldest.ensures,
      c.ends_item_search.ensures,
      button,
      c.has-special.ensures ∙ c.requires.sets.special,
      c.has-ends_scope.ensures ∙ c.requires.sets.scope,
      c.has-2.ensures ∙ c.requires.sets.body_end,
      c.is.ensures,
      c.is-2.ensures,
      c.is-3.ensures,
      c.is-4.ensures,
      c.is_html-html.ensures,
      e,
      h,
      one_more c.args.name.now older,
    ) refl
