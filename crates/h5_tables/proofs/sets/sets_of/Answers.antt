use Rattle.std.proofs.Common.{◌∙◌, refl, sym}
use Rattle.std.proofs.Math.Bool.{or-false}
use Rattle.h5_tables.specs.declared.name_sets.NameSet.TheVariants.{BodyEndOk, ButtonScope, CursoryImpliedEnd, DefaultScope, Special}
use Rattle.h5_tables.specs.TagSets.{html_namespace, is_body_end_ok, is_button_scope, is_default_scope, is_implied, is_one_of, is_special, scope_names, special_names}
use Rattle.h5_tables.proofs.NamespaceLaws.{html_is_not_foreign}
use Rattle.h5_tables.proofs.sets.sets_of.Goals as goal

pub returns-then-is_html-clause-special : goal.returns-then-is_html-clause-special
unfolding is_special html_namespace
returns-then-is_html-clause-special c =
    let e = sym c.is_html.ensures ∙ c.if-is_html.true in
    rw (c.of.ensures Special, e, html_is_not_foreign c.args.name.now e, or-false (is_one_of special_names c.args.name.now.local)) refl

pub returns-then-is_html-clause-scope : goal.returns-then-is_html-clause-scope
unfolding is_default_scope html_namespace
returns-then-is_html-clause-scope c =
    let e = sym c.is_html.ensures ∙ c.if-is_html.true in
    rw (c.of.ensures DefaultScope, e, html_is_not_foreign c.args.name.now e, or-false (is_one_of scope_names c.args.name.now.local)) refl

pub returns-then-is_html-clause-button : goal.returns-then-is_html-clause-button
unfolding is_button_scope is_default_scope html_namespace
returns-then-is_html-clause-button c =
    let e = sym c.is_html.ensures ∙ c.if-is_html.true in
    rw (
      c.of.ensures DefaultScope,
      c.of.ensures ButtonScope,
      e,
      html_is_not_foreign c.args.name.now e,
      or-false (is_one_of scope_names c.args.name.now.local),
    ) refl

pub returns-then-is_html-clause-implied : goal.returns-then-is_html-clause-implied
unfolding is_implied html_namespace
returns-then-is_html-clause-implied c = rw (c.of.ensures CursoryImpliedEnd, sym c.is_html.ensures ∙ c.if-is_html.true) refl

pub returns-then-is_html-clause-body_end : goal.returns-then-is_html-clause-body_end
unfolding is_body_end_ok html_namespace
returns-then-is_html-clause-body_end c = rw (c.of.ensures BodyEndOk, sym c.is_html.ensures ∙ c.if-is_html.true) refl

pub returns-else-is_html-clause-special : goal.returns-else-is_html-clause-special
unfolding is_special html_namespace
returns-else-is_html-clause-special c = rw (c.of_foreign.ensures.special, c.foreign_special.ensures, sym c.is_html.ensures ∙ c.if-is_html.false) refl

pub returns-else-is_html-clause-scope : goal.returns-else-is_html-clause-scope
unfolding is_default_scope html_namespace
returns-else-is_html-clause-scope c = rw (c.of_foreign.ensures.scope, c.foreign_special.ensures, sym c.is_html.ensures ∙ c.if-is_html.false) refl

pub returns-else-is_html-clause-button : goal.returns-else-is_html-clause-button
unfolding is_button_scope is_default_scope html_namespace
returns-else-is_html-clause-button c =
    rw (c.of_foreign.ensures.scope, c.of_foreign.ensures.button, c.foreign_special.ensures, sym c.is_html.ensures ∙ c.if-is_html.false) refl

pub returns-else-is_html-clause-implied : goal.returns-else-is_html-clause-implied
unfolding is_implied html_namespace
returns-else-is_html-clause-implied c = rw (c.of_foreign.ensures.implied, sym c.is_html.ensures ∙ c.if-is_html.false) refl

pub returns-else-is_html-clause-body_end : goal.returns-else-is_html-clause-body_end
unfolding is_body_end_ok html_namespace
returns-else-is_html-clause-body_end c = rw (c.of_foreign.ensures.body_end, sym c.is_html.ensures ∙ c.if-is_html.false) refl
