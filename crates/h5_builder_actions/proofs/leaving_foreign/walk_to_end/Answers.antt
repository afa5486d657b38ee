use Rattle.std.proofs.Common.{sym, ◌∙◌, arith}
use Rattle.h5_tables.specs.TagSets.{html_namespace}
use Rattle.h5_builder_actions.proofs.SearchLaws.{search_root, walk_cut, walk_found, walk_html, walk_later}
use Rattle.h5_builder_actions.proofs.leaving_foreign.walk_to_end.Goals as goal

pub returns-then-is_html-clause-search : goal.returns-then-is_html-clause-search
unfolding html_namespace
returns-then-is_html-clause-search g c =
    sym (walk_html g.S.TreeSink.sees g.S.TreeSink.node c.args.sink.now c.args.state.now c.args.local.now c.down.place _ (omega (arith, c.down-test.true)) c.name_at-name.ensures.names c.name_at-name.ensures.count
    (sym c.is_html.ensures ∙ c.if-is_html.true))
    ∙ c.down.invariant.left

pub returns-then-test-clause-search : goal.returns-then-test-clause-search
unfolding html_namespace
returns-then-test-clause-search g c =
    sym (walk_found g.S.TreeSink.sees g.S.TreeSink.node c.args.sink.now c.args.state.now c.args.local.now c.down.place _ (omega (arith, c.down-test.true)) c.name_at-name.ensures.names c.name_at-name.ensures.count
    (sym c.is_html.ensures ∙ c.if-is_html.false) (sym c.test.ensures ∙ c.if-test.true))
    ∙ c.down.invariant.left

pub down-preserved : goal.down-preserved
unfolding html_namespace
down-preserved g c =
    let named = sym c.test.ensures ∙ c.if-test.false in
    record {
      place = omega (arith, c.down.invariant.place);
      left = sym (walk_later g.S.TreeSink.sees g.S.TreeSink.node c.args.sink.now c.args.state.now c.args.local.now c.down.place _ (omega (arith, c.down-test.true)) c.name_at-name.ensures.names c.name_at-name.ensures.count
          (sym c.is_html.ensures ∙ c.if-is_html.false) named)
          ∙ c.down.invariant.left;
      cut = sym (walk_cut g.S.TreeSink.sees g.S.TreeSink.node c.args.sink.now c.args.state.now c.args.local.now c.down.place _ (omega (arith, c.down-test.true)) c.name_at-name.ensures.names c.name_at-name.ensures.count c.name_at-name.ensures.stack named)
          ∙ c.down.invariant.cut;
    }

pub returns-clause-search : goal.returns-clause-search
returns-clause-search g c =
    sym (search_root c.args.local.now g.S.TreeSink.sees g.S.TreeSink.node c.args.sink.now c.args.state.now c.down.place (omega (arith, c.down-test.false)))
    ∙ c.down.invariant.left
