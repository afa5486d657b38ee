use Rattle.std.proofs.Common.{◌≡◌, ap, ◌∙◌}
use Rattle.h5_token.specs.TokenText.{tag_text}
use Rattle.h5_builder_spec.specs.formatting.FormattingList.{ElementEntry, MarkerEntry}
use Rattle.h5_builder_state.specs.View.{listed_node, world}
use Rattle.h5_builder_state.specs.Listed.{entry_of}
use Rattle.h5_builder_actions.proofs.CloneLaws.{entry_here}
use Rattle.h5_builder_actions.proofs.round.tag_at.Goals as goal

pub unreachable-requires : goal.unreachable-requires
unfolding world
unreachable-requires g c =
    let here = entry_here g.S.TreeSink.node c.args.state.now c.args.at _ _ c.requires.newer c.requires.older c.requires.cut c.requires.here c.entry_at.ensures.list c.entry_at.ensures.count in
    let e : ElementEntry c.requires.node c.requires.tag ≡ MarkerEntry = here ∙ ap (entry_of (listed_node g.S.TreeSink.node)) c.in-Marker.is in
    cc

pub returns : goal.returns
unfolding world
returns g c = λ newer older n tag cut here.
    let e : ElementEntry n tag ≡ ElementEntry (g.S.TreeSink.node c.in-Element.field-0.handle) (tag_text c.in-Element.tag) =
    entry_here g.S.TreeSink.node c.args.state.now c.args.at _ _ newer older cut here c.entry_at.ensures.list c.entry_at.ensures.count ∙ ap (entry_of (listed_node g.S.TreeSink.node)) c.in-Element.is in
    cc
