use Rattle.std.proofs.Common.{◌≡◌, ap, subst, ◌∙◌}
use Rattle.h5_token.specs.TokenText.{tag_text}
use Rattle.h5_builder_spec.specs.formatting.FormattingList.{ElementEntry, MarkerEntry}
use Rattle.h5_builder_state.specs.View.{listed_node, world}
use Rattle.h5_builder_state.specs.Listed.{entry_of}
use Rattle.h5_builder_actions.proofs.CloneLaws.{entry_here}
use Rattle.h5_tables.specs.declared.entry.FormatEntry.TheVariants.{Element}
use Rattle.h5_builder_state.specs.Stamps.{IsStamped, stamps_of}
use Rattle.h5_builder_actions.proofs.walk.listed_at.Goals as goal

pub unreachable-requires : goal.unreachable-requires
unfolding world
unreachable-requires g c =
    let here = entry_here g.S.TreeSink.node c.args.state.now c.args.at _ _ c.requires.newer c.requires.older c.requires.cut c.requires.here c.entry_at.ensures.list c.entry_at.ensures.count in
    let e : ElementEntry c.requires.node c.requires.tag ≡ MarkerEntry = here ∙ ap (entry_of (listed_node g.S.TreeSink.node)) c.in-Marker.is in
    cc

pub returns-clause-listed : goal.returns-clause-listed
returns-clause-listed g c =
    c.entry_at.ensures.listed (g.S.TreeSink.node c.in-Element.listed.handle) (tag_text c.in-Element.field-1) (ap (entry_of (listed_node g.S.TreeSink.node)) c.in-Element.is)

pub returns-clause-node : goal.returns-clause-node
unfolding world
returns-clause-node g c = λ newer older n tag cut here.
    let e : ElementEntry n tag ≡ ElementEntry (g.S.TreeSink.node c.in-Element.listed.handle) (tag_text c.in-Element.field-1) =
    entry_here g.S.TreeSink.node c.args.state.now c.args.at _ _ newer older cut here c.entry_at.ensures.list c.entry_at.ensures.count ∙ ap (entry_of (listed_node g.S.TreeSink.node)) c.in-Element.is in
    cc

pub returns-clause-given : goal.returns-clause-given
returns-clause-given g c = λ s.
    let node = g.S.TreeSink.node in
    let open_elems = c.args.state.now.open_elems in
    let entry : IsStamped node (stamps_of node open_elems) open_elems.last (Element c.in-Element.listed c.in-Element.field-1) = subst (λ e. IsStamped node (stamps_of node open_elems) open_elems.last e) c.in-Element.is (c.entry_at.ensures.stamped s) in
    entry.0

pub returns-clause-above : goal.returns-clause-above
returns-clause-above g c = λ s.
    let node = g.S.TreeSink.node in
    let open_elems = c.args.state.now.open_elems in
    let entry : IsStamped node (stamps_of node open_elems) open_elems.last (Element c.in-Element.listed c.in-Element.field-1) = subst (λ e. IsStamped node (stamps_of node open_elems) open_elems.last e) c.in-Element.is (c.entry_at.ensures.stamped s) in
    entry.1
