use Rattle.std.proofs.Common.{ap, arith, subst, sym, ◌∙◌}
use Rattle.h5_token.specs.TokenText.{tag_text}
use Rattle.h5_tables.specs.declared.entry.FormatEntry.TheVariants.{Element}
use Rattle.h5_builder_spec.specs.formatting.FormattingNames.{IsOfTag, html_name}
use Rattle.h5_builder_state.specs.Stamps.{IsStamped, stamps_of}
use Rattle.h5_builder_state.specs.View.{listed_node, world}
use Rattle.h5_builder_state.proofs.StampLaws.{is_stamped}
use Rattle.h5_builder_actions.specs.EntryPlaces.{is_staying}
use Rattle.h5_builder_actions.proofs.ListLaws.{each_entry_at, entry_known, length_entries}
use Rattle.h5_builder_actions.proofs.reconstruct.stays_at.Goals as goal

-- a listed element is an element
pub find_listed-requires-clause-element : goal.find_listed-requires-clause-element
unfolding world
find_listed-requires-clause-element g c =
    let node = g.S.TreeSink.node in
    let f = (g.S.TreeSink.sees c.args.sink.now).forest in
    let w = world g.S.TreeSink.sees node c.args.sink.now c.args.state.now in
    let there = entry_known (listed_node node) c.args.state.now.active_formatting c.args.at _ _ c.requires.at c.get.ensures c.in-Element.is in
    (html_name (tag_text c.in-Element.field-1).name, each_entry_at (IsOfTag f) c.args.at w.formatting (node c.in-Element.listed.handle) (tag_text c.in-Element.field-1) c.requires.sound.sound.listed there)

pub find_listed-requires-clause-above : goal.find_listed-requires-clause-above
unfolding world
find_listed-requires-clause-above g c =
    let node = g.S.TreeSink.node in
    let open_elems = c.args.state.now.open_elems in
    let items = c.args.state.now.active_formatting in
    let entry : IsStamped node (stamps_of node open_elems) open_elems.last (Element c.in-Element.listed c.in-Element.field-1) =
    subst (λ e. IsStamped node (stamps_of node open_elems) open_elems.last e) (sym c.get.ensures ∙ c.in-Element.is)
    (is_stamped node open_elems items c.args.at c.get.result.now (omega (arith, c.requires.at, length_entries (listed_node node) items)) c.requires.sound.stamped) in
    entry.1

-- a marker stays
pub returns-in_default-clause-stays : goal.returns-in_default-clause-stays
unfolding world
returns-in_default-clause-stays g c =
    let node = g.S.TreeSink.node in
    let w = world g.S.TreeSink.sees node c.args.sink.now c.args.state.now in
    sym (ap (is_staying w.stack) (entry_known (listed_node node) c.args.state.now.active_formatting c.args.at _ _ c.requires.at c.get.ensures c.in_default.is))

-- and an element that is found
pub returns-then-place-said-clause-stays : goal.returns-then-place-said-clause-stays
unfolding world
returns-then-place-said-clause-stays g c =
    let node = g.S.TreeSink.node in
    let w = world g.S.TreeSink.sees node c.args.sink.now c.args.state.now in
    c.in-Some.ensures.found ∙ sym (ap (is_staying w.stack) (entry_known (listed_node node) c.args.state.now.active_formatting c.args.at _ _ c.requires.at c.get.ensures c.in-Element.is))

pub returns-else-place-said-clause-stays : goal.returns-else-place-said-clause-stays
unfolding world
returns-else-place-said-clause-stays g c =
    let node = g.S.TreeSink.node in
    let w = world g.S.TreeSink.sees node c.args.sink.now c.args.state.now in
    c.in-Some.ensures.found ∙ sym (ap (is_staying w.stack) (entry_known (listed_node node) c.args.state.now.active_formatting c.args.at _ _ c.requires.at c.get.ensures c.in-Element.is))

pub returns-in-None-clause-stays : goal.returns-in-None-clause-stays
unfolding world
returns-in-None-clause-stays g c =
    let node = g.S.TreeSink.node in
    let w = world g.S.TreeSink.sees node c.args.sink.now c.args.state.now in
    c.in-None.ensures.found ∙ sym (ap (is_staying w.stack) (entry_known (listed_node node) c.args.state.now.active_formatting c.args.at _ _ c.requires.at c.get.ensures c.in-Element.is))
