use Rattle.std.proofs.Common.{ap, arith, length, refl, subst, sym, ◌<◌, ◌∙◌}
use Rattle.h5_token.specs.TokenText.{tag_text}
use Rattle.h5_builder_spec.specs.formatting.Formatting.{insert_for}
use Rattle.h5_builder_spec.specs.World.{World}
use Rattle.h5_builder_spec.proofs.changes.FormattingLaws.{formatting-insert_for}
use Rattle.h5_builder_state.specs.View.{listed_node, world}
use Rattle.h5_builder_state.specs.Listed.{entry_of, with_handle}
use Rattle.h5_builder_actions.specs.EntryPlaces.{renewed_by, with_node_at}
use Rattle.h5_builder_actions.proofs.ListLaws.{entry_handed, entry_set, entry_there, length_entries}
use Rattle.h5_builder_actions.proofs.RenewLaws.{sound_with_current, with_current_at, with_list}
use Rattle.h5_builder_state.specs.Stamps.{AreStamped}
use Rattle.h5_builder_actions.proofs.EntryStampLaws.{stamped_entry_set, stamped_handed}
use Rattle.h5_builder_actions.proofs.reconstruct.make_anew.Goals as goal

pub set_handle-requires : goal.set_handle-requires
unfolding world
set_handle-requires g c =
    let node = g.S.TreeSink.node in
    let w = world g.S.TreeSink.sees node c.args.sink.now c.args.state.now in
    let list = ap (λ (v : World). length v.formatting) c.in_ok-insert_element.ensures.world ∙ ap length (formatting-insert_for g.S.TreeSink.choices (tag_text c.in_ok-copy.copy) w) in
    let many = length_entries (listed_node node) c.insert_element.new.state.active_formatting in
    omega (arith, c.requires.place, list, many)

pub returns-in_ok-insert_element-clause-world : goal.returns-in_ok-insert_element-clause-world
unfolding world
returns-in_ok-insert_element-clause-world g c =
    let node = g.S.TreeSink.node in
    let choices = g.S.TreeSink.choices in
    let items = c.args.state.now.active_formatting in
    let w = world g.S.TreeSink.sees node c.args.sink.now c.args.state.now in
    let v = world g.S.TreeSink.sees node c.insert_element.new.sink c.insert_element.new.state in
    let was = c.in_ok-insert_element.ensures.world ∙ ap (λ t. insert_for choices t w) c.in_ok-copy.ensures in
    let over = c.set_handle.ensures in
    let list = ap (λ (z : World). length z.formatting) c.in_ok-insert_element.ensures.world ∙ ap length (formatting-insert_for choices (tag_text c.in_ok-copy.copy) w) in
    let inside : c.args.place < length c.insert_element.new.state.active_formatting = omega (arith, c.requires.place, list, length_entries (listed_node node) c.insert_element.new.state.active_formatting) in
    let handed = entry_set (listed_node node) c.insert_element.new.state.active_formatting _ c.args.place (node c.current_listed-current.result.handle) over.entry _ inside over.was over.is (entry_handed (listed_node node) c.current_listed-current.result over.entry) in
    let is = ap (λ l. with_list l v) (handed ∙ ap (λ n. with_node_at c.args.place n v.formatting) c.current_listed-current.ensures.current) in
    let there = entry_there (listed_node node) items c.args.place c.get.result.now (omega (arith, c.requires.place, length_entries (listed_node node) items)) c.get.ensures ∙ ap (entry_of (listed_node node)) c.in-Element.is in
    is ∙ ap (with_current_at c.args.place) was ∙ sym (ap (λ e. renewed_by choices c.args.place e w) there)

pub returns-in_ok-insert_element-clause-sound : goal.returns-in_ok-insert_element-clause-sound
unfolding world
returns-in_ok-insert_element-clause-sound g c =
    let node = g.S.TreeSink.node in
    let choices = g.S.TreeSink.choices in
    let items = c.args.state.now.active_formatting in
    let w = world g.S.TreeSink.sees node c.args.sink.now c.args.state.now in
    let v = world g.S.TreeSink.sees node c.insert_element.new.sink c.insert_element.new.state in
    let was = c.in_ok-insert_element.ensures.world ∙ ap (λ t. insert_for choices t w) c.in_ok-copy.ensures in
    let over = c.set_handle.ensures in
    let list = ap (λ (z : World). length z.formatting) c.in_ok-insert_element.ensures.world ∙ ap length (formatting-insert_for choices (tag_text c.in_ok-copy.copy) w) in
    let inside : c.args.place < length c.insert_element.new.state.active_formatting = omega (arith, c.requires.place, list, length_entries (listed_node node) c.insert_element.new.state.active_formatting) in
    let handed = entry_set (listed_node node) c.insert_element.new.state.active_formatting _ c.args.place (node c.current_listed-current.result.handle) over.entry _ inside over.was over.is (entry_handed (listed_node node) c.current_listed-current.result over.entry) in
    let is = ap (λ l. with_list l v) (handed ∙ ap (λ n. with_node_at c.args.place n v.formatting) c.current_listed-current.ensures.current) in
    let there = entry_there (listed_node node) items c.args.place c.get.result.now (omega (arith, c.requires.place, length_entries (listed_node node) items)) c.get.ensures ∙ ap (entry_of (listed_node node)) c.in-Element.is in
    let open_elems = c.insert_element.new.state.open_elems in
    let current = c.current_listed-current.result in
    let stamped = subst (AreStamped node open_elems) (sym over.is) (stamped_entry_set node open_elems c.insert_element.new.state.active_formatting c.args.place (with_handle current over.entry)
    (stamped_handed node open_elems current over.entry c.current_listed-current.ensures.given c.current_listed-current.ensures.above) c.insert_element.ensures.sound.stamped) in
    sound_with_current choices (tag_text c.in-Element.tag) w g.S.TreeSink c.insert_element.new.sink c.insert_element.new.state _ c.args.place (node c.in-Element.field-0.handle) there c.requires.sound.sound was is refl stamped
    c.insert_element.ensures.sound

pub returns-in_default-clause-world : goal.returns-in_default-clause-world
unfolding world
returns-in_default-clause-world g c =
    let node = g.S.TreeSink.node in
    let items = c.args.state.now.active_formatting in
    let w = world g.S.TreeSink.sees node c.args.sink.now c.args.state.now in
    let there = entry_there (listed_node node) items c.args.place c.get.result.now (omega (arith, c.requires.place, length_entries (listed_node node) items)) c.get.ensures ∙ ap (entry_of (listed_node node)) c.in_default.is in
    sym (ap (λ e. renewed_by g.S.TreeSink.choices c.args.place e w) there)
