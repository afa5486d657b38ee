use Rattle.std.proofs.Common.{ap, subst, sym, zero, ◌∙◌, ◌≡◌}
use Rattle.std.proofs.lemmas.Bool.{false≢true}
use Rattle.h5_builder_spec.specs.World.{World}
use Rattle.h5_builder_spec.specs.formatting.FormattingList.{ElementEntry, nodes_of, without_entry}
use Rattle.h5_builder_spec.specs.formatting.InnerLoop.{walked}
use Rattle.h5_builder_spec.proofs.entries.KeptListsLaws.{without_entry_none}
use Rattle.h5_builder_spec.proofs.entries.PairLaws.{is_in_telling}
use Rattle.h5_builder_spec.proofs.entries.RoundLaws.{without_entry_at}
use Rattle.h5_builder_state.specs.Steps.{world_of}
use Rattle.h5_builder_actions.specs.FormattingPlaces.{AreNodes}
use Rattle.h5_builder_actions.proofs.NodeLaws.{nodes_dropped}
use Rattle.h5_builder_actions.proofs.relisting.relist_far.Goals as goal

pub find_entry-requires-clause-handle : goal.find_entry-requires-clause-handle
find_entry-requires-clause-handle g c = c.requires.open (g.S.TreeSink.node c.handle_at.result.now) c.handle_at.ensures.open

pub returns-in-Some-clause-listed : goal.returns-in-Some-clause-listed
returns-in-Some-clause-listed g c =
    let f = (g.S.TreeSink.sees c.args.sink.now).forest in
    let k = c.in-Some.ensures.place in
    let e = ElementEntry (g.S.TreeSink.node c.handle_at.result.now) k.tag in
    subst (λ (u : World). AreNodes f (nodes_of u.formatting)) (sym (c.drop_entry.ensures.done k.newer k.older e k.cut k.here))
    (nodes_dropped f k.newer k.older e (subst (λ l. AreNodes f (nodes_of l)) k.cut c.requires.listed))

pub returns-in-Some-clause-walked : goal.returns-in-Some-clause-walked
returns-in-Some-clause-walked g c = λ n older e ns ys.
    let m = g.S.TreeSink.node c.handle_at.result.now in
    let w = world_of g.S.TreeSink c.args.sink.now c.args.state.now in
    let k = c.in-Some.ensures.place in
    let same : n ≡ m = cc (c.handle_at.ensures.stack, e) in
    let done = c.drop_entry.ensures.done k.newer k.older (ElementEntry m k.tag) k.cut k.here in
    ap (walked zero ns ys)
    (ap (λ z. without_entry z w.formatting) same ∙ ap (without_entry m) k.cut ∙ without_entry_at m k.tag k.newer k.older k.first ∙ sym (ap (λ (u : World). u.formatting) done))

pub returns-in-Some-clause-world : goal.returns-in-Some-clause-world
returns-in-Some-clause-world g c =
    let w = world_of g.S.TreeSink c.args.sink.now c.args.state.now in
    let k = c.in-Some.ensures.place in
    let done = c.drop_entry.ensures.done k.newer k.older (ElementEntry (g.S.TreeSink.node c.handle_at.result.now) k.tag) k.cut k.here in
    done ∙ ap (λ l. record w { formatting = l }) (sym (ap (λ (u : World). u.formatting) done))

pub returns-in_default-clause-walked : goal.returns-in_default-clause-walked
returns-in_default-clause-walked g c = λ n older e ns ys.
    let m = g.S.TreeSink.node c.handle_at.result.now in
    let w = world_of g.S.TreeSink c.args.sink.now c.args.state.now in
    let same : n ≡ m = cc (c.handle_at.ensures.stack, e) in
    ap (walked zero ns ys)
    (ap (λ z. without_entry z w.formatting) same ∙ without_entry_none m w.formatting (λ i. false≢true (c.in_default.ensures.found ∙ is_in_telling m (nodes_of w.formatting) i)))
