use Rattle.std.proofs.Common.{ap, arith, drop, map, subst, sym, ◌+◌, ◌++◌, ◌∙◌, ◌∷◌, ◌≡◌}
use Rattle.h5_interface.specs.Forest.{IsNode}
use Rattle.h5_builder_spec.specs.World.{World}
use Rattle.h5_builder_spec.specs.formatting.FormattingList.{ElementEntry, nodes_of}
use Rattle.h5_builder_spec.specs.formatting.InnerLoop.{swapped, walked}
use Rattle.h5_builder_spec.specs.stack.Order.{IsIn, is_in}
use Rattle.h5_builder_state.specs.Steps.{world_of}
use Rattle.h5_builder_actions.specs.FormattingPlaces.{AreNodes}
use Rattle.h5_builder_actions.proofs.NodeLaws.{handle_in, nodes_swapped}
use Rattle.h5_builder_actions.proofs.RelistLaws.{swapped_at, walked_onto}
use Rattle.h5_builder_state.proofs.SeenLaws.{drop_more}
use Rattle.h5_builder_actions.proofs.relisting.relist_near.Goals as goal

pub find_entry-requires-clause-handle : goal.find_entry-requires-clause-handle
find_entry-requires-clause-handle g c = c.requires.open (g.S.TreeSink.node c.handle_at.result.now) c.handle_at.ensures.open

pub clone_handle-requires : goal.clone_handle-requires
clone_handle-requires g c =
    let node = g.S.TreeSink.node in
    let x = c.index.result.now in
    c.requires.clones (node x) (handle_in node c.args.clones.now.items c.args.used x (omega (arith, c.if-used-len.true, c.len.ensures, c.args.clones.now.ok.0)) c.index.ensures)

pub returns-in-Some-clause-listed : goal.returns-in-Some-clause-listed
returns-in-Some-clause-listed g c =
    let node = g.S.TreeSink.node in
    let f = (g.S.TreeSink.sees c.args.sink.now).forest in
    let m = node c.handle_at.result.now in
    let x = c.index.result.now in
    let place = c.in-Some.ensures.place in
    let there = c.requires.clones (node x) (handle_in node c.args.clones.now.items c.args.used x (omega (arith, c.if-used-len.true, c.len.ensures, c.args.clones.now.ok.0)) c.index.ensures) in
    subst (λ (u : World). AreNodes f (nodes_of u.formatting)) (sym (c.swap_entry.ensures.done place.newer place.older m place.tag place.cut place.here))
    (nodes_swapped f place.newer place.older m (node c.clone_handle.result) place.tag (subst (λ l. AreNodes f (nodes_of l)) place.cut c.requires.listed) (subst (IsNode f) (sym c.clone_handle.ensures) there))

pub returns-in-Some-clause-walked : goal.returns-in-Some-clause-walked
returns-in-Some-clause-walked g c = λ n older e k ns.
    let node = g.S.TreeSink.node in
    let m = node c.handle_at.result.now in
    let w = world_of g.S.TreeSink c.args.sink.now c.args.state.now in
    let items = c.args.clones.now.items in
    let clones = map node items in
    let y = node c.index.result.now in
    let place = c.in-Some.ensures.place in
    let same : n ≡ m = cc (c.handle_at.ensures.stack, e) in
    let next = drop_more node items c.args.used c.index.result.now (omega (arith, c.if-used-len.true, c.len.ensures, c.args.clones.now.ok.0)) c.index.ensures in
    let done = c.swap_entry.ensures.done place.newer place.older m place.tag place.cut place.here in
    let list = ap (λ (u : World). u.formatting) done ∙ ap (λ z. place.newer ++ ElementEntry z place.tag ∷ place.older) c.clone_handle.ensures in
    let listed = ap (λ z. is_in z (nodes_of w.formatting)) same ∙ sym c.in-Some.ensures.found in
    walked_onto k n y ns (drop (c.args.used + 1) clones) (drop c.args.used clones) w.formatting next listed
    ∙ ap (walked k ns (drop (c.args.used + 1) clones))
    (ap (λ z. swapped z y w.formatting) same ∙ ap (swapped m y) place.cut ∙ swapped_at m y place.tag place.newer place.older place.first ∙ sym list)

pub swap_entry-requires : goal.swap_entry-requires
swap_entry-requires g c =
    let k = c.in-Some.ensures.place in
    record { node = g.S.TreeSink.node c.handle_at.result.now; tag = k.tag; newer = k.newer; older = k.older; cut = k.cut; here = k.here }

pub returns-in-Some-clause-restack : goal.returns-in-Some-clause-restack
returns-in-Some-clause-restack g c = λ block ns up m.
    let node = g.S.TreeSink.node in
    let n = node c.handle_at.result.now in
    let x = c.index.result.now in
    let k = c.in-Some.ensures.place in
    let there = handle_in node c.args.clones.now.items c.args.used x (omega (arith, c.if-used-len.true, c.len.ensures, c.args.clones.now.ok.0)) c.index.ensures in
    let w = world_of g.S.TreeSink c.args.sink.now c.args.state.now in
    c.swap_entry.ensures.restack block c.args.place ns _ k.newer k.older n k.tag k.cut k.here c.handle_at.ensures.stack up
    (subst (λ y. ¬ (IsIn y w.stack)) (sym c.clone_handle.ensures) (c.requires.unopened (node x) there)) m
