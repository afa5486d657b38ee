use Rattle.std.proofs.Common.{◌∙◌, ◌++◌, ◌∷◌, [], ap, arith, length, rules}
use Rattle.std.proofs.lemmas.List.{length-append, length-map}
use Rattle.h5_arena.specs.ArenaModel.{forest_in, link_place, node_view, node_views}
use Rattle.h5_arena.specs.Copies.{wanted_views}
use Rattle.h5_arena.proofs.CopyLaws.{begins, ends, goes_on, next_source, next_within, wanted_length}
use Rattle.h5_arena.proofs.CopySizes.{less_left}
use Rattle.h5_arena.proofs.MakeLaws.{views_pushed}
use Rattle.h5_arena.proofs.NodeWrites.{node_at}
use Rattle.h5_arena.proofs.copies.copies.Goals as goal

pub queue-init : goal.queue-init
queue-init c = begins c.args.nodes.now c.args.id c.none.result _ _ _ c.requires.held c.in_ok-push.ensures.items c.new-sources.ensures.items c.none.ensures c.new-copies.ensures.items

pub bounds-nodes-source : goal.bounds-nodes-source
bounds-nodes-source c =
    next_within c.args.nodes.now c.args.id.index c.index-source.result.now.id.index (link_place c.index-source.result.now.parent) _ (node_views c.queue.copies.items) c.queue.invariant
    (next_source c.queue.sources.items c.queue.copies.items c.len-in-queue-2.result c.index-source.result.now (omega arith) (omega arith) c.index-source.ensures)

pub offset_bounds-nodes-source : goal.offset_bounds-nodes-source
offset_bounds-nodes-source c = let within = bounds-nodes-source c in search (rules, within)

pub queue-preserved : goal.queue-preserved
queue-preserved c =
    let ns = c.args.nodes.now in
    let source = c.index-source.result.now in
    let next = next_source c.queue.sources.items c.queue.copies.items c.len-in-queue-2.result source (omega arith) (omega arith) c.index-source.ensures in
    let within = next_within ns c.args.id.index source.id.index (link_place source.parent) _ (node_views c.queue.copies.items) c.queue.invariant next in
    let count = length-map ns node_view in
    let ready = length-map c.queue.copies.items node_view in
    let some = wanted_length c.queue.sources.items in
    goes_on (forest_in ns) c.args.id.index (wanted_views c.queue.sources.items) _ (node_views c.queue.copies.items) _ source.id.index _ _ (link_place source.parent) (node_view c.index-nodes-source.result) c.requires.forest next
    (node_at ns source.id.index c.index-nodes-source.result within c.index-nodes-source.is) (omega (arith, count, ready)) (omega (arith, count, some)) c.in_ok-copy.ensures.sources
    (ap node_views c.in_ok-push-2.ensures.items ∙ views_pushed c.queue.copies.items c.in_ok-copy.copy ∙ ap (λ v. node_views c.queue.copies.items ++ v ∷ []) c.in_ok-copy.ensures.copy) c.queue.invariant

pub queue-smaller : goal.queue-smaller
queue-smaller c =
    let ns = c.args.nodes.now in
    let source = c.index-source.result.now in
    let next = next_source c.queue.sources.items c.queue.copies.items c.len-in-queue-2.result source (omega arith) (omega arith) c.index-source.ensures in
    let within = next_within ns c.args.id.index source.id.index (link_place source.parent) _ (node_views c.queue.copies.items) c.queue.invariant next in
    let more = ap length (ap node_views c.in_ok-push-2.ensures.items ∙ views_pushed c.queue.copies.items c.in_ok-copy.copy) in
    let long = length-append (node_views c.queue.copies.items) (node_view c.in_ok-copy.copy ∷ []) in
    less_left (forest_in ns) (wanted_views c.queue.sources.items) _ (length (node_views c.queue.copies.items)) _ source.id.index (link_place source.parent) _ (node_view c.index-nodes-source.result) c.requires.forest
    (node_at ns source.id.index c.index-nodes-source.result within c.index-nodes-source.is) next c.in_ok-copy.ensures.sources (omega (arith, more, long))

pub returns : goal.returns
returns c =
    let long = wanted_length c.queue.sources.items in
    let few = length-map c.queue.copies.items node_view in
    ends (forest_in c.args.nodes.now) c.args.id.index (wanted_views c.queue.sources.items) (node_views c.queue.copies.items) (omega (arith, long, few)) c.queue.invariant
