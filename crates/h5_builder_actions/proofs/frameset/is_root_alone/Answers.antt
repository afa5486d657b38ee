use Rattle.std.proofs.Common.{◌≡◌, nat_eq, length, ap, ◌∙◌, arith}
use Rattle.h5_builder_spec.specs.World.{name_in, names_of}
use Rattle.h5_builder_state.proofs.ItemLaws.{length-values}
use Rattle.h5_builder_state.specs.View.{elements_of, open_node, world}
use Rattle.h5_builder_actions.proofs.ShadowPlaceLaws.{alone_by_length}
use Rattle.h5_builder_actions.proofs.frameset.is_root_alone.Goals as goal

pub returns : goal.returns
unfolding world names_of
returns g c =
    let items = (elements_of c.args.state.now) in
    let count : c.len.result ≡ length items = omega (arith, c.len.ensures.count, length-values c.args.state.now.open_elems.elements) in
    ap (λ n. nat_eq n 1) count ∙ alone_by_length (name_in (g.S.TreeSink.sees c.args.sink.now).forest) (open_node g.S.TreeSink.node) items
