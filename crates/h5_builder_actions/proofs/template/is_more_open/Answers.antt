use Rattle.std.proofs.Common.{◌≡◌, nat_lt, length, ap, ◌∙◌, arith}
use Rattle.h5_builder_state.proofs.ItemLaws.{length-values}
use Rattle.h5_builder_state.specs.View.{elements_of, open_node, world}
use Rattle.h5_builder_actions.proofs.ShadowPlaceLaws.{more_by_length}
use Rattle.h5_builder_actions.proofs.template.is_more_open.Goals as goal

pub returns : goal.returns
unfolding world
returns g c =
    let items = (elements_of c.args.state.now) in
    let count : c.len.result ≡ length items = omega (arith, c.len.ensures.count, length-values c.args.state.now.open_elems.elements) in
    ap (λ n. nat_lt 1 n) count ∙ more_by_length (open_node g.S.TreeSink.node) items
