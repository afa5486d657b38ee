use Rattle.std.proofs.Common.{◌≡◌, ◌∙◌, ◌-◌, ap, arith, length, take, vec_len}
use Rattle.h5_interface.specs.Changes.{append_node}
use Rattle.h5_interface.specs.Seen.{make, plain}
use Rattle.h5_interface.proofs.MakingLaws.{make_rearranges, plain_lone}
use Rattle.h5_arena.specs.ArenaModel.{arena_choices, forest_in, kind_view}
use Rattle.h5_arena.proofs.MakeLaws.{popped}
use Rattle.h5_arena.proofs.makes.push_child.Goals as goal

pub append_node-requires-clause-forest : goal.append_node-requires-clause-forest
append_node-requires-clause-forest c =
    rw c.in_ok-push_plain.ensures.ok (make_rearranges arena_choices (forest_in c.args.nodes.now.items) (plain (kind_view c.args.kind)) c.requires.forest (plain_lone (kind_view c.args.kind))).is_forest

pub returns-in-Err-clause-err : goal.returns-in-Err-clause-err
returns-in-Err-clause-err c =
    let long : vec_len c.append_node.new.nodes ≡ length c.append_node.new.nodes.items = omega arith in
    popped c.args.nodes.now.items c.push_plain.new.nodes.items c.append_node.new.nodes.items _ (plain (kind_view c.args.kind)) c.in_ok-push_plain.ensures.pushed c.in-Err.ensures.err
    (c.pop-unhung.ensures.rest ∙ ap (λ k. take (k - 1) c.append_node.new.nodes.items) long)

pub returns-clause-ok : goal.returns-clause-ok
returns-clause-ok c =
    c.in_default.ensures.ok ∙ ap (append_node c.args.parent.index c.len.result) c.in_ok-push_plain.ensures.ok
    ∙ ap (λ k. append_node c.args.parent.index k (make arena_choices (plain (kind_view c.args.kind)) (forest_in c.args.nodes.now.items))) c.len.ensures
