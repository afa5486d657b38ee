use Rattle.std.proofs.Common.{◌≡◌, ◌∙◌, ap, arith, length, string_bytes, sym, vec_len}
use Rattle.std.proofs.lemmas.List.{length-map}
use Rattle.h5_interface.specs.Changes.{append_node}
use Rattle.h5_interface.specs.Forest.{DoctypeNode}
use Rattle.h5_interface.specs.Seen.{make, plain}
use Rattle.h5_interface.proofs.MakingLaws.{append_doctype_rearranges}
use Rattle.h5_arena.specs.ArenaModel.{arena_choices, forest_in, node_view}
use Rattle.h5_arena.proofs.NodeWrites.{seen_after}
use Rattle.h5_arena.proofs.NoteLaws.{notes_doctype}
use Rattle.h5_arena.proofs.sink.ArenaTreeSink.append_doctype_to_document.Goals as goal

-- the doctype is the node that is made next
pub invariant_of-self-2 : goal.invariant_of-self-2
invariant_of-self-2 c =
    let long : vec_len c.self.inside.nodes ≡ length c.self.inside.nodes.items = omega arith in
    let next = long ∙ sym (length-map c.self.inside.nodes.items node_view) in
    rw (c.in_ok-push_child.ensures.ok, next) (record {
      is_forest = (append_doctype_rearranges arena_choices (forest_in c.self.inside.nodes.items) (string_bytes c.args.name) (string_bytes c.args.public_id) (string_bytes c.args.system_id) c.self.invariant.is_forest).is_forest;
      notes = notes_doctype arena_choices (forest_in c.self.inside.nodes.items) (string_bytes c.args.name) (string_bytes c.args.public_id) (string_bytes c.args.system_id) c.self.invariant.is_forest c.self.invariant.notes;
    })

pub returns-clause-ok : goal.returns-clause-ok
returns-clause-ok c =
    let long : vec_len c.self.inside.nodes ≡ length c.self.inside.nodes.items = omega arith in
    let next = long ∙ sym (length-map c.self.inside.nodes.items node_view) in
    rw (← c.self.view_is)
    (seen_after _ _ _ _ (c.in_ok-push_child.ensures.ok ∙ ap (λ k. append_node 0 k (make arena_choices (plain (DoctypeNode (string_bytes c.args.name) (string_bytes c.args.public_id) (string_bytes c.args.system_id))) (forest_in c.self.inside.nodes.items))) next))
