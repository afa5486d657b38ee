use Rattle.std.proofs.Common.{◌≡◌, ◌++◌, suc, [], ◌∷◌, Some, None, ap, ◌∙◌, inl, inr, arith, string_bytes, append_assoc, codes}
use Rattle.h5_interface.specs.Forest.{Node}
use Rattle.h5_names.specs.AttributeText.{attribute_texts}
use Rattle.h5_arena.specs.ArenaModel.{kind_view}
use Rattle.h5_print.specs.Frames.{opened}
use Rattle.h5_print.specs.Nodes.{line}
use Rattle.h5_print.specs.Printed.{first_lines}
use Rattle.h5_print.proofs.FrameLaws.{node_there, look_at, first_printed}
use Rattle.h5_print.proofs.tree.print_node.Goals as goal

pub returns-in_ok-push-in-Some : goal.returns-in_ok-push-in-Some
returns-in_ok-push-in-Some c =
    let a = c.args.arena.now in
    let id = c.args.node in
    let there = node_there a id c.requires.held in
    let lines = first_printed a id there.0 c.args.level c.len-inner.result (kind_view c.kind.result.now) (attribute_texts c.attrs.result.now) (string_bytes c.args.out.now) (string_bytes c.print_kind.new.out) (string_bytes c.print_attributes.new.out) there.1 c.kind.ensures c.attrs.ensures (c.len-inner.ensures ∙ c.requires.level) c.in_ok-print_kind.ensures c.in_ok-print_attributes.ensures in
    let deep : c.len-inner.result ≡ suc c.args.level = omega (arith, c.len-inner.ensures, c.requires.level) in
    let contents = c.in-Some.contents in (
      there.0,
      there.1,
      inr (
        contents,
        look_at a id (λ (d : Node). d.contents) there.0 (Some contents.index) there.1 c.in-Some.ensures.contents,
        c.in-Some.ensures.held,
        c.in_ok-push-in-Some.ensures.items ∙ ap (λ l. l ++ opened contents ∷ []) c.in_ok-push.ensures.items,
        c.in_ok-print_content-in-Some.ensures ∙ ap (λ l. l ++ line c.len-inner.result (codes "content")) lines ∙ append_assoc (string_bytes c.args.out.now) (first_lines c.args.level there.0) (line c.len-inner.result (codes "content"))
            ∙ ap (λ n. string_bytes c.args.out.now ++ (first_lines c.args.level there.0 ++ line n (codes "content"))) deep,
      ),
    )

pub returns-in-None : goal.returns-in-None
returns-in-None c =
    let a = c.args.arena.now in
    let id = c.args.node in
    let there = node_there a id c.requires.held in
    let lines = first_printed a id there.0 c.args.level c.len-inner.result (kind_view c.kind.result.now) (attribute_texts c.attrs.result.now) (string_bytes c.args.out.now) (string_bytes c.print_kind.new.out) (string_bytes c.print_attributes.new.out) there.1 c.kind.ensures c.attrs.ensures (c.len-inner.ensures ∙ c.requires.level) c.in_ok-print_kind.ensures c.in_ok-print_attributes.ensures in
    (there.0, there.1, inl (look_at a id (λ (d : Node). d.contents) there.0 None there.1 c.in-None.ensures.contents, c.in_ok-push.ensures.items, lines))
