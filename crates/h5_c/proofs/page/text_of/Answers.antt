use Rattle.std.proofs.Common.{◌≡◌, ◌∙◌, None, ap, rules, string_bytes}
use Rattle.html_tree_builder.specs.Types.{ChildrenOnly, NodeId}
use Rattle.html_tree_builder.specs.ArenaModel.{ArenaView, forest_seen}
use Rattle.html_tree_builder.specs.NodeCalls.{walk_of}
use Rattle.h5_page.specs.Text.{text_of}
use Rattle.h5_c.proofs.page.text_of.Goals as goal

pub returns : goal.returns
returns c =
    let node = c.at.result in
    let arena = c.in_ok-arena.arena in
    let index = ap (λ (i : NodeId). i.index) c.at.ensures.id ∙ c.document.ensures.document in
    let opts = c.opts_by.result in
    let bytes : c.into_bytes.result.items ≡ string_bytes c.in_ok-laid.laid.text = search rules in
    record {
      arena = arena;
      is_tree = c.in_ok-arena.ensures;
      text_is = bytes ∙ c.in_ok-laid.ensures.text
          ∙ ap (λ (a : ArenaView). text_of opts (walk_of (forest_seen a) node.id.index (ChildrenOnly None))) c.at.ensures.arena
          ∙ ap (λ n. text_of opts (walk_of (forest_seen arena) n (ChildrenOnly None))) index
          ∙ ap (λ o. text_of o (walk_of (forest_seen arena) 0 (ChildrenOnly None))) c.opts_by.ensures;
    }
