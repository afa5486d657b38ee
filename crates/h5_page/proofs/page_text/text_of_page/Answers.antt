use Rattle.std.proofs.Common.{None, ap, ◌∙◌}
use Rattle.html_tree_builder.specs.Types.{ChildrenOnly, NodeId}
use Rattle.html_tree_builder.specs.ArenaModel.{ArenaView, forest_seen}
use Rattle.html_tree_builder.specs.NodeCalls.{walk_of}
use Rattle.h5_page.specs.Text.{plain_opts, text_of}
use Rattle.h5_page.proofs.page_text.text_of_page.Goals as goal

pub returns : goal.returns
returns c =
    let node = c.at.result in
    let arena = c.in_ok-arena.arena in
    let index = ap (λ (i : NodeId). i.index) c.at.ensures.id ∙ c.document.ensures.document in
    record {
      arena = arena;
      parsed = c.in_ok-arena.ensures;
      text = c.in_ok-text.ensures
          ∙ ap (λ (a : ArenaView). text_of plain_opts (walk_of (forest_seen a) node.id.index (ChildrenOnly None))) c.at.ensures.arena
          ∙ ap (λ n. text_of plain_opts (walk_of (forest_seen arena) n (ChildrenOnly None))) index;
    }
