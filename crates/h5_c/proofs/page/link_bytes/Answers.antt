use Rattle.std.proofs.Common.{◌≡◌, ◌∙◌, None, ap, rules}
use Rattle.html_tree_builder.specs.Types.{ChildrenOnly, NodeId}
use Rattle.html_tree_builder.specs.ArenaModel.{ArenaView, forest_seen}
use Rattle.html_tree_builder.specs.NodeCalls.{walk_of}
use Rattle.h5_page.specs.Links.{links_of, link_texts}
use Rattle.h5_c.specs.Pages.{bytes_of_links}
use Rattle.h5_c.proofs.page.link_bytes.Goals as goal

pub returns : goal.returns
returns c =
    let node = c.at.result in
    let arena = c.in_ok-arena.arena in
    let index = ap (λ (i : NodeId). i.index) c.at.ensures.id ∙ c.document.ensures.document in
    let bytes : c.put_links.new.bytes.items ≡ bytes_of_links (link_texts c.in_ok-links.links.items) = search rules in
    record {
      arena = arena;
      is_tree = c.in_ok-arena.ensures;
      links_are = bytes ∙ ap bytes_of_links (c.in_ok-links.ensures
          ∙ ap (λ (a : ArenaView). links_of (walk_of (forest_seen a) node.id.index (ChildrenOnly None))) c.at.ensures.arena
          ∙ ap (λ n. links_of (walk_of (forest_seen arena) n (ChildrenOnly None))) index);
    }
