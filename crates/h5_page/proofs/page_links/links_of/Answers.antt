use Rattle.std.proofs.Common.{◌≡◌, None, ap, ◌∙◌, rules}
use Rattle.html_tree_builder.specs.Walk.{after_each}
use Rattle.html_tree_builder.specs.Types.{ChildrenOnly}
use Rattle.html_tree_builder.specs.ArenaModel.{forest_seen}
use Rattle.html_tree_builder.specs.NodeCalls.{walk_of}
use Rattle.h5_page.specs.Links.{after_call, kept}
use Rattle.h5_page.proofs.LinkLaws.{kept_links}
use Rattle.h5_page.proofs.page_links.links_of.Goals as goal

pub returns : goal.returns
returns c =
    let walk = walk_of (forest_seen c.args.node.now.arena.now) c.args.node.now.id.index (ChildrenOnly None) in
    let taken : kept c.take_calls.new.links ≡ after_each after_call (kept c.new-links.result) walk = search rules in
    c.in_ok-list.ensures ∙ kept_links (kept c.take_calls.new.links) walk (taken ∙ ap (λ k. after_each after_call k walk) c.new-links.ensures)
