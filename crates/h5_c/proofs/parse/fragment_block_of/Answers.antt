use Rattle.std.proofs.Common.{ap, subst, ◌∙◌}
use Rattle.h5_tree_block.specs.Columns.{fragment_columns}
use Rattle.h5_c.specs.Pages.{IsFragmentTree}
use Rattle.h5_c.proofs.parse.fragment_block_of.Goals as goal

pub returns : goal.returns
returns c = record {
  arena = c.in_ok-arena.arena;
  is_tree = subst (λ name. IsFragmentTree c.args.options c.args.page.now name c.in_ok-arena.arena) c.in_ok-context.ensures c.in_ok-arena.ensures;
  columns = c.in_ok-columns.columns;
  holds = c.in_ok-columns.ensures ∙ ap (fragment_columns c.in_ok-arena.arena) c.is_scripting.ensures;
  packed = c.in_ok-block.ensures.block;
}
