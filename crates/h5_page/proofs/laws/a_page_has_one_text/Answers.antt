use Rattle.std.proofs.Common.{ap, sym, ◌∙◌}
use Rattle.std.specs.Prelude.{None}
use Rattle.html_tree_builder.specs.Types.{ChildrenOnly}
use Rattle.html_tree_builder.specs.NodeCalls.{walk_of}
use Rattle.h5_page.specs.Text.{plain_opts, text_of}
use Rattle.h5_page.proofs.laws.a_page_has_one_text.Goals as goal

pub returns : goal.returns
returns c = λ page x y p q.
    let same = c.a_text_has_one_tree.ensures _ _ page _ _ p.parsed q.parsed in
    p.text ∙ ap (λ f. text_of plain_opts (walk_of f 0 (ChildrenOnly None))) same.0 ∙ sym q.text
