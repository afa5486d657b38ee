use Rattle.std.proofs.Common.{rules}
use Rattle.h5_tables.specs.TagSets.{html_namespace, is_html_named}
use Rattle.h5_tables.proofs.sets.is_html.Goals as goal

pub returns-then-eq : goal.returns-then-eq
unfolding is_html_named html_namespace
returns-then-eq c = search rules
