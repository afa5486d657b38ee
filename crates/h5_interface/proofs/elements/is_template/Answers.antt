use Rattle.std.proofs.Common.{rules}
use Rattle.h5_interface.proofs.elements.is_template.Goals as goal

pub returns-then-is_html : goal.returns-then-is_html
returns-then-is_html c = search rules
