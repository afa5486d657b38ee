use Rattle.std.specs.Str.Lossy.{utf8_lossy}
use Rattle.html_tree_builder.specs.Cleaned.{IsCleaned}
use Rattle.html_tree_builder.specs.DefaultPolicy.{default_rules}
use Rattle.h5_c.proofs.Giving.{given_such}
use Rattle.h5_c.proofs.page.hengaruto_clean.Goals as goal

pub returns-clause-cleaned : goal.returns-clause-cleaned
returns-clause-cleaned c = given_such c.cleaned.result (λ v. v.items) (IsCleaned default_rules (utf8_lossy c.args.html.now)) c.give.result c.give.new.length c.cleaned.ensures c.give.ensures.status
