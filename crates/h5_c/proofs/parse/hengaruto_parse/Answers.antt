use Rattle.h5_c.specs.Pages.{IsBlockOfPage}
use Rattle.h5_c.proofs.Giving.{given_such}
use Rattle.h5_c.proofs.parse.hengaruto_parse.Goals as goal

pub returns-clause-parsed : goal.returns-clause-parsed
returns-clause-parsed c = given_such c.block_of.result (λ v. v.items) (IsBlockOfPage c.args.options c.args.page.now) c.give.result c.give.new.length c.block_of.ensures c.give.ensures.status
