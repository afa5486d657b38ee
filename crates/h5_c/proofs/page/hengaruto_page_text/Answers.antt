use Rattle.h5_c.specs.Pages.{IsTextOfPage}
use Rattle.h5_c.proofs.Giving.{given_such}
use Rattle.h5_c.proofs.page.hengaruto_page_text.Goals as goal

pub returns-clause-text : goal.returns-clause-text
returns-clause-text c = given_such c.text_of.result (λ v. v.items) (IsTextOfPage c.args.page.now c.args.width) c.give.result c.give.new.length c.text_of.ensures c.give.ensures.status
