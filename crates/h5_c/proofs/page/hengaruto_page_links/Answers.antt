use Rattle.h5_c.specs.Pages.{AreLinksOfPage}
use Rattle.h5_c.proofs.Giving.{given_such}
use Rattle.h5_c.proofs.page.hengaruto_page_links.Goals as goal

pub returns-clause-links : goal.returns-clause-links
returns-clause-links c = given_such c.link_bytes.result (λ v. v.items) (AreLinksOfPage c.args.page.now) c.give.result c.give.new.length c.link_bytes.ensures c.give.ensures.status
