use Rattle.std.proofs.Common.{◌≡◌, ◌++◌, drop}
use Rattle.h5_page.specs.Links.{link_texts}
use Rattle.h5_c.specs.Pages.{bytes_of_links}
use Rattle.h5_c.proofs.page.put_links.Given as goal

-- what was appended and what is left are the whole
abbrev pub invariant-loop-link : goal.invariant-loop-link
invariant-loop-link l = l.bytes.items ++ bytes_of_links (link_texts (drop l.link-index l.links)) ≡ l.initial.bytes.items ++ bytes_of_links (link_texts l.links)
