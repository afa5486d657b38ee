use Rattle.std.proofs.Common.{◌≡◌, List, is_some, subst}
use Rattle.std.specs.Prelude.{MatchOption}
use Rattle.h5_tables.specs.declared.entry.FormatEntry.{FormatEntry}
use Rattle.h5_builder_spec.specs.formatting.Adoption.{newest_named}
use Rattle.h5_builder_state.specs.Listed.{IsNewestNamedAt, entries_of}
use Rattle.h5_builder_state.proofs.formatting_list.FormattingList.find_newest_named.Goals as goal

pub returns-clause-found : goal.returns-clause-found
returns-clause-found g c = λ node.
    subst (λ (xs : List (FormatEntry _)). is_some c.find_newest_named.result ≡ is_some (newest_named c.args.name.now (entries_of node xs))) c.self.view_is (c.find_newest_named.ensures.found node)

pub returns-clause-place : goal.returns-clause-place
returns-clause-place g c = λ node.
    subst (λ (xs : List (FormatEntry _)). MatchOption c.find_newest_named.result (Unit {0}) (λ place. IsNewestNamedAt c.args.name.now place (entries_of node xs))) c.self.view_is (c.find_newest_named.ensures.place node)
