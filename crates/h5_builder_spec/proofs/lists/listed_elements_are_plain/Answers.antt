use Rattle.h5_builder_spec.proofs.entries.FreshLaws.{fresh_round, listed_adopted}
use Rattle.h5_builder_spec.proofs.entries.PassLaws.{ordered_distinct}
use Rattle.h5_builder_spec.proofs.entries.PlainListLaws.{listed_is_plain, special_not_listed}
use Rattle.h5_builder_spec.proofs.lists.listed_elements_are_plain.Goals as goal
use Rattle.h5_builder_spec.proofs.changes.SoundLaws.{listed_kept}

pub returns-clause-distinct : goal.returns-clause-distinct
returns-clause-distinct c = ordered_distinct

pub returns-clause-plain : goal.returns-clause-plain
returns-clause-plain c = listed_is_plain

pub returns-clause-not_special : goal.returns-clause-not_special
returns-clause-not_special c = special_not_listed

pub returns-clause-rearranged : goal.returns-clause-rearranged
returns-clause-rearranged c = listed_kept

pub returns-clause-fresh : goal.returns-clause-fresh
returns-clause-fresh c = fresh_round

pub returns-clause-adopted : goal.returns-clause-adopted
returns-clause-adopted c = listed_adopted
