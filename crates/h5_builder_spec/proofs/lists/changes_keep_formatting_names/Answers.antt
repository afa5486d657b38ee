use Rattle.std.proofs.Common.{IsTrue}
use Rattle.h5_tables.specs.TagSets.{is_one_of}
use Rattle.h5_tables.specs.TagSets.{formatting_names}
use Rattle.h5_builder_spec.proofs.entries.EachLaws.{each_cleared, each_push_formatting, each_tag_reconstructed, each_without_entry}
use Rattle.h5_builder_spec.proofs.entries.PassLaws.{each_tag_adopted}
use Rattle.h5_builder_spec.proofs.lists.changes_keep_formatting_names.Goals as goal

pub returns-clause-cleared : goal.returns-clause-cleared
returns-clause-cleared c = each_cleared (λ n t. IsTrue (is_one_of formatting_names t.name))

pub returns-clause-entry_left : goal.returns-clause-entry_left
returns-clause-entry_left c = each_without_entry (λ n t. IsTrue (is_one_of formatting_names t.name))

pub returns-clause-pushed : goal.returns-clause-pushed
returns-clause-pushed c = each_push_formatting (λ n t. IsTrue (is_one_of formatting_names t.name))

pub returns-clause-reconstructed : goal.returns-clause-reconstructed
returns-clause-reconstructed c = each_tag_reconstructed (λ t. IsTrue (is_one_of formatting_names t.name))

pub returns-clause-adopted : goal.returns-clause-adopted
returns-clause-adopted c = each_tag_adopted (λ t. IsTrue (is_one_of formatting_names t.name))
