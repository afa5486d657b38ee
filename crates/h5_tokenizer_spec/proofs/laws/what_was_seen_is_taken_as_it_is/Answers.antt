use Rattle.h5_tokenizer_spec.specs.ReferenceTable.{references}
use Rattle.h5_tokenizer_spec.proofs.AheadLaws.{opening_taken, keyword_ignored, names_leave_letters}
use Rattle.h5_tokenizer_spec.proofs.TableLaws.{all_references}
use Rattle.h5_tokenizer_spec.proofs.laws.what_was_seen_is_taken_as_it_is.Goals as goal

pub returns-clause-opening : goal.returns-clause-opening
returns-clause-opening c = λ table last seen h. opening_taken table last seen h

pub returns-clause-keyword : goal.returns-clause-keyword
returns-clause-keyword c = λ table last seen h. keyword_ignored table last seen h

pub returns-clause-name : goal.returns-clause-name
returns-clause-name c = λ seen h. names_leave_letters references seen all_references h
