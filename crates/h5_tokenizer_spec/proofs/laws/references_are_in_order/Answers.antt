use Rattle.h5_tokenizer_spec.proofs.TableLaws.{in_order, all_references, how_many}
use Rattle.h5_tokenizer_spec.proofs.laws.references_are_in_order.Goals as goal

pub returns-clause-order : goal.returns-clause-order
returns-clause-order c = in_order

pub returns-clause-names : goal.returns-clause-names
returns-clause-names c = all_references

pub returns-clause-count : goal.returns-clause-count
returns-clause-count c = how_many
