-- The table of named character references is in order, by computing.
use Rattle.std.proofs.Common.{◌≡◌, refl, true, [], length}
use Rattle.h5_tokenizer_spec.specs.ReferenceTable.{references}
use Rattle.h5_tokenizer_spec.specs.TableOrder.{are_behind, are_references}

pub in_order : are_behind [] references ≡ true
unfolding references
in_order = refl

pub all_references : are_references references ≡ true
unfolding references
all_references = refl

pub how_many : length references ≡ 2231
unfolding references
how_many = refl
