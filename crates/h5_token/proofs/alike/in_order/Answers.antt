use Rattle.std.proofs.Common.{subst, List}
use Rattle.std.specs.List.Sorted.{IsPermutation}
use Rattle.std.proofs.lemmas.List.Sorted.{IsPermutation-map}
use Rattle.h5_names.specs.AttributeText.{AttributeText}
use Rattle.h5_token.specs.Lent.{lent_text, lent_texts}
use Rattle.h5_token.proofs.SortedAttributes.{sorted_seen}
use Rattle.h5_token.proofs.alike.in_order.Goals as goal

pub returns-clause-all : goal.returns-clause-all
returns-clause-all c =
    let sorted = c.sort_unstable.new.self.items in
    subst (λ (texts : List AttributeText). IsPermutation texts (lent_texts sorted)) c.in_ok-sorted.ensures (IsPermutation-map lent_text c.in_ok-sorted.sorted.items sorted c.sort_unstable.ensures.permutation)

pub returns-clause-sorted : goal.returns-clause-sorted
returns-clause-sorted c = sorted_seen lent_text c.sort_unstable.new.self.items c.sort_unstable.ensures.sorted
