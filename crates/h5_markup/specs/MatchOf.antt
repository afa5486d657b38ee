-- The result of a search in a text, independent of where it is in memory.
use Rattle.h5_markup.specs.declared.matches.Match.{Match}
use Rattle.h5_markup.specs.declared.matches.Match.TheVariants.{Open, No, Found}
use Rattle.h5_markup.specs.Matching as m

abbrev pub match_of : {A B : Type 0} → (A → B) → Match A → m.Match B
match_of view Open = m.Open
match_of view No = m.No
match_of view (Found a rest) = m.Found (view a) rest.now
