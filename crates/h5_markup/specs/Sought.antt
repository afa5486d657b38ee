-- The result of a search for an end, independent of where it is in memory.
use Rattle.std.specs.Prelude.{◌≡◌, ℕ, List, Some}
use Rattle.h5_markup.specs.Matching as m
use Rattle.h5_markup.specs.Ending.{up_to_end, place_after, walk}
use Rattle.h5_markup.specs.declared.ending.Inside.{Inside}
use Rattle.h5_markup.specs.declared.ending.Sought.{Sought}
use Rattle.h5_markup.specs.declared.ending.Sought.TheVariants.{End, Open}

abbrev pub EndsAs : Sought → Inside → List ℕ → Type 0
EndsAs (End inner rest place) start text = (up_to_end start text ≡ m.Found inner.now rest.now) × (place_after start inner.now ≡ place)
EndsAs (Open place) start text = (up_to_end start text ≡ m.Open) × (walk start text ≡ Some place)
