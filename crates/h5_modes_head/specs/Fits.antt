-- What "after head" says about the open elements.
use Rattle.h5_tables.specs.declared.modes.InsertionMode.TheVariants.{AfterHead}
use Rattle.h5_builder_spec.specs.inner.NamesFit.{NamesFit}
use Rattle.h5_builder_spec.specs.Sound.{situation_of}
use Rattle.h5_builder_spec.specs.World.{World, names_of}

abbrev pub FitsAfterHead : World → Type 0
FitsAfterHead w = NamesFit (situation_of w) AfterHead (names_of w)
