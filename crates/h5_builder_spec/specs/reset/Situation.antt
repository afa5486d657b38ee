-- What a reset of the insertion mode reads (HTML standard, section 13.2.4.1).
use Rattle.std.specs.Prelude.{Bool, List, Option}
use Rattle.h5_tables.specs.declared.modes.InsertionMode.{InsertionMode}
use Rattle.h5_builder_spec.specs.reset.Roles.{Role}

-- what is read in addition to the mode and the open elements, also by `Fits`: the stack of template insertion modes, the original
-- insertion mode, that the head element is known, the frameset-ok flag, and the role of the fragment's context element
pub record Situation : Type 0 where
  pub template_modes : List InsertionMode
  pub saved_mode : Option InsertionMode
  pub has_head : Bool
  pub frameset_ok : Bool
  pub context : Option Role
