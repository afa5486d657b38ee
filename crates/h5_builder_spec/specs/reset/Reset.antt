-- The reset of the insertion mode of a world (HTML standard, section 13.2.4.1, "reset the insertion mode
-- appropriately").
use Rattle.h5_builder_spec.specs.reset.ResetByRoles.{reset}
use Rattle.h5_builder_spec.specs.reset.Roles.{roles}
use Rattle.h5_tables.specs.declared.modes.InsertionMode.{InsertionMode}
use Rattle.h5_builder_spec.specs.Sound.{situation_of}
use Rattle.h5_builder_spec.specs.World.{World, names_of}

-- the mode of the first open element that decides, from the current node on
unfoldable pub reset_mode : World → InsertionMode
reset_mode w = reset (situation_of w) (roles (names_of w))
