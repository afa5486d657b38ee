-- Changes of a situation by rules.
use Rattle.std.specs.Prelude.{◌∷◌, [], true, false, List, Some, None}
use Rattle.h5_tables.specs.declared.modes.InsertionMode.{InsertionMode}
use Rattle.h5_tables.specs.declared.modes.InsertionMode.TheVariants.{InTable, InCaption, InColumnGroup, InTableBody, InRow, InCell, InTemplate}
use Rattle.h5_builder_spec.specs.reset.Situation.{Situation}
use Rattle.h5_builder_spec.specs.reset.Roles.{CaptionRole, CellRole, ColgroupRole, Role, RowRole, SectionRole, TemplateRole}

abbrev pub later_modes : List InsertionMode → List InsertionMode
later_modes [] = []
later_modes (m ∷ ms) = ms

-- a template is opened (section 13.2.6.4.4, a start tag whose tag name is "template")
abbrev pub with_template : Situation → Situation
with_template s = record s { template_modes = InTemplate ∷ s.template_modes; frameset_ok = false }

-- a template is closed: its mode is popped
abbrev pub without_template : Situation → Situation
without_template s = record s { template_modes = later_modes s.template_modes }

-- the current template insertion mode is replaced by another (section 13.2.6.4.16)
abbrev pub with_last_mode : InsertionMode → Situation → Situation
with_last_mode m s = record s { template_modes = m ∷ later_modes s.template_modes }

-- a head element is known
abbrev pub with_head : Situation → Situation
with_head s = record s { has_head = true }

-- a mode is left for a text (section 13.2.6.2)
abbrev pub with_saved : InsertionMode → Situation → Situation
with_saved m s = record s { saved_mode = Some m }

-- the situation in which the parser of a fragment begins (section 13.4)
abbrev pub start_modes : Role → List InsertionMode
start_modes TemplateRole = InTemplate ∷ []
start_modes _ = []

abbrev pub start_of : Role → Situation
start_of c = record { template_modes = start_modes c; saved_mode = None; has_head = false; frameset_ok = true; context = Some c }

-- the mode after a part of a table has been inserted, and after it has been closed
abbrev pub mode_of : Role → InsertionMode
mode_of CaptionRole = InCaption
mode_of ColgroupRole = InColumnGroup
mode_of SectionRole = InTableBody
mode_of RowRole = InRow
mode_of CellRole = InCell
mode_of n = InTable

abbrev pub mode_below : Role → InsertionMode
mode_below RowRole = InTableBody
mode_below CellRole = InRow
mode_below n = InTable
