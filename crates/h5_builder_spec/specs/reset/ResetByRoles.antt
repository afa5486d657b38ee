-- The reset of the insertion mode (HTML standard, section 13.2.4.1, "reset the insertion mode appropriately").
use Rattle.std.specs.Prelude.{◌∷◌, [], cond, List, Option, Some, None}
use Rattle.h5_tables.specs.declared.modes.InsertionMode.{InsertionMode}
use Rattle.h5_tables.specs.declared.modes.InsertionMode.TheVariants.{BeforeHead, InHead, AfterHead, InBody, InTable, InCaption, InColumnGroup, InTableBody, InRow, InCell, InFrameset}
use Rattle.h5_builder_spec.specs.reset.Situation.{Situation}
use Rattle.h5_builder_spec.specs.reset.Roles.{BodyRole, CaptionRole, CellRole, ColgroupRole, FramesetRole, HeadRole, HtmlRole, PlainRole, Role, RowRole, SectionRole, TableRole, TemplateRole}

-- the current template insertion mode
abbrev pub first_mode : List InsertionMode → InsertionMode
first_mode [] = InBody
first_mode (m ∷ ms) = m

-- the mode by a name, or, if the name doesn't decide, by the older ones
abbrev pub decide : Situation → Role → InsertionMode → InsertionMode
decide s CellRole below = InCell
decide s RowRole below = InRow
decide s SectionRole below = InTableBody
decide s CaptionRole below = InCaption
decide s ColgroupRole below = InColumnGroup
decide s TableRole below = InTable
decide s TemplateRole below = first_mode s.template_modes
decide s HeadRole below = InHead
decide s BodyRole below = InBody
decide s FramesetRole below = InFrameset
decide s HtmlRole below = cond s.has_head AfterHead BeforeHead
decide s PlainRole below = below

-- the mode at the root, where the context element decides instead; there a cell or a head doesn't decide
abbrev pub decide_root : Situation → Role → InsertionMode
decide_root s CellRole = InBody
decide_root s HeadRole = InBody
decide_root s n = decide s n InBody

abbrev pub context_or : Role → Option Role → Role
context_or n None = n
context_or n (Some c) = c

abbrev pub reset : Situation → List Role → InsertionMode
reset s [] = InBody
reset s (n ∷ []) = decide_root s (context_or n s.context)
reset s (n ∷ m ∷ ns) = decide s n (reset s (m ∷ ns))
