-- The roles of names for a reset of the insertion mode, in the form of the code.
use Rattle.h5_builder_spec.specs.reset.Roles.{BodyRole, CaptionRole, CellRole, ColgroupRole, FramesetRole, HeadRole, HtmlRole, PlainRole, Role, RowRole, SectionRole, TableRole, TemplateRole}
use Rattle.h5_builder_actions.specs.declared.reset.Role.{Role as Kept}
use Rattle.h5_builder_actions.specs.declared.reset.Role.TheVariants as kept

abbrev pub role_as : Kept → Role
role_as kept.Plain = PlainRole
role_as kept.Html = HtmlRole
role_as kept.Head = HeadRole
role_as kept.Body = BodyRole
role_as kept.Frameset = FramesetRole
role_as kept.Table = TableRole
role_as kept.Template = TemplateRole
role_as kept.Caption = CaptionRole
role_as kept.Colgroup = ColgroupRole
role_as kept.Section = SectionRole
role_as kept.Row = RowRole
role_as kept.Cell = CellRole
