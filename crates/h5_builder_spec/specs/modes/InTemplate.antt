-- HTML standard, section 13.2.6.4.16, the "in template" insertion mode.
use Rattle.std.specs.Prelude.{ℕ, List, [], ◌∷◌, codes}
use Rattle.h5_token.specs.TokenText.{TagText}
use Rattle.h5_names.specs.declared.known_name.KnownName.TheVariants.{Col, Template, Tr}
use Rattle.h5_tables.specs.TagSets.{cell_names}
use Rattle.h5_tables.specs.TurnText.{CommentTurn, EofTurn, NullTurn, TagTurn, TextTurn, TurnText}
use Rattle.h5_tables.specs.declared.modes.InsertionMode.{InsertionMode}
use Rattle.h5_tables.specs.declared.modes.InsertionMode.TheVariants.{InBody, InColumnGroup, InRow, InTable, InTableBody}
use Rattle.h5_builder_spec.specs.ByName.{AnyOf, Only, Rules, by_kind, by_name, ignored_tag}
use Rattle.h5_builder_spec.specs.modes.InBody.{in_body}
use Rattle.h5_builder_spec.specs.modes.InHead.{in_head_end_template, in_head_start_tag, template_eof}
use Rattle.h5_builder_spec.specs.Rows.{Again, Row, SwitchTemplateMode, ignored, row}
use Rattle.h5_builder_spec.specs.modes.Shared.{head_start_names}
use Rattle.h5_builder_spec.specs.World.{World}

-- the template insertion mode is replaced by another, in which the token is reprocessed
abbrev pub in_template_as : InsertionMode → TagText → World → Row
in_template_as mode tag w = row (SwitchTemplateMode mode ∷ []) (Again mode)

-- start tags of parts of a table
unfoldable pub in_template_part_names : List (List ℕ)
in_template_part_names = codes "caption" ∷ codes "colgroup" ∷ codes "tbody" ∷ codes "tfoot" ∷ codes "thead" ∷ []

-- start tags, and end tags
unfoldable pub in_template_start : Rules
in_template_start =
    (AnyOf head_start_names, in_head_start_tag) ∷
    (AnyOf in_template_part_names, in_template_as InTable) ∷
    (Only Col, in_template_as InColumnGroup) ∷
    (Only Tr, in_template_as InTableBody) ∷
    (AnyOf cell_names, in_template_as InRow) ∷ []

unfoldable pub in_template_end : Rules
in_template_end = (Only Template, in_head_end_template) ∷ []

unfoldable pub in_template_tag : TagText → World → Row
in_template_tag tag w = by_kind tag.kind (by_name in_template_start (in_template_as InBody) tag w) (by_name in_template_end ignored_tag tag w)

abbrev pub in_template : TurnText → World → Row
in_template (TagTurn tag) w = in_template_tag tag w
in_template (CommentTurn text) w = in_body (CommentTurn text) w
in_template (TextTurn status text) w = in_body (TextTurn status text) w
in_template NullTurn w = ignored
in_template EofTurn w = template_eof w
