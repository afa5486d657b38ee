-- The rank falls when a token takes another turn, and is bounded by the number of open elements.
use Rattle.std.proofs.Common.{◌≡◌, ◌<◌, true, false, List, arith}
use Rattle.h5_tables.specs.declared.modes.InsertionMode.{InsertionMode}
use Rattle.h5_tables.specs.declared.modes.InsertionMode.TheVariants.{Initial, BeforeHtml, BeforeHead, InHead, InHeadNoscript, AfterHead, InBody, AfterBody, AfterAfterBody}
use Rattle.h5_builder_spec.specs.reset.Situation.{Situation}
use Rattle.h5_builder_spec.specs.reset.Roles.{Role}
use Rattle.h5_builder_laws.proofs.turns.Ranks.{Again, TurnKind, EofTurns, EndHtmlTurns, initial, before_html, before_head, in_head_noscript, in_head, after_head, after_body, after_after_body, end_html, cell_of_cell, cell_of_caption, cell_of_colgroup, cell_of_table, cell_of_section, cell_of_template, row_of_cell, row_of_row, row_of_caption, row_of_colgroup, row_of_table, row_of_template, col_of_cell, col_of_row, col_of_section, col_of_caption, col_of_table, col_of_template, part_of_cell, part_of_row, part_of_section, part_of_caption, part_of_colgroup, part_of_template, end_part_of_cell, end_part_of_row, end_part_of_section, end_part_of_caption, end_part_of_colgroup, other_of_colgroup, end_html_of_colgroup, text_of_colgroup, text_of_table, text_of_section, text_of_row, other_of_template, start_table_of_template, is_eof, leaves_body_end, rank}

module _ (s t : Situation) (old new : List Role) where
  -- one mode nearer to the body
  falls_initial : (c : TurnKind) → is_eof c ≡ false → rank c t BeforeHtml new < rank c s Initial old
  falls_initial EofTurns h = absurd (cc)
  falls_initial _ h = omega arith

  falls_before_html : (c : TurnKind) → is_eof c ≡ false → rank c t BeforeHead new < rank c s BeforeHtml old
  falls_before_html EofTurns h = absurd (cc)
  falls_before_html _ h = omega arith

  falls_before_head : (c : TurnKind) → is_eof c ≡ false → rank c t InHead new < rank c s BeforeHead old
  falls_before_head EofTurns h = absurd (cc)
  falls_before_head _ h = omega arith

  falls_in_head_noscript : (c : TurnKind) → is_eof c ≡ false → rank c t InHead new < rank c s InHeadNoscript old
  falls_in_head_noscript EofTurns h = absurd (cc)
  falls_in_head_noscript _ h = omega arith

  falls_in_head : (c : TurnKind) → is_eof c ≡ false → rank c t AfterHead new < rank c s InHead old
  falls_in_head EofTurns h = absurd (cc)
  falls_in_head _ h = omega arith

  falls_after_head : (c : TurnKind) → is_eof c ≡ false → rank c t InBody new < rank c s AfterHead old
  falls_after_head EofTurns h = absurd (cc)
  falls_after_head _ h = omega arith

  falls_after_after_body : (c : TurnKind) → is_eof c ≡ false → rank c t InBody new < rank c s AfterAfterBody old
  falls_after_after_body EofTurns h = absurd (cc)
  falls_after_after_body _ h = omega arith

  falls_after_body : (c : TurnKind) → leaves_body_end c ≡ true → rank c t InBody new < rank c s AfterBody old
  falls_after_body EofTurns h = absurd (cc)
  falls_after_body EndHtmlTurns h = absurd (cc)
  falls_after_body _ h = omega arith

  -- from mode to mode, but at the end of the file and where a start tag closes a table
  pub again_falls : (c : TurnKind) (m k : InsertionMode) → is_eof c ≡ false → Again c m k → rank c t k new < rank c s m old
  again_falls c m k h (initial _) = falls_initial c h
  again_falls c m k h (before_html _) = falls_before_html c h
  again_falls c m k h (before_head _) = falls_before_head c h
  again_falls c m k h (in_head_noscript _) = falls_in_head_noscript c h
  again_falls c m k h (in_head _) = falls_in_head c h
  again_falls c m k h (after_head _) = falls_after_head c h
  again_falls c m k h (after_after_body _ _) = falls_after_after_body c h
  again_falls c m k h (after_body _ l) = falls_after_body c l
  again_falls c m k h end_html = omega arith
  again_falls c m k h cell_of_cell = omega arith
  again_falls c m k h cell_of_caption = omega arith
  again_falls c m k h cell_of_colgroup = omega arith
  again_falls c m k h cell_of_table = omega arith
  again_falls c m k h cell_of_section = omega arith
  again_falls c m k h cell_of_template = omega arith
  again_falls c m k h row_of_cell = omega arith
  again_falls c m k h row_of_row = omega arith
  again_falls c m k h row_of_caption = omega arith
  again_falls c m k h row_of_colgroup = omega arith
  again_falls c m k h row_of_table = omega arith
  again_falls c m k h row_of_template = omega arith
  again_falls c m k h col_of_cell = omega arith
  again_falls c m k h col_of_row = omega arith
  again_falls c m k h col_of_section = omega arith
  again_falls c m k h col_of_caption = omega arith
  again_falls c m k h col_of_table = omega arith
  again_falls c m k h col_of_template = omega arith
  again_falls c m k h part_of_cell = omega arith
  again_falls c m k h part_of_row = omega arith
  again_falls c m k h part_of_section = omega arith
  again_falls c m k h part_of_caption = omega arith
  again_falls c m k h part_of_colgroup = omega arith
  again_falls c m k h part_of_template = omega arith
  again_falls c m k h end_part_of_cell = omega arith
  again_falls c m k h end_part_of_row = omega arith
  again_falls c m k h end_part_of_section = omega arith
  again_falls c m k h end_part_of_caption = omega arith
  again_falls c m k h end_part_of_colgroup = omega arith
  again_falls c m k h other_of_colgroup = omega arith
  again_falls c m k h end_html_of_colgroup = omega arith
  again_falls c m k h text_of_colgroup = omega arith
  again_falls c m k h text_of_table = omega arith
  again_falls c m k h text_of_section = omega arith
  again_falls c m k h text_of_row = omega arith
  again_falls c m k h other_of_template = omega arith
  again_falls c m k h start_table_of_template = omega arith
