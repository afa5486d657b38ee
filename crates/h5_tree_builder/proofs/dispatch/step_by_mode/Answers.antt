use Rattle.std.proofs.Common.{refl, sym, ◌∙◌}
use Rattle.h5_tables.specs.declared.modes.InsertionMode.TheVariants.{AfterAfterBody, AfterBody, AfterHead, BeforeHead, InBody, InCaption, InCell, InColumnGroup, InHead, InHeadNoscript, InRow, InTable, InTableBody, InTableText, InTemplate, InFrameset, AfterFrameset, AfterAfterFrameset, Text}
use Rattle.h5_builder_laws.proofs.kept.SetModeLaws.{enough_open}
use Rattle.h5_tree_builder.proofs.ChainLaws.{fits_in_mode, ready_in_mode}
use Rattle.h5_tree_builder.proofs.dispatch.step_by_mode.Goals as goal

pub step_before_head-requires-clause-open : goal.step_before_head-requires-clause-open
step_before_head-requires-clause-open g c = record { sound = c.requires.ready.sound; some = enough_open _ BeforeHead (sym c.current_mode.ensures ∙ c.in-BeforeHead.is) refl c.requires.ready.fits }

pub step_in_head-requires-clause-open : goal.step_in_head-requires-clause-open
step_in_head-requires-clause-open g c = record { sound = c.requires.ready.sound; some = enough_open _ InHead (sym c.current_mode.ensures ∙ c.in-InHead.is) refl c.requires.ready.fits }

pub step_after_head-requires-clause-open : goal.step_after_head-requires-clause-open
step_after_head-requires-clause-open g c = record { sound = c.requires.ready.sound; some = enough_open _ AfterHead (sym c.current_mode.ensures ∙ c.in-AfterHead.is) refl c.requires.ready.fits }

pub step_after_head-requires-clause-fits : goal.step_after_head-requires-clause-fits
step_after_head-requires-clause-fits g c = fits_in_mode _ AfterHead (sym c.current_mode.ensures ∙ c.in-AfterHead.is) c.requires.ready.fits

pub step_in_head_noscript-requires-clause-open : goal.step_in_head_noscript-requires-clause-open
step_in_head_noscript-requires-clause-open g c = record { sound = c.requires.ready.sound; some = enough_open _ InHeadNoscript (sym c.current_mode.ensures ∙ c.in-InHeadNoscript.is) refl c.requires.ready.fits }

pub step_text_mode-requires-clause-open : goal.step_text_mode-requires-clause-open
step_text_mode-requires-clause-open g c = record { sound = c.requires.ready.sound; some = enough_open _ Text (sym c.current_mode.ensures ∙ c.in-Text.is) refl c.requires.ready.fits }

pub step_in_body-requires-clause-ready : goal.step_in_body-requires-clause-ready
step_in_body-requires-clause-ready g c = ready_in_mode _ InBody (sym c.current_mode.ensures ∙ c.in-InBody.is) refl c.requires.ready.sound.sound c.requires.ready.fits

pub step_in_table-requires-clause-ready : goal.step_in_table-requires-clause-ready
step_in_table-requires-clause-ready g c = ready_in_mode _ InTable (sym c.current_mode.ensures ∙ c.in-InTable.is) refl c.requires.ready.sound.sound c.requires.ready.fits

pub step_in_table_text-requires-clause-ready : goal.step_in_table_text-requires-clause-ready
step_in_table_text-requires-clause-ready g c = ready_in_mode _ InTableText (sym c.current_mode.ensures ∙ c.in-InTableText.is) refl c.requires.ready.sound.sound c.requires.ready.fits

pub step_in_caption-requires-clause-ready : goal.step_in_caption-requires-clause-ready
step_in_caption-requires-clause-ready g c = ready_in_mode _ InCaption (sym c.current_mode.ensures ∙ c.in-InCaption.is) refl c.requires.ready.sound.sound c.requires.ready.fits

pub step_in_column_group-requires-clause-ready : goal.step_in_column_group-requires-clause-ready
step_in_column_group-requires-clause-ready g c = ready_in_mode _ InColumnGroup (sym c.current_mode.ensures ∙ c.in-InColumnGroup.is) refl c.requires.ready.sound.sound c.requires.ready.fits

pub step_in_table_body-requires-clause-ready : goal.step_in_table_body-requires-clause-ready
step_in_table_body-requires-clause-ready g c = ready_in_mode _ InTableBody (sym c.current_mode.ensures ∙ c.in-InTableBody.is) refl c.requires.ready.sound.sound c.requires.ready.fits

pub step_in_row-requires-clause-ready : goal.step_in_row-requires-clause-ready
step_in_row-requires-clause-ready g c = ready_in_mode _ InRow (sym c.current_mode.ensures ∙ c.in-InRow.is) refl c.requires.ready.sound.sound c.requires.ready.fits

pub step_in_cell-requires-clause-ready : goal.step_in_cell-requires-clause-ready
step_in_cell-requires-clause-ready g c = ready_in_mode _ InCell (sym c.current_mode.ensures ∙ c.in-InCell.is) refl c.requires.ready.sound.sound c.requires.ready.fits

pub step_after_body-requires-clause-open : goal.step_after_body-requires-clause-open
step_after_body-requires-clause-open g c = record { sound = c.requires.ready.sound; some = enough_open _ AfterBody (sym c.current_mode.ensures ∙ c.in-AfterBody.is) refl c.requires.ready.fits }

pub step_after_after_body-requires-clause-open : goal.step_after_after_body-requires-clause-open
step_after_after_body-requires-clause-open g c = record { sound = c.requires.ready.sound; some = enough_open _ AfterAfterBody (sym c.current_mode.ensures ∙ c.in-AfterAfterBody.is) refl c.requires.ready.fits }

pub step_in_template-requires-clause-ready : goal.step_in_template-requires-clause-ready
step_in_template-requires-clause-ready g c = ready_in_mode _ InTemplate (sym c.current_mode.ensures ∙ c.in-InTemplate.is) refl c.requires.ready.sound.sound c.requires.ready.fits

pub step_in_frameset-requires-clause-open : goal.step_in_frameset-requires-clause-open
step_in_frameset-requires-clause-open g c = record { sound = c.requires.ready.sound; some = enough_open _ InFrameset (sym c.current_mode.ensures ∙ c.in-InFrameset.is) refl c.requires.ready.fits }

pub step_after_frameset-requires-clause-open : goal.step_after_frameset-requires-clause-open
step_after_frameset-requires-clause-open g c = record { sound = c.requires.ready.sound; some = enough_open _ AfterFrameset (sym c.current_mode.ensures ∙ c.in-AfterFrameset.is) refl c.requires.ready.fits }

pub step_after_after_frameset-requires-clause-open : goal.step_after_after_frameset-requires-clause-open
step_after_after_frameset-requires-clause-open g c = record { sound = c.requires.ready.sound; some = enough_open _ AfterAfterFrameset (sym c.current_mode.ensures ∙ c.in-AfterAfterFrameset.is) refl c.requires.ready.fits }
