-- The rule of each insertion mode (HTML standard, section 13.2.6.4, "The rules for parsing tokens in HTML content").
use Rattle.h5_tables.specs.TurnText.{TurnText}
use Rattle.h5_tables.specs.declared.modes.InsertionMode.{InsertionMode}
use Rattle.h5_tables.specs.declared.modes.InsertionMode.TheVariants.{AfterAfterBody, AfterAfterFrameset, AfterBody, AfterFrameset, AfterHead, BeforeHead, BeforeHtml, InBody, InCaption, InCell, InColumnGroup, InFrameset, InHead, InHeadNoscript, InRow, InTable, InTableBody, InTableText, InTemplate, Initial, Text}
use Rattle.h5_builder_spec.specs.modes.AfterAfterBody.{after_after_body}
use Rattle.h5_builder_spec.specs.modes.AfterBody.{after_body}
use Rattle.h5_builder_spec.specs.modes.AfterHead.{after_head}
use Rattle.h5_builder_spec.specs.modes.BeforeHead.{before_head}
use Rattle.h5_builder_spec.specs.modes.BeforeHtml.{before_html}
use Rattle.h5_builder_spec.specs.modes.InBody.{in_body}
use Rattle.h5_builder_spec.specs.modes.InCaption.{in_caption}
use Rattle.h5_builder_spec.specs.modes.InCell.{in_cell}
use Rattle.h5_builder_spec.specs.modes.InColumnGroup.{in_column_group}
use Rattle.h5_builder_spec.specs.modes.InHead.{in_head}
use Rattle.h5_builder_spec.specs.modes.InRow.{in_row}
use Rattle.h5_builder_spec.specs.modes.InTable.{in_table}
use Rattle.h5_builder_spec.specs.modes.InTableBody.{in_table_body}
use Rattle.h5_builder_spec.specs.modes.InTableText.{in_table_text}
use Rattle.h5_builder_spec.specs.modes.InitialMode.{initial}
use Rattle.h5_builder_spec.specs.Rows.{Row}
use Rattle.h5_builder_spec.specs.modes.InTemplate.{in_template}
use Rattle.h5_builder_spec.specs.modes.InFrameset.{in_frameset}
use Rattle.h5_builder_spec.specs.modes.AfterFrameset.{after_frameset}
use Rattle.h5_builder_spec.specs.modes.AfterAfterFrameset.{after_after_frameset}
use Rattle.h5_builder_spec.specs.World.{World}
use Rattle.h5_builder_spec.specs.modes.TextMode.{text_mode}
use Rattle.h5_builder_spec.specs.modes.InHeadNoscript.{in_head_noscript}

abbrev pub rule : InsertionMode → TurnText → World → Row
rule Initial t w = initial t w
rule BeforeHtml t w = before_html t w
rule BeforeHead t w = before_head t w
rule InHead t w = in_head t w
rule InHeadNoscript t w = in_head_noscript t w
rule AfterHead t w = after_head t w
rule InBody t w = in_body t w
rule Text t w = text_mode t w
rule InTable t w = in_table t w
rule InTableText t w = in_table_text t w
rule InCaption t w = in_caption t w
rule InColumnGroup t w = in_column_group t w
rule InTableBody t w = in_table_body t w
rule InRow t w = in_row t w
rule InCell t w = in_cell t w
rule InTemplate t w = in_template t w
rule AfterBody t w = after_body t w
rule AfterAfterBody t w = after_after_body t w
rule InFrameset t w = in_frameset t w
rule AfterFrameset t w = after_frameset t w
rule AfterAfterFrameset t w = after_after_frameset t w
