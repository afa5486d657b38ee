-- What is proved of the rule of each mode, in one record: a new rule has to meet it.
use Rattle.std.proofs.Common.{◌≡◌, false, refl, subst, sym}
use Rattle.h5_interface.specs.SinkChoices.{SinkChoices}
use Rattle.h5_tables.specs.TurnText.{HasText, TurnText}
use Rattle.h5_tables.specs.declared.modes.InsertionMode.{InsertionMode}
use Rattle.h5_tables.specs.declared.modes.InsertionMode.TheVariants.{AfterAfterBody, AfterAfterFrameset, AfterBody, AfterFrameset, AfterHead, BeforeHead, BeforeHtml, InBody, InCaption, InCell, InColumnGroup, InFrameset, InHead, InHeadNoscript, InRow, InTable, InTableBody, InTableText, InTemplate, Initial, Text}
use Rattle.h5_builder_spec.specs.Rows.{Row, apply_all, next_mode}
use Rattle.h5_builder_spec.specs.inner.Kept.{Fits}
use Rattle.h5_builder_spec.specs.Sound.{Sound}
use Rattle.h5_builder_spec.specs.World.{World}
use Rattle.h5_builder_spec.specs.modes.Modes.{rule}
use Rattle.h5_builder_spec.proofs.changes.ListsLaws.{IsSteady}
use Rattle.h5_builder_spec.proofs.rows.EndingLaws.{Silent}
use Rattle.h5_builder_spec.proofs.rows.KeptLaws.{FitsAs, changes_mode, mode_with}
use Rattle.h5_builder_spec.proofs.rows.RowTexts.{IsTold, is_text}
use Rattle.h5_builder_laws.proofs.LawfulRow.{IsLawfulFor, is_start_turn}
use Rattle.h5_builder_laws.proofs.kept.SetModeLaws.{FitsAfter, fits_set}
use Rattle.h5_builder_laws.proofs.modes.AfterAfterBody.{lawful_after_after_body}
use Rattle.h5_builder_laws.proofs.modes.AfterAfterFrameset.{lawful_after_after_frameset}
use Rattle.h5_builder_laws.proofs.modes.AfterBody.{lawful_after_body}
use Rattle.h5_builder_laws.proofs.modes.AfterFrameset.{lawful_after_frameset}
use Rattle.h5_builder_laws.proofs.modes.AfterHead.{lawful_after_head}
use Rattle.h5_builder_laws.proofs.modes.BeforeHead.{lawful_before_head}
use Rattle.h5_builder_laws.proofs.modes.BeforeHtml.{lawful_before_html}
use Rattle.h5_builder_laws.proofs.modes.InBody.{lawful_in_body}
use Rattle.h5_builder_laws.proofs.modes.InCaption.{lawful_in_caption}
use Rattle.h5_builder_laws.proofs.modes.InCell.{lawful_in_cell}
use Rattle.h5_builder_laws.proofs.modes.InColumnGroup.{lawful_in_column_group}
use Rattle.h5_builder_laws.proofs.modes.InFrameset.{lawful_in_frameset}
use Rattle.h5_builder_laws.proofs.modes.InHead.{lawful_in_head}
use Rattle.h5_builder_laws.proofs.modes.InHeadNoscript.{lawful_in_head_noscript}
use Rattle.h5_builder_laws.proofs.modes.InRow.{lawful_in_row}
use Rattle.h5_builder_laws.proofs.modes.InTable.{lawful_in_table}
use Rattle.h5_builder_laws.proofs.modes.InTableBody.{lawful_in_table_body}
use Rattle.h5_builder_laws.proofs.modes.InTableText.{lawful_in_table_text}
use Rattle.h5_builder_laws.proofs.modes.InTemplate.{lawful_in_template}
use Rattle.h5_builder_laws.proofs.modes.InitialMode.{lawful_initial}
use Rattle.h5_builder_laws.proofs.modes.TextMode.{lawful_text_mode}
use Rattle.h5_builder_laws.proofs.turns.AgainLaws.{kind_of_turn}
use Rattle.h5_builder_laws.proofs.turns.RowEdges.{RowLeads}

-- each row of each mode
lawful_rule : (m : InsertionMode) (t : TurnText) (w : World) → IsLawfulFor t m w (rule m t w)
lawful_rule Initial t w = lawful_initial t w
lawful_rule BeforeHtml t w = lawful_before_html t w
lawful_rule BeforeHead t w = lawful_before_head t w
lawful_rule InHead t w = lawful_in_head t w
lawful_rule InHeadNoscript t w = lawful_in_head_noscript t w
lawful_rule AfterHead t w = lawful_after_head t w
lawful_rule InBody t w = lawful_in_body t w
lawful_rule Text t w = lawful_text_mode t w
lawful_rule InTable t w = lawful_in_table t w
lawful_rule InTableText t w = lawful_in_table_text t w
lawful_rule InCaption t w = lawful_in_caption t w
lawful_rule InColumnGroup t w = lawful_in_column_group t w
lawful_rule InTableBody t w = lawful_in_table_body t w
lawful_rule InRow t w = lawful_in_row t w
lawful_rule InCell t w = lawful_in_cell t w
lawful_rule InTemplate t w = lawful_in_template t w
lawful_rule AfterBody t w = lawful_after_body t w
lawful_rule AfterAfterBody t w = lawful_after_after_body t w
lawful_rule InFrameset t w = lawful_in_frameset t w
lawful_rule AfterFrameset t w = lawful_after_frameset t w
lawful_rule AfterAfterFrameset t w = lawful_after_after_frameset t w

-- of the rule of a mode, for every token and in every world
pub record IsLawful (m : InsertionMode) : Type 0 where
  -- where the open elements fit the mode, the world is sound after its changes, and the list agrees with the stack
  pub steady : (choices : SinkChoices) (t : TurnText) (w : World) → w.mode ≡ m → Sound w → HasText t → Fits w → IsSteady (apply_all choices (rule m t w).changes w)
  -- and they fit the mode that it leads to
  pub fits : (choices : SinkChoices) (t : TurnText) (w : World) → w.mode ≡ m → Sound w → HasText t → Fits w → FitsAfter (rule m t w).ending (apply_all choices (rule m t w).changes w)
  -- outside of a text, it begins one only where that is answered
  pub told : (t : TurnText) (w : World) → is_text m ≡ false → IsTold (rule m t w)
  -- and it answers nothing of its own but to a start tag
  pub silent : (t : TurnText) (w : World) → is_text m ≡ false → is_start_turn t ≡ false → Silent (rule m t w).ending
  -- the mode of another turn is one of those that the token's kind may lead to
  pub leads : (t : TurnText) (w : World) → RowLeads (kind_of_turn t) m w (rule m t w)

module _ (choices : SinkChoices) (t : TurnText) (w : World) (sound : Sound w) (some : HasText t) (h : Fits w) where
  abbrev r : Row
  r = rule w.mode t w

  rule_steady : IsSteady (apply_all choices r.changes w)
  rule_steady = (lawful_rule w.mode t w).steady choices (record { sound = sound; lists = h.lists }) refl some h.mode

  rule_fits : FitsAfter r.ending (apply_all choices r.changes w)
  rule_fits =
      let v = apply_all choices r.changes w in
      fits_set (mode_with v.mode (next_mode r.ending v)) v
      (subst (λ m. FitsAs (mode_with m (next_mode r.ending v)) v) (sym (changes_mode choices r.changes w)) ((lawful_rule w.mode t w).fits choices (record { sound = sound; lists = h.lists }) refl some h.mode))
      rule_steady.lists

pub lawful : (m : InsertionMode) → IsLawful m
lawful m = record {
  steady = λ choices t w same sound some h. subst (λ k. IsSteady (apply_all choices (rule k t w).changes w)) same (rule_steady choices t w sound some h);
  fits = λ choices t w same sound some h. subst (λ k. FitsAfter (rule k t w).ending (apply_all choices (rule k t w).changes w)) same (rule_fits choices t w sound some h);
  told = λ t w n. (lawful_rule m t w).told n;
  silent = λ t w n s. (lawful_rule m t w).silent n s;
  leads = λ t w. (lawful_rule m t w).leads;
}
