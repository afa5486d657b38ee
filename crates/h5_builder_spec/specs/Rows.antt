-- A rule of tree construction: an ordered list of changes, and one ending (HTML standard, section 13.2.6.4).
use Rattle.std.specs.Prelude.{◌≡◌, ℕ, Bool, true, false, if◌then◌else◌, List, [], ◌∷◌, Option, Some, None, ◌<◌}
use Rattle.h5_names.specs.AttributeText.{AttributeText}
use Rattle.h5_names.specs.declared.qualified.QualName.{QualName}
use Rattle.h5_token.specs.Reply.{Reply, reply}
use Rattle.h5_token.specs.TokenText.{TagText}
use Rattle.h5_interface.specs.SinkChoices.{SinkChoices}
use Rattle.h5_interface.specs.declared.marks.QuirksMode.{QuirksMode}
use Rattle.h5_tables.specs.TurnResult.{TurnResult}
use Rattle.h5_tables.specs.TurnResult as results
use Rattle.h5_tables.specs.TurnText.{TurnText, turn_text}
use Rattle.h5_tables.specs.declared.modes.InsertionMode.{InsertionMode}
use Rattle.h5_builder_spec.specs.formatting.AdoptionAgency.{adoption_agency, handle_misnested_a_tags, handle_misnested_nobr_tags, remove_from_stack}
use Rattle.h5_builder_spec.specs.Changes.{add_attrs_to_html, add_attrs_to_second, append_comment, append_comment_to_doc, append_comment_to_html, append_pending_text, append_text, clear_form, create_root, generate_implied_end_except, insert_and_pop_element, insert_and_pop_form, insert_element, insert_form, insert_head, insert_script, mark_started, pop, pop_until_current, pop_until_named, push_head, remove_body, save_mode, set_foster, set_frameset_not_ok, set_frameset_ok_by_text, set_ignore_lf, set_mode, set_quirks_mode, take_pending_text}
use Rattle.h5_builder_spec.specs.stack.Closing.{close_list_item, close_p_element, close_p_element_in_button_scope, copy_closed_option, generate_implied_end_tags, generate_implied_end_in_select, generate_implied_end_thoroughly, pop_heading, pop_until_cell, pop_until_heading}
use Rattle.h5_builder_spec.specs.insertion.Foreign.{insert_and_pop_foreign_element, insert_foreign_element, leave_foreign_content, pop_until_named_in_any_case}
use Rattle.h5_builder_spec.specs.formatting.Formatting.{clear_active_formatting_to_marker, create_formatting_element, insert_marker, reconstruct_active_formatting_elements}
use Rattle.h5_builder_spec.specs.reset.Reset.{reset_mode}
use Rattle.h5_builder_spec.specs.insertion.Templates.{insert_template, pop_template_mode, push_template_mode, switch_template_mode}
use Rattle.h5_builder_spec.specs.World.{World}

pub data Change : Type 0 where
  SetMode : (mode : InsertionMode) → Change
  SetQuirksMode : (mode : QuirksMode) → Change
  SetFramesetNotOk : Change
  SetFramesetOkByText : (text : List ℕ) → Change
  InsertElement : (local : List ℕ) → (attrs : List AttributeText) → (duplicates : Bool) → Change
  InsertAndPopElement : (local : List ℕ) → (attrs : List AttributeText) → (duplicates : Bool) → Change
  InsertHead : (attrs : List AttributeText) → (duplicates : Bool) → Change
  CreateRoot : (attrs : List AttributeText) → Change
  AppendText : (text : List ℕ) → Change
  AppendComment : (text : List ℕ) → Change
  AppendCommentToDoc : (text : List ℕ) → Change
  AppendCommentToHtml : (text : List ℕ) → Change
  AddAttrsToHtml : (attrs : List AttributeText) → Change
  AddAttrsToSecond : (attrs : List AttributeText) → Change
  Pop : Change
  GenerateImpliedEndExcept : (local : List ℕ) → Change
  PopUntilNamed : (local : List ℕ) → Change
  GenerateImpliedEnd : Change
  ClosePElement : Change
  ClosePElementInButtonScope : Change
  PopHeading : Change
  PopUntilHeading : Change
  ReconstructActiveFormattingElements : Change
  CreateFormattingElement : (tag : TagText) → Change
  AdoptionAgency : (name : List ℕ) → Change
  HandleMisnestedATags : Change
  HandleMisnestedNobrTags : Change
  InsertMarker : Change
  ClearActiveFormattingToMarker : Change
  PopUntilCurrent : (is : QualName → Bool) → Change
  PopUntilCell : Change
  InsertAndPopForm : (attrs : List AttributeText) → (duplicates : Bool) → Change
  SaveMode : Change
  ResetMode : Change
  SetFoster : (on : Bool) → Change
  AppendPendingText : (text : List ℕ) → Change
  TakePendingText : Change
  SetIgnoreLf : Change
  InsertForm : (attrs : List AttributeText) → (duplicates : Bool) → Change
  ClearForm : Change
  CloseListItem : (locals : List (List ℕ)) → Change
  GenerateImpliedEndInSelect : Change
  CopyClosedOption : (option : ℕ) → Change
  RemoveFromStack : (element : ℕ) → Change
  InsertScript : (attrs : List AttributeText) → (duplicates : Bool) → Change
  MarkStarted : Change
  PushHead : Change
  GenerateImpliedEndThoroughly : Change
  PushTemplateMode : (mode : InsertionMode) → Change
  PopTemplateMode : Change
  SwitchTemplateMode : (mode : InsertionMode) → Change
  InsertTemplate : (attrs : List AttributeText) → (duplicates : Bool) → Change
  RemoveBody : Change
  InsertForeignElement : (name : QualName) → (attrs : List AttributeText) → (duplicates : Bool) → Change
  InsertAndPopForeignElement : (name : QualName) → (attrs : List AttributeText) → (duplicates : Bool) → Change
  LeaveForeignContent : Change
  PopUntilNamedInAnyCase : (local : List ℕ) → Change

abbrev pub apply : SinkChoices → Change → World → World
apply choices (SetMode mode) w = set_mode mode w
apply choices (SetQuirksMode mode) w = set_quirks_mode mode w
apply choices SetFramesetNotOk w = set_frameset_not_ok w
apply choices (SetFramesetOkByText text) w = set_frameset_ok_by_text text w
apply choices (InsertElement local attrs duplicates) w = insert_element choices local attrs duplicates w
apply choices (InsertAndPopElement local attrs duplicates) w = insert_and_pop_element choices local attrs duplicates w
apply choices (InsertHead attrs duplicates) w = insert_head choices attrs duplicates w
apply choices (CreateRoot attrs) w = create_root choices attrs w
apply choices (AppendText text) w = append_text text w
apply choices (AppendComment text) w = append_comment choices text w
apply choices (AppendCommentToDoc text) w = append_comment_to_doc choices text w
apply choices (AppendCommentToHtml text) w = append_comment_to_html choices text w
apply choices (AddAttrsToHtml attrs) w = add_attrs_to_html attrs w
apply choices (AddAttrsToSecond attrs) w = add_attrs_to_second attrs w
apply choices Pop w = pop choices w
apply choices (GenerateImpliedEndExcept local) w = generate_implied_end_except choices local w
apply choices (PopUntilNamed local) w = pop_until_named local w
apply choices GenerateImpliedEnd w = generate_implied_end_tags choices w
apply choices ClosePElement w = close_p_element choices w
apply choices ClosePElementInButtonScope w = close_p_element_in_button_scope choices w
apply choices PopHeading w = pop_heading choices w
apply choices PopUntilHeading w = pop_until_heading w
apply choices ReconstructActiveFormattingElements w = reconstruct_active_formatting_elements choices w
apply choices (CreateFormattingElement tag) w = create_formatting_element choices tag w
apply choices (AdoptionAgency name) w = adoption_agency choices name w
apply choices HandleMisnestedATags w = handle_misnested_a_tags choices w
apply choices HandleMisnestedNobrTags w = handle_misnested_nobr_tags choices w
apply choices InsertMarker w = insert_marker w
apply choices ClearActiveFormattingToMarker w = clear_active_formatting_to_marker w
apply choices (PopUntilCurrent is) w = pop_until_current is w
apply choices PopUntilCell w = pop_until_cell w
apply choices (InsertAndPopForm attrs duplicates) w = insert_and_pop_form choices attrs duplicates w
apply choices SaveMode w = save_mode w
apply choices ResetMode w = set_mode (reset_mode w) w
apply choices (SetFoster on) w = set_foster on w
apply choices (AppendPendingText text) w = append_pending_text text w
apply choices TakePendingText w = take_pending_text w
apply choices SetIgnoreLf w = set_ignore_lf w
apply choices (InsertForm attrs duplicates) w = insert_form choices attrs duplicates w
apply choices ClearForm w = clear_form w
apply choices (CloseListItem locals) w = close_list_item choices locals w
apply choices GenerateImpliedEndInSelect w = generate_implied_end_in_select choices w
apply choices (CopyClosedOption option) w = copy_closed_option choices option w
apply choices (RemoveFromStack element) w = remove_from_stack choices element w
apply choices (InsertScript attrs duplicates) w = insert_script choices attrs duplicates w
apply choices MarkStarted w = mark_started choices w
apply choices PushHead w = push_head w
apply choices GenerateImpliedEndThoroughly w = generate_implied_end_thoroughly choices w
apply choices (PushTemplateMode mode) w = push_template_mode mode w
apply choices PopTemplateMode w = pop_template_mode w
apply choices (SwitchTemplateMode mode) w = switch_template_mode mode w
apply choices (InsertTemplate attrs duplicates) w = insert_template choices attrs duplicates w
apply choices RemoveBody w = remove_body w
apply choices (InsertForeignElement name attrs duplicates) w = insert_foreign_element choices name attrs duplicates w
apply choices (InsertAndPopForeignElement name attrs duplicates) w = insert_and_pop_foreign_element choices name attrs duplicates w
apply choices LeaveForeignContent w = leave_foreign_content choices w
apply choices (PopUntilNamedInAnyCase local) w = pop_until_named_in_any_case local w

abbrev pub apply_all : SinkChoices → List Change → World → World
apply_all choices [] w = w
apply_all choices (x ∷ xs) w = apply_all choices xs (apply choices x w)

-- how a rule ends: the token is done, or done with its self-closing flag acknowledged; it is reprocessed in a given
-- mode, or in the mode that the world has after the changes; or a reply is returned
pub data Ending : Type 0 where
  IsDone : Ending
  IsAcknowledged : Ending
  Again : (mode : InsertionMode) → Ending
  AgainBy : (mode : World → InsertionMode) → Ending
  Answers : (answer : Reply) → Ending

-- the mode in which the token is reprocessed, if it is
abbrev pub next_mode : Ending → World → Option InsertionMode
next_mode IsDone w = None
next_mode IsAcknowledged w = None
next_mode (Again mode) w = Some mode
next_mode (AgainBy mode) w = Some (mode w)
next_mode (Answers answer) w = None

-- a rule's effect on one token; it is quiet if it reports no parse error
pub record Row : Type 0 where
  pub changes : List Change
  pub ending : Ending
  pub quiet : Bool

-- a quiet row
abbrev pub row : List Change → Ending → Row
row changes ending = record { changes = changes; ending = ending; quiet = true }

-- a row that reports a parse error
abbrev pub errs : List Change → Ending → Row
errs changes ending = record { changes = changes; ending = ending; quiet = false }

-- a row that is quiet exactly if `quiet` holds
abbrev pub row_if : Bool → List Change → Ending → Row
row_if quiet changes ending = record { changes = changes; ending = ending; quiet = quiet }

-- a parse error, and no change
abbrev pub ignored : Row
ignored = errs [] IsDone

-- one of two rows
abbrev pub choose : Bool → Row → Row → Row
choose b chosen other = if b then chosen else other

-- the world after a row's changes
abbrev pub changed_by : SinkChoices → Row → World → World
changed_by choices r w = apply_all choices r.changes w

-- the result of a turn is this ending, in the world after the turn; a token that is reprocessed is the one that came
abbrev pub EndsAs : {H : Type 0} → (H → ℕ) → TurnText → TurnResult H → Ending → World → Type 0
EndsAs node t results.Done e w = e ≡ IsDone
EndsAs node t results.DoneAckSelfClosing e w = e ≡ IsAcknowledged
EndsAs node t (results.Reprocess mode token) e w = (next_mode e w ≡ Some mode) × (turn_text token ≡ t)
EndsAs node t (results.Answer answer) e w = e ≡ Answers (reply node answer)

-- a turn that followed a row: the changed world, the result, and the sink's mark of errors, which is unchanged after a
-- quiet row, and isn't 0 after any other
pub record Follows {H : Type 0} (choices : SinkChoices) (node : H → ℕ) (r : Row) (t : TurnText) (old new : World) (old_errors new_errors : ℕ) (result : TurnResult H) : Type 0 where
  pub world : new ≡ apply_all choices r.changes old
  pub ending : EndsAs node t result r.ending new
  pub quiet : r.quiet ≡ true → new_errors ≡ old_errors
  pub noted : r.quiet ≡ false → 0 < new_errors
