-- HTML standard, section 13.2.6.4.7, the "in body" insertion mode: the properties of its rows in each mode that uses
-- its rules, one lemma for each rule.
use Rattle.std.proofs.Common.{Bool, IsTrue, List, None, Option, Some, [], ap, codes, false, if◌then◌else◌, inl, inr, is_some, not, refl, subst, sym, true, ℕ, ◌&&◌, ◌∙◌, ◌∷◌, ◌≡◌, ◌≢◌, ◌⊎◌}
use Rattle.h5_names.specs.AttributeText.{AttributeText}
use Rattle.h5_names.specs.declared.known_name.KnownName.TheVariants.{A, Button, Frameset, Html, Iframe, Nobr, Noembed, Noscript, Optgroup, Plaintext, Select, Table, Textarea, Xmp}
use Rattle.h5_names.specs.declared.qualified.QualName.{QualName}
use Rattle.h5_token.specs.TokenText.{TagText}
use Rattle.h5_token.specs.declared.states.RawKind.TheVariants.{Rawtext}
use Rattle.h5_token.specs.declared.tag.TagKind.TheVariants.{EndTag, StartTag}
use Rattle.h5_token.specs.declared.tag.TagKind.{TagKind}
use Rattle.h5_interface.specs.SinkChoices.{SinkChoices}
use Rattle.h5_tables.specs.TagSets.{block_end_names, block_start_names, formatting_names, heading_names, implied_names, is_default_scope, is_heading, is_html_named, is_implied, is_list_item_scope, is_one_of, mathml_namespace, svg_namespace}
use Rattle.h5_tables.specs.declared.modes.InsertionMode.TheVariants.{AfterBody, InBody, InTable, Text}
use Rattle.h5_tables.specs.declared.modes.InsertionMode.{InsertionMode}
use Rattle.h5_builder_spec.specs.ByName.{NonePasses, by_kind, by_name, named}
use Rattle.h5_builder_spec.specs.Changes.{clear_form, generate_implied_end_except, insert_and_pop_element, insert_element, pop, pop_until_named, save_mode, set_frameset_not_ok, set_frameset_ok_by_text, set_ignore_lf, set_mode}
use Rattle.h5_builder_spec.specs.Kinds.{is_start}
use Rattle.h5_builder_spec.specs.Rows.{Again, AgainBy, Answers, Change, ClosePElementInButtonScope, Ending, GenerateImpliedEndExcept, InsertAndPopElement, IsAcknowledged, IsDone, Pop, PopTemplateMode, PopUntilNamed, PushTemplateMode, ReconstructActiveFormattingElements, ResetMode, Row, SaveMode, SetFramesetNotOk, SetMode, SwitchTemplateMode, apply, apply_all, choose, errs, ignored, row, row_if}
use Rattle.h5_builder_spec.specs.Sound.{situation_of}
use Rattle.h5_builder_spec.specs.World.{World, names_of}
use Rattle.h5_builder_spec.specs.inner.Fits.{goes_by_body}
use Rattle.h5_builder_spec.specs.inner.NamesFit.{NamesFit}
use Rattle.h5_builder_spec.specs.reset.Roles.{is_html_element, BodyRole, FramesetRole, HeadRole, HtmlRole, PlainRole, Role, TemplateRole, role_of_local}
use Rattle.h5_builder_spec.specs.formatting.AdoptionAgency.{KeepsKinds, handle_misnested_a_tags, handle_misnested_nobr_tags, remove_from_stack}
use Rattle.h5_builder_spec.specs.formatting.Formatting.{reconstruct_active_formatting_elements}
use Rattle.h5_builder_spec.specs.formatting.FormattingNames.{html_name}
use Rattle.h5_builder_spec.specs.insertion.Foreign.{foreign_name}
use Rattle.h5_builder_spec.specs.modes.InBody.{body_ends, body_in_scope, close_open_form, close_the_form, copies_option, description_names, form_in_scope, if_body_in_scope, in_body_end, in_body_end_block, in_body_end_blocks, in_body_end_body, in_body_end_br, in_body_end_description, in_body_end_form, in_body_end_formatting, in_body_end_heading, in_body_end_html, in_body_end_inline, in_body_end_li, in_body_end_marked, in_body_end_option, in_body_end_other, in_body_end_p, in_body_ignored_starts, in_body_marked, in_body_opens, in_body_parts, in_body_preformatted, in_body_ruby_bases, in_body_ruby_texts, in_body_start, in_body_start_a, in_body_start_block, in_body_start_blocks, in_body_start_body, in_body_start_button, in_body_start_embedded, in_body_start_foreign, in_body_start_form, in_body_start_formatting, in_body_start_frameset, in_body_start_heading, in_body_start_hr, in_body_start_iframe, in_body_start_image, in_body_start_inline, in_body_start_input, in_body_start_item, in_body_start_marked, in_body_start_nobr, in_body_start_noembed, in_body_start_noscript, in_body_start_optgroup, in_body_start_option, in_body_start_other, in_body_start_part, in_body_start_plaintext, in_body_start_preformatted, in_body_start_ruby_base, in_body_start_ruby_text, in_body_start_select, in_body_start_table, in_body_start_textarea, in_body_start_void, in_body_start_xmp, in_body_void, is_quirks, list_item_names, named_in_scope, oldest_option, outside_names}
use Rattle.h5_builder_spec.specs.modes.InHead.{in_head_end_template, in_head_start_tag}
use Rattle.h5_builder_spec.specs.modes.Shared.{current_is, head_start_names, in_body_start_html, in_body_text, is_context, is_type_hidden, table_structure_names}
use Rattle.h5_builder_spec.specs.stack.Closing.{close_p_element_in_button_scope, generate_implied_end_tags}
use Rattle.h5_builder_spec.specs.stack.Expected.{is_expected}
use Rattle.h5_builder_spec.specs.stack.Order.{IsIn}
use Rattle.h5_builder_spec.specs.stack.Root.{IsRootOpen}
use Rattle.h5_builder_spec.specs.stack.Scope.{comes_before_special, cut_names, has_p_in_button_scope, has_template, in_scope, is_implied_but, second_is}
use Rattle.h5_builder_spec.proofs.BoolLaws.{and_both}
use Rattle.h5_builder_spec.proofs.adoption.AdoptionAgencyLaws.{implied_keeps, misnested_nobr_open, until_named_keeps}
use Rattle.h5_builder_spec.proofs.adoption.AdoptionForest.{kinds_trans}
use Rattle.h5_builder_spec.proofs.changes.ClosingLaws.{block_not_implied, heading_not_implied, named_not_implied, new_p_in_scope}
use Rattle.h5_builder_spec.proofs.changes.ForeignLaws.{mathml_no_html, svg_no_html}
use Rattle.h5_builder_spec.proofs.changes.FormattingLaws.{reconstruct_opens}
use Rattle.h5_builder_spec.proofs.changes.ListsLaws.{IsSteady, NeedsOfAll, ready_steady, steady_changes}
use Rattle.h5_builder_spec.proofs.changes.NameLaws.{names-cut, names-implied, names-insert}
use Rattle.h5_builder_spec.proofs.changes.SituationLaws.{situation_insert, situation_tree}
use Rattle.h5_builder_spec.proofs.changes.SoundLaws.{element_is_node}
use Rattle.h5_builder_spec.proofs.changes.TreeLaws.{tree_implied_except, tree_then, tree_until}
use Rattle.h5_builder_spec.proofs.fitting.NamesBodyLaws.{MayEnd, is_of_table, names_after_body, names_in_body, names_other_end, plain_where_ruled, role_known}
use Rattle.h5_builder_spec.proofs.fitting.NamesTableLaws.{names_table_put}
use Rattle.h5_builder_spec.proofs.fitting.OpenLaws.{body_left}
use Rattle.h5_builder_spec.proofs.modes.CloseInLaws.{all_implied_keeps, in_cleared, in_close_except, in_close_other, in_copy, in_ignore_lf, in_implied_except, in_insert_form, in_list_item, in_marker, in_no_form, in_pop, in_remove_form, in_select, in_until, node_in_stack, oldest_is_open}
use Rattle.h5_builder_spec.proofs.modes.FramesetRowLaws.{body_replaced}
use Rattle.h5_builder_spec.proofs.modes.InHead.{IsHeadRow, body_takes, head_content, html_row, noscript_plain, raw_row}
use Rattle.h5_builder_spec.proofs.modes.ReadyInLaws.{ReadyIn, in_agency, in_close_heading, in_close_named, in_close_p, in_close_p_in_scope, in_format, in_frameset_off, in_frameset_text, in_implied, in_insert, in_insert_foreign, in_leaf, in_leaf_foreign, in_misnested_a, in_misnested_nobr, in_pop_heading, in_reconstruct, in_second_attrs, in_text}
use Rattle.h5_builder_spec.proofs.modes.TemplateRowLaws.{closed_by_tag}
use Rattle.h5_builder_spec.proofs.modes.TextBeginsLaws.{text_begins}
use Rattle.h5_builder_spec.proofs.roles.PlainNameLaws.{block_end_plain, block_start_plain, heading_local_plain, known_plain, set_plain}
use Rattle.h5_builder_spec.proofs.roles.RoleLaws.{Origin, local_p, origin, role_made}
use Rattle.h5_builder_spec.proofs.roles.TestLaws.{list_item_default}
use Rattle.h5_builder_spec.proofs.rows.ByNameLaws.{holds_by_name, holds_chosen, of_named, ruled, ◌&◌}
use Rattle.h5_builder_spec.proofs.rows.EndingLaws.{EndsTurn, RowStops, Silent, Stops, stops_next}
use Rattle.h5_builder_spec.proofs.rows.KeptLaws.{FitsAs, FitsLeft, changes_mode, fits_at, fits_frameset_off, mode_after, mode_with}
use Rattle.h5_builder_spec.proofs.rows.ListedLaws.{AllListable}
use Rattle.h5_builder_spec.proofs.rows.RowTexts.{IsTold, NoMode, NoText, Tells, no_mode_no_text}
use Rattle.h5_names.specs.declared.known_name.KnownName.TheVariants as known

-- NAMES

-- any other start tag is of a plain name
other_start_plain : (l : List ℕ) → NonePasses in_body_start l → role_of_local l ≡ PlainRole
unfolding in_body_start in_body_start_blocks in_body_start_inline in_body_start_embedded in_body_ignored_starts table_structure_names outside_names head_start_names block_start_names heading_names in_body_preformatted list_item_names description_names formatting_names in_body_marked in_body_void in_body_parts in_body_ruby_bases in_body_ruby_texts
other_start_plain l n = plain_where_ruled in_body_start l refl refl n

-- an end tag may name tables and their parts in the body alone
abbrev pub NoPartOf : TagKind → List ℕ → Type 0
NoPartOf StartTag name = Unit {0}
NoPartOf EndTag name = is_of_table (role_of_local name) ≡ false

abbrev pub NoPart : InsertionMode → TagKind → List ℕ → Type 0
NoPart m k name = (m ≡ InBody) ⊎ NoPartOf k name

other_end : (m : InsertionMode) (l : List ℕ) → NonePasses in_body_end l → NoPart m EndTag l → MayEnd m (role_of_local l)
unfolding in_body_end in_body_end_blocks in_body_end_inline block_end_names list_item_names description_names heading_names formatting_names in_body_marked
other_end m l n part = at (role_of_local l) (origin l) part
  where
    at : (x : Role) → Origin x l → (m ≡ InBody) ⊎ (is_of_table x ≡ false) → MayEnd m x
    at PlainRole o p = tt
    at HeadRole o p = tt
    at FramesetRole o p = tt
    at HtmlRole o p = ruled in_body_end (codes "html") l refl o n
    at BodyRole o p = ruled in_body_end (codes "body") l refl o n
    at TemplateRole o p = ruled in_body_end (codes "template") l refl o n
    at _ o (inl e) = e
    at _ o (inr e) = absurd (cc)

-- names of formatting elements
a_formatting : (name : List ℕ) → named A name ≡ true → IsTrue (is_one_of formatting_names name)
unfolding formatting_names
a_formatting name h = of_named (λ n. IsTrue (is_one_of formatting_names n)) A name refl h

nobr_formatting : (name : List ℕ) → named Nobr name ≡ true → IsTrue (is_one_of formatting_names name)
unfolding formatting_names
nobr_formatting name h = of_named (λ n. IsTrue (is_one_of formatting_names n)) Nobr name refl h

-- no implied end tag is of these
unimplied_names : List (List ℕ)
unimplied_names = codes "button" ∷ codes "form" ∷ []

button_not_implied : (n : QualName) → is_implied n ≡ true → is_html_named (codes "button") n ≡ false
unfolding unimplied_names implied_names
button_not_implied n h = named_not_implied unimplied_names (codes "button") n refl refl h

form_not_implied : (n : QualName) → is_implied n ≡ true → is_html_named (codes "form") n ≡ false
unfolding unimplied_names implied_names
form_not_implied n h = named_not_implied unimplied_names (codes "form") n refl refl h

pub marked_not_implied : (local : List ℕ) → is_one_of in_body_marked local ≡ true → (n : QualName) → is_implied n ≡ true → is_html_named local n ≡ false
unfolding in_body_marked implied_names
marked_not_implied local p n h = named_not_implied in_body_marked local n refl p h

-- WHAT IS ASKED OF A ROW

-- the turn is the last, except for an end tag `html`
abbrev pub is_end_html : TagKind → List ℕ → Bool
is_end_html StartTag name = false
is_end_html EndTag name = named Html name

abbrev pub EndsBody : (html : Bool) → Ending → Type 0
EndsBody html IsDone = Unit {0}
EndsBody html IsAcknowledged = Unit {0}
EndsBody html (Answers answer) = Unit {0}
EndsBody html (Again mode) = (mode ≡ AfterBody) × (html ≡ true)
EndsBody html (AgainBy mode) = ⊥

-- after it the world is sound, the list of active formatting elements agrees with the stack, and the open elements fit the mode
-- that it leaves
pub record Leaves (choices : SinkChoices) (m : InsertionMode) (w : World) (r : Row) : Type 0 where
  pub steady : IsSteady (apply_all choices r.changes w)
  pub fits : FitsLeft choices w m r

-- for a tag of a kind and a name
pub record IsBodyRow (k : TagKind) (name : List ℕ) (w : World) (r : Row) : Type 0 where
  pub ends : EndsBody (is_end_html k name) r.ending
  pub told : IsTold r
  pub silent : is_start k ≡ false → Silent r.ending
  pub leaves : (choices : SinkChoices) (m : InsertionMode) → goes_by_body m ≡ true → w.mode ≡ m → ReadyIn m w → NoPart m k name → Leaves choices m w r

stops_body : (html : Bool) (x : Ending) → Stops x → EndsBody html x
stops_body html IsDone h = tt
stops_body html IsAcknowledged h = tt
stops_body html (Answers answer) h = tt
stops_body html (Again mode) h = absurd h
stops_body html (AgainBy mode) h = absurd h

-- a row that ends the turn, by what is left where it may stand
row_ends : {k : TagKind} {name : List ℕ} {w : World} (r : Row) → EndsTurn (is_start k) r
    → ((choices : SinkChoices) (m : InsertionMode) → goes_by_body m ≡ true → w.mode ≡ m → ReadyIn m w → NoPart m k name → FitsLeft choices w m r)
    → IsBodyRow k name w r
row_ends {k = k} {name = name} {w = w} r x fits = record {
  ends = stops_body (is_end_html k name) r.ending x.stops;
  told = x.told;
  silent = x.silent;
  leaves = λ choices m goes same ready part. record { steady = steady_changes choices r.changes w x.needs (ready_steady w ready.ready); fits = fits choices m goes same ready part };
}

-- of a start tag, by what its changes need and by what it reports
row_goes : {name : List ℕ} {w : World} (r : Row) → NeedsOfAll r.changes → IsTold r → RowStops r
    → ((choices : SinkChoices) (m : InsertionMode) → goes_by_body m ≡ true → w.mode ≡ m → ReadyIn m w → FitsLeft choices w m r)
    → IsBodyRow StartTag name w r
row_goes r needs told stops fits = row_ends r (record { stops = stops; told = told; silent = λ s. absurd (cc); needs = needs }) (λ choices m goes same ready part. fits choices m goes same ready)

-- by the rules of the head
row_by_head : {name : List ℕ} {w : World} (r : Row) → ((m : InsertionMode) → goes_by_body m ≡ true → IsHeadRow m w r) → IsBodyRow StartTag name w r
row_by_head r x = row_ends r (x InBody refl).ends (λ choices m goes same ready part. (x m goes).fits choices ready.ready.sound same ready.fit)

-- nothing is answered, and the mode stays
abbrev IsOver : Ending → Type 0
IsOver IsDone = Unit {0}
IsOver IsAcknowledged = Unit {0}
IsOver _ = ⊥

over_stops : (x : Ending) → IsOver x → Stops x
over_stops IsDone h = tt
over_stops IsAcknowledged h = tt
over_stops _ h = absurd h

over_silent : (x : Ending) → IsOver x → Silent x
over_silent IsDone h = tt
over_silent IsAcknowledged h = tt
over_silent _ h = absurd h

over_tells : (x : Ending) (xs : List Change) → IsOver x → NoText xs → Tells x xs
over_tells IsDone xs h k = k
over_tells IsAcknowledged xs h k = k
over_tells _ xs h k = absurd h

mode_stays : (choices : SinkChoices) (w : World) (m : InsertionMode) (xs : List Change) → NoMode xs → mode_after choices w m xs ≡ m
mode_stays choices w m [] h = refl
mode_stays choices w m (SetMode k ∷ xs) h = absurd h
mode_stays choices w m (ResetMode ∷ xs) h = absurd h
mode_stays choices w m (SaveMode ∷ xs) h = absurd h
mode_stays choices w m (PushTemplateMode k ∷ xs) h = absurd h
mode_stays choices w m (PopTemplateMode ∷ xs) h = absurd h
mode_stays choices w m (SwitchTemplateMode k ∷ xs) h = absurd h
mode_stays choices w m (x ∷ xs) h = mode_stays choices (apply choices x w) m xs h

-- a row after which builder and sink are ready in the mode
row_stays : {k : TagKind} {name : List ℕ} {w : World} (r : Row) → IsOver r.ending → AllListable r.changes → NoMode r.changes
    → ((choices : SinkChoices) (m : InsertionMode) → goes_by_body m ≡ true → ReadyIn m w → ReadyIn m (apply_all choices r.changes w))
    → IsBodyRow k name w r
row_stays {k = k} {name = name} {w = w} r over listable none ready = record {
  ends = stops_body (is_end_html k name) r.ending (over_stops r.ending over);
  told = (listable, over_tells r.ending r.changes over (no_mode_no_text r.changes none));
  silent = λ s. over_silent r.ending over;
  leaves = λ choices m goes same before part.
      let v = apply_all choices r.changes w in
      let after = ready choices m goes before in
      record {
        steady = ready_steady v after.ready;
        fits = subst (λ j. FitsAs (mode_with (mode_after choices w m r.changes) j) v) (sym (stops_next r.ending (over_stops r.ending over) v)) (subst (λ j. FitsAs j v) (sym (mode_stays choices w m r.changes none)) after.fit);
      };
}

row_ignored : {k : TagKind} {name : List ℕ} {w : World} → IsBodyRow k name w ignored
row_ignored = row_stays ignored tt tt tt (λ choices m goes r. r)

-- one of two rows
row_chosen : {k : TagKind} {name : List ℕ} {w : World} (b : Bool) (r s : Row) → (b ≡ true → IsBodyRow k name w r) → (b ≡ false → IsBodyRow k name w s) → IsBodyRow k name w (choose b r s)
row_chosen {k = k} {name = name} {w = w} b r s x y = holds_chosen (IsBodyRow k name w) b r s x y

row_where : {k : TagKind} {name : List ℕ} {w : World} (b : Bool) (r : Row) → (b ≡ true → IsBodyRow k name w r) → IsBodyRow k name w (choose b r ignored)
row_where b r x = row_chosen b r ignored x (λ e. row_ignored)

row_unless : {k : TagKind} {name : List ℕ} {w : World} (b : Bool) (r : Row) → (b ≡ false → IsBodyRow k name w r) → IsBodyRow k name w (choose b ignored r)
row_unless b r x = row_chosen b ignored r (λ e. row_ignored) x

-- ELEMENTS FOR A TAG

module _ (choices : SinkChoices) (m : InsertionMode) (goes : goes_by_body m ≡ true) (tag : TagText) (v : World) (r : ReadyIn m v) where
  -- one that is open
  opened : role_of_local tag.name ≡ PlainRole → ReadyIn m (insert_element choices tag.name tag.attrs tag.had_duplicate_attributes v)
  opened plain = in_insert choices m goes v r tag.name tag.attrs tag.had_duplicate_attributes plain

  -- after active formatting elements are reconstructed, and without a frameset then
  anew : role_of_local tag.name ≡ PlainRole → ReadyIn m (insert_element choices tag.name tag.attrs tag.had_duplicate_attributes (reconstruct_active_formatting_elements choices v))
  anew plain = in_insert choices m goes (reconstruct_active_formatting_elements choices v) (in_reconstruct choices m goes v r) tag.name tag.attrs tag.had_duplicate_attributes plain

  anew_framed : role_of_local tag.name ≡ PlainRole → ReadyIn m (set_frameset_not_ok (insert_element choices tag.name tag.attrs tag.had_duplicate_attributes (reconstruct_active_formatting_elements choices v)))
  anew_framed plain = in_frameset_off m goes _ (anew plain)

  -- one that isn't open
  leaf_anew : (local : List ℕ) (attrs : List AttributeText) → ReadyIn m (insert_and_pop_element choices local attrs tag.had_duplicate_attributes (reconstruct_active_formatting_elements choices v))
  leaf_anew local attrs = in_leaf choices m goes (reconstruct_active_formatting_elements choices v) (in_reconstruct choices m goes v r) local attrs tag.had_duplicate_attributes

  -- after a `p` is closed
  behind_p : role_of_local tag.name ≡ PlainRole → ReadyIn m (insert_element choices tag.name tag.attrs tag.had_duplicate_attributes (close_p_element_in_button_scope choices v))
  behind_p plain = in_insert choices m goes (close_p_element_in_button_scope choices v) (in_close_p_in_scope choices m goes v r) tag.name tag.attrs tag.had_duplicate_attributes plain

  -- of raw text
  raw_begins : v.mode ≡ m → role_of_local tag.name ≡ PlainRole → FitsAs Text (set_mode Text (save_mode (insert_element choices tag.name tag.attrs tag.had_duplicate_attributes v)))
  raw_begins is plain = text_begins choices v m is (body_left m goes) r.ready.sound r.ready.root tag.name tag.attrs tag.had_duplicate_attributes plain r.fit

  -- a table
  table_put : named Table tag.name ≡ true → FitsAs InTable (set_frameset_not_ok (insert_element choices tag.name tag.attrs tag.had_duplicate_attributes v))
  unfolding role_of_local
  table_put p =
      let u = insert_element choices tag.name tag.attrs tag.had_duplicate_attributes v in
      fits_frameset_off InTable u
      (fits_at InTable v u r.ready.sound (situation_insert choices v tag.name tag.attrs tag.had_duplicate_attributes r.ready.sound)
      (subst (NamesFit (situation_of v) InTable) (sym (names-insert choices tag.name tag.attrs tag.had_duplicate_attributes v r.ready.sound)) (put (names_of v) r.ready.root r.fit)))
    where
      put : (ns : List QualName) → IsRootOpen ns → NamesFit (situation_of v) m ns → NamesFit (situation_of v) InTable (html_name tag.name ∷ ns)
      put [] o f = absurd o
      put (n ∷ ns) o f = names_table_put (situation_of v) ns m (html_name tag.name) n goes (role_made tag.name ∙ role_known Table tag.name p) f

-- START TAGS

module _ (tag : TagText) (w : World) where
  abbrev Start : Row → Type 0
  Start r = IsBodyRow StartTag tag.name w r

  start_html : Start (in_body_start_html tag w)
  start_html = row_by_head _ (λ m goes. html_row m tag w)

  start_head : is_one_of head_start_names tag.name ≡ true → Start (in_head_start_tag tag w)
  start_head p = row_by_head _ (λ m goes. head_content m (body_left m goes) tag w p (λ q. body_takes m goes))

  start_body : Start (in_body_start_body tag w)
  unfolding in_body_start_body
  start_body = row_where (second_is (codes "body") (names_of w) && not (has_template (names_of w))) _ (λ e. row_stays _ tt tt tt (λ choices m goes r. in_second_attrs choices m goes (set_frameset_not_ok w) (in_frameset_off m goes w r) tag.attrs))

  start_frameset : named Frameset tag.name ≡ true → Start (in_body_start_frameset tag w)
  unfolding in_body_start_frameset names_of
  start_frameset p = row_where (w.frameset_ok && second_is (codes "body") (names_of w)) _ (λ e. row_goes _ (tt, (tt, (tt, tt))) (tt, (refl, tt)) tt
      (λ choices m goes same r. body_replaced choices w r.ready.sound m (body_left m goes) tag p (and_both w.frameset_ok (second_is (codes "body") (names_of w)) e).0 r.fit))

  start_block : is_one_of block_start_names tag.name ≡ true → Start (in_body_start_block tag w)
  start_block p = row_stays _ tt tt tt (λ choices m goes r. behind_p choices m goes tag w r (block_start_plain tag.name p))

  start_heading : is_one_of heading_names tag.name ≡ true → Start (in_body_start_heading tag w)
  start_heading p = row_stays _ tt tt tt (λ choices m goes r. opened choices m goes tag _ (in_pop_heading choices m goes _ (in_close_p_in_scope choices m goes w r)) (heading_local_plain tag.name p))

  start_preformatted : is_one_of in_body_preformatted tag.name ≡ true → Start (in_body_start_preformatted tag w)
  unfolding in_body_preformatted role_of_local
  start_preformatted p = row_stays _ tt tt tt (λ choices m goes r. in_frameset_off m goes _ (in_ignore_lf m goes _ (behind_p choices m goes tag w r (set_plain in_body_preformatted tag.name refl p))))

  start_form : Start (in_body_start_form tag w)
  unfolding in_body_start_form
  start_form = row_unless (is_some w.form && not (has_template (names_of w))) _ (λ e. row_stays _ tt tt tt (λ choices m goes r. in_insert_form choices m goes (close_p_element_in_button_scope choices w) (in_close_p_in_scope choices m goes w r) tag.attrs tag.had_duplicate_attributes))

  start_among : (locals : List (List ℕ)) → ((local : List ℕ) → is_one_of locals local ≡ true → role_of_local local ≡ PlainRole) → is_one_of locals tag.name ≡ true → Start (in_body_start_item locals tag w)
  start_among locals plain p = row_stays _ tt tt tt (λ choices m goes r. behind_p choices m goes tag _ (in_list_item choices m goes (set_frameset_not_ok w) (in_frameset_off m goes w r) locals plain) (plain tag.name p))

  start_item : is_one_of list_item_names tag.name ≡ true → Start (in_body_start_item list_item_names tag w)
  unfolding list_item_names role_of_local
  start_item p = start_among list_item_names (λ local h. set_plain list_item_names local refl h) p

  start_description : is_one_of description_names tag.name ≡ true → Start (in_body_start_item description_names tag w)
  unfolding description_names role_of_local
  start_description p = start_among description_names (λ local h. set_plain description_names local refl h) p

  start_plaintext : named Plaintext tag.name ≡ true → Start (in_body_start_plaintext tag w)
  unfolding role_of_local
  start_plaintext p = row_goes _ (tt, (tt, tt)) (tt, tt) tt (λ choices m goes same r. (behind_p choices m goes tag w r (known_plain Plaintext tag.name refl p)).fit)

  start_button : named Button tag.name ≡ true → Start (in_body_start_button tag w)
  unfolding in_body_start_button role_of_local
  start_button p = row_chosen (named_in_scope (codes "button") w) _ _
      (λ e. row_stays _ tt tt tt (λ choices m goes r. anew_framed choices m goes tag _ (in_close_named choices m goes w r (codes "button") refl button_not_implied e) (known_plain Button tag.name refl p)))
      (λ e. row_stays _ tt tt tt (λ choices m goes r. anew_framed choices m goes tag w r (known_plain Button tag.name refl p)))

  start_a : named A tag.name ≡ true → Start (in_body_start_a tag w)
  start_a p = row_stays _ tt (a_formatting tag.name p, tt) tt (λ choices m goes r.
      let v = handle_misnested_a_tags choices w in
      let k = in_misnested_a choices m goes w r in
      in_format choices m goes (reconstruct_active_formatting_elements choices v) (in_reconstruct choices m goes v k) tag (a_formatting tag.name p) (reconstruct_opens choices v k.ready.lists))

  start_nobr : named Nobr tag.name ≡ true → Start (in_body_start_nobr tag w)
  start_nobr p = row_stays _ tt (nobr_formatting tag.name p, tt) tt (λ choices m goes r.
      let v = reconstruct_active_formatting_elements choices w in
      let k = in_reconstruct choices m goes w r in
      in_format choices m goes (handle_misnested_nobr_tags choices v) (in_misnested_nobr choices m goes v k) tag (nobr_formatting tag.name p) (misnested_nobr_open choices v k.ready (reconstruct_opens choices w r.ready.lists)))

  start_formatting : is_one_of formatting_names tag.name ≡ true → Start (in_body_start_formatting tag w)
  start_formatting p = row_stays _ tt (p, tt) tt (λ choices m goes r. in_format choices m goes (reconstruct_active_formatting_elements choices w) (in_reconstruct choices m goes w r) tag p (reconstruct_opens choices w r.ready.lists))

  start_marked : is_one_of in_body_marked tag.name ≡ true → Start (in_body_start_marked tag w)
  unfolding in_body_marked role_of_local
  start_marked p = row_stays _ tt tt tt (λ choices m goes r. in_frameset_off m goes _ (in_marker m goes _ (anew choices m goes tag w r (set_plain in_body_marked tag.name refl p))))

  start_table : named Table tag.name ≡ true → Start (in_body_start_table tag w)
  unfolding in_body_start_table names_of
  start_table p = row_chosen (is_quirks w.quirks) _ _
      (λ e. row_goes _ (tt, (tt, (tt, tt))) (tt, (refl, tt)) tt (λ choices m goes same r. table_put choices m goes tag w r p))
      (λ e. row_goes _ (tt, (tt, (tt, (tt, tt)))) (tt, (refl, tt)) tt (λ choices m goes same r. table_put choices m goes tag (close_p_element_in_button_scope choices w) (in_close_p_in_scope choices m goes w r) p))

  start_void : Start (in_body_start_void tag w)
  start_void = row_stays _ tt tt tt (λ choices m goes r. in_frameset_off m goes _ (leaf_anew choices m goes tag w r tag.name tag.attrs))

  start_image : Start (in_body_start_image tag w)
  start_image = row_stays _ tt tt tt (λ choices m goes r. in_frameset_off m goes _ (leaf_anew choices m goes tag w r (codes "img") tag.attrs))

  start_input : Start (in_body_start_input tag w)
  unfolding in_body_start_input role_of_local
  start_input = at (is_type_hidden tag.attrs)
    where
      puts : Bool → List Change
      puts hidden = ReconstructActiveFormattingElements ∷ InsertAndPopElement tag.name tag.attrs tag.had_duplicate_attributes ∷ (if hidden then [] else SetFramesetNotOk ∷ [])

      at : (hidden : Bool) → Start (choose (named_in_scope (codes "select") w) (errs (PopUntilNamed (codes "select") ∷ puts hidden) IsAcknowledged) (row (puts hidden) IsAcknowledged))
      at true = row_chosen (named_in_scope (codes "select") w) _ _
          (λ e. row_stays _ tt tt tt (λ choices m goes r. leaf_anew choices m goes tag _ (in_until choices m goes w r (codes "select") refl e) tag.name tag.attrs))
          (λ e. row_stays _ tt tt tt (λ choices m goes r. leaf_anew choices m goes tag w r tag.name tag.attrs))
      at false = row_chosen (named_in_scope (codes "select") w) _ _
          (λ e. row_stays _ tt tt tt (λ choices m goes r. in_frameset_off m goes _ (leaf_anew choices m goes tag _ (in_until choices m goes w r (codes "select") refl e) tag.name tag.attrs)))
          (λ e. row_stays _ tt tt tt (λ choices m goes r. in_frameset_off m goes _ (leaf_anew choices m goes tag w r tag.name tag.attrs)))

  start_part : Start (in_body_start_part tag w)
  start_part = row_stays _ tt tt tt (λ choices m goes r. in_leaf choices m goes w r tag.name tag.attrs tag.had_duplicate_attributes)

  start_hr : Start (in_body_start_hr tag w)
  start_hr = row_stays _ tt tt tt (λ choices m goes r. in_frameset_off m goes _ (in_leaf choices m goes _ (in_select choices m goes _ (in_close_p_in_scope choices m goes w r)) tag.name tag.attrs tag.had_duplicate_attributes))

  start_textarea : named Textarea tag.name ≡ true → Start (in_body_start_textarea tag w)
  unfolding role_of_local
  start_textarea p = row_goes _ (tt, (tt, (tt, (tt, (tt, tt))))) (tt, (refl, tt)) tt
      (λ choices m goes same r. raw_begins choices m goes tag (set_frameset_not_ok (set_ignore_lf w)) (in_frameset_off m goes _ (in_ignore_lf m goes w r)) same (known_plain Textarea tag.name refl p))

  start_xmp : named Xmp tag.name ≡ true → Start (in_body_start_xmp tag w)
  unfolding role_of_local
  start_xmp p = row_goes _ (tt, (tt, (tt, (tt, (tt, (tt, tt)))))) (tt, (refl, tt)) tt (λ choices m goes same r.
      let xs : List Change = ClosePElementInButtonScope ∷ ReconstructActiveFormattingElements ∷ SetFramesetNotOk ∷ [] in
      raw_begins choices m goes tag (apply_all choices xs w) (in_frameset_off m goes _ (in_reconstruct choices m goes _ (in_close_p_in_scope choices m goes w r))) (changes_mode choices xs w ∙ same) (known_plain Xmp tag.name refl p))

  start_iframe : named Iframe tag.name ≡ true → Start (in_body_start_iframe tag w)
  unfolding role_of_local
  start_iframe p = row_goes _ (tt, (tt, (tt, (tt, tt)))) (tt, (refl, tt)) tt (λ choices m goes same r. raw_begins choices m goes tag (set_frameset_not_ok w) (in_frameset_off m goes w r) same (known_plain Iframe tag.name refl p))

  start_noembed : named Noembed tag.name ≡ true → Start (in_body_start_noembed tag w)
  unfolding role_of_local
  start_noembed p = row_by_head _ (λ m goes. raw_row m (body_left m goes) tag w Rawtext (known_plain Noembed tag.name refl p))

  start_noscript : named Noscript tag.name ≡ true → Start (in_body_start_noscript tag w)
  unfolding in_body_start_noscript
  start_noscript p = row_chosen w.options.scripting_enabled _ _
      (λ e. row_by_head _ (λ m goes. raw_row m (body_left m goes) tag w Rawtext (noscript_plain tag.name p)))
      (λ e. row_stays _ tt tt tt (λ choices m goes r. anew choices m goes tag w r (noscript_plain tag.name p)))

  start_select : named Select tag.name ≡ true → Start (in_body_start_select tag w)
  unfolding in_body_start_select role_of_local
  start_select p = row_unless (is_context (is_html_named (codes "select")) w) _ (λ e. row_chosen (named_in_scope (codes "select") w) _ _
      (λ f. row_stays _ tt tt tt (λ choices m goes r. in_until choices m goes w r (codes "select") refl f))
      (λ f. row_stays _ tt tt tt (λ choices m goes r. anew_framed choices m goes tag w r (known_plain Select tag.name refl p))))

  -- outside of a `select`
  outside_select : role_of_local tag.name ≡ PlainRole → Start (choose (current_is (codes "option") w) (row (Pop ∷ in_body_opens tag) IsDone) (row (in_body_opens tag) IsDone))
  unfolding role_of_local
  outside_select plain = row_chosen (current_is (codes "option") w) _ _
      (λ e. row_stays _ tt tt tt (λ choices m goes r. anew choices m goes tag (pop choices w) (in_pop choices m goes w r (codes "option") refl e) plain))
      (λ e. row_stays _ tt tt tt (λ choices m goes r. anew choices m goes tag w r plain))

  start_option : named known.Option tag.name ≡ true → Start (in_body_start_option tag w)
  unfolding in_body_start_option role_of_local
  start_option p = row_chosen (named_in_scope (codes "select") w) _ _
      (λ e. row_stays _ tt tt tt (λ choices m goes r. anew choices m goes tag _ (in_implied_except choices m goes w r (codes "optgroup")) (known_plain known.Option tag.name refl p)))
      (λ e. outside_select (known_plain known.Option tag.name refl p))

  start_optgroup : named Optgroup tag.name ≡ true → Start (in_body_start_optgroup tag w)
  unfolding in_body_start_optgroup role_of_local
  start_optgroup p = row_chosen (named_in_scope (codes "select") w) _ _
      (λ e. row_stays _ tt tt tt (λ choices m goes r. anew choices m goes tag _ (in_implied choices m goes w r) (known_plain Optgroup tag.name refl p)))
      (λ e. outside_select (known_plain Optgroup tag.name refl p))

  start_ruby_base : is_one_of in_body_ruby_bases tag.name ≡ true → Start (in_body_start_ruby_base tag w)
  unfolding in_body_ruby_bases role_of_local
  start_ruby_base p = row_chosen (named_in_scope (codes "ruby") w) _ _
      (λ e. row_stays _ tt tt tt (λ choices m goes r. opened choices m goes tag _ (in_implied choices m goes w r) (set_plain in_body_ruby_bases tag.name refl p)))
      (λ e. row_stays _ tt tt tt (λ choices m goes r. opened choices m goes tag w r (set_plain in_body_ruby_bases tag.name refl p)))

  start_ruby_text : is_one_of in_body_ruby_texts tag.name ≡ true → Start (in_body_start_ruby_text tag w)
  unfolding in_body_ruby_texts role_of_local
  start_ruby_text p = row_chosen (named_in_scope (codes "ruby") w) _ _
      (λ e. row_stays _ tt tt tt (λ choices m goes r. opened choices m goes tag _ (in_implied_except choices m goes w r (codes "rtc")) (set_plain in_body_ruby_texts tag.name refl p)))
      (λ e. row_stays _ tt tt tt (λ choices m goes r. opened choices m goes tag w r (set_plain in_body_ruby_texts tag.name refl p)))

  start_foreign : (namespace : List ℕ) → is_html_element (foreign_name namespace tag.name) ≡ false → Start (in_body_start_foreign namespace tag w)
  start_foreign namespace foreign = row_chosen tag.self_closing _ _
      (λ e. row_stays _ tt tt tt (λ choices m goes r. in_leaf_foreign choices m goes _ (in_reconstruct choices m goes w r) _ _ _))
      (λ e. row_stays _ tt tt tt (λ choices m goes r. in_insert_foreign choices m goes _ (in_reconstruct choices m goes w r) _ _ _ foreign))

  start_other : NonePasses in_body_start tag.name → Start (in_body_start_other tag w)
  start_other n = row_stays _ tt tt tt (λ choices m goes r. anew choices m goes tag w r (other_start_plain tag.name n))

  start_row : Start (by_name in_body_start in_body_start_other tag w)
  unfolding in_body_start in_body_start_blocks in_body_start_inline in_body_start_embedded
  start_row = holds_by_name Start in_body_start in_body_start_other tag w (
      (λ p. start_html)
      & start_head
      & (λ p. start_body)
      & start_frameset
      & start_block
      & start_heading
      & start_preformatted
      & (λ p. start_form)
      & start_item
      & start_description
      & start_plaintext
      & start_button
      & start_a
      & start_nobr
      & start_formatting
      & start_marked
      & start_table
      & (λ p. start_void)
      & (λ p. start_image)
      & (λ p. start_input)
      & (λ p. start_part)
      & (λ p. start_hr)
      & start_textarea
      & start_xmp
      & start_iframe
      & start_noembed
      & start_noscript
      & start_select
      & start_option
      & start_optgroup
      & start_ruby_base
      & start_ruby_text
      & (λ p. start_foreign mathml_namespace (mathml_no_html tag.name))
      & (λ p. start_foreign svg_namespace (svg_no_html tag.name))
      & (λ p. row_ignored)
      & tt
      )
      (λ n. start_other n)

-- END TAGS

module _ (tag : TagText) (w : World) where
  abbrev End : Row → Type 0
  End r = IsBodyRow EndTag tag.name w r

  -- the body ends
  after_body : (m : InsertionMode) → goes_by_body m ≡ true → FitsAs m w → FitsAs AfterBody w
  after_body m goes h = names_after_body (situation_of w) (names_of w) (names_in_body (situation_of w) (names_of w) m goes h)

  end_html : named Html tag.name ≡ true → End (in_body_end_html tag w)
  unfolding if_body_in_scope
  end_html p = row_where (body_in_scope w) (body_ends [] (Again AfterBody) w) (λ e. record {
    ends = (refl, p);
    told = (tt, (refl, tt));
    silent = λ s. tt;
    leaves = λ choices m goes same r part. record { steady = ready_steady w r.ready; fits = after_body m goes r.fit };
  })

  end_body : End (in_body_end_body tag w)
  unfolding if_body_in_scope names_of
  end_body = row_where (body_in_scope w) (body_ends (SetMode AfterBody ∷ []) IsDone w) (λ e. row_ends _ (record { stops = tt; told = (tt, (refl, tt)); silent = λ s. tt; needs = (tt, tt) }) (λ choices m goes same r part. after_body m goes r.fit))

  end_block : is_one_of block_end_names tag.name ≡ true → End (in_body_end_block tag w)
  unfolding in_body_end_block
  end_block p = row_where (in_scope (is_html_named tag.name) is_default_scope (names_of w)) _ (λ e. row_stays _ tt tt tt (λ choices m goes r. in_close_named choices m goes w r tag.name (block_end_plain tag.name p) (block_not_implied tag.name p) e))

  -- the form element leaves the stack
  form_left : (choices : SinkChoices) (m : InsertionMode) → goes_by_body m ≡ true → ReadyIn m w → (n : ℕ) → w.form ≡ Some n → IsIn n w.stack → ReadyIn m (remove_from_stack choices n (generate_implied_end_tags choices (clear_form w)))
  form_left choices m goes r n e i =
      let u = clear_form w in
      let k = in_no_form m goes w r in
      let v = generate_implied_end_tags choices u in
      let kept = (all_implied_keeps choices u k.ready.sound k.ready.lists).kinds in
      let is = r.ready.sound.form_name n e i in
      in_remove_form choices m goes v (in_implied choices m goes u k) n (kept n (element_is_node w.forest n (html_name (codes "form"), is)) ∙ is)

  end_the_form : (o : Option ℕ) → w.form ≡ o → End (close_the_form o w)
  unfolding close_the_form
  end_the_form None e = row_ignored
  end_the_form (Some n) e = row_chosen (form_in_scope n w) _ _
      (λ f. row_stays _ tt tt tt (λ choices m goes r. form_left choices m goes r n e (node_in_stack n is_default_scope (names_of w) w.stack f)))
      (λ f. row_stays _ tt tt tt (λ choices m goes r. in_no_form m goes w r))

  end_form : End (in_body_end_form tag w)
  unfolding in_body_end_form close_open_form role_of_local
  end_form = row_chosen (has_template (names_of w)) _ _
      (λ e. row_where (named_in_scope (codes "form") w) _ (λ f. row_stays _ tt tt tt (λ choices m goes r. in_close_named choices m goes w r (codes "form") refl form_not_implied f)))
      (λ e. end_the_form w.form refl)

  -- an option that is closed may be copied
  copies_ready : (choices : SinkChoices) (m : InsertionMode) → goes_by_body m ≡ true → ReadyIn m w → (o : Option ℕ) → oldest_option w ≡ o → (v : World) → ReadyIn m v → KeepsKinds w.forest v.forest → ReadyIn m (apply_all choices (copies_option o) v)
  copies_ready choices m goes r None e v k kept = k
  copies_ready choices m goes r (Some n) e v k kept =
      let is = r.ready.sound.stands.elements n (oldest_is_open (is_html_named (codes "option")) (names_of w) w.stack n e) in
      in_copy choices m goes v k n (is.0, kept n (element_is_node w.forest n is) ∙ is.1)

  option_closed : named known.Option tag.name ≡ true → comes_before_special tag.name (names_of w) ≡ true → (o : Option ℕ) → oldest_option w ≡ o
      → End (row_if (is_expected (is_implied_but tag.name) (is_html_named tag.name) (names_of w)) (GenerateImpliedEndExcept tag.name ∷ PopUntilNamed tag.name ∷ copies_option o) IsDone)
  unfolding role_of_local
  option_closed p e o f = row_stays _ tt (listable o) (none o) (λ choices m goes r.
      let v = generate_implied_end_except choices tag.name w in
      let u = pop_until_named tag.name v in
      let one = implied_keeps choices tag.name w r.ready.sound r.ready.lists in
      let two = until_named_keeps tag.name v one.sound one.lists in
      copies_ready choices m goes r o f u (in_close_other choices m goes w r tag.name (known_plain known.Option tag.name refl p) e) (kinds_trans w.forest v.forest u.forest one.kinds two.kinds))
    where
      listable : (o : Option ℕ) → AllListable (copies_option o)
      listable None = tt
      listable (Some n) = tt

      none : (o : Option ℕ) → NoMode (copies_option o)
      none None = tt
      none (Some n) = tt

  end_option : named known.Option tag.name ≡ true → End (in_body_end_option tag w)
  unfolding in_body_end_option
  end_option p = row_where (comes_before_special tag.name (names_of w)) _ (λ e. option_closed p e (oldest_option w) refl)

  -- the `p` that ends is open, or made
  end_p : End (in_body_end_p tag w)
  unfolding in_body_end_p
  end_p = row_chosen (has_p_in_button_scope (names_of w)) _ _
      (λ e. row_stays _ tt tt tt (λ choices m goes r. in_close_p choices m goes w r e))
      (λ e. row_stays _ tt tt tt (λ choices m goes r.
      let v = insert_element choices (codes "p") [] false w in
      in_close_p choices m goes v (in_insert choices m goes w r (codes "p") [] false local_p) (ap has_p_in_button_scope (names-insert choices (codes "p") [] false w r.ready.sound) ∙ new_p_in_scope (names_of w))))

  end_li : End (in_body_end_li tag w)
  unfolding in_body_end_li role_of_local
  end_li = row_where (in_scope (is_html_named (codes "li")) is_list_item_scope (names_of w)) _ (λ e. row_stays _ tt tt tt (λ choices m goes r. in_close_except choices m goes w r (codes "li") is_list_item_scope refl list_item_default e))

  end_description : is_one_of description_names tag.name ≡ true → End (in_body_end_description tag w)
  unfolding in_body_end_description description_names role_of_local
  end_description p = row_where (named_in_scope tag.name w) _ (λ e. row_stays _ tt tt tt (λ choices m goes r. in_close_except choices m goes w r tag.name is_default_scope (set_plain description_names tag.name refl p) (λ n h. h) e))

  end_heading : End (in_body_end_heading tag w)
  unfolding in_body_end_heading
  end_heading = row_where (in_scope is_heading is_default_scope (names_of w)) _ (λ e. row_stays _ tt tt tt (λ choices m goes r. in_close_heading choices m goes w r heading_not_implied e))

  end_formatting : is_one_of formatting_names tag.name ≡ true → End (in_body_end_formatting tag w)
  end_formatting p = row_stays _ tt tt tt (λ choices m goes r. in_agency choices m goes w r tag.name p)

  end_marked : is_one_of in_body_marked tag.name ≡ true → End (in_body_end_marked tag w)
  unfolding in_body_end_marked in_body_marked role_of_local
  end_marked p = row_where (named_in_scope tag.name w) _ (λ e. row_stays _ tt tt tt (λ choices m goes r. in_cleared m goes _ (in_close_named choices m goes w r tag.name (set_plain in_body_marked tag.name refl p) (marked_not_implied tag.name p) e)))

  end_br : End (in_body_end_br tag w)
  end_br = row_stays _ tt tt tt (λ choices m goes r. in_frameset_off m goes _ (leaf_anew choices m goes tag w r tag.name []))

  end_template : End (in_head_end_template tag w)
  unfolding in_head_end_template
  end_template = row_where (has_template (names_of w)) _ (λ e. row_ends _ (record { stops = tt; told = (tt, tt); silent = λ s. tt; needs = (tt, (tt, (tt, (tt, (tt, tt))))) }) (λ choices m goes same r part. closed_by_tag choices w r.ready.sound m goes e r.fit))

  end_other : NonePasses in_body_end tag.name → End (in_body_end_other tag w)
  unfolding in_body_end_other
  end_other n = row_where (comes_before_special tag.name (names_of w)) _ (λ e. row_ends _ (record { stops = tt; told = (tt, tt); silent = λ s. tt; needs = (tt, (tt, tt)) }) (λ choices m goes same r part.
      let v = generate_implied_end_except choices tag.name w in
      let u = pop_until_named tag.name v in
      let one = implied_keeps choices tag.name w r.ready.sound r.ready.lists in
      let two = until_named_keeps tag.name v one.sound one.lists in
      fits_at m w u r.ready.sound (situation_tree w u (tree_then w v u (tree_implied_except choices tag.name w) (tree_until tag.name v)) (kinds_trans w.forest v.forest u.forest one.kinds two.kinds))
      (subst (NamesFit (situation_of w) m) (sym (names-cut tag.name v ∙ ap (cut_names (is_html_named tag.name)) (names-implied choices tag.name w)))
      (names_other_end (situation_of w) m tag.name (names_of w) goes (other_end m tag.name n part) e r.fit))))

  end_row : End (by_name in_body_end in_body_end_other tag w)
  unfolding in_body_end in_body_end_blocks in_body_end_inline
  end_row = holds_by_name End in_body_end in_body_end_other tag w (
      end_html
      & (λ p. end_body)
      & end_block
      & (λ p. end_form)
      & end_option
      & (λ p. end_p)
      & (λ p. end_li)
      & end_description
      & (λ p. end_heading)
      & end_formatting
      & end_marked
      & (λ p. end_br)
      & (λ p. end_template)
      & tt
      )
      (λ n. end_other n)

-- of a tag
pub tag_row : (k : TagKind) (tag : TagText) (w : World) → IsBodyRow k tag.name w (by_kind k (by_name in_body_start in_body_start_other tag w) (by_name in_body_end in_body_end_other tag w))
tag_row StartTag tag w = start_row tag w
tag_row EndTag tag w = end_row tag w

-- A TEXT
pub text_ready : (choices : SinkChoices) (m : InsertionMode) → goes_by_body m ≡ true → (w : World) → ReadyIn m w → (x : List ℕ) → x ≢ [] → ReadyIn m (apply_all choices (in_body_text x w).changes w)
text_ready choices m goes w r x some =
    let v = reconstruct_active_formatting_elements choices w in
    in_text m goes x (set_frameset_ok_by_text x v) some (in_frameset_text m goes x v (in_reconstruct choices m goes w r))
