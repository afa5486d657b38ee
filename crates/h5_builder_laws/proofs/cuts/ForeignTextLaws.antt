-- What a text leaves of the question whether a text is foreign, and that it leaves what a builder keeps.
use Rattle.std.proofs.Common.{◌≡◌, ◌≢◌, ◌<◌, ℕ, Bool, true, false, not, ◌&&◌, ◌||◌, cond, List, [], ◌∷◌, length, codes, IsTrue, Option, Some, None, refl, ap, sym, subst, ◌∙◌, arith}
use Rattle.h5_names.specs.AttributeText.{AttributeText}
use Rattle.h5_names.specs.declared.qualified.QualName.{QualName}
use Rattle.h5_interface.specs.Forest.{Forest}
use Rattle.h5_interface.specs.NewElement.{is_annotation_xml}
use Rattle.h5_interface.specs.Seen.{is_integration_point}
use Rattle.h5_interface.specs.SinkChoices.{SinkChoices}
use Rattle.h5_tables.specs.TagSets.{html_namespace, is_html_named, is_mathml_text_point, is_svg_html_point}
use Rattle.h5_tables.specs.TurnText.{HasText, TextTurn, TurnText}
use Rattle.h5_tables.specs.declared.modes.InsertionMode.{InsertionMode}
use Rattle.h5_tables.specs.declared.modes.InsertionMode.TheVariants.{AfterAfterBody, AfterAfterFrameset, AfterBody, AfterFrameset, AfterHead, BeforeHead, BeforeHtml, InBody, InCaption, InCell, InColumnGroup, InFrameset, InHead, InHeadNoscript, InRow, InTable, InTableBody, InTableText, InTemplate, Initial, Text}
use Rattle.h5_tables.specs.declared.modes.SplitStatus.{SplitStatus}
use Rattle.h5_tables.specs.declared.modes.SplitStatus.TheVariants.{NotSplit, NotWhitespace, Whitespace}
use Rattle.h5_builder_spec.specs.formatting.FormattingList.{ElementEntry, Entry, MarkerEntry, closed_front}
use Rattle.h5_builder_spec.specs.formatting.FormattingNames.{html_name}
use Rattle.h5_builder_spec.specs.stack.Scope.{first_passes}
use Rattle.h5_builder_spec.specs.inner.Fits.{is_before_root}
use Rattle.h5_builder_spec.specs.reset.Roles.{is_html_element, roles}
use Rattle.h5_builder_spec.specs.stack.Root.{IsRootOpen}
use Rattle.h5_builder_spec.proofs.fitting.OpenLaws.{names_root_open}
use Rattle.h5_builder_spec.specs.modes.AfterBody.{back_to_body}
use Rattle.h5_builder_spec.specs.modes.AfterHead.{after_head_else}
use Rattle.h5_builder_spec.specs.modes.BeforeHead.{before_head_else}
use Rattle.h5_builder_spec.specs.modes.BeforeHtml.{before_html_else}
use Rattle.h5_builder_spec.specs.Blanks.{blanks_of, rest_of}
use Rattle.h5_builder_spec.specs.Changes.{append_pending_text, append_text, insert_element, save_mode, set_foster, set_frameset_ok_by_text, set_mode}
use Rattle.h5_builder_spec.specs.insertion.Foreign.{adjusted_current_node, is_foreign, is_foreign_at, is_foreign_text}
use Rattle.h5_builder_spec.specs.formatting.Formatting.{insert_anew, reconstruct_active_formatting_elements}
use Rattle.h5_builder_spec.specs.modes.InBody.{in_body}
use Rattle.h5_builder_spec.specs.modes.InColumnGroup.{close_the_column_group, in_column_group_else}
use Rattle.h5_builder_spec.specs.modes.InHead.{in_head_else}
use Rattle.h5_builder_spec.specs.modes.InHeadNoscript.{in_head_noscript_else}
use Rattle.h5_builder_spec.specs.modes.InTable.{in_table_text_or_null, keeps_text}
use Rattle.h5_builder_spec.specs.modes.InitialMode.{initial_else}
use Rattle.h5_builder_spec.specs.modes.Modes.{rule}
use Rattle.h5_builder_spec.specs.Rows.{Again, AppendPendingText, IsDone, Pop, Row, SaveMode, changed_by, choose, ignored, next_mode, row}
use Rattle.h5_builder_spec.specs.modes.Shared.{current_is, in_body_text}
use Rattle.h5_builder_spec.specs.inner.Kept.{Fits, Fitting}
use Rattle.h5_builder_spec.specs.Sound.{Sound, situation_of}
use Rattle.h5_builder_spec.specs.modes.Tables.{foster}
use Rattle.h5_builder_spec.specs.Text.{after_row, all_blanks, by_else, closes_column_group, dropped, foreign_text, fostered_text, if_any, in_next, split, text_after_body, text_after_head, text_before_head, text_before_html, text_in, text_in_body, text_in_column_group, text_in_head, text_in_head_noscript, text_in_table, text_in_table_text, text_initial, text_rule, unless_foreign}
use Rattle.h5_builder_spec.specs.insertion.Place.{place}
use Rattle.h5_builder_spec.specs.World.{World, name_in, name_of_found, names_of}
use Rattle.h5_builder_laws.proofs.kept.DispatchLaws.{KeptBy, rule_kept, text_fitting}
use Rattle.h5_builder_laws.proofs.modes.ForeignModeLaws.{foreign_mode, html_first, html_not_foreign}
use Rattle.h5_builder_spec.proofs.changes.FormattingLaws.{root_anew, sound_anew}
use Rattle.h5_builder_spec.proofs.rows.KeptLaws.{kept_append, mode_with}
use Rattle.h5_builder_spec.proofs.changes.ListsLaws.{steady_text}
use Rattle.h5_builder_spec.proofs.changes.NameLaws.{names-insert}
use Rattle.h5_builder_laws.proofs.cuts.TableTextLaws.{current_name_kept}
use Rattle.h5_builder_laws.proofs.cuts.TextForestLaws.{SameButChildren, text_same}
use Rattle.h5_builder_spec.proofs.changes.TreeLaws.{tree_reconstruct}

-- A TEXT THAT IS APPENDED changes nothing of it
abbrev T : TurnText
T = TextTurn NotSplit []

abbrev taken_as : QualName → Bool → Bool
taken_as n point = is_html_element n || ((is_mathml_text_point n && true) || ((is_svg_html_point n && true) || (is_annotation_xml n && (false || (true && point)))))

at_same : (choices : SinkChoices) (f g : Forest) → SameButChildren f g → (o : Option ℕ) → is_foreign_at choices T g o ≡ is_foreign_at choices T f o
at_same choices f g same None = refl
at_same choices f g same (Some n) =
    ap (λ x. not (taken_as x (is_integration_point choices g n))) (ap name_of_found (same.kinds n)) ∙ ap (λ p. not (taken_as (name_in f n) p)) (same.points choices n)

pub append_foreign : (choices : SinkChoices) (t : List ℕ) (w : World) → is_foreign_text choices (append_text t w) ≡ is_foreign_text choices w
unfolding is_foreign append_text
append_foreign choices t w = at_same choices w.forest _ (text_same (place w) t w.forest) (adjusted_current_node w)

pub ok_foreign : (choices : SinkChoices) (t : List ℕ) (w : World) → is_foreign_text choices (set_frameset_ok_by_text t w) ≡ is_foreign_text choices w
unfolding is_foreign set_frameset_ok_by_text
ok_foreign choices t w = refl

pub foreign_again : (choices : SinkChoices) (t : List ℕ) (w : World) → is_foreign_text choices (foreign_text t w) ≡ is_foreign_text choices w
foreign_again choices t w = append_foreign choices t (set_frameset_ok_by_text t w) ∙ ok_foreign choices t w

pub foster_foreign : (choices : SinkChoices) (on : Bool) (w : World) → is_foreign_text choices (set_foster on w) ≡ is_foreign_text choices w
unfolding is_foreign
foster_foreign choices on w = refl

pub kept_back_foreign : (choices : SinkChoices) (m : InsertionMode) (w : World) → is_foreign_text choices (set_mode m (save_mode w)) ≡ is_foreign_text choices w
unfolding is_foreign
kept_back_foreign choices m w = refl

pub pending_foreign : (choices : SinkChoices) (t : List ℕ) (w : World) → is_foreign_text choices (append_pending_text t w) ≡ is_foreign_text choices w
unfolding is_foreign append_pending_text
pending_foreign choices t w = refl

-- NEW ELEMENTS for entries are of HTML
two_open : (n : QualName) (ns : List QualName) → IsRootOpen ns → 1 < length (roles (n ∷ ns))
two_open n [] h = absurd h
two_open n (m ∷ ns) h = omega arith

html_made : (local : List ℕ) (ns : List QualName) → IsTrue (first_passes is_html_element (html_name local ∷ ns))
unfolding html_namespace
html_made local ns = refl

pushed_html : (choices : SinkChoices) (local : List ℕ) (attrs : List AttributeText) (duplicates : Bool) (v : World) → Sound v → IsRootOpen (names_of v) → is_foreign_text choices (insert_element choices local attrs duplicates v) ≡ false
pushed_html choices local attrs duplicates v k o =
    let u = insert_element choices local attrs duplicates v in
    let e = names-insert choices local attrs duplicates v k in
    html_not_foreign choices T u
    (html_first u (subst (λ ns. 1 < length (roles ns)) (sym e) (two_open (html_name local) (names_of v) o)) (subst (λ ns. IsTrue (first_passes is_html_element ns)) (sym e) (html_made local (names_of v))))

anew_html : (choices : SinkChoices) (l : List Entry) (w : World) → Sound w → IsRootOpen (names_of w) → is_foreign_text choices w ≡ false → is_foreign_text choices (insert_anew choices l w) ≡ false
anew_html choices [] w k o h = h
anew_html choices (MarkerEntry ∷ l) w k o h = anew_html choices l w k o h
anew_html choices (ElementEntry n tag ∷ l) w k o h =
    let v = insert_anew choices l w in
    pushed_html choices tag.name tag.attrs tag.had_duplicate_attributes v (sound_anew choices l w k) (root_anew choices l w k o)

renewed_html : (choices : SinkChoices) (w : World) → Sound w → IsRootOpen (names_of w) → is_foreign_text choices w ≡ false → is_foreign_text choices (reconstruct_active_formatting_elements choices w) ≡ false
unfolding reconstruct_active_formatting_elements is_foreign
renewed_html choices w k o h = anew_html choices (closed_front w.stack w.formatting) w k o h

pub body_html : (choices : SinkChoices) (t : List ℕ) (w : World) → Sound w → IsRootOpen (names_of w) → is_foreign_text choices w ≡ false → is_foreign_text choices (text_in_body choices t w) ≡ false
unfolding text_in_body
body_html choices t w k o h =
    let v = reconstruct_active_formatting_elements choices w in
    append_foreign choices t (set_frameset_ok_by_text t v) ∙ ok_foreign choices t v ∙ renewed_html choices w k o h

-- A MODE in which a text isn't foreign
pub record In (choices : SinkChoices) (m : InsertionMode) (w : World) : Type 0 where
  pub mode : w.mode ≡ m
  pub fitting : Fitting w
  pub html : is_foreign_text choices w ≡ false

pub in_root : {choices : SinkChoices} {m : InsertionMode} {w : World} → is_before_root m ≡ false → In choices m w → IsRootOpen (names_of w)
in_root {m = m} {w = w} h i = names_root_open (situation_of w) w.mode (names_of w) (ap is_before_root i.mode ∙ h) i.fitting.fits.mode

-- what is kept is kept after a row, in the mode that it leads to
kept_after : (choices : SinkChoices) (r : Row) (w : World) → KeptBy choices r w → Fitting (after_row choices r w)
kept_after choices r w k = at (changed_by choices r w) (next_mode r.ending (changed_by choices r w)) k.sound k.fits
  where
    at : (v : World) (o : Option InsertionMode) → Sound v → Fits (set_mode (mode_with v.mode o) v) → Fitting (in_next o v)
    at v None s f = record { sound = s; fits = f }
    at v (Some m) s f = record { sound = s; fits = f }

pub row_fitting : (choices : SinkChoices) (m : InsertionMode) (t : TurnText) (r : Row) (w : World) → HasText t → w.mode ≡ m → rule m t w ≡ r → Fitting w → Fitting (after_row choices r w)
row_fitting choices m t r w some e f g =
    kept_after choices r w (subst (λ x. KeptBy choices x w) (ap (λ k. rule k t w) e ∙ f) (rule_kept choices t w some g))

pub append_fitting : (choices : SinkChoices) (t : List ℕ) (w : World) → t ≢ [] → Fitting w → Fitting (append_text t w)
unfolding append_text
append_fitting choices t w some g =
    let st = steady_text w (record { sound = g.sound; lists = g.fits.lists }) t some in
    record { sound = st.sound; fits = record { mode = kept_append choices w g.sound w.mode t some g.fits.mode; lists = st.lists } }

-- WHAT A BUILDER KEEPS is kept by a text
module _ (choices : SinkChoices) where
  -- where the text isn't foreign in the mode, and wherever it is
  abbrev pub FitsIn : InsertionMode → Type 0
  FitsIn m = (b : ℕ) (t : List ℕ) (w : World) → In choices m w → Fitting (text_in m choices (b ∷ t) w)

  abbrev pub FitsAt : InsertionMode → Type 0
  FitsAt m = (b : ℕ) (t : List ℕ) (w : World) → w.mode ≡ m → Fitting w → Fitting (unless_foreign choices (text_in m choices) (b ∷ t) w)

  pub foreign_fitting : (b : ℕ) (t : List ℕ) (w : World) → is_foreign_text choices w ≡ true → Fitting w → Fitting (foreign_text (b ∷ t) w)
  foreign_fitting b t w h g = text_fitting choices w (record { fitting = g; takes = foreign_mode choices T w h g.fits.mode }) (b ∷ t) (λ e. cc)

  pub fits_at_all : (m : InsertionMode) → FitsIn m → FitsAt m
  fits_at_all m f b t w e g = at (is_foreign_text choices w) refl
    where
      at : (c : Bool) → is_foreign_text choices w ≡ c → Fitting (cond c (foreign_text (b ∷ t) w) (text_in m choices (b ∷ t) w))
      at true h = foreign_fitting b t w h g
      at false h = f b t w (record { mode = e; fitting = g; html = h })

  -- by "anything else"
  pub else_fitting : (m k : InsertionMode) (r : TurnText → World → Row) → ((t : List ℕ) (w : World) → rule m (TextTurn NotWhitespace t) w ≡ r (TextTurn NotWhitespace t) w) → (b : ℕ) (t : List ℕ) (w : World) → In choices m w → Fitting (after_row choices (r (TextTurn NotWhitespace (b ∷ t)) w) w)
  else_fitting m k r is b t w i = row_fitting choices m (TextTurn NotWhitespace (b ∷ t)) (r (TextTurn NotWhitespace (b ∷ t)) w) w (λ e. cc) i.mode (is (b ∷ t) w) i.fitting

  -- blanks, and then the rest
  abbrev pub KeepsIn : InsertionMode → (List ℕ → World → World) → Type 0
  KeepsIn m f = (b : ℕ) (t : List ℕ) (w : World) → In choices m w → In choices m (f (b ∷ t) w)

  pub any_in : (m : InsertionMode) (f : List ℕ → World → World) → KeepsIn m f → (t : List ℕ) (w : World) → In choices m w → In choices m (if_any f t w)
  any_in m f k [] w i = i
  any_in m f k (b ∷ t) w i = k b t w i

  pub drops_in : (m : InsertionMode) → KeepsIn m dropped
  drops_in m b t w i = i

  pub appends_in : (m : InsertionMode) → KeepsIn m append_text
  unfolding append_text
  appends_in m b t w i = record { mode = i.mode; fitting = append_fitting choices (b ∷ t) w (λ e. cc) i.fitting; html = append_foreign choices (b ∷ t) w ∙ i.html }

  body_after : (m : InsertionMode) (status : SplitStatus) → ((t : List ℕ) (w : World) → rule m (TextTurn status t) w ≡ in_body_text t w) → (b : ℕ) (t : List ℕ) (w : World) → In choices m w → Fitting (text_in_body choices (b ∷ t) w)
  unfolding text_in_body
  body_after m status is b t w i = row_fitting choices m (TextTurn status (b ∷ t)) (in_body_text (b ∷ t) w) w (λ e. cc) i.mode (is (b ∷ t) w) i.fitting

  pub bodies_in : (m : InsertionMode) (status : SplitStatus) → is_before_root m ≡ false → ((t : List ℕ) (w : World) → rule m (TextTurn status t) w ≡ in_body_text t w) → KeepsIn m (text_in_body choices)
  unfolding text_in_body append_text set_frameset_ok_by_text
  bodies_in m status after is b t w i = record {
    mode = ap (λ (v : World). v.mode) (tree_reconstruct choices w) ∙ i.mode;
    fitting = body_after m status is b t w i;
    html = body_html choices (b ∷ t) w i.fitting.sound (in_root after i) i.html;
  }

  -- if something holds besides, that blanks leave
  split_fits_where : (P : World → Type 0) (m k : InsertionMode) (blanks : List ℕ → World → World) (r : TurnText → World → Row) → ((w : World) → P w → In choices m w) → ((b : ℕ) (t : List ℕ) (w : World) → P w → P (blanks (b ∷ t) w))
      → ((t : List ℕ) (w : World) → rule m (TextTurn NotWhitespace t) w ≡ r (TextTurn NotWhitespace t) w)
      → ((t : List ℕ) (w : World) → P w → (after_row choices (r (TextTurn NotWhitespace t) w) w).mode ≡ k) → FitsAt k → (b : ℕ) (t : List ℕ) (w : World) → P w → Fitting (split blanks (by_else choices r (text_in k choices)) (b ∷ t) w)
  split_fits_where P m k blanks r ins keeps is leads next b t w i = at (rest_of (b ∷ t)) (any (blanks_of (b ∷ t)))
    where
      any : (x : List ℕ) → P (if_any blanks x w)
      any [] = i
      any (d ∷ u) = keeps d u w i

      at : (x : List ℕ) → P (if_any blanks (blanks_of (b ∷ t)) w) → Fitting (if_any (by_else choices r (text_in k choices)) x (if_any blanks (blanks_of (b ∷ t)) w))
      at [] j = (ins (if_any blanks (blanks_of (b ∷ t)) w) j).fitting
      at (d ∷ u) j =
          let v = if_any blanks (blanks_of (b ∷ t)) w in
          next d u (after_row choices (r (TextTurn NotWhitespace (d ∷ u)) v) v) (leads (d ∷ u) v j) (else_fitting m k r is d u v (ins v j))

  split_fits : (m k : InsertionMode) (blanks : List ℕ → World → World) (r : TurnText → World → Row) → KeepsIn m blanks → ((t : List ℕ) (w : World) → rule m (TextTurn NotWhitespace t) w ≡ r (TextTurn NotWhitespace t) w)
      → ((t : List ℕ) (w : World) → In choices m w → (after_row choices (r (TextTurn NotWhitespace t) w) w).mode ≡ k) → FitsAt k → (b : ℕ) (t : List ℕ) (w : World) → In choices m w → Fitting (split blanks (by_else choices r (text_in k choices)) (b ∷ t) w)
  split_fits m k blanks r keeps is leads next = split_fits_where (In choices m) m k blanks r (λ w i. i) keeps is leads next

  body_fits : (m : InsertionMode) → ((t : List ℕ) (w : World) → rule m (TextTurn NotSplit t) w ≡ in_body_text t w) → (b : ℕ) (t : List ℕ) (w : World) → In choices m w → Fitting (text_in_body choices (b ∷ t) w)
  body_fits m is b t w i = body_after m NotSplit is b t w i

  in_body_fits : FitsAt InBody
  in_body_fits = fits_at_all InBody (body_fits InBody (λ t w. refl))

  after_body_fits : (m : InsertionMode) → is_before_root m ≡ false → ((t : List ℕ) (w : World) → rule m (TextTurn Whitespace t) w ≡ in_body_text t w) → ((t : List ℕ) (w : World) → rule m (TextTurn NotWhitespace t) w ≡ back_to_body (TextTurn NotWhitespace t) w)
      → (b : ℕ) (t : List ℕ) (w : World) → In choices m w → Fitting (text_after_body choices (b ∷ t) w)
  unfolding text_after_body
  after_body_fits m after blank other = split_fits m InBody (text_in_body choices) back_to_body (bodies_in m Whitespace after blank) other (λ t w i. refl) in_body_fits

  after_head_fits : FitsAt AfterHead
  unfolding text_after_head
  after_head_fits = fits_at_all AfterHead (split_fits AfterHead InBody append_text after_head_else (appends_in AfterHead) (λ t w. refl) (λ t w i. refl) in_body_fits)

  in_head_fits : FitsAt InHead
  unfolding text_in_head
  in_head_fits = fits_at_all InHead (split_fits InHead AfterHead append_text in_head_else (appends_in InHead) (λ t w. refl) (λ t w i. refl) after_head_fits)

  in_head_noscript_fits : FitsAt InHeadNoscript
  unfolding text_in_head_noscript
  in_head_noscript_fits = fits_at_all InHeadNoscript (split_fits InHeadNoscript InHead append_text in_head_noscript_else (appends_in InHeadNoscript) (λ t w. refl) (λ t w i. refl) in_head_fits)

  before_head_fits : FitsAt BeforeHead
  unfolding text_before_head
  before_head_fits = fits_at_all BeforeHead (split_fits BeforeHead InHead dropped before_head_else (drops_in BeforeHead) (λ t w. refl) (λ t w i. refl) in_head_fits)

  before_html_fits : FitsAt BeforeHtml
  unfolding text_before_html
  before_html_fits = fits_at_all BeforeHtml (split_fits BeforeHtml BeforeHead dropped before_html_else (drops_in BeforeHtml) (λ t w. refl) (λ t w i. refl) before_head_fits)

  initial_leads : (t : List ℕ) (w : World) → (after_row choices (initial_else (TextTurn NotWhitespace t) w) w).mode ≡ BeforeHtml
  unfolding initial_else
  initial_leads t w = elim w.options.iframe_srcdoc as (λ b. (after_row choices (choose b _ _) w).mode ≡ BeforeHtml) [ true ↦ refl | false ↦ refl ]

  initial_fits : FitsAt Initial
  unfolding text_initial
  initial_fits = fits_at_all Initial (split_fits Initial BeforeHtml dropped initial_else (drops_in Initial) (λ t w. refl) (λ t w i. initial_leads t w) before_html_fits)

  -- in a text, and while text of a table is buffered
  in_text_fits : FitsAt Text
  in_text_fits = fits_at_all Text (λ b t w i. append_fitting choices (b ∷ t) w (λ e. cc) i.fitting)

  pending_fits : (b : ℕ) (t : List ℕ) (w : World) → w.mode ≡ InTableText → Fitting w → Fitting (append_pending_text (b ∷ t) w)
  pending_fits b t w e g = row_fitting choices InTableText (TextTurn NotSplit (b ∷ t)) (row (AppendPendingText (b ∷ t) ∷ []) IsDone) w (λ x. cc) e refl g

  table_fits : (m : InsertionMode) → ((t : List ℕ) (w : World) → rule m (TextTurn NotSplit t) w ≡ in_table_text_or_null (TextTurn NotSplit t) w) → (b : ℕ) (t : List ℕ) (w : World) → In choices m w → Fitting (text_in_table choices (b ∷ t) w)
  unfolding text_in_table in_table_text_or_null text_in_body
  table_fits m is b t w i = at (keeps_text w) (is (b ∷ t) w)
    where
      at : (o : Bool) → rule m (TextTurn NotSplit (b ∷ t)) w ≡ choose o (row (SaveMode ∷ []) (Again InTableText)) (foster in_body (TextTurn NotSplit (b ∷ t)) w)
          → Fitting (cond o (text_in_table_text (b ∷ t) (set_mode InTableText (save_mode w))) (fostered_text choices (b ∷ t) w))
      at true f = pending_fits b t (set_mode InTableText (save_mode w)) refl (row_fitting choices m (TextTurn NotSplit (b ∷ t)) (row (SaveMode ∷ []) (Again InTableText)) w (λ e. cc) i.mode f i.fitting)
      at false f = row_fitting choices m (TextTurn NotSplit (b ∷ t)) (foster in_body (TextTurn NotSplit (b ∷ t)) w) w (λ e. cc) i.mode f i.fitting

  in_table_fits : FitsAt InTable
  in_table_fits = fits_at_all InTable (table_fits InTable (λ t w. refl))

  in_table_body_fits : FitsAt InTableBody
  in_table_body_fits = fits_at_all InTableBody (table_fits InTableBody (λ t w. refl))

  in_row_fits : FitsAt InRow
  in_row_fits = fits_at_all InRow (table_fits InRow (λ t w. refl))

  pub pending_in : KeepsIn InTableText text_in_table_text
  unfolding append_pending_text
  pending_in b t w i = record { mode = i.mode; fitting = pending_fits b t w i.mode i.fitting; html = pending_foreign choices (b ∷ t) w ∙ i.html }

  -- where a table keeps a text back the mode is left for it
  pub left_in : (m : InsertionMode) → ((t : List ℕ) (w : World) → rule m (TextTurn NotSplit t) w ≡ in_table_text_or_null (TextTurn NotSplit t) w) → (w : World) → keeps_text w ≡ true → In choices m w → In choices InTableText (set_mode InTableText (save_mode w))
  unfolding in_table_text_or_null
  left_in m is w e i = record {
    mode = refl;
    fitting = row_fitting choices m (TextTurn NotSplit (0 ∷ [])) (row (SaveMode ∷ []) (Again InTableText)) w (λ x. cc) i.mode (is (0 ∷ []) w ∙ ap (λ o. choose o (row (SaveMode ∷ []) (Again InTableText)) (foster in_body (TextTurn NotSplit (0 ∷ [])) w)) e) i.fitting;
    html = kept_back_foreign choices InTableText w ∙ i.html;
  }

  -- in a column group that is the current node, and is closed; and in any other, blanks alone
  pub record Closes (w : World) : Type 0 where
    pub inside : In choices InColumnGroup w
    pub current : current_is (codes "colgroup") w ≡ true

  pub blanks_close : (b : ℕ) (t : List ℕ) (w : World) → Closes w → Closes (append_text (b ∷ t) w)
  blanks_close b t w c = record { inside = appends_in InColumnGroup b t w c.inside; current = current_name_kept (is_html_named (codes "colgroup")) (b ∷ t) w ∙ c.current }

  pub closes_leads : (t : List ℕ) (w : World) → Closes w → (after_row choices (in_column_group_else (TextTurn NotWhitespace t) w) w).mode ≡ InTable
  unfolding close_the_column_group
  closes_leads t w c = ap (λ b. (after_row choices (choose b (row (Pop ∷ []) (Again InTable)) ignored) w).mode) c.current

  column_group_fits : FitsAt InColumnGroup
  unfolding text_in_column_group
  column_group_fits = fits_at_all InColumnGroup (λ b t w i. at b t w i (current_is (codes "colgroup") w) refl)
    where
      at : (b : ℕ) (t : List ℕ) (w : World) → In choices InColumnGroup w → (o : Bool) → current_is (codes "colgroup") w ≡ o → Fitting (cond o (closes_column_group choices (b ∷ t) w) (if_any append_text (all_blanks (b ∷ t)) w))
      at b t w i true e = split_fits_where Closes InColumnGroup InTable append_text in_column_group_else (λ v c. c.inside) blanks_close (λ x v. refl) closes_leads in_table_fits b t w (record { inside = i; current = e })
      at b t w i false e = (any_in InColumnGroup append_text (appends_in InColumnGroup) (all_blanks (b ∷ t)) w i).fitting

  -- in and after framesets
  frameset_fits : (m : InsertionMode) → (b : ℕ) (t : List ℕ) (w : World) → In choices m w → Fitting (if_any append_text (all_blanks (b ∷ t)) w)
  frameset_fits m b t w i = (any_in m append_text (appends_in m) (all_blanks (b ∷ t)) w i).fitting

  text_fits : (m : InsertionMode) → FitsAt m
  text_fits Initial = initial_fits
  text_fits BeforeHtml = before_html_fits
  text_fits BeforeHead = before_head_fits
  text_fits InHead = in_head_fits
  text_fits InHeadNoscript = in_head_noscript_fits
  text_fits AfterHead = after_head_fits
  text_fits InBody = in_body_fits
  text_fits Text = in_text_fits
  text_fits InTable = in_table_fits
  text_fits InTableText = fits_at_all InTableText (λ b t w i. pending_fits b t w i.mode i.fitting)
  text_fits InCaption = fits_at_all InCaption (body_fits InCaption (λ t w. refl))
  text_fits InColumnGroup = column_group_fits
  text_fits InTableBody = in_table_body_fits
  text_fits InRow = in_row_fits
  text_fits InCell = fits_at_all InCell (body_fits InCell (λ t w. refl))
  text_fits InTemplate = fits_at_all InTemplate (body_fits InTemplate (λ t w. refl))
  text_fits AfterBody = fits_at_all AfterBody (after_body_fits AfterBody refl (λ t w. refl) (λ t w. refl))
  text_fits AfterAfterBody = fits_at_all AfterAfterBody (after_body_fits AfterAfterBody refl (λ t w. refl) (λ t w. refl))
  text_fits InFrameset = fits_at_all InFrameset (frameset_fits InFrameset)
  text_fits AfterFrameset = fits_at_all AfterFrameset (frameset_fits AfterFrameset)
  text_fits AfterAfterFrameset = fits_at_all AfterAfterFrameset (λ b t w i. (any_in AfterAfterFrameset (text_in_body choices) (bodies_in AfterAfterFrameset Whitespace refl (λ x v. refl)) (all_blanks (b ∷ t)) w i).fitting)

  pub text_keeps : (b : ℕ) (t : List ℕ) (w : World) → Fitting w → Fitting (text_rule choices (b ∷ t) w)
  text_keeps b t w g = text_fits w.mode b t w refl g
