-- A plain list of nodes is built below the current node.
use Rattle.std.proofs.Common.{◌≡◌, ◌==◌, ℕ, Bool, true, false, ◌&&◌, ◌||◌, List, [], ◌∷◌, None, Some, codes, refl, ap, cond, subst, sym, ◌∙◌, Option, not}
use Rattle.h5_names.specs.AttributeText.{AttributeText, is_same_text}
use Rattle.h5_names.specs.declared.qualified.QualName.{QualName}
use Rattle.h5_token.specs.TokenText.{Characters, TokenText}
use Rattle.h5_interface.specs.Changes.{append_text, mark}
use Rattle.h5_interface.specs.Forest.{Child, ChildNode, ChildText, Forest, IsForest}
use Rattle.h5_interface.specs.NewElement.{is_html_template}
use Rattle.h5_interface.specs.SinkChoices.{SinkChoices}
use Rattle.h5_builder_spec.specs.reset.Roles.{PlainRole, Role, role_of, role_of_local}
use Rattle.h5_tables.specs.TagSets.{button_scope_names, heading_names, html_namespace, is_button_scope, is_default_scope, is_foreign_special, is_heading, is_html_named, is_special, is_table_body_context, is_table_outer, is_table_row_context, is_table_scope, mathml_namespace, scope_names, special_names, svg_namespace, table_outer_names, table_row_context_names, table_scope_names, void_names}
use Rattle.h5_tables.specs.declared.modes.InsertionMode.{InsertionMode}
use Rattle.h5_tables.specs.declared.modes.InsertionMode.TheVariants.{InBody, InCaption, InCell, InColumnGroup, InRow, InTable, InTableBody}
use Rattle.h5_builder_spec.specs.formatting.FormattingNames.{html_name}
use Rattle.h5_builder_spec.specs.stack.Order.{but_first}
use Rattle.h5_builder_spec.specs.stack.Scope.{first_passes, has_p_in_button_scope, in_scope}
use Rattle.h5_builder_spec.specs.Blanks.{all_blank}
use Rattle.h5_builder_spec.specs.stack.Closing.{ends_item_search, is_html_among, newest_item, passed_names}
use Rattle.h5_builder_spec.specs.modes.InBody.{description_names, list_item_names}
use Rattle.h5_builder_spec.specs.World.{World, names_of}
use Rattle.h5_builder_laws.specs.Plain.{Around, Barrier, Blank, Break, Caption, Cell, Cells, Column, ColumnBlank, ColumnGroup, Columns, Describing, Division, ElementThen, End, Flow, Formatted, Heading, IsPlain, Item, Link, Nodes, Nothing, Paragraph, Part, Phrase, Preformatted, Rows, Ruby, RubyText, Ruled, Section, Sections, Sort, Table, TablePart, TableRow, TextThen, Words, as_written, behind, end_tag, has_end_tag, held_as_written, nothing_open, start_tag, tokens_before, with_doubled, within}
use Rattle.h5_builder_spec.specs.formatting.FormattingList.{Entry, MarkerEntry, clear_to_marker, push_formatting}
use Rattle.h5_builder_laws.proofs.ListedLaws.{Entries, Fewer, Formats, Kept, Lost, OpenFormat, Other, Passed, has_link, passed}
use Rattle.h5_builder_laws.proofs.BodyRuleLaws.{IsHeadingName, IsHolder, IsSeen, is_barrier, is_heading_name, is_open_block, p_holds, p_outside, p_rule, pre}
use Rattle.h5_builder_laws.proofs.BodyStepLaws.{ends_block, ends_heading, ends_p, ends_pre, starts_block, starts_heading, starts_pre, writes}
use Rattle.h5_builder_laws.proofs.CalmLaws.{Built, Calm, Closed, Opens, after, built_nothing, calm_after, calm_below, calm_html, element_case, enters, names_are, opened, place_is}
use Rattle.h5_builder_laws.proofs.FilledLaws.{Face, face, filled_element, filled_nothing, filled_text, frame_element, frame_text, more, same_faces}
use Rattle.h5_builder_laws.proofs.FormatListLaws.{closed_fewer, entries_pushed, pushed_fewer, rest_fewer}
use Rattle.h5_builder_laws.proofs.FormatRuleLaws.{IsFormatName, a_formats, is_inline_name}
use Rattle.h5_builder_laws.proofs.FormatStepLaws.{ends_kept, ends_lost, formatted, starts_formatting, starts_link}
use Rattle.h5_builder_laws.proofs.GoesLaws.{BeginsWithTag, Goes, InColumns, IsTableMode, KeptBack, Moves, Straight, Takes, TheRow, TheSection, TheTable, goes_behind_newline, goes_ignoring, ignoring}
use Rattle.h5_builder_laws.proofs.GrowthLaws.{body, html, with_element}
use Rattle.h5_builder_laws.proofs.HtmlLaws.{AtHtml}
use Rattle.h5_builder_laws.proofs.ListRuleLaws.{IsTermName, is_term, item_holds, item_outside, item_rule, item_seen}
use Rattle.h5_builder_laws.proofs.ListStepLaws.{ends_item, ends_term, starts_item}
use Rattle.h5_builder_laws.proofs.LooksLaws.{ends_in_node, ends_in_text, unlike}
use Rattle.h5_builder_laws.proofs.ModeLaws.{GoesByBody, ResetsTo, TheBody, TheCaption, TheCell, resets_below, resets_to_caption, resets_to_cell}
use Rattle.h5_builder_laws.proofs.PhraseRuleLaws.{is_mark, is_phrase, is_ruby_text, ruby}
use Rattle.h5_builder_laws.proofs.PhraseStepLaws.{ends_phrase, is_ruby, marks, rules_off, starts_phrase, starts_ruby_text}
use Rattle.h5_builder_laws.proofs.RuleLaws.{start}
use Rattle.h5_builder_laws.proofs.TableBuildsLaws.{in_marked, in_part, marked_case, part_case}
use Rattle.h5_builder_laws.proofs.TableRuleLaws.{IsCellName, caption, column_is_void, group_holds, group_rule, is_cell_name, is_part_name, row_holds, row_rule, table_holds}
use Rattle.h5_builder_laws.proofs.TableStepLaws.{Ends, ends_caption, ends_cell, ends_group, ends_row, ends_section, ends_table, puts_column, same_marked, starts_caption, starts_cell, starts_part, starts_table, writes_blank}

-- if nothing is said to be open, nothing is found
abbrev pub Free : Bool → Bool → Type 0
Free b found = b ≡ false → found ≡ false

abbrev pub NoneOf : Bool → List (List ℕ) → List QualName → Type 0
NoneOf b locals names = b ≡ false → newest_item locals names ≡ None

-- if the parent is said to be one, it is one
abbrev pub Needs : Bool → Bool → Type 0
Needs b found = b ≡ true → found ≡ true

abbrev pub no_select : List QualName → Bool
no_select = in_scope (is_html_named (codes "select")) is_default_scope

-- the mode and the names of the open elements where nodes of flow may come
pub record FitsFlow (at_root : Option Role) (o : Around) (m : InsertionMode) (names : List QualName) : Type 0 where
  pub goes : GoesByBody m
  pub resets : ResetsTo at_root names m
  pub no_p : Free o.in_p (has_p_in_button_scope names)
  pub no_heading : Free o.in_heading (first_passes is_heading names)
  pub no_item : NoneOf o.in_item list_item_names names
  pub no_description : NoneOf o.in_description description_names names
  pub in_ruby : Needs o.in_ruby (first_passes is_ruby names)
  pub unselected : no_select names ≡ false

-- where such nodes may come
abbrev pub Fits : Option Role → Sort → InsertionMode → List QualName → Type 0
Fits at_root (Flow after_text o) m names = FitsFlow at_root o m names
Fits at_root (Part a Sections) m names = (m ≡ InTable) × ((first_passes is_table_scope names ≡ true) × (first_passes is_table_outer names ≡ true))
Fits at_root (Columns a) m names = (m ≡ InColumnGroup) × (first_passes (is_html_named (codes "colgroup")) names ≡ true)
Fits at_root (Part a Rows) m names = (m ≡ InTableBody) × ((first_passes is_table_body_context names ≡ true) × (first_passes is_table_outer names ≡ true))
Fits at_root (Part a Cells) m names = (m ≡ InRow) × ((first_passes is_table_row_context names ≡ true) × (first_passes is_table_outer names ≡ true))

-- a text may come
abbrev pub Seam : Sort → List Child → Type 0
Seam (Flow false o) cs = ends_in_text cs ≡ false
Seam (Part false k) cs = ends_in_text cs ≡ false
Seam (Columns false) cs = ends_in_text cs ≡ false
Seam _ cs = Unit {0}

-- outside of a link none is open
abbrev pub Unlinked : Sort → List OpenFormat → Type 0
Unlinked (Flow a o) path = Free o.in_link (has_link path)
Unlinked _ path = Unit {0}

-- one more open element, that isn't looked for
more_p : (b : Bool) (n : QualName) (names : List QualName) → is_html_named (codes "p") n ≡ false → is_button_scope n ≡ false → Free b (has_p_in_button_scope names) → Free b (has_p_in_button_scope (n ∷ names))
more_p b n names p s f e =
    ap (λ x. cond x true (cond (is_button_scope n) false (has_p_in_button_scope names))) p
    ∙ ap (λ x. cond x false (has_p_in_button_scope names)) s
    ∙ f e

more_select : (n : QualName) (names : List QualName) → is_html_named (codes "select") n ≡ false → no_select names ≡ false → no_select (n ∷ names) ≡ false
more_select n names p h = ap (λ x. cond x true (cond (is_default_scope n) false (no_select names))) p ∙ at (is_default_scope n)
  where
    at : (b : Bool) → cond b false (no_select names) ≡ false
    at true = refl
    at false = h

seen_through : (locals : List (List ℕ)) (b : Bool) (n : QualName) (names : List QualName) → is_html_among locals n ≡ false → ends_item_search n ≡ false → NoneOf b locals names → NoneOf b locals (n ∷ names)
seen_through locals b n names i s f e =
    ap (λ x. cond x (Some n.local) (cond (ends_item_search n) None (newest_item locals names))) i
    ∙ ap (λ x. cond x None (newest_item locals names)) s
    ∙ f e

hidden : (locals : List (List ℕ)) (n : QualName) (names : List QualName) → is_html_among locals n ≡ false → ends_item_search n ≡ true → newest_item locals (n ∷ names) ≡ None
hidden locals n names i s =
    ap (λ x. cond x (Some n.local) (cond (ends_item_search n) None (newest_item locals names))) i
    ∙ ap (λ x. cond x None (newest_item locals names)) s

-- inside of an element through which items are seen, and of one that hides them
pub fits_within : {at_root : Option Role} (o : Around) (m : InsertionMode) (name : List ℕ) (names : List QualName) → IsSeen false name → FitsFlow at_root o m names → FitsFlow at_root (within o) m (html_name name ∷ names)
fits_within o m name names k f = record {
  goes = f.goes;
  resets = resets_below (html_name name) names k.role f.resets;
  no_p = more_p o.in_p (html_name name) names k.no_p k.no_scope f.no_p;
  no_heading = λ e. k.no_heading;
  no_item = seen_through list_item_names o.in_item (html_name name) names k.no_item k.search f.no_item;
  no_description = seen_through description_names o.in_description (html_name name) names k.no_description k.search f.no_description;
  in_ruby = λ e. absurd (cc);
  unselected = more_select (html_name name) names k.no_select f.unselected;
}

pub fits_behind : {at_root : Option Role} (o : Around) (m : InsertionMode) (name : List ℕ) (names : List QualName) → IsSeen true name → FitsFlow at_root o m names → FitsFlow at_root (behind o) m (html_name name ∷ names)
fits_behind o m name names k f = record {
  goes = f.goes;
  resets = resets_below (html_name name) names k.role f.resets;
  no_p = more_p o.in_p (html_name name) names k.no_p k.no_scope f.no_p;
  no_heading = λ e. k.no_heading;
  no_item = λ e. hidden list_item_names (html_name name) names k.no_item k.search;
  no_description = λ e. hidden description_names (html_name name) names k.no_description k.search;
  in_ruby = λ e. absurd (cc);
  unselected = more_select (html_name name) names k.no_select f.unselected;
}

-- inside of an `a`
fits_in_link : {at_root : Option Role} (o : Around) (m : InsertionMode) (names : List QualName) → FitsFlow at_root o m names → FitsFlow at_root (record (within o) { in_link = true }) m (html_name (codes "a") ∷ names)
fits_in_link o m names f = let g = fits_within o m (codes "a") names a_formats.seen f in record {
  goes = g.goes;
  resets = g.resets;
  no_p = g.no_p;
  no_heading = g.no_heading;
  no_item = g.no_item;
  no_description = g.no_description;
  in_ruby = g.in_ruby;
  unselected = g.unselected;
}

-- of a `ruby`
fits_in_ruby : {at_root : Option Role} (o : Around) (m : InsertionMode) (names : List QualName) → FitsFlow at_root o m names → FitsFlow at_root (record (within o) { in_ruby = true }) m (html_name (codes "ruby") ∷ names)
fits_in_ruby o m names f = let g = fits_within o m (codes "ruby") names ruby.seen f in record {
  goes = g.goes;
  resets = g.resets;
  no_p = g.no_p;
  no_heading = g.no_heading;
  no_item = g.no_item;
  no_description = g.no_description;
  in_ruby = λ e. ruby.itself;
  unselected = g.unselected;
}

-- of a `p`
p_seen : (role_of (html_name (codes "p")) ≡ PlainRole) × ((is_heading (html_name (codes "p")) ≡ false) × ((is_html_named (codes "select") (html_name (codes "p")) ≡ false) × ((is_html_among list_item_names (html_name (codes "p")) ≡ false) × ((is_html_among description_names (html_name (codes "p")) ≡ false) × (ends_item_search (html_name (codes "p")) ≡ false)))))
unfolding is_html_named is_default_scope is_foreign_special is_heading html_namespace mathml_namespace svg_namespace heading_names role_of role_of_local is_special special_names passed_names list_item_names description_names
p_seen = (refl, (refl, (refl, (refl, (refl, refl)))))

fits_in_p : {at_root : Option Role} (o : Around) (m : InsertionMode) (names : List QualName) → FitsFlow at_root o m names → FitsFlow at_root (record (within o) { in_p = true }) m (html_name (codes "p") ∷ names)
fits_in_p o m names f =
    let n = html_name (codes "p") in
    let s = p_seen in
    record {
      goes = f.goes;
      resets = resets_below n names s.0 f.resets;
      no_p = λ e. absurd (cc);
      no_heading = λ e. s.1.0;
      no_item = seen_through list_item_names o.in_item n names s.1.1.1.0 s.1.1.1.1.1 f.no_item;
      no_description = seen_through description_names o.in_description n names s.1.1.1.1.0 s.1.1.1.1.1 f.no_description;
      in_ruby = λ e. absurd (cc);
      unselected = more_select n names s.1.1.0 f.unselected;
    }

-- of a heading
fits_in_heading : {at_root : Option Role} (o : Around) (m : InsertionMode) (name : List ℕ) (names : List QualName) → IsHeadingName name → FitsFlow at_root o m names → FitsFlow at_root (record (behind o) { in_heading = true }) m (html_name name ∷ names)
fits_in_heading o m name names k f =
    let n = html_name name in
    record {
      goes = f.goes;
      resets = resets_below n names k.role f.resets;
      no_p = more_p o.in_p n names k.no_p k.no_scope f.no_p;
      no_heading = λ e. absurd (cc);
      no_item = λ e. hidden list_item_names n names k.no_item k.search;
      no_description = λ e. hidden description_names n names k.no_description k.search;
      in_ruby = λ e. absurd (cc);
      unselected = more_select n names k.no_select f.unselected;
    }

-- of a `li`, and of a `dd` or `dt`
pub fits_in_item : {at_root : Option Role} (o : Around) (m : InsertionMode) (names : List QualName) → FitsFlow at_root o m names → FitsFlow at_root (record (behind o) { in_item = true }) m (html_name (codes "li") ∷ names)
fits_in_item o m names f =
    let n = html_name (codes "li") in
    let s = item_seen in
    record {
      goes = f.goes;
      resets = resets_below n names s.1.1.1.0 f.resets;
      no_p = more_p o.in_p n names s.0 s.1.0 f.no_p;
      no_heading = λ e. s.1.1.0;
      no_item = λ e. absurd (cc);
      no_description = λ e. hidden description_names n names s.1.1.1.1.1.0 s.1.1.1.1.1.1;
      in_ruby = λ e. absurd (cc);
      unselected = more_select n names s.1.1.1.1.0 f.unselected;
    }

pub fits_in_term : {at_root : Option Role} (o : Around) (m : InsertionMode) (name : List ℕ) (names : List QualName) → IsTermName name → FitsFlow at_root o m names → FitsFlow at_root (record (behind o) { in_description = true }) m (html_name name ∷ names)
fits_in_term o m name names k f =
    let n = html_name name in
    record {
      goes = f.goes;
      resets = resets_below n names k.role f.resets;
      no_p = more_p o.in_p n names k.no_p k.no_scope f.no_p;
      no_heading = λ e. k.no_heading;
      no_item = λ e. hidden list_item_names n names k.no_item k.search;
      no_description = λ e. absurd (cc);
      in_ruby = λ e. absurd (cc);
      unselected = more_select n names k.no_select f.unselected;
    }

-- a `hr` has no end tag
hr_is_void : (has_end_tag (codes "hr") ≡ false) × (is_html_template (html_name (codes "hr")) ≡ false)
unfolding void_names
hr_is_void = (refl, refl)

-- nodes of flow may come in the body
pub body_fits : (at_root : Option Role) (m : InsertionMode) → m ≡ InBody → Fits at_root (Flow false nothing_open) m (body ∷ html ∷ [])
unfolding is_html_named is_button_scope is_default_scope is_foreign_special is_heading html_namespace mathml_namespace svg_namespace scope_names button_scope_names heading_names role_of role_of_local is_special special_names passed_names list_item_names description_names
body_fits at_root m e = subst (λ k. Fits at_root (Flow false nothing_open) k (body ∷ html ∷ [])) (sym e)
    (record { goes = TheBody; resets = λ s q. refl; no_p = λ q. refl; no_heading = λ q. refl; no_item = λ q. refl; no_description = λ q. refl; in_ruby = λ q. absurd (cc); unselected = refl })

-- what a table and its parts hold may come in them
pub in_table : (at_root : Option Role) (names : List QualName) → Fits at_root (Part false Sections) InTable (html_name (codes "table") ∷ names)
unfolding is_table_scope html_namespace table_scope_names is_table_outer table_outer_names
in_table at_root names = (refl, (refl, refl))

pub in_row : (at_root : Option Role) (names : List QualName) → Fits at_root (Part false Cells) InRow (html_name (codes "tr") ∷ names)
unfolding is_table_row_context html_namespace table_row_context_names is_table_outer table_outer_names
in_row at_root names = (refl, (refl, refl))

-- nodes of flow may come in a cell, in which nothing is open: it ends the scope of a `p`, and hides items
pub in_a_cell : (at_root : Option Role) (name : List ℕ) (names : List QualName) → IsCellName name → first_passes is_table_row_context names ≡ true → Fits at_root (Flow false nothing_open) InCell (html_name name ∷ names)
in_a_cell at_root name names k h =
    let n = html_name name in
    record {
      goes = TheCell;
      resets = resets_to_cell at_root n is_table_row_context names k.role h;
      no_p = λ e. ap (λ b. cond b true (cond (is_button_scope n) false (has_p_in_button_scope names))) k.no_p
          ∙ ap (λ b. cond b false (has_p_in_button_scope names)) k.ends_scope;
      no_heading = λ e. k.no_heading;
      no_item = λ e. hidden list_item_names n names k.no_item k.search;
      no_description = λ e. hidden description_names n names k.no_description k.search;
      in_ruby = λ e. absurd (cc);
      unselected = ap (λ b. cond b true (cond (is_default_scope n) false (no_select names))) k.no_select
          ∙ ap (λ b. cond b false (no_select names)) k.ends_default;
    }

pub in_a_caption : (at_root : Option Role) (names : List QualName) → first_passes is_table_scope names ≡ true → Fits at_root (Flow false nothing_open) InCaption (html_name (codes "caption") ∷ names)
in_a_caption at_root names h =
    let n = html_name (codes "caption") in
    let k = caption in
    record {
      goes = TheCaption;
      resets = resets_to_caption at_root n is_table_scope names k.role h;
      no_p = λ e. ap (λ b. cond b true (cond (is_button_scope n) false (has_p_in_button_scope names))) k.no_p
          ∙ ap (λ b. cond b false (has_p_in_button_scope names)) k.ends_scope;
      no_heading = λ e. k.no_heading;
      no_item = λ e. hidden list_item_names n names k.no_item k.search;
      no_description = λ e. hidden description_names n names k.no_description k.search;
      in_ruby = λ e. absurd (cc);
      unselected = ap (λ b. cond b true (cond (is_default_scope n) false (no_select names))) k.no_select
          ∙ ap (λ b. cond b false (no_select names)) k.ends_default;
    }

-- a formatting element that isn't a link
unlinked_in : (b : Bool) (n : ℕ) (name : List ℕ) (path : List OpenFormat) → is_same_text name (codes "a") ≡ false → Free b (has_link path) → Free b (has_link (Formats n name ∷ path))
unlinked_in b n name path h u e = ap (λ x. x || has_link path) h ∙ u e

-- after the start tag of a `pre`, nodes whose first newline is doubled have the effect that they have elsewhere
goes_doubled : (blanks : Bool) (choices : SinkChoices) (inner : Nodes) (name : List ℕ) (ts : List TokenText) (w u : World) → GoesByBody w.mode → w.ignore_lf ≡ false
    → Goes blanks choices (tokens_before inner (end_tag name ∷ ts)) w u → Goes blanks choices (tokens_before (with_doubled inner) (end_tag name ∷ ts)) (ignoring w) u
goes_doubled blanks choices End name ts w u k e g = goes_ignoring blanks choices (end_tag name ∷ ts) w u k e refl g
goes_doubled blanks choices (ElementThen n a i r) name ts w u k e g = goes_ignoring blanks choices (tokens_before (ElementThen n a i r) (end_tag name ∷ ts)) w u k e refl g
goes_doubled blanks choices (TextThen [] rest) name ts w u k e g = goes_ignoring blanks choices (tokens_before (TextThen [] rest) (end_tag name ∷ ts)) w u k e refl g
goes_doubled blanks choices (TextThen (b ∷ t) rest) name ts w u k e g = at (b == 10) refl
  where
    at : (c : Bool) → b == 10 ≡ c → Goes blanks choices (Characters (cond c (10 ∷ b ∷ t) (b ∷ t)) ∷ tokens_before rest (end_tag name ∷ ts)) (ignoring w) u
    at true h = goes_behind_newline blanks choices b t (tokens_before rest (end_tag name ∷ ts)) w u k e g
    at false h = goes_ignoring blanks choices (Characters (b ∷ t) ∷ tokens_before rest (end_tag name ∷ ts)) w u k e (ap not h) g

-- an element that isn't listed: the formatting list stays as it is
module _ (choices : SinkChoices) {at_root : Option Role} {w : World} {p : ℕ} {d : Face} {names : List QualName} {path : List OpenFormat} {under : List ℕ} {base : List Entry} (c : Calm at_root w p d names path under base) (name : List ℕ) (attrs : List AttributeText) where
  abbrev in_block : World
  in_block = opened choices w p name attrs w.mode w.formatting w.frameset_ok

  abbrev block : ℕ
  block = choices.fresh w.forest

  opens_block : IsHolder name → Opens choices w p d name attrs w.mode w.formatting w.frameset_ok (Other block ∷ path) under base
  opens_block h = record {
    has_end = h.has_end;
    no_template = h.no_template;
    are_open = ap (λ s. block ∷ s) c.are_open;
    is_base = c.is_base;
    entries = Passed c.entries;
    unlisted = λ n e x. e;
  }

  block_case : {blanks : Bool} → (inner rest : Nodes) → IsHolder name → Moves choices (start_tag name attrs) w in_block
      → (Calm at_root in_block block (face name attrs) (html_name name ∷ names) (Other block ∷ path) under base → Built blanks choices in_block block (face name attrs) inner (Other block ∷ path) base)
      → ((v : World) → v.mode ≡ w.mode → v.ignore_lf ≡ false → AtHtml v → names_of v ≡ html_name name ∷ names → Moves choices (end_tag name) v (record v { stack = but_first v.stack }))
      → ((f : Forest) (k : List Entry) (b : Bool) (x : Option InsertionMode) → Calm at_root (after w f k b x) p (more d (ChildNode block ∷ [])) names path under base → Built blanks choices (after w f k b x) p (more d (ChildNode block ∷ [])) rest path base)
      → Built blanks choices w p d (ElementThen name attrs inner rest) path base
  block_case inner rest h m fill ends next =
      element_case choices w p d name attrs w.mode w.formatting w.frameset_ok (Other block ∷ path) under base c (opens_block h) inner rest (enters name attrs inner h.no_pre m) fill
      (λ i e j x. record {
        forest = i.forest;
        formatting = i.formatting;
        moves = ends (after in_block i.forest i.formatting i.ok i.saved) refl c.ignore_lf j e;
        same = same_faces i.forest i.filled.frame.is_forest;
        entries = passed i.entries;
        fewer = i.fewer;
      })
      next

  -- an element without an end tag, and the rest
  abbrev put : Bool → World
  put ok = after w (with_element choices p (html_name name) attrs w.forest) w.formatting ok w.saved_mode

  mark_case : {blanks : Bool} → (ok : Bool) (rest : Nodes) → has_end_tag name ≡ false → is_html_template (html_name name) ≡ false → Moves choices (start_tag name attrs) w (put ok)
      → (Calm at_root (put ok) p (more d (ChildNode block ∷ [])) names path under base → Built blanks choices (put ok) p (more d (ChildNode block ∷ [])) rest path base)
      → Built blanks choices w p d (ElementThen name attrs End rest) path base
  mark_case {blanks} ok rest void untemplated m next =
      let v = put ok in
      let below = calm_below choices c name attrs untemplated in
      let i = filled_nothing v.forest block (face name attrs) below.is_forest below.new in
      let same = same_faces v.forest below.is_forest in
      let x = frame_element choices w.forest p d name attrs below c.is_forest c.shows v.forest v.forest End i same in
      let y = next (calm_after choices c v.forest w.formatting ok w.saved_mode x c.entries (λ k h. h)) in
      record {
        forest = y.forest;
        formatting = y.formatting;
        ok = y.ok;
        saved = y.saved;
        goes = λ ts u z g.
            let after_it = tokens_before (as_written rest) ts in
            (v, (Straight m, subst (λ b. Goes blanks choices (cond b (tokens_before (held_as_written name End) (end_tag name ∷ after_it)) after_it) v u) (sym void) (y.goes ts u z g)));
        filled = filled_element choices w.forest p d name attrs below c.is_forest c.shows v.forest v.forest y.forest End rest i same y.filled;
        entries = y.entries;
        fewer = y.fewer;
      }

  -- a `pre`
  abbrev in_pre : World
  in_pre = opened choices w p name attrs w.mode w.formatting false

  pre_case : {blanks : Bool} → (inner rest : Nodes) → GoesByBody w.mode → has_end_tag name ≡ true → is_html_template (html_name name) ≡ false → is_same_text name (codes "pre") ≡ true → Moves choices (start_tag name attrs) w (ignoring in_pre)
      → (Calm at_root in_pre block (face name attrs) (html_name name ∷ names) (Other block ∷ path) under base → Built blanks choices in_pre block (face name attrs) inner (Other block ∷ path) base)
      → ((v : World) → v.mode ≡ w.mode → v.ignore_lf ≡ false → AtHtml v → names_of v ≡ html_name name ∷ names → Moves choices (end_tag name) v (record v { stack = but_first v.stack }))
      → ((f : Forest) (k : List Entry) (b : Bool) (x : Option InsertionMode) → Calm at_root (after w f k b x) p (more d (ChildNode block ∷ [])) names path under base → Built blanks choices (after w f k b x) p (more d (ChildNode block ∷ [])) rest path base)
      → Built blanks choices w p d (ElementThen name attrs inner rest) path base
  pre_case {blanks} inner rest k1 has_end no_template is_pre m fill ends next =
      let o : Opens choices w p d name attrs w.mode w.formatting false (Other block ∷ path) under base = record {
        has_end = has_end;
        no_template = no_template;
        are_open = ap (λ s. block ∷ s) c.are_open;
        is_base = c.is_base;
        entries = Passed c.entries;
        unlisted = λ n e x. e;
      } in
      element_case choices w p d name attrs w.mode w.formatting false (Other block ∷ path) under base c o inner rest
      (λ ts u g. (
        ignoring in_pre,
        (
          Straight m,
          subst (λ b. Goes blanks choices (tokens_before (cond b (with_doubled (as_written inner)) (as_written inner)) (end_tag name ∷ ts)) (ignoring in_pre) u) (sym is_pre)
              (goes_doubled blanks choices (as_written inner) name ts in_pre u k1 c.ignore_lf g),
        ),
      )) fill
      (λ i e j x. record {
        forest = i.forest;
        formatting = i.formatting;
        moves = ends (after in_pre i.forest i.formatting i.ok i.saved) refl c.ignore_lf j e;
        same = same_faces i.forest i.filled.frame.is_forest;
        entries = passed i.entries;
        fewer = i.fewer;
      })
      next

-- a blank text in a table or a part of one
module _ (choices : SinkChoices) {at_root : Option Role} {w : World} {p : ℕ} {d : Face} {names : List QualName} {path : List OpenFormat} {under : List ℕ} {base : List Entry} (c : Calm at_root w p d names path under base) where
  abbrev blanked : List ℕ → World
  blanked t = after w (append_text p t w.forest) w.formatting w.frameset_ok (Some w.mode)

  blank_case : {blanks : Bool} → (b : ℕ) (t : List ℕ) (rest : Nodes) → blanks ≡ true → IsTableMode w.mode → first_passes is_table_outer names ≡ true → all_blank (b ∷ t) ≡ true → ends_in_text d.children ≡ false
      → ((ts : List TokenText) → BeginsWithTag ts → BeginsWithTag (tokens_before (as_written rest) ts))
      → (Calm at_root (blanked (b ∷ t)) p (more d (ChildText (b ∷ t) ∷ [])) names path under base → Built blanks choices (blanked (b ∷ t)) p (more d (ChildText (b ∷ t) ∷ [])) rest path base)
      → Built blanks choices w p d (TextThen (b ∷ t) rest) path base
  blank_case b t rest e m o a z tag next =
      let v = blanked (b ∷ t) in
      let x = frame_text w.forest p (b ∷ t) d c.is_forest (λ none. cc) z c.shows in
      let y = next (calm_after choices c v.forest w.formatting w.frameset_ok (Some w.mode) x c.entries (λ n h. h)) in
      record {
        forest = y.forest;
        formatting = y.formatting;
        ok = y.ok;
        saved = y.saved;
        goes = λ ts u q g. (
          v,
          (
            KeptBack e (tag ts (q m))
                (record {
                  ignore_lf = c.ignore_lf;
                  none_pending = c.no_pending;
                  html = calm_html c;
                  keeps = ap (first_passes is_table_outer) (names_are w c.named) ∙ o;
                  mode = m;
                  blank = a;
                  node = p;
                  placed = place_is w p d c.is_current c.shows c.no_foster c.no_template;
                  to = refl;
                }),
            y.goes ts u q g,
          ),
        );
        filled = filled_text w.forest v.forest y.forest p d (b ∷ t) rest x y.filled;
        entries = y.entries;
        fewer = y.fewer;
      }

-- a blank text in a `colgroup`
module _ (choices : SinkChoices) {at_root : Option Role} {w : World} {p : ℕ} {d : Face} {names : List QualName} {path : List OpenFormat} {under : List ℕ} {base : List Entry} (c : Calm at_root w p d names path under base) where
  abbrev put_blank : List ℕ → World
  put_blank t = after w (append_text p t w.forest) w.formatting w.frameset_ok w.saved_mode

  column_blank_case : {blanks : Bool} → (b : ℕ) (t : List ℕ) (rest : Nodes) → blanks ≡ true → w.mode ≡ InColumnGroup → ends_in_text d.children ≡ false → Takes choices (Characters (b ∷ t)) w (put_blank (b ∷ t))
      → (Calm at_root (put_blank (b ∷ t)) p (more d (ChildText (b ∷ t) ∷ [])) names path under base → Built blanks choices (put_blank (b ∷ t)) p (more d (ChildText (b ∷ t) ∷ [])) rest path base)
      → Built blanks choices w p d (TextThen (b ∷ t) rest) path base
  column_blank_case b t rest e i z m next =
      let v = put_blank (b ∷ t) in
      let x = frame_text w.forest p (b ∷ t) d c.is_forest (λ none. cc) z c.shows in
      let y = next (calm_after choices c v.forest w.formatting w.frameset_ok w.saved_mode x c.entries (λ n h. h)) in
      record {
        forest = y.forest;
        formatting = y.formatting;
        ok = y.ok;
        saved = y.saved;
        goes = λ ts u q g. (v, (InColumns e i m, y.goes ts u q g));
        filled = filled_text w.forest v.forest y.forest p d (b ∷ t) rest x y.filled;
        entries = y.entries;
        fewer = y.fewer;
      }

group_named : is_html_named (codes "colgroup") (html_name (codes "colgroup")) ≡ true
unfolding is_html_named html_namespace
group_named = refl

-- no text comes right after a text
abbrev behind_text : Sort → Bool
behind_text (Flow a o) = a
behind_text (Part a k) = a
behind_text (Columns a) = a

no_text : {blanks : Bool} → {s : Sort} {text : List ℕ} {rest : Nodes} → IsPlain blanks s (TextThen text rest) → behind_text s ≡ true → ⊥
no_text (Words n r) e = absurd (let z : false ≡ true = e in cc)
no_text (Blank q a n r) e = absurd (let z : false ≡ true = e in cc)
no_text (ColumnBlank q a n r) e = absurd (let z : false ≡ true = e in cc)

-- a tag follows a blank text in a table
tag_next : {blanks : Bool} {part : TablePart} (rest : Nodes) → IsPlain blanks (Part true part) rest → (ts : List TokenText) → BeginsWithTag ts → BeginsWithTag (tokens_before (as_written rest) ts)
tag_next End k ts h = h
tag_next (ElementThen name attrs inner rest) k ts h = tt
tag_next (TextThen text rest) k ts h = absurd (no_text k refl)

table_mode : (a : Bool) (at_root : Option Role) (part : TablePart) (m : InsertionMode) (names : List QualName) → Fits at_root (Part a part) m names → IsTableMode m
table_mode a at_root Sections m names f = subst IsTableMode (sym f.0) TheTable
table_mode a at_root Rows m names f = subst IsTableMode (sym f.0) TheSection
table_mode a at_root Cells m names f = subst IsTableMode (sym f.0) TheRow

table_outer : (a : Bool) (at_root : Option Role) (part : TablePart) (m : InsertionMode) (names : List QualName) → Fits at_root (Part a part) m names → first_passes is_table_outer names ≡ true
table_outer a at_root Sections m names f = f.1.1
table_outer a at_root Rows m names f = f.1.1
table_outer a at_root Cells m names f = f.1.1

same_place : (at_root : Option Role) (part : TablePart) (m : InsertionMode) (names : List QualName) → Fits at_root (Part false part) m names → Fits at_root (Part true part) m names
same_place at_root Sections m names f = f
same_place at_root Rows m names f = f
same_place at_root Cells m names f = f

-- a text and the rest
module _ (choices : SinkChoices) {at_root : Option Role} {w : World} {p : ℕ} {d : Face} {names : List QualName} {path : List OpenFormat} {under : List ℕ} {base : List Entry} (c : Calm at_root w p d names path under base) (m : GoesByBody w.mode) where
  abbrev written : List ℕ → World
  written t = after w (append_text p t w.forest) w.formatting (w.frameset_ok && all_blank t) w.saved_mode

  words_case : {blanks : Bool} → (b : ℕ) (t : List ℕ) (rest : Nodes) → ends_in_text d.children ≡ false
      → (Calm at_root (written (b ∷ t)) p (more d (ChildText (b ∷ t) ∷ [])) names path under base → Built blanks choices (written (b ∷ t)) p (more d (ChildText (b ∷ t) ∷ [])) rest path base)
      → Built blanks choices w p d (TextThen (b ∷ t) rest) path base
  words_case b t rest z next =
      let v = written (b ∷ t) in
      let x = frame_text w.forest p (b ∷ t) d c.is_forest (λ e. cc) z c.shows in
      let y = next (calm_after choices c v.forest w.formatting v.frameset_ok w.saved_mode x c.entries (λ n h. h)) in
      record {
        forest = y.forest;
        formatting = y.formatting;
        ok = y.ok;
        saved = y.saved;
        goes = λ ts u q g. (v, (Straight (writes choices c b t m), y.goes ts u q g));
        filled = filled_text w.forest v.forest y.forest p d (b ∷ t) rest x y.filled;
        entries = y.entries;
        fewer = y.fewer;
      }

-- a formatting element and the rest: it is listed while it is open, unless a fourth alike comes inside it
module _ (choices : SinkChoices) {at_root : Option Role} {w : World} {p : ℕ} {d : Face} {names : List QualName} {path : List OpenFormat} {under : List ℕ} {base : List Entry} (c : Calm at_root w p d names path under base) (name : List ℕ) (attrs : List AttributeText) where
  abbrev in_format : World
  in_format = formatted choices c name attrs

  abbrev its_node : ℕ
  its_node = choices.fresh w.forest

  opens_format : IsHolder name → Opens choices w p d name attrs w.mode (push_formatting its_node (start name attrs) w.formatting) w.frameset_ok (Formats its_node name ∷ path) under base
  opens_format h = record {
    has_end = h.has_end;
    no_template = h.no_template;
    are_open = ap (λ s. its_node ∷ s) c.are_open;
    is_base = c.is_base;
    entries = entries_pushed its_node name attrs c.is_base (c.unlisted its_node (choices.fresh_is_new w.forest c.is_forest)) c.entries;
    unlisted = λ n e x. pushed_fewer its_node (start name attrs) w.formatting n e (unlike n its_node x);
  }

  -- its end tag
  closes_format : (f : Forest) (l : List Entry) (ok : Bool) (saved : Option InsertionMode) → IsFormatName name → GoesByBody w.mode → IsForest f → names_of (after in_format f l ok saved) ≡ html_name name ∷ names → AtHtml (after in_format f l ok saved)
      → Entries base (Formats its_node name ∷ path) l → Fewer l (push_formatting its_node (start name attrs) w.formatting) → Closed choices name (after in_format f l ok saved) w path base
  closes_format f l ok saved k m i e j (Kept {attrs = a} {l = older} o r) x = record {
    forest = f;
    formatting = older;
    moves = ends_kept choices (after in_format f l ok saved) its_node w.stack names name k m c.ignore_lf j refl e (start name a) older k.same refl;
    same = same_faces f i;
    entries = r;
    fewer = closed_fewer its_node (start name attrs) w.formatting older o (rest_fewer its_node (start name a) older (push_formatting its_node (start name attrs) w.formatting) x);
  }
  closes_format f l ok saved k m i e j (Lost o r) x = record {
    forest = mark (choices.marks_after_pop f its_node) f;
    formatting = l;
    moves = ends_lost choices (after in_format f l ok saved) its_node w.stack names name k m c.ignore_lf j refl e o;
    same = same_marked f (choices.marks_after_pop f its_node) i;
    entries = r;
    fewer = closed_fewer its_node (start name attrs) w.formatting l o x;
  }

  format_case : {blanks : Bool} → (inner rest : Nodes) → IsFormatName name → GoesByBody w.mode → Moves choices (start_tag name attrs) w in_format
      → (Calm at_root in_format its_node (face name attrs) (html_name name ∷ names) (Formats its_node name ∷ path) under base → Built blanks choices in_format its_node (face name attrs) inner (Formats its_node name ∷ path) base)
      → ((f : Forest) (k : List Entry) (b : Bool) (x : Option InsertionMode) → Calm at_root (after w f k b x) p (more d (ChildNode its_node ∷ [])) names path under base → Built blanks choices (after w f k b x) p (more d (ChildNode its_node ∷ [])) rest path base)
      → Built blanks choices w p d (ElementThen name attrs inner rest) path base
  format_case inner rest k m moves fill next =
      element_case choices w p d name attrs w.mode (push_formatting its_node (start name attrs) w.formatting) w.frameset_ok (Formats its_node name ∷ path) under base c (opens_format k.holds) inner rest (enters name attrs inner k.holds.no_pre moves) fill
      (λ i e j x. closes_format i.forest i.formatting i.ok i.saved k m i.filled.frame.is_forest e j i.entries i.fewer)
      next

-- THE INDUCTION: from any calm builder, the tokens of plain nodes lead to it again, except for those nodes below its
-- current node, the formatting list and the frameset-ok flag
pub builds : {blanks : Bool} → (choices : SinkChoices) {at_root : Option Role} {s : Sort} {nodes : Nodes} → IsPlain blanks s nodes → (w : World) (p : ℕ) (d : Face) (names : List QualName) (path : List OpenFormat) (under : List ℕ) (base : List Entry)
    → Fits at_root s w.mode names → Seam s d.children → Unlinked s path → Calm at_root w p d names path under base → Built blanks choices w p d nodes path base
builds choices {at_root} Nothing w p d names path under base f z l c = built_nothing choices c
builds choices {at_root} (Words {o} {first} {more = further} {rest} a r) w p d names path under base f z l c =
    words_case choices c f.goes first further rest z
    (λ q. builds choices r (written choices c f.goes (first ∷ further)) p (more d (ChildText (first ∷ further) ∷ [])) names path under base f tt l q)
builds choices {at_root} (Division {a} {o} {name} {attrs} {inner} {rest} h u y i r) w p d names path under base f z l c =
    let n = choices.fresh w.forest in
    let x = is_open_block name h in
    block_case choices c name attrs inner rest x.block.holds (starts_block choices c name attrs f.goes x.block.holds x.block.outside (f.no_p u) (x.block.starts attrs w))
    (λ q. builds choices i (in_block choices c name attrs) n (face name attrs) (html_name name ∷ names) (Other n ∷ path) under base (fits_within o w.mode name names x.seen f) refl l q)
    (λ v m k j e. ends_block choices v names (subst GoesByBody (sym m) f.goes) k j name x.block e)
    (λ g k b y1 q. builds choices r (after w g k b y1) p (more d (ChildNode n ∷ [])) names path under base f (ends_in_node n d.children) l q)
builds choices {at_root} (Barrier {a} {o} {name} {attrs} {inner} {rest} h u y i r) w p d names path under base f z l c =
    let n = choices.fresh w.forest in
    let x = is_barrier name h in
    block_case choices c name attrs inner rest x.block.holds (starts_block choices c name attrs f.goes x.block.holds x.block.outside (f.no_p u) (x.block.starts attrs w))
    (λ q. builds choices i (in_block choices c name attrs) n (face name attrs) (html_name name ∷ names) (Other n ∷ path) under base (fits_behind o w.mode name names x.seen f) refl l q)
    (λ v m k j e. ends_block choices v names (subst GoesByBody (sym m) f.goes) k j name x.block e)
    (λ g k b y1 q. builds choices r (after w g k b y1) p (more d (ChildNode n ∷ [])) names path under base f (ends_in_node n d.children) l q)
builds choices {at_root} (Paragraph {a} {o} {attrs} {inner} {rest} u y i r) w p d names path under base f z l c =
    let n = choices.fresh w.forest in
    block_case choices c (codes "p") attrs inner rest p_holds (starts_block choices c (codes "p") attrs f.goes p_holds p_outside (f.no_p u) (p_rule attrs w))
    (λ q. builds choices i (in_block choices c (codes "p") attrs) n (face (codes "p") attrs) (html_name (codes "p") ∷ names) (Other n ∷ path) under base (fits_in_p o w.mode names f) refl l q)
    (λ v m k j e. ends_p choices v names (subst GoesByBody (sym m) f.goes) k j e)
    (λ g k b y1 q. builds choices r (after w g k b y1) p (more d (ChildNode n ∷ [])) names path under base f (ends_in_node n d.children) l q)
builds choices {at_root} (Heading {a} {o} {name} {attrs} {inner} {rest} h u t y i r) w p d names path under base f z l c =
    let n = choices.fresh w.forest in
    let x = is_heading_name name h in
    block_case choices c name attrs inner rest x.holds (starts_heading choices c name attrs x f.goes (f.no_p u) (f.no_heading t))
    (λ q. builds choices i (in_block choices c name attrs) n (face name attrs) (html_name name ∷ names) (Other n ∷ path) under base (fits_in_heading o w.mode name names x f) refl l q)
    (λ v m k j e. ends_heading choices v names (subst GoesByBody (sym m) f.goes) k j name x e)
    (λ g k b y1 q. builds choices r (after w g k b y1) p (more d (ChildNode n ∷ [])) names path under base f (ends_in_node n d.children) l q)
builds choices {at_root} (Phrase {a} {o} {name} {attrs} {inner} {rest} h y i r) w p d names path under base f z l c =
    let n = choices.fresh w.forest in
    let x = is_phrase name h in
    block_case choices c name attrs inner rest x.holds (starts_phrase choices c name attrs x f.goes)
    (λ q. builds choices i (in_block choices c name attrs) n (face name attrs) (html_name name ∷ names) (Other n ∷ path) under base (fits_within o w.mode name names x.seen f) refl l q)
    (λ v m k j e. ends_phrase choices v names (subst GoesByBody (sym m) f.goes) k j name x e)
    (λ g k b y1 q. builds choices r (after w g k b y1) p (more d (ChildNode n ∷ [])) names path under base f (ends_in_node n d.children) l q)
builds choices {at_root} (Ruby {a} {o} {attrs} {inner} {rest} y i r) w p d names path under base f z l c =
    let n = choices.fresh w.forest in
    block_case choices c (codes "ruby") attrs inner rest ruby.holds (starts_phrase choices c (codes "ruby") attrs ruby f.goes)
    (λ q. builds choices i (in_block choices c (codes "ruby") attrs) n (face (codes "ruby") attrs) (html_name (codes "ruby") ∷ names) (Other n ∷ path) under base (fits_in_ruby o w.mode names f) refl l q)
    (λ v m k j e. ends_phrase choices v names (subst GoesByBody (sym m) f.goes) k j (codes "ruby") ruby e)
    (λ g k b y1 q. builds choices r (after w g k b y1) p (more d (ChildNode n ∷ [])) names path under base f (ends_in_node n d.children) l q)
builds choices {at_root} (RubyText {a} {o} {name} {attrs} {inner} {rest} h u y i r) w p d names path under base f z l c =
    let n = choices.fresh w.forest in
    let x = is_ruby_text name h in
    block_case choices c name attrs inner rest x.holds (starts_ruby_text choices c name attrs x f.goes (f.in_ruby u))
    (λ q. builds choices i (in_block choices c name attrs) n (face name attrs) (html_name name ∷ names) (Other n ∷ path) under base (fits_within o w.mode name names x.seen f) refl l q)
    (λ v m k j e. ends_phrase choices v names (subst GoesByBody (sym m) f.goes) k j name x e)
    (λ g k b y1 q. builds choices r (after w g k b y1) p (more d (ChildNode n ∷ [])) names path under base f (ends_in_node n d.children) l q)
builds choices {at_root} (Item {a} {o} {attrs} {inner} {rest} u t y i r) w p d names path under base f z l c =
    let n = choices.fresh w.forest in
    part_case choices c (codes "li") attrs w.mode false inner rest item_holds (starts_item choices c list_item_names (codes "li") attrs item_holds item_outside (item_rule attrs) f.goes (f.no_p u) (f.no_item t))
    (λ q. builds choices i (in_part choices c (codes "li") attrs w.mode false) n (face (codes "li") attrs) (html_name (codes "li") ∷ names) (Other n ∷ path) under base (fits_in_item o w.mode names f) refl l q)
    (λ v g k j q m e. subst (Ends choices (codes "li") v) m (ends_item choices v names (subst GoesByBody (sym m) f.goes) k j g e))
    (λ g k b y1 q. builds choices r (after w g k b y1) p (more d (ChildNode n ∷ [])) names path under base f (ends_in_node n d.children) l q)
builds choices {at_root} (Describing {a} {o} {name} {attrs} {inner} {rest} h u t y i r) w p d names path under base f z l c =
    let n = choices.fresh w.forest in
    let x = is_term name h in
    part_case choices c name attrs w.mode false inner rest x.holds (starts_item choices c description_names name attrs x.holds x.outside (x.starts attrs) f.goes (f.no_p u) (f.no_description t))
    (λ q. builds choices i (in_part choices c name attrs w.mode false) n (face name attrs) (html_name name ∷ names) (Other n ∷ path) under base (fits_in_term o w.mode name names x f) refl l q)
    (λ v g k j q m e. subst (Ends choices name v) m (ends_term choices v names (subst GoesByBody (sym m) f.goes) k j name x g e))
    (λ g k b y1 q. builds choices r (after w g k b y1) p (more d (ChildNode n ∷ [])) names path under base f (ends_in_node n d.children) l q)
builds choices {at_root} (Table {a} {o} {attrs} {inner} {rest} u y i r) w p d names path under base f z l c =
    let n = choices.fresh w.forest in
    part_case choices c (codes "table") attrs InTable false inner rest table_holds (starts_table choices c attrs f.goes (f.no_p u))
    (λ q. builds choices i (in_part choices c (codes "table") attrs InTable false) n (face (codes "table") attrs) (html_name (codes "table") ∷ names) (Other n ∷ path) under base (in_table at_root names) refl tt q)
    (λ v g k j x m e. ends_table choices v names g k j at_root w.mode x m e f.resets)
    (λ g k b y1 q. builds choices r (after w g k b y1) p (more d (ChildNode n ∷ [])) names path under base f (ends_in_node n d.children) l q)
builds choices {at_root} (Section {a} {name} {attrs} {inner} {rest} h y i r) w p d names path under base f z l c =
    let n = choices.fresh w.forest in
    let x = is_part_name name h in
    part_case choices c name attrs InTableBody w.frameset_ok inner rest x.holds (starts_part choices c name attrs InTable InTableBody is_table_scope x.holds f.0 f.1.0 (x.starts attrs w))
    (λ q. builds choices i (in_part choices c name attrs InTableBody w.frameset_ok) n (face name attrs) (html_name name ∷ names) (Other n ∷ path) under base ((refl, (x.context, x.outer))) refl tt q)
    (λ v g k j q m e. subst (Ends choices name v) (sym f.0) (ends_section choices v names g k j name x m e))
    (λ g k b y1 q. builds choices r (after w g k b y1) p (more d (ChildNode n ∷ [])) names path under base f (ends_in_node n d.children) l q)
builds choices {at_root} (TableRow {a} {attrs} {inner} {rest} y i r) w p d names path under base f z l c =
    let n = choices.fresh w.forest in
    part_case choices c (codes "tr") attrs InRow w.frameset_ok inner rest row_holds (starts_part choices c (codes "tr") attrs InTableBody InRow is_table_body_context row_holds f.0 f.1.0 (row_rule attrs w))
    (λ q. builds choices i (in_part choices c (codes "tr") attrs InRow w.frameset_ok) n (face (codes "tr") attrs) (html_name (codes "tr") ∷ names) (Other n ∷ path) under base (in_row at_root names) refl tt q)
    (λ v g k j q m e. subst (Ends choices (codes "tr") v) (sym f.0) (ends_row choices v names g k j m e))
    (λ g k b y1 q. builds choices r (after w g k b y1) p (more d (ChildNode n ∷ [])) names path under base f (ends_in_node n d.children) l q)
builds choices {at_root} (Cell {a} {name} {attrs} {inner} {rest} h y i r) w p d names path under base f z l c =
    let n = choices.fresh w.forest in
    let x = is_cell_name name h in
    marked_case choices c name attrs InCell inner rest x.holds (starts_cell choices c name attrs x f.0 f.1.0)
    (λ q. builds choices i (in_marked choices c name attrs InCell) n (face name attrs) (html_name name ∷ names) [] (n ∷ w.stack) (MarkerEntry ∷ w.formatting) (in_a_cell at_root name names x f.1.0) refl (λ e. refl) q)
    (λ v g k j m e. subst (λ k. Moves choices (end_tag name) v (record v { formatting = clear_to_marker v.formatting; mode = k; stack = but_first v.stack })) (sym f.0) (ends_cell choices v names g k j name x m e))
    (λ g k b y1 q. builds choices r (after w g k b y1) p (more d (ChildNode n ∷ [])) names path under base f (ends_in_node n d.children) l q)
builds choices {at_root} (Ruled {a} {o} {attrs} {rest} u y r) w p d names path under base f z l c =
    let n = choices.fresh w.forest in
    mark_case choices c (codes "hr") attrs false rest hr_is_void.0 hr_is_void.1 (rules_off choices c attrs f.goes (f.no_p u) f.unselected)
    (λ q. builds choices r (put choices c (codes "hr") attrs false) p (more d (ChildNode n ∷ [])) names path under base f (ends_in_node n d.children) l q)
builds choices {at_root} (Break {a} {o} {name} {attrs} {rest} h y r) w p d names path under base f z l c =
    let n = choices.fresh w.forest in
    let x = is_mark name h in
    mark_case choices c name attrs false rest x.no_end x.no_template (marks choices c name attrs x f.goes)
    (λ q. builds choices r (put choices c name attrs false) p (more d (ChildNode n ∷ [])) names path under base f (ends_in_node n d.children) l q)
builds choices {at_root} (Formatted {a} {o} {name} {attrs} {inner} {rest} h y i r) w p d names path under base f z l c =
    let n = choices.fresh w.forest in
    let x = is_inline_name name h in
    format_case choices c name attrs inner rest x.formats f.goes (starts_formatting choices c name attrs x f.goes)
    (λ q. builds choices i (in_format choices c name attrs) n (face name attrs) (html_name name ∷ names) (Formats n name ∷ path) under base (fits_within o w.mode name names x.formats.seen f) refl (unlinked_in o.in_link n name path x.no_link l) q)
    (λ g k b y1 q. builds choices r (after w g k b y1) p (more d (ChildNode n ∷ [])) names path under base f (ends_in_node n d.children) l q)
builds choices {at_root} (Link {a} {o} {attrs} {inner} {rest} u y i r) w p d names path under base f z l c =
    let n = choices.fresh w.forest in
    format_case choices c (codes "a") attrs inner rest a_formats f.goes (starts_link choices c attrs f.goes (l u))
    (λ q. builds choices i (in_format choices c (codes "a") attrs) n (face (codes "a") attrs) (html_name (codes "a") ∷ names) (Formats n (codes "a") ∷ path) under base (fits_in_link o w.mode names f) refl (λ e. absurd (cc)) q)
    (λ g k b y1 q. builds choices r (after w g k b y1) p (more d (ChildNode n ∷ [])) names path under base f (ends_in_node n d.children) l q)
builds choices {at_root} (Preformatted {a} {o} {attrs} {inner} {rest} u y i r) w p d names path under base f z l c =
    let n = choices.fresh w.forest in
    pre_case choices c (codes "pre") attrs inner rest f.goes pre.has_end pre.no_template refl (starts_pre choices c attrs f.goes (f.no_p u))
    (λ q. builds choices i (in_pre choices c (codes "pre") attrs) n (face (codes "pre") attrs) (html_name (codes "pre") ∷ names) (Other n ∷ path) under base (fits_behind o w.mode (codes "pre") names pre.seen f) refl l q)
    (λ v m k j e. ends_pre choices v names (subst GoesByBody (sym m) f.goes) k j e)
    (λ g k b y1 q. builds choices r (after w g k b y1) p (more d (ChildNode n ∷ [])) names path under base f (ends_in_node n d.children) l q)
builds choices {at_root} (Caption {a} {attrs} {inner} {rest} y i r) w p d names path under base f z l c =
    let n = choices.fresh w.forest in
    let name = codes "caption" in
    marked_case choices c name attrs InCaption inner rest caption.holds (starts_caption choices c attrs f.0 f.1.0)
    (λ q. builds choices i (in_marked choices c name attrs InCaption) n (face name attrs) (html_name name ∷ names) [] (n ∷ w.stack) (MarkerEntry ∷ w.formatting) (in_a_caption at_root names f.1.0) refl (λ e. refl) q)
    (λ v g k j m e. ends_caption choices v names g k j w.mode f.0 m e)
    (λ g k b y1 q. builds choices r (after w g k b y1) p (more d (ChildNode n ∷ [])) names path under base f (ends_in_node n d.children) l q)
builds choices {at_root} (ColumnGroup {a} {attrs} {inner} {rest} y i r) w p d names path under base f z l c =
    let n = choices.fresh w.forest in
    part_case choices c (codes "colgroup") attrs InColumnGroup w.frameset_ok inner rest group_holds (starts_part choices c (codes "colgroup") attrs InTable InColumnGroup is_table_scope group_holds f.0 f.1.0 (group_rule attrs w))
    (λ q. builds choices i (in_part choices c (codes "colgroup") attrs InColumnGroup w.frameset_ok) n (face (codes "colgroup") attrs) (html_name (codes "colgroup") ∷ names) (Other n ∷ path) under base (refl, group_named) refl tt q)
    (λ v g k j q m e. subst (Ends choices (codes "colgroup") v) (sym f.0) (ends_group choices v names g k j m e))
    (λ g k b y1 q. builds choices r (after w g k b y1) p (more d (ChildNode n ∷ [])) names path under base f (ends_in_node n d.children) l q)
builds choices {at_root} (Column {a} {attrs} {rest} y r) w p d names path under base f z l c =
    let n = choices.fresh w.forest in
    mark_case choices c (codes "col") attrs w.frameset_ok rest column_is_void.0 column_is_void.1 (puts_column choices c attrs f.0)
    (λ q. builds choices r (put choices c (codes "col") attrs w.frameset_ok) p (more d (ChildNode n ∷ [])) names path under base f (ends_in_node n d.children) l q)
builds choices {at_root} (Blank {part} {first} {more = further} {rest} e a n r) w p d names path under base f z l c =
    blank_case choices c first further rest e (table_mode false at_root part w.mode names f) (table_outer false at_root part w.mode names f) a z (tag_next rest r)
    (λ q. builds choices r (blanked choices c (first ∷ further)) p (more d (ChildText (first ∷ further) ∷ [])) names path under base (same_place at_root part w.mode names f) tt tt q)
builds choices {at_root} (ColumnBlank {first} {more = further} {rest} e a n r) w p d names path under base f z l c =
    column_blank_case choices c first further rest e f.0 z (writes_blank choices c first further f.0 f.1 a)
    (λ q. builds choices r (put_blank choices c (first ∷ further)) p (more d (ChildText (first ∷ further) ∷ [])) names path under base f tt tt q)
