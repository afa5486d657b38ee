-- HTML standard, section 13.2.6.4.7, the "in body" insertion mode.
use Rattle.std.specs.Prelude.{ℕ, Bool, true, false, not, ◌&&◌, if◌then◌else◌, is_some, List, [], ◌∷◌, ◌++◌, Option, None, Some, codes, ◌||◌}
use Rattle.h5_names.specs.declared.qualified.QualName.{QualName}
use Rattle.h5_token.specs.TokenText.{TagText}
use Rattle.h5_token.specs.declared.states.RawKind.TheVariants.{Rawtext, Rcdata}
use Rattle.h5_names.specs.declared.known_name.KnownName.TheVariants.{A, Body, Br, Button, Form, Frameset, Hr, Html, Iframe, Image, Input, Math, Nobr, Noembed, Noscript, Optgroup, P, Plaintext, Select, Svg, Table, Template, Textarea, Xmp}
use Rattle.h5_names.specs.declared.known_name.KnownName.TheVariants as known
use Rattle.h5_tables.specs.TagSets.{block_end_names, block_start_names, formatting_names, heading_names, is_default_scope, is_heading, is_html_named, is_implied, is_list_item_scope, mathml_namespace, svg_namespace}
use Rattle.h5_builder_spec.specs.stack.Scope.{comes_before_special, drop_while, first_passes, has_body_in_scope, has_p_in_button_scope, has_template, has_unclosed, in_scope, is_implied_but, node_in_scope, oldest_passing, second_is}
use Rattle.h5_interface.specs.declared.marks.QuirksMode.{QuirksMode}
use Rattle.h5_interface.specs.declared.marks.QuirksMode.TheVariants.{Quirks}
use Rattle.h5_tables.specs.TurnText.{CommentTurn, EofTurn, NullTurn, TagTurn, TextTurn, TurnText}
use Rattle.h5_tables.specs.declared.modes.InsertionMode.TheVariants.{AfterBody, InTable, InFrameset}
use Rattle.h5_builder_spec.specs.formatting.AdoptionAgency.{closes_one, is_named_listed}
use Rattle.h5_builder_spec.specs.ByName.{AnyOf, Only, Rules, by_kind, by_name, ignored_tag}
use Rattle.h5_builder_spec.specs.insertion.Foreign.{adjusted_attributes, foreign_name}
use Rattle.h5_builder_spec.specs.formatting.Formatting.{names_anew}
use Rattle.h5_builder_spec.specs.Rows.{AddAttrsToSecond, AdoptionAgency, Again, Answers, AppendComment, Change, ClearActiveFormattingToMarker, ClearForm, CloseListItem, ClosePElement, ClosePElementInButtonScope, CopyClosedOption, CreateFormattingElement, Ending, GenerateImpliedEnd, GenerateImpliedEndExcept, GenerateImpliedEndInSelect, HandleMisnestedATags, HandleMisnestedNobrTags, InsertAndPopElement, InsertElement, InsertForm, InsertMarker, IsAcknowledged, IsDone, Pop, PopHeading, PopUntilHeading, PopUntilNamed, ReconstructActiveFormattingElements, RemoveBody, RemoveFromStack, Row, SetFramesetNotOk, SetIgnoreLf, SetMode, choose, errs, ignored, row, row_if}
use Rattle.h5_builder_spec.specs.modes.Shared.{current_is, head_start_names, in_body_start_html, in_body_text, inserts, inserts_foreign, is_context, is_type_hidden, raw_text, table_structure_names}
use Rattle.h5_builder_spec.specs.World.{World, names_of}
use Rattle.h5_names.specs.AttributeText.{AttributeText}
use Rattle.h5_builder_spec.specs.modes.InHead.{in_head_end_template, in_head_start_tag, template_eof}
use Rattle.h5_token.specs.Reply.{TurnsPlain, TurnsRaw}
use Rattle.h5_tables.specs.declared.modes.InsertionMode.{InsertionMode}
use Rattle.h5_builder_spec.specs.stack.Expected.{is_expected, is_expected_item, is_expected_node, is_expected_p, names_behind_item, names_behind_p}

-- a start tag "body"
unfoldable pub in_body_start_body : TagText → World → Row
in_body_start_body tag w =
    choose (second_is (codes "body") (names_of w) && not (has_template (names_of w)))
    (errs (SetFramesetNotOk ∷ AddAttrsToSecond tag.attrs ∷ []) IsDone) ignored

-- an HTML `body` is in scope
abbrev pub body_in_scope : World → Bool
body_in_scope w = has_body_in_scope (names_of w)

unfoldable pub if_body_in_scope : Row → World → Row
if_body_in_scope r w = choose (body_in_scope w) r ignored

-- the body ends; there is a parse error if an element is open that may not be
abbrev pub body_ends : List Change → Ending → World → Row
body_ends changes ending w = row_if (not (has_unclosed (names_of w))) changes ending

-- an end tag "body"
abbrev pub in_body_end_body : TagText → World → Row
in_body_end_body tag w = if_body_in_scope (body_ends (SetMode AfterBody ∷ []) IsDone w) w

-- an end tag "html"
abbrev pub in_body_end_html : TagText → World → Row
in_body_end_html tag w = if_body_in_scope (body_ends [] (Again AfterBody) w) w

-- a start tag "address", "article", .., "ul"
abbrev pub in_body_start_block : TagText → World → Row
in_body_start_block tag w = row_if (is_expected_p (names_of w)) (ClosePElementInButtonScope ∷ inserts tag ∷ []) IsDone

-- a start tag "h1" to "h6"
abbrev pub in_body_start_heading : TagText → World → Row
in_body_start_heading tag w =
    row_if (is_expected_p (names_of w) && not (first_passes is_heading (names_behind_p (names_of w))))
    (ClosePElementInButtonScope ∷ PopHeading ∷ inserts tag ∷ []) IsDone

-- an end tag "address", "article", .., "ul"
unfoldable pub in_body_end_block : TagText → World → Row
in_body_end_block tag w =
    choose (in_scope (is_html_named tag.name) is_default_scope (names_of w))
    (row_if (is_expected is_implied (is_html_named tag.name) (names_of w)) (GenerateImpliedEnd ∷ PopUntilNamed tag.name ∷ []) IsDone) ignored

-- an end tag "h1" to "h6"
unfoldable pub in_body_end_heading : TagText → World → Row
in_body_end_heading tag w =
    choose (in_scope is_heading is_default_scope (names_of w))
    (row_if (is_expected is_implied (is_html_named tag.name) (names_of w)) (GenerateImpliedEnd ∷ PopUntilHeading ∷ []) IsDone) ignored

-- an end tag "p"
unfoldable pub in_body_end_p : TagText → World → Row
in_body_end_p tag w =
    choose (has_p_in_button_scope (names_of w))
    (row_if (is_expected (is_implied_but (codes "p")) (is_html_named (codes "p")) (names_of w)) (ClosePElement ∷ []) IsDone)
    (errs (InsertElement (codes "p") [] false ∷ ClosePElement ∷ []) IsDone)

-- a start tag "a"
abbrev pub in_body_start_a : TagText → World → Row
in_body_start_a tag w =
    row_if (not (is_named_listed (codes "a") w)) (HandleMisnestedATags ∷ ReconstructActiveFormattingElements ∷ CreateFormattingElement tag ∷ []) IsDone

-- a start tag "b", "big", "code", "em", "font", "i", "s", "small", "strike", "strong", "tt", "u"
abbrev pub in_body_start_formatting : TagText → World → Row
in_body_start_formatting tag w = row (ReconstructActiveFormattingElements ∷ CreateFormattingElement tag ∷ []) IsDone

-- a start tag "nobr"
abbrev pub in_body_start_nobr : TagText → World → Row
in_body_start_nobr tag w =
    row_if (not (in_scope (is_html_named (codes "nobr")) is_default_scope (names_anew w)))
    (ReconstructActiveFormattingElements ∷ HandleMisnestedNobrTags ∷ CreateFormattingElement tag ∷ []) IsDone

-- an end tag "a", "b", .., "u"
abbrev pub in_body_end_formatting : TagText → World → Row
in_body_end_formatting tag w = row_if (closes_one tag.name w) (AdoptionAgency tag.name ∷ []) IsDone

-- a start tag "area", "br", "embed", "img", "keygen", "wbr"
unfoldable pub in_body_void : List (List ℕ)
in_body_void = codes "area" ∷ codes "br" ∷ codes "embed" ∷ codes "img" ∷ codes "keygen" ∷ codes "wbr" ∷ []

abbrev pub in_body_start_void : TagText → World → Row
in_body_start_void tag w =
    row (ReconstructActiveFormattingElements ∷ InsertAndPopElement tag.name tag.attrs tag.had_duplicate_attributes ∷ SetFramesetNotOk ∷ []) IsAcknowledged

-- an end tag "br", which is handled as a start tag without attributes
abbrev pub in_body_end_br : TagText → World → Row
in_body_end_br tag w =
    errs (ReconstructActiveFormattingElements ∷ InsertAndPopElement tag.name [] tag.had_duplicate_attributes ∷ SetFramesetNotOk ∷ []) IsAcknowledged

-- a start tag "table", which closes a `p` except in quirks mode
abbrev pub is_quirks : QuirksMode → Bool
is_quirks Quirks = true
is_quirks _ = false

unfoldable pub in_body_start_table : TagText → World → Row
in_body_start_table tag w =
    let opens : List Change = inserts tag ∷ SetFramesetNotOk ∷ SetMode InTable ∷ [] in
    choose (is_quirks w.quirks) (row opens IsDone) (row_if (is_expected_p (names_of w)) (ClosePElementInButtonScope ∷ opens) IsDone)

-- start tags that are ignored, of elements that belong in tables or before the body
unfoldable pub outside_names : List (List ℕ)
outside_names = codes "frame" ∷ codes "head" ∷ []

-- a start tag "frameset": it replaces the body, if that is still possible
unfoldable pub in_body_start_frameset : TagText → World → Row
in_body_start_frameset tag w =
    choose (w.frameset_ok && second_is (codes "body") (names_of w)) (errs (RemoveBody ∷ inserts tag ∷ SetMode InFrameset ∷ []) IsDone) ignored

unfoldable pub in_body_ignored_starts : List (List ℕ)
in_body_ignored_starts = table_structure_names ++ outside_names

-- an HTML element of this name is in scope
abbrev pub named_in_scope : List ℕ → World → Bool
named_in_scope local w = in_scope (is_html_named local) is_default_scope (names_of w)

-- a start tag "pre", "listing"
unfoldable pub in_body_preformatted : List (List ℕ)
in_body_preformatted = codes "pre" ∷ codes "listing" ∷ []

abbrev pub in_body_start_preformatted : TagText → World → Row
in_body_start_preformatted tag w =
    row_if (is_expected_p (names_of w)) (ClosePElementInButtonScope ∷ inserts tag ∷ SetIgnoreLf ∷ SetFramesetNotOk ∷ []) IsDone

-- a start tag "form"
unfoldable pub in_body_start_form : TagText → World → Row
in_body_start_form tag w =
    choose (is_some w.form && not (has_template (names_of w))) ignored
    (row_if (is_expected_p (names_of w)) (ClosePElementInButtonScope ∷ InsertForm tag.attrs tag.had_duplicate_attributes ∷ []) IsDone)

-- a start tag "li", and a start tag "dd", "dt"
unfoldable pub list_item_names : List (List ℕ)
list_item_names = codes "li" ∷ []

unfoldable pub description_names : List (List ℕ)
description_names = codes "dd" ∷ codes "dt" ∷ []

abbrev pub in_body_start_item : List (List ℕ) → TagText → World → Row
in_body_start_item locals tag w =
    row_if (is_expected_item locals (names_of w) && is_expected_p (names_behind_item locals (names_of w)))
    (SetFramesetNotOk ∷ CloseListItem locals ∷ ClosePElementInButtonScope ∷ inserts tag ∷ []) IsDone

-- an end tag "li"
unfoldable pub in_body_end_li : TagText → World → Row
in_body_end_li tag w =
    choose (in_scope (is_html_named (codes "li")) is_list_item_scope (names_of w))
    (row_if (is_expected (is_implied_but (codes "li")) (is_html_named (codes "li")) (names_of w)) (GenerateImpliedEndExcept (codes "li") ∷ PopUntilNamed (codes "li") ∷ []) IsDone) ignored

-- an end tag "dd", "dt"
unfoldable pub in_body_end_description : TagText → World → Row
in_body_end_description tag w =
    choose (named_in_scope tag.name w)
    (row_if (is_expected (is_implied_but tag.name) (is_html_named tag.name) (names_of w)) (GenerateImpliedEndExcept tag.name ∷ PopUntilNamed tag.name ∷ []) IsDone) ignored

-- a start tag "button"
unfoldable pub in_body_start_button : TagText → World → Row
in_body_start_button tag w =
    let opens : List Change = ReconstructActiveFormattingElements ∷ inserts tag ∷ SetFramesetNotOk ∷ [] in
    choose (named_in_scope (codes "button") w) (errs (GenerateImpliedEnd ∷ PopUntilNamed (codes "button") ∷ opens) IsDone) (row opens IsDone)

-- an end tag "form": the form element is cleared, and is removed from the stack, wherever it is
abbrev pub form_in_scope : ℕ → World → Bool
form_in_scope form w = node_in_scope form is_default_scope (names_of w) w.stack

unfoldable pub close_the_form : Option ℕ → World → Row
close_the_form None w = ignored
close_the_form (Some form) w =
    choose (form_in_scope form w)
    (row_if (is_expected_node form (names_of w) w.stack) (ClearForm ∷ GenerateImpliedEnd ∷ RemoveFromStack form ∷ []) IsDone) (errs (ClearForm ∷ []) IsDone)

-- an end tag "form" in a template: the form that is in scope
unfoldable pub close_open_form : World → Row
close_open_form w =
    choose (named_in_scope (codes "form") w)
    (row_if (is_expected is_implied (is_html_named (codes "form")) (names_of w)) (GenerateImpliedEnd ∷ PopUntilNamed (codes "form") ∷ []) IsDone) ignored

unfoldable pub in_body_end_form : TagText → World → Row
in_body_end_form tag w =
    choose (has_template (names_of w))
    (close_open_form w)
    (close_the_form w.form w)

-- a start tag "applet", "marquee", "object", and their end tags
unfoldable pub in_body_marked : List (List ℕ)
in_body_marked = codes "applet" ∷ codes "marquee" ∷ codes "object" ∷ []

abbrev pub in_body_start_marked : TagText → World → Row
in_body_start_marked tag w = row (ReconstructActiveFormattingElements ∷ inserts tag ∷ InsertMarker ∷ SetFramesetNotOk ∷ []) IsDone

unfoldable pub in_body_end_marked : TagText → World → Row
in_body_end_marked tag w =
    choose (named_in_scope tag.name w)
    (row_if (is_expected is_implied (is_html_named tag.name) (names_of w)) (GenerateImpliedEnd ∷ PopUntilNamed tag.name ∷ ClearActiveFormattingToMarker ∷ []) IsDone) ignored

-- a start tag "image", which is handled as "img"
abbrev pub in_body_start_image : TagText → World → Row
in_body_start_image tag w =
    errs (ReconstructActiveFormattingElements ∷ InsertAndPopElement (codes "img") tag.attrs tag.had_duplicate_attributes ∷ SetFramesetNotOk ∷ []) IsAcknowledged

-- a start tag "input"
abbrev pub unless_hidden : List AttributeText → List Change
unless_hidden attrs = if is_type_hidden attrs then [] else SetFramesetNotOk ∷ []

unfoldable pub in_body_start_input : TagText → World → Row
in_body_start_input tag w =
    let puts : List Change = ReconstructActiveFormattingElements ∷ InsertAndPopElement tag.name tag.attrs tag.had_duplicate_attributes ∷ unless_hidden tag.attrs in
    choose (named_in_scope (codes "select") w) (errs (PopUntilNamed (codes "select") ∷ puts) IsAcknowledged) (row puts IsAcknowledged)

-- a start tag "param", "source", "track"
unfoldable pub in_body_parts : List (List ℕ)
in_body_parts = codes "param" ∷ codes "source" ∷ codes "track" ∷ []

abbrev pub in_body_start_part : TagText → World → Row
in_body_start_part tag w = row (InsertAndPopElement tag.name tag.attrs tag.had_duplicate_attributes ∷ []) IsAcknowledged

-- a start tag "hr": if a `select` is in scope, an `option` or `optgroup` in scope that stays open is a parse error
abbrev pub has_option_in_scope : List QualName → Bool
has_option_in_scope names = in_scope (is_html_named (codes "option")) is_default_scope names || in_scope (is_html_named (codes "optgroup")) is_default_scope names

unfoldable pub is_expected_rule : List QualName → Bool
is_expected_rule names = not (in_scope (is_html_named (codes "select")) is_default_scope names) || not (has_option_in_scope (drop_while is_implied names))

abbrev pub in_body_start_hr : TagText → World → Row
in_body_start_hr tag w =
    row_if (is_expected_p (names_of w) && is_expected_rule (names_behind_p (names_of w)))
    (ClosePElementInButtonScope ∷ GenerateImpliedEndInSelect ∷ InsertAndPopElement tag.name tag.attrs tag.had_duplicate_attributes ∷ SetFramesetNotOk ∷ []) IsAcknowledged

-- a start tag "select"
unfoldable pub in_body_start_select : TagText → World → Row
in_body_start_select tag w =
    choose (is_context (is_html_named (codes "select")) w) ignored
    (choose (named_in_scope (codes "select") w) (errs (PopUntilNamed (codes "select") ∷ []) IsDone)
    (row (ReconstructActiveFormattingElements ∷ inserts tag ∷ SetFramesetNotOk ∷ []) IsDone))

-- a start tag "option", and a start tag "optgroup"
abbrev pub in_body_opens : TagText → List Change
in_body_opens tag = ReconstructActiveFormattingElements ∷ inserts tag ∷ []

abbrev pub in_body_start_in_select : List Change → Bool → TagText → World → Row
in_body_start_in_select implied expected tag w =
    choose (named_in_scope (codes "select") w) (row_if expected (implied ++ in_body_opens tag) IsDone)
    (choose (current_is (codes "option") w) (row (Pop ∷ in_body_opens tag) IsDone) (row (in_body_opens tag) IsDone))

unfoldable pub in_body_start_option : TagText → World → Row
in_body_start_option tag w =
    in_body_start_in_select (GenerateImpliedEndExcept (codes "optgroup") ∷ [])
    (not (in_scope (is_html_named (codes "option")) is_default_scope (drop_while (is_implied_but (codes "optgroup")) (names_of w)))) tag w

unfoldable pub in_body_start_optgroup : TagText → World → Row
in_body_start_optgroup tag w = in_body_start_in_select (GenerateImpliedEnd ∷ []) (not (has_option_in_scope (drop_while is_implied (names_of w)))) tag w

-- an end tag "option": if the open option that is nearest to the root was closed, it is copied
abbrev pub copies_option : Option ℕ → List Change
copies_option None = []
copies_option (Some option) = CopyClosedOption option ∷ []

abbrev pub oldest_option : World → Option ℕ
oldest_option w = oldest_passing (is_html_named (codes "option")) (names_of w) w.stack

unfoldable pub in_body_end_option : TagText → World → Row
in_body_end_option tag w =
    choose (comes_before_special tag.name (names_of w))
    (row_if (is_expected (is_implied_but tag.name) (is_html_named tag.name) (names_of w)) (GenerateImpliedEndExcept tag.name ∷ PopUntilNamed tag.name ∷ copies_option (oldest_option w)) IsDone) ignored

-- a start tag "rb", "rtc", and a start tag "rp", "rt"
unfoldable pub in_body_ruby_bases : List (List ℕ)
in_body_ruby_bases = codes "rb" ∷ codes "rtc" ∷ []

unfoldable pub in_body_ruby_texts : List (List ℕ)
in_body_ruby_texts = codes "rp" ∷ codes "rt" ∷ []

abbrev pub in_body_start_ruby : Change → (popped is : QualName → Bool) → TagText → World → Row
in_body_start_ruby implied popped is tag w =
    choose (named_in_scope (codes "ruby") w)
    (row_if (is_expected popped is (names_of w)) (implied ∷ inserts tag ∷ []) IsDone)
    (row_if (first_passes is (names_of w)) (inserts tag ∷ []) IsDone)

abbrev pub in_body_start_ruby_base : TagText → World → Row
in_body_start_ruby_base = in_body_start_ruby GenerateImpliedEnd is_implied (is_html_named (codes "ruby"))

abbrev pub is_ruby_or_rtc : QualName → Bool
is_ruby_or_rtc n = is_html_named (codes "rtc") n || is_html_named (codes "ruby") n

abbrev pub in_body_start_ruby_text : TagText → World → Row
in_body_start_ruby_text = in_body_start_ruby (GenerateImpliedEndExcept (codes "rtc")) (is_implied_but (codes "rtc")) is_ruby_or_rtc

-- a start tag "math", and a start tag "svg"
abbrev pub in_body_start_foreign : (namespace : List ℕ) → TagText → World → Row
in_body_start_foreign namespace tag w =
    inserts_foreign (foreign_name namespace tag.name) (adjusted_attributes namespace tag.attrs) (ReconstructActiveFormattingElements ∷ []) tag

-- a start tag "plaintext": for the tokenizer, all that follows is text
abbrev pub in_body_start_plaintext : TagText → World → Row
in_body_start_plaintext tag w = row_if (is_expected_p (names_of w)) (ClosePElementInButtonScope ∷ inserts tag ∷ []) (Answers TurnsPlain)

-- a start tag "textarea", and a start tag "xmp", "iframe", "noembed"
abbrev pub in_body_start_textarea : TagText → World → Row
in_body_start_textarea tag w = raw_text Rcdata (SetIgnoreLf ∷ SetFramesetNotOk ∷ inserts tag ∷ [])

abbrev pub in_body_start_xmp : TagText → World → Row
in_body_start_xmp tag w = row_if (is_expected_p (names_of w)) (ClosePElementInButtonScope ∷ ReconstructActiveFormattingElements ∷ SetFramesetNotOk ∷ (raw_text Rawtext (inserts tag ∷ [])).changes) (Answers (TurnsRaw Rawtext))

abbrev pub in_body_start_iframe : TagText → World → Row
in_body_start_iframe tag w = raw_text Rawtext (SetFramesetNotOk ∷ inserts tag ∷ [])

abbrev pub in_body_start_noembed : TagText → World → Row
in_body_start_noembed tag w = raw_text Rawtext (inserts tag ∷ [])

-- a start tag "noscript": if scripting is enabled, its content is text
unfoldable pub in_body_start_noscript : TagText → World → Row
in_body_start_noscript tag w =
    choose w.options.scripting_enabled (raw_text Rawtext (inserts tag ∷ [])) (row (ReconstructActiveFormattingElements ∷ inserts tag ∷ []) IsDone)

-- any other start tag
abbrev pub in_body_start_other : TagText → World → Row
in_body_start_other tag w = row (ReconstructActiveFormattingElements ∷ inserts tag ∷ []) IsDone

-- any other end tag
unfoldable pub in_body_end_other : TagText → World → Row
in_body_end_other tag w =
    choose (comes_before_special tag.name (names_of w))
    (row_if (is_expected (is_implied_but tag.name) (is_html_named tag.name) (names_of w)) (GenerateImpliedEndExcept tag.name ∷ PopUntilNamed tag.name ∷ []) IsDone) ignored

-- start tags: of the page and its blocks, of inline elements, of inserted content, and others
unfoldable pub in_body_start_blocks : Rules
in_body_start_blocks =
    (Only Html, in_body_start_html) ∷
    (AnyOf head_start_names, in_head_start_tag) ∷
    (Only Body, in_body_start_body) ∷
    (Only Frameset, in_body_start_frameset) ∷
    (AnyOf block_start_names, in_body_start_block) ∷
    (AnyOf heading_names, in_body_start_heading) ∷ []

unfoldable pub in_body_start_inline : Rules
in_body_start_inline =
    (AnyOf in_body_preformatted, in_body_start_preformatted) ∷
    (Only Form, in_body_start_form) ∷
    (AnyOf list_item_names, in_body_start_item list_item_names) ∷
    (AnyOf description_names, in_body_start_item description_names) ∷
    (Only Plaintext, in_body_start_plaintext) ∷
    (Only Button, in_body_start_button) ∷
    (Only A, in_body_start_a) ∷
    (Only Nobr, in_body_start_nobr) ∷
    (AnyOf formatting_names, in_body_start_formatting) ∷
    (AnyOf in_body_marked, in_body_start_marked) ∷
    (Only Table, in_body_start_table) ∷
    (AnyOf in_body_void, in_body_start_void) ∷ []

unfoldable pub in_body_start_embedded : Rules
in_body_start_embedded =
    (Only Image, in_body_start_image) ∷
    (Only Input, in_body_start_input) ∷
    (AnyOf in_body_parts, in_body_start_part) ∷
    (Only Hr, in_body_start_hr) ∷
    (Only Textarea, in_body_start_textarea) ∷
    (Only Xmp, in_body_start_xmp) ∷
    (Only Iframe, in_body_start_iframe) ∷
    (Only Noembed, in_body_start_noembed) ∷
    (Only Noscript, in_body_start_noscript) ∷
    (Only Select, in_body_start_select) ∷
    (Only known.Option, in_body_start_option) ∷
    (Only Optgroup, in_body_start_optgroup) ∷
    (AnyOf in_body_ruby_bases, in_body_start_ruby_base) ∷
    (AnyOf in_body_ruby_texts, in_body_start_ruby_text) ∷
    (Only Math, in_body_start_foreign mathml_namespace) ∷
    (Only Svg, in_body_start_foreign svg_namespace) ∷
    (AnyOf in_body_ignored_starts, ignored_tag) ∷ []

unfoldable pub in_body_start : Rules
in_body_start = in_body_start_blocks ++ (in_body_start_inline ++ in_body_start_embedded)

-- end tags: of the page and its blocks, and others
unfoldable pub in_body_end_blocks : Rules
in_body_end_blocks =
    (Only Html, in_body_end_html) ∷
    (Only Body, in_body_end_body) ∷
    (AnyOf block_end_names, in_body_end_block) ∷
    (Only Form, in_body_end_form) ∷
    (Only known.Option, in_body_end_option) ∷ []

unfoldable pub in_body_end_inline : Rules
in_body_end_inline =
    (Only P, in_body_end_p) ∷
    (AnyOf list_item_names, in_body_end_li) ∷
    (AnyOf description_names, in_body_end_description) ∷
    (AnyOf heading_names, in_body_end_heading) ∷
    (AnyOf formatting_names, in_body_end_formatting) ∷
    (AnyOf in_body_marked, in_body_end_marked) ∷
    (Only Br, in_body_end_br) ∷
    (Only Template, in_head_end_template) ∷ []

unfoldable pub in_body_end : Rules
in_body_end = in_body_end_blocks ++ in_body_end_inline

unfoldable pub in_body_tag : TagText → World → Row
in_body_tag tag w = by_kind tag.kind (by_name in_body_start in_body_start_other tag w) (by_name in_body_end in_body_end_other tag w)

-- the stack of template insertion modes is empty
abbrev pub no_template_mode : List InsertionMode → Bool
no_template_mode [] = true
no_template_mode (m ∷ ms) = false

abbrev pub in_body : TurnText → World → Row
in_body (TagTurn tag) w = in_body_tag tag w
in_body (CommentTurn text) w = row (AppendComment text ∷ []) IsDone
in_body (TextTurn status text) w = in_body_text text w
in_body NullTurn w = ignored
in_body EofTurn w = choose (no_template_mode w.template_modes) (body_ends [] IsDone w) (template_eof w)
