-- HTML standard, section 13.2.6.4.4, the "in head" insertion mode.
use Rattle.std.specs.Prelude.{ℕ, List, [], ◌∷◌, codes}
use Rattle.h5_token.specs.TokenText.{TagText}
use Rattle.h5_token.specs.declared.states.RawKind.TheVariants.{Rawtext, Rcdata, ScriptData}
use Rattle.h5_names.specs.declared.known_name.KnownName.TheVariants.{Head, Html, Meta, Noscript, Script, Template, Title}
use Rattle.h5_tables.specs.TurnText.{CommentTurn, EofTurn, NullTurn, TagTurn, TextTurn, TurnText}
use Rattle.h5_tables.specs.declared.modes.InsertionMode.TheVariants.{AfterHead, InHeadNoscript, InTemplate}
use Rattle.h5_tables.specs.declared.modes.SplitStatus.TheVariants.{NotSplit, NotWhitespace, Whitespace}
use Rattle.h5_builder_spec.specs.ByName.{AnyOf, Only, Rules, by_kind, by_name, ignored_tag, of_tag, outer_names}
use Rattle.h5_builder_spec.specs.NamedEncoding.{indicates, named_encoding}
use Rattle.h5_builder_spec.specs.Rows.{Again, AgainBy, AppendComment, AppendText, ClearActiveFormattingToMarker, GenerateImpliedEndThoroughly, InsertAndPopElement, InsertMarker, InsertScript, InsertTemplate, IsAcknowledged, IsDone, Pop, PopTemplateMode, PopUntilNamed, PushTemplateMode, ResetMode, Row, SetFramesetNotOk, SetMode, choose, errs, ignored, row, row_if}
use Rattle.h5_builder_spec.specs.modes.Shared.{in_body_start_html, inserts, raw_text}
use Rattle.h5_builder_spec.specs.reset.Reset.{reset_mode}
use Rattle.h5_builder_spec.specs.World.{World, names_of}
use Rattle.h5_builder_spec.specs.stack.Scope.{has_template}
use Rattle.h5_builder_spec.specs.stack.Expected.{is_expected}
use Rattle.h5_tables.specs.TagSets.{is_html_named, is_thorough_implied}

-- an end tag "head"
abbrev pub in_head_end_head : TagText → World → Row
in_head_end_head tag w = row (Pop ∷ SetMode AfterHead ∷ []) IsDone

-- a start tag "base", "basefont", "bgsound", "link"
unfoldable pub in_head_links : List (List ℕ)
in_head_links = codes "base" ∷ codes "basefont" ∷ codes "bgsound" ∷ codes "link" ∷ []

abbrev pub in_head_start_link : TagText → World → Row
in_head_start_link tag w = row (InsertAndPopElement tag.name tag.attrs tag.had_duplicate_attributes ∷ []) IsAcknowledged

-- a start tag "meta"
abbrev pub in_head_start_meta : TagText → World → Row
in_head_start_meta tag w = row (InsertAndPopElement tag.name tag.attrs tag.had_duplicate_attributes ∷ []) (indicates (named_encoding tag.attrs))

-- a start tag "title"
abbrev pub in_head_start_title : TagText → World → Row
in_head_start_title tag w = raw_text Rcdata (inserts tag ∷ [])

-- a start tag "noframes", "style"
unfoldable pub in_head_raw : List (List ℕ)
in_head_raw = codes "noframes" ∷ codes "style" ∷ []

abbrev pub in_head_start_raw : TagText → World → Row
in_head_start_raw tag w = raw_text Rawtext (inserts tag ∷ [])

-- a start tag "noscript"
unfoldable pub in_head_start_noscript : TagText → World → Row
in_head_start_noscript tag w =
    choose w.options.scripting_enabled (raw_text Rawtext (inserts tag ∷ [])) (row (inserts tag ∷ SetMode InHeadNoscript ∷ []) IsDone)

-- a start tag "script"
abbrev pub in_head_start_script : TagText → World → Row
in_head_start_script tag w = raw_text ScriptData (InsertScript tag.attrs tag.had_duplicate_attributes ∷ [])

-- a start tag "template"
abbrev pub in_head_start_template : TagText → World → Row
in_head_start_template tag w =
    row (InsertMarker ∷ SetFramesetNotOk ∷ SetMode InTemplate ∷ PushTemplateMode InTemplate ∷ InsertTemplate tag.attrs tag.had_duplicate_attributes ∷ []) IsDone

-- an end tag "template"
unfoldable pub in_head_end_template : TagText → World → Row
in_head_end_template tag w =
    choose (has_template (names_of w))
    (row_if (is_expected is_thorough_implied (is_html_named (codes "template")) (names_of w))
    (GenerateImpliedEndThoroughly ∷ PopUntilNamed (codes "template") ∷ ClearActiveFormattingToMarker ∷ PopTemplateMode ∷ ResetMode ∷ []) IsDone)
    ignored

-- the end of the file, at which a template may be open: the template is closed, and the token is reprocessed in the
-- mode that is reset to
unfoldable pub template_eof : World → Row
template_eof w =
    choose (has_template (names_of w))
    (errs (PopUntilNamed (codes "template") ∷ ClearActiveFormattingToMarker ∷ PopTemplateMode ∷ ResetMode ∷ []) (AgainBy reset_mode))
    (row [] IsDone)

-- anything else
abbrev pub in_head_else : TurnText → World → Row
in_head_else t w = row (Pop ∷ []) (Again AfterHead)

-- start tags, and end tags
unfoldable pub in_head_start : Rules
in_head_start =
    (Only Html, in_body_start_html) ∷
    (AnyOf in_head_links, in_head_start_link) ∷
    (Only Meta, in_head_start_meta) ∷
    (Only Title, in_head_start_title) ∷
    (AnyOf in_head_raw, in_head_start_raw) ∷
    (Only Noscript, in_head_start_noscript) ∷
    (Only Script, in_head_start_script) ∷
    (Only Template, in_head_start_template) ∷
    (Only Head, ignored_tag) ∷ []

unfoldable pub in_head_end : Rules
in_head_end = (Only Head, in_head_end_head) ∷ (AnyOf outer_names, of_tag in_head_else) ∷ (Only Template, in_head_end_template) ∷ []

-- a start tag; also used by other modes
unfoldable pub in_head_start_tag : TagText → World → Row
in_head_start_tag tag w = by_name in_head_start (of_tag in_head_else) tag w

unfoldable pub in_head_tag : TagText → World → Row
in_head_tag tag w = by_kind tag.kind (in_head_start_tag tag w) (by_name in_head_end ignored_tag tag w)

abbrev pub in_head : TurnText → World → Row
in_head (TagTurn tag) w = in_head_tag tag w
in_head (CommentTurn text) w = row (AppendComment text ∷ []) IsDone
in_head (TextTurn Whitespace text) w = row (AppendText text ∷ []) IsDone
in_head (TextTurn NotWhitespace text) w = in_head_else (TextTurn NotWhitespace text) w
in_head (TextTurn NotSplit text) w = in_head_else (TextTurn NotSplit text) w
in_head NullTurn w = in_head_else NullTurn w
in_head EofTurn w = in_head_else EofTurn w
