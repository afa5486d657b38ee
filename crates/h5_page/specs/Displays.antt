-- How elements are shown without a style sheet (HTML standard, section 15.3, "Non-replaced elements"; SVG 2, "User agent style
-- sheet").
use Rattle.std.specs.Prelude.{ℕ, Bool, true, false, List, [], codes, if◌then◌else◌, bytes_eq, ◌||◌}
use Rattle.html_tree_builder.specs.AttributeText.{is_same_text}
use Rattle.html_tree_builder.specs.Urls.{html_text, mathml_text, svg_text}
use Rattle.html_tree_builder.specs.KnownNames.{known_name_of}
use Rattle.html_tree_builder.specs.Types.{KnownName}
use Rattle.html_tree_builder.specs.KnownVariants as known
use Rattle.html_tree_builder.specs.Types.{QualName}
use Rattle.h5_page.specs.declared.display.Display.{Display}
use Rattle.h5_page.specs.declared.display.Display.TheVariants as show

-- on separate lines
abbrev pub block_display : KnownName → Display
block_display known.Address = show.Block
block_display known.Article = show.Block
block_display known.Aside = show.Block
block_display known.Body = show.Block
block_display known.Caption = show.Block
block_display known.Center = show.Block
block_display known.Details = show.Block
block_display known.Div = show.Block
block_display known.Dt = show.Block
block_display known.Fieldset = show.Block
block_display known.Figcaption = show.Block
block_display known.Footer = show.Block
block_display known.Form = show.Block
block_display known.Header = show.Block
block_display known.Hgroup = show.Block
block_display known.Html = show.Block
block_display known.Main = show.Block
block_display known.Nav = show.Block
block_display known.Option = show.Block
block_display known.Search = show.Block
block_display known.Section = show.Block
block_display known.Summary = show.Block
block_display known.Table = show.Block
block_display known.Tbody = show.Block
block_display known.Tfoot = show.Block
block_display known.Thead = show.Block
block_display known.Tr = show.Block
block_display _ = show.Inline

-- with an empty line before and after; the names after these aren't shown
abbrev pub wide_display : KnownName → Display
wide_display known.Figure = show.Paragraph
wide_display known.H1 = show.Paragraph
wide_display known.H2 = show.Paragraph
wide_display known.H3 = show.Paragraph
wide_display known.H4 = show.Paragraph
wide_display known.H5 = show.Paragraph
wide_display known.H6 = show.Paragraph
wide_display known.P = show.Paragraph
wide_display known.Title = show.Paragraph
wide_display known.Listing = show.Preformatted
wide_display known.Plaintext = show.Preformatted
wide_display known.Pre = show.Preformatted
wide_display known.Xmp = show.Preformatted
wide_display known.Iframe = show.Nothing
wide_display known.Noembed = show.Nothing
wide_display known.Noframes = show.Nothing
wide_display known.Rp = show.Nothing
wide_display known.Script = show.Nothing
wide_display known.Style = show.Nothing
wide_display known.Template = show.Nothing
wide_display name = block_display name

-- with a specific display
abbrev pub known_display : KnownName → Display
known_display known.A = show.Link
known_display known.Blockquote = show.Quote
known_display known.Br = show.LineEnd
known_display known.Dd = show.Description
known_display known.Dialog = show.Dialog
known_display known.Dir = show.Bulleted
known_display known.Dl = show.Bulleted
known_display known.Menu = show.Bulleted
known_display known.Ul = show.Bulleted
known_display known.Hr = show.Rule
known_display known.Img = show.Picture
known_display known.Li = show.Item
known_display known.Ol = show.Numbered
known_display known.Optgroup = show.Group
known_display known.Td = show.Cell
known_display known.Th = show.Cell
known_display known.Textarea = show.Field
known_display name = wide_display name

-- names of HTML that aren't known names
abbrev pub other_display : List ℕ → Display
other_display name =
    if bytes_eq name (codes "audio") || bytes_eq name (codes "canvas") || bytes_eq name (codes "datalist")
    || bytes_eq name (codes "meter") || bytes_eq name (codes "progress") || bytes_eq name (codes "video") then show.Nothing
    else if bytes_eq name (codes "legend") then show.Block
    else show.Inline

-- a `noscript` isn't shown if scripting is enabled: its content is text then
abbrev pub display_by : (scripting_enabled : Bool) → KnownName → List ℕ → Display
display_by scripting_enabled known.Noscript name = if scripting_enabled then show.Nothing else show.Inline
display_by scripting_enabled known.Other name = other_display name
display_by scripting_enabled number name = known_display number

abbrev pub html_display : (scripting_enabled : Bool) → List ℕ → Display
html_display scripting_enabled name = display_by scripting_enabled (known_name_of name) name

-- names of SVG: elements that are never rendered, links, and texts
abbrev pub is_unrendered : List ℕ → Bool
is_unrendered name =
    bytes_eq name (codes "clipPath") || bytes_eq name (codes "defs") || bytes_eq name (codes "desc")
    || bytes_eq name (codes "linearGradient") || bytes_eq name (codes "marker") || bytes_eq name (codes "mask")
    || bytes_eq name (codes "metadata") || bytes_eq name (codes "pattern") || bytes_eq name (codes "radialGradient")
    || bytes_eq name (codes "script") || bytes_eq name (codes "style") || bytes_eq name (codes "symbol") || bytes_eq name (codes "title")

abbrev pub svg_display : List ℕ → Display
svg_display name =
    if is_unrendered name then show.Nothing
    else if bytes_eq name (codes "a") then show.Link
    else if bytes_eq name (codes "text") then show.Block
    else show.Inline

-- names of MathML
abbrev pub mathml_display : List ℕ → Display
mathml_display name =
    if bytes_eq name (codes "annotation") || bytes_eq name (codes "annotation-xml") then show.Nothing
    else show.Inline

abbrev pub display_of : (scripting_enabled : Bool) → QualName → Display
display_of scripting_enabled name =
    if is_same_text name.ns html_text then html_display scripting_enabled name.local
    else if is_same_text name.ns svg_text then svg_display name.local
    else if is_same_text name.ns mathml_text then mathml_display name.local
    else show.Inline

-- the attribute that a display uses
abbrev pub asked : Display → List ℕ
asked show.Dialog = codes "open"
asked show.Group = codes "label"
asked show.Item = codes "value"
asked show.Link = codes "href"
asked show.Numbered = codes "start"
asked show.Picture = codes "alt"
asked display = []

abbrev pub is_list : Display → Bool
is_list show.Bulleted = true
is_list show.Numbered = true
is_list display = false

abbrev pub keeps_blanks : Display → Bool
keeps_blanks show.Preformatted = true
keeps_blanks show.Field = true
keeps_blanks display = false

abbrev pub is_indented : Display → Bool
is_indented show.Item = true
is_indented show.Description = true
is_indented show.Quote = true
is_indented display = false
