-- Elements of SVG and MathML: when a token is handled as foreign content, and how such elements are created and left
-- (HTML standard, sections 13.2.4.2, "adjusted current node", and 13.2.6, "the tree construction dispatcher").
use Rattle.std.specs.Prelude.{ℕ, Bool, true, false, not, ◌&&◌, ◌||◌, if◌then◌else◌, unwrap_or, List, [], ◌∷◌, map, codes, Option, None, Some}
use Rattle.std.specs.Str.{str_eq_ignore_ascii_case}
use Rattle.h5_names.specs.AttributeText.{AttributeText, is_same_text}
use Rattle.h5_names.specs.declared.qualified.QualName.{QualName}
use Rattle.h5_interface.specs.Forest.{Forest}
use Rattle.h5_interface.specs.NewElement.{is_annotation_xml}
use Rattle.h5_interface.specs.Seen.{is_integration_point}
use Rattle.h5_interface.specs.SinkChoices.{SinkChoices}
use Rattle.h5_tables.specs.TagSets.{is_mathml_text_point, is_one_of, is_svg_html_point, mathml_namespace, svg_namespace}
use Rattle.h5_tables.specs.AdjustedNames.{adjusted_svg_tag, foreign_attributes, mathml_attributes, renamed, svg_attributes}
use Rattle.h5_tables.specs.TurnText.{CommentTurn, EofTurn, NullTurn, TagTurn, TextTurn, TurnText}
use Rattle.h5_tables.specs.declared.modes.SplitStatus.TheVariants.{NotSplit}
use Rattle.h5_builder_spec.specs.stack.Scope.{cut_through}
use Rattle.h5_builder_spec.specs.reset.Roles.{is_html_element}
use Rattle.h5_builder_spec.specs.Changes.{new_element, pop, with_forest}
use Rattle.h5_builder_spec.specs.Kinds.{is_start}
use Rattle.h5_builder_spec.specs.insertion.Place.{place}
use Rattle.h5_builder_spec.specs.World.{World, name_in, names_of}

-- the adjusted current node: the context if only the root of a fragment is open, otherwise the current node
abbrev pub adjusted_of : Option ℕ → List ℕ → Option ℕ
adjusted_of context [] = None
adjusted_of context (n ∷ []) = Some (unwrap_or context n)
adjusted_of context (n ∷ m ∷ s) = Some n

abbrev pub adjusted_current_node : World → Option ℕ
adjusted_current_node w = adjusted_of w.context w.stack

-- what a MathML text integration point takes as HTML: a text, a null, and a start tag except these two
unfoldable pub glyph_names : List (List ℕ)
glyph_names = codes "mglyph" ∷ codes "malignmark" ∷ []

abbrev pub goes_into_text_point : TurnText → Bool
goes_into_text_point (TagTurn tag) = is_start tag.kind && not (is_one_of glyph_names tag.name)
goes_into_text_point (CommentTurn text) = false
goes_into_text_point (TextTurn status text) = true
goes_into_text_point NullTurn = true
goes_into_text_point EofTurn = false

-- what an HTML integration point takes as HTML: a text, a null, and any start tag
abbrev pub goes_into_html_point : TurnText → Bool
goes_into_html_point (TagTurn tag) = is_start tag.kind
goes_into_html_point (CommentTurn text) = false
goes_into_html_point (TextTurn status text) = true
goes_into_html_point NullTurn = true
goes_into_html_point EofTurn = false

abbrev pub starts_svg : TurnText → Bool
starts_svg (TagTurn tag) = is_start tag.kind && is_same_text tag.name (codes "svg")
starts_svg (CommentTurn text) = false
starts_svg (TextTurn status text) = false
starts_svg NullTurn = false
starts_svg EofTurn = false

-- in this node a token is taken by the rules of HTML
abbrev pub is_taken_in : SinkChoices → TurnText → Forest → ℕ → Bool
is_taken_in choices t f n =
    is_html_element (name_in f n)
    || ((is_mathml_text_point (name_in f n) && goes_into_text_point t)
    || ((is_svg_html_point (name_in f n) && goes_into_html_point t)
    || (is_annotation_xml (name_in f n) && (starts_svg t || (goes_into_html_point t && is_integration_point choices f n)))))

abbrev pub is_foreign_at : SinkChoices → TurnText → Forest → Option ℕ → Bool
is_foreign_at choices t f None = false
is_foreign_at choices t f (Some n) = not (is_taken_in choices t f n)

-- A TOKEN IS FOREIGN if an element is open, and the adjusted current node doesn't take the token as HTML; the end of
-- the file never is
unfoldable pub is_foreign : SinkChoices → TurnText → World → Bool
is_foreign choices (TagTurn tag) w = is_foreign_at choices (TagTurn tag) w.forest (adjusted_current_node w)
is_foreign choices (CommentTurn text) w = is_foreign_at choices (CommentTurn text) w.forest (adjusted_current_node w)
is_foreign choices (TextTurn status text) w = is_foreign_at choices (TextTurn status text) w.forest (adjusted_current_node w)
is_foreign choices NullTurn w = is_foreign_at choices NullTurn w.forest (adjusted_current_node w)
is_foreign choices EofTurn w = false

-- a text is foreign, regardless of its content
abbrev pub is_foreign_text : SinkChoices → World → Bool
is_foreign_text choices w = is_foreign choices (TextTurn NotSplit []) w

-- "adjust foreign attributes", after the adjustment for MathML or SVG
unfoldable pub adjusted_attributes : (namespace : List ℕ) → List AttributeText → List AttributeText
adjusted_attributes namespace attrs =
    map (renamed foreign_attributes)
    (if is_same_text namespace mathml_namespace then map (renamed mathml_attributes) attrs
    else (if is_same_text namespace svg_namespace then map (renamed svg_attributes) attrs else attrs))

-- the local name of an element in a namespace, for a tag in foreign content: an SVG tag's name is adjusted
unfoldable pub adjusted_local : (namespace local : List ℕ) → List ℕ
adjusted_local namespace local = if is_same_text namespace svg_namespace then adjusted_svg_tag local else local

-- an element's name in a namespace, without a prefix
abbrev pub foreign_name : (namespace local : List ℕ) → QualName
foreign_name namespace local = record { prefix = None; ns = namespace; local = local }

-- the namespace of the adjusted current node
abbrev pub namespace_at : Forest → Option ℕ → List ℕ
namespace_at f None = []
namespace_at f (Some n) = (name_in f n).ns

abbrev pub adjusted_namespace : World → List ℕ
adjusted_namespace w = namespace_at w.forest (adjusted_current_node w)

-- an element of this name at the place of insertion, pushed (section 13.2.6.1, insert a foreign element)
unfoldable pub insert_foreign_element : SinkChoices → QualName → List AttributeText → Bool → World → World
insert_foreign_element choices name attrs duplicates w = record w {
  forest = new_element choices (place w) name attrs duplicates None w.forest;
  stack = choices.fresh w.forest ∷ w.stack;
}

-- an element of this name at the place of insertion, not pushed
unfoldable pub insert_and_pop_foreign_element : SinkChoices → QualName → List AttributeText → Bool → World → World
insert_and_pop_foreign_element choices name attrs duplicates w = with_forest (new_element choices (place w) name attrs duplicates None w.forest) w

-- an HTML integration point: an element of SVG, by its name, or an `annotation-xml` that the sink calls one
abbrev pub is_html_point : SinkChoices → Forest → ℕ → Bool
is_html_point choices f n = is_svg_html_point (name_in f n) || (is_annotation_xml (name_in f n) && is_integration_point choices f n)

-- an element that is popped when foreign content is left: neither of HTML, nor a MathML text integration point, nor an
-- HTML integration point
unfoldable pub is_left : SinkChoices → Forest → ℕ → Bool
is_left choices f n = not (is_html_element (name_in f n) || (is_mathml_text_point (name_in f n) || is_html_point choices f n))

abbrev pub pop_left : SinkChoices → List ℕ → World → World
pop_left choices [] w = w
pop_left choices (n ∷ s) w = if is_left choices w.forest n then pop_left choices s (pop choices w) else w

unfoldable pub leave_foreign_content : SinkChoices → World → World
leave_foreign_content choices w = pop_left choices w.stack w

-- an element of this local name, in any case of ASCII letters
abbrev pub is_named_in_any_case : List ℕ → QualName → Bool
is_named_in_any_case local n = str_eq_ignore_ascii_case n.local local

-- pops without notifying the sink, up to and including the newest of these elements
unfoldable pub pop_until_named_in_any_case : List ℕ → World → World
pop_until_named_in_any_case local w = record w { stack = cut_through (is_named_in_any_case local) (names_of w) w.stack }
