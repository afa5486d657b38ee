-- No two texts are adjacent in the tokens of plain documents and fragments.
use Rattle.std.proofs.Common.{◌≡◌, ℕ, Bool, true, false, List, [], ◌∷◌, cond, refl, sym, ap, ◌∙◌, subst, codes}
use Rattle.h5_names.specs.AttributeText.{AttributeText}
use Rattle.h5_token.specs.Joins.{glue, join}
use Rattle.h5_token.specs.TokenText.{TokenText, TagIs, Characters, EndOfFile}
use Rattle.h5_builder_laws.specs.Plain.{ElementThen, End, Nodes, PlainDocument, TextThen, as_written, document_tokens, end_tag, fragment_tokens, has_end_tag, plain_doctype, start_tag, tokens_before}
use Rattle.h5_round_trip.proofs.DoubledLaws.{shape_written}
use Rattle.h5_round_trip.proofs.ShapeLaws.{Element, None, Shape, Text, Title, Void, below_root, below_shape, is_html, is_title}

-- a list that is empty, or begins with a tag, or with the end of the file
abbrev BeginsWithTag : List TokenText → Type 0
BeginsWithTag [] = Unit {0}
BeginsWithTag (TagIs tag ∷ ts) = Unit {0}
BeginsWithTag (EndOfFile ∷ ts) = Unit {0}
BeginsWithTag _ = ⊥

glue_tag : (x : ℕ) (t : List ℕ) (ts : List TokenText) → BeginsWithTag ts → glue (x ∷ t) ts ≡ Characters (x ∷ t) ∷ ts
glue_tag x t [] h = refl
glue_tag x t (TagIs tag ∷ ts) h = refl
glue_tag x t (EndOfFile ∷ ts) h = refl
glue_tag x t (_ ∷ ts) h = absurd h

tag_first : (ns : Nodes) (more : List TokenText) → Shape true ns → BeginsWithTag more → BeginsWithTag (tokens_before ns more)
tag_first End more None h = h
tag_first _ more (Void v p s) h = tt
tag_first _ more (Element o p i s) h = tt
tag_first _ more (Title p s) h = tt

element_joined : (b : Bool) (name : List ℕ) (attrs : List AttributeText) (inner others : Nodes) (more : List TokenText) → has_end_tag name ≡ b
    → join (cond b (tokens_before inner (end_tag name ∷ tokens_before others more)) (tokens_before others more)) ≡ cond b (tokens_before inner (end_tag name ∷ tokens_before others more)) (tokens_before others more)
    → join (tokens_before (ElementThen name attrs inner others) more) ≡ tokens_before (ElementThen name attrs inner others) more
element_joined b name attrs inner others more e h =
    subst (λ (c : Bool). join (start_tag name attrs ∷ cond c (tokens_before inner (end_tag name ∷ tokens_before others more)) (tokens_before others more)) ≡ start_tag name attrs ∷ cond c (tokens_before inner (end_tag name ∷ tokens_before others more)) (tokens_before others more)) (sym e)
    (ap (λ l. start_tag name attrs ∷ l) h)

nodes_joined : {b : Bool} (ns : Nodes) (more : List TokenText) → Shape b ns → BeginsWithTag more → join more ≡ more → join (tokens_before ns more) ≡ tokens_before ns more
nodes_joined End more None h e = e
nodes_joined _ more (Text {first} {more = words} {rest = others} s) h e =
    ap (glue (first ∷ words)) (nodes_joined others more s h e) ∙ glue_tag first words (tokens_before others more) (tag_first others more s h)
nodes_joined _ more (Void {name} {attrs} {rest = others} v p s) h e =
    element_joined false name attrs End others more v.ends (nodes_joined others more s h e)
nodes_joined _ more (Element {name} {attrs} {inner} {rest = others} o p i s) h e =
    element_joined true name attrs inner others more o.ends
    (nodes_joined inner (end_tag name ∷ tokens_before others more) i tt (ap (λ l. end_tag name ∷ l) (nodes_joined others more s h e)))
nodes_joined _ more (Title {attrs} {first} {more = words} {rest = others} p s) h e =
    element_joined true (codes "title") attrs (TextThen (first ∷ words) End) others more is_title.ends
    (ap (λ l. glue (first ∷ words) (end_tag (codes "title") ∷ l)) (nodes_joined others more s h e))

pub fragment_joined : {b : Bool} (ns : Nodes) → Shape b ns → join (fragment_tokens ns) ≡ fragment_tokens ns
fragment_joined ns shape = nodes_joined (as_written ns) (EndOfFile ∷ []) (shape_written shape) tt refl

-- also if nothing follows them
pub inside_joined : {b : Bool} (ns : Nodes) → Shape b ns → join (tokens_before (as_written ns) []) ≡ tokens_before (as_written ns) []
inside_joined ns shape = nodes_joined (as_written ns) [] (shape_written shape) tt refl

pub document_joined : (d : PlainDocument) → join (document_tokens d) ≡ document_tokens d
document_joined d =
    let last = end_tag (codes "html") ∷ EndOfFile ∷ [] in
    ap (λ l. plain_doctype ∷ l)
    (element_joined true (codes "html") d.html_attrs (as_written (below_root d)) End (EndOfFile ∷ []) is_html.ends (nodes_joined (as_written (below_root d)) last (shape_written (below_shape d)) tt refl))
