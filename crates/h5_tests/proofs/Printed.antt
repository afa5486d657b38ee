-- A tree and a tree builder's replies as text.
use Rattle.std.proofs.Common.{◌≡◌, ℕ, List, [], ◌∷◌, ◌++◌, refl, codes, None}
use Rattle.std.specs.Fmt.{digits}
use Rattle.h5_names.specs.AttributeText.{AttributeText}
use Rattle.h5_names.specs.Urls.{svg_text, xlink_text}
use Rattle.h5_names.specs.declared.qualified.QualName.{QualName}
use Rattle.h5_interface.specs.Forest.{CommentNode, DoctypeNode, ElementNode}
use Rattle.h5_interface.specs.declared.marks.QuirksMode.TheVariants.{LimitedQuirks}
use Rattle.h5_token.specs.Reply.{Continues, Indicates, Refuses, RunsScript, TurnsPlain, TurnsRaw}
use Rattle.h5_token.specs.declared.fault.BuildFault.TheVariants.{AfterEnd, NotInText}
use Rattle.h5_token.specs.declared.states.RawKind.TheVariants.{Rcdata}
use Rattle.h5_print.specs.Nodes.{attribute_lines, kind_line, line, quoted}
use Rattle.h5_print.specs.Replies.{quirks_line, reply_line}

abbrev named : List ℕ → List ℕ → QualName
named ns local = record { prefix = None; ns = ns; local = local }

abbrev link_attributes : List AttributeText
link_attributes =
    record { name = named xlink_text (codes "href"); value = 9 ∷ [] } ∷
    record { name = named [] (codes "id"); value = [] } ∷ []

-- a doctype, followed by an SVG link with two attributes, which contains a text and a comment
lines_of_a_tree :
    kind_line 0 (DoctypeNode (codes "html") (codes "-//x") []) ++ kind_line 0 (ElementNode (named svg_text (codes "a"))) ++
    attribute_lines 1 link_attributes ++ line 1 (quoted (codes "x\n\\")) ++ kind_line 1 (CommentNode (codes "y\0"))
    ≡ codes "<!DOCTYPE html \"-//x\" \"\">\n<svg a>\n  xlink href=\"\\t\"\n  id=\"\"\n  \"x\\n\\\\\"\n  <!-- y\\0 -->\n"
lines_of_a_tree = refl

line_of_quirks : quirks_line LimitedQuirks ≡ codes "quirks: LimitedQuirks\n"
line_of_quirks = refl

lines_of_replies :
    reply_line 1 (RunsScript 0) ++ reply_line 2 TurnsPlain ++ reply_line 3 (TurnsRaw Rcdata) ++ reply_line 4 Continues ++
    reply_line 5 (Indicates (codes "\\x")) ++ reply_line 6 (Refuses AfterEnd) ++ reply_line 7 (Refuses NotInText)
    ≡ codes "1 Script\n2 Plaintext\n3 RawData(Rcdata)\n5 EncodingIndicator \"\\\\x\"\n6 AfterEnd\n7 NotInText\n"
unfolding digits
lines_of_replies = refl
