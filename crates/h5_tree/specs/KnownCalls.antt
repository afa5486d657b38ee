-- Calls that a block returns as they were: their names are known, and their texts are UTF-8. A block stores any other namespace or prefix
-- as unknown, and reads it as none; it reads bytes that aren't UTF-8 as an empty text.
use Rattle.std.specs.Prelude.{All, List, [], ◌∷◌, None, Option, Some, codes, ℕ}
use Rattle.std.specs.List.{Contains}
use Rattle.std.specs.Option.{option_map_or}
use Rattle.std.specs.Str.{IsUtf8}
use Rattle.h5_names.specs.AttributeText.{AttributeText}
use Rattle.h5_names.specs.Urls.{html_text, mathml_text, svg_text, xlink_text, xml_text, xmlns_text}
use Rattle.h5_names.specs.declared.qualified.QualName.{QualName}
use Rattle.h5_serialize.specs.Call.{Call, CommentOf, DoctypeOf, EndOf, InstructionOf, StartOf, TextOf}
use Rattle.h5_serialize.specs.declared.options.TraversalScope.TheVariants.{ChildrenOnly}
use Rattle.h5_arena.specs.ArenaModel.{ArenaView, forest_seen, fragment_root}
use Rattle.h5_arena.specs.NodeCalls.{walk_of}

-- a namespace is that of HTML, MathML, SVG, XLink, XML or XMLNS, or there is none
abbrev pub IsKnownNamespace : List ℕ → Type 0
IsKnownNamespace ns = Contains (html_text ∷ mathml_text ∷ svg_text ∷ xlink_text ∷ xml_text ∷ xmlns_text ∷ [] ∷ []) ns

-- a prefix is xlink, xml or xmlns, or there is none
abbrev pub IsKnownPrefix : Option (List ℕ) → Type 0
IsKnownPrefix prefix = Contains (None ∷ Some (codes "xlink") ∷ Some (codes "xml") ∷ Some (codes "xmlns") ∷ []) prefix

-- a name has such a prefix and such a namespace, and its local name is UTF-8
pub record IsKnownName (name : QualName) : Type 0 where
  pub prefix : IsKnownPrefix name.prefix
  pub namespace : IsKnownNamespace name.ns
  pub local : IsUtf8 name.local

abbrev pub IsKnownAttribute : AttributeText → Type 0
IsKnownAttribute a = IsKnownName a.name × IsUtf8 a.value

-- all names in a call are known, and all texts UTF-8
abbrev pub IsKnownCall : Call → Type 0
IsKnownCall (StartOf name attrs) = IsKnownName name × All IsKnownAttribute attrs
IsKnownCall (EndOf name) = IsKnownName name
IsKnownCall (TextOf text) = IsUtf8 text
IsKnownCall (CommentOf text) = IsUtf8 text
IsKnownCall (DoctypeOf name) = IsUtf8 name
IsKnownCall (InstructionOf target content) = IsUtf8 target × IsUtf8 content

-- the calls of a walk are known
abbrev pub AreKnownCalls : List Call → Type 0
AreKnownCalls = All IsKnownCall

-- the calls of everything below the root of a fragment; none if there is no root
abbrev pub fragment_walk : ArenaView → List Call
fragment_walk a = option_map_or (λ root. walk_of (forest_seen a) root (ChildrenOnly None)) (fragment_root a) []
