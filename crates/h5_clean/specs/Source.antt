-- A tree as a sequence of calls (HTML standard, section 13.3, "Serializing HTML fragments").
use Rattle.std.specs.Prelude.{ℕ, List, ◌∷◌}
use Rattle.h5_names.specs.AttributeText.{AttributeText}
use Rattle.h5_names.specs.declared.qualified.QualName.{QualName}
use Rattle.h5_builder_spec.specs.formatting.FormattingNames.{html_name}
use Rattle.h5_serialize.specs.Call.{Call, CommentOf, DoctypeOf, EndOf, InstructionOf, StartOf, TextOf}
use Rattle.h5_builder_laws.specs.Plain.{ElementThen as PlainElementThen, End, Nodes, TextThen as PlainTextThen}

-- texts, elements with their content, comments, doctypes and instructions
pub data Source : Type 0 where
  Done : Source
  TextThen : (text : List ℕ) → (rest : Source) → Source
  ElementThen : (name : QualName) → (attrs : List AttributeText) → (inner rest : Source) → Source
  CommentThen : (text : List ℕ) → (rest : Source) → Source
  DoctypeThen : (name : List ℕ) → (rest : Source) → Source
  InstructionThen : (target content : List ℕ) → (rest : Source) → Source

-- its calls, followed by others
abbrev pub calls_before : Source → List Call → List Call
calls_before Done calls = calls
calls_before (TextThen text rest) calls = TextOf text ∷ calls_before rest calls
calls_before (ElementThen name attrs inner rest) calls = StartOf name attrs ∷ calls_before inner (EndOf name ∷ calls_before rest calls)
calls_before (CommentThen text rest) calls = CommentOf text ∷ calls_before rest calls
calls_before (DoctypeThen name rest) calls = DoctypeOf name ∷ calls_before rest calls
calls_before (InstructionThen target content rest) calls = InstructionOf target content ∷ calls_before rest calls

-- a list of nodes as such a tree
abbrev pub source_of : Nodes → Source
source_of End = Done
source_of (PlainTextThen text rest) = TextThen text (source_of rest)
source_of (PlainElementThen name attrs inner rest) = ElementThen (html_name name) attrs (source_of inner) (source_of rest)
