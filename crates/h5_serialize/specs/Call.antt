-- The six calls of a serializer, independent of where their texts are in memory.
use Rattle.std.specs.Prelude.{ℕ, List}
use Rattle.h5_names.specs.AttributeText.{AttributeText}
use Rattle.h5_names.specs.declared.qualified.QualName.{QualName}

pub data Call : Type 0 where
  StartOf : (name : QualName) (attrs : List AttributeText) → Call
  EndOf : (name : QualName) → Call
  TextOf : (text : List ℕ) → Call
  CommentOf : (text : List ℕ) → Call
  DoctypeOf : (name : List ℕ) → Call
  InstructionOf : (target content : List ℕ) → Call
