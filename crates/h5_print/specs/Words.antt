-- The first words of lines.
use Rattle.std.specs.Prelude.{ℕ, List, [], ◌∷◌, Option, Some, None, ◌==◌, if◌then◌else◌, bytes_eq, codes}
use Rattle.h5_print.specs.declared.words.Word.{Word}
use Rattle.h5_print.specs.declared.words.Word.TheVariants.{Doctype, PublicId, SystemId, ForceQuirks, StartTag, EndTag, Attribute, SelfClosing, Text, Comment, Null, ParseError, EndOfFile, End}

-- the text up to the first space, and the text after that space, if there is one
pub record Cut : Type 0 where
  pub word : List ℕ
  pub operand : Option (List ℕ)

abbrev pub cut : List ℕ → Cut
cut [] = record { word = []; operand = None }
cut (c ∷ cs) =
    if c == 32 then record { word = []; operand = Some cs }
    else record { word = c ∷ (cut cs).word; operand = (cut cs).operand }

-- the word with this text
abbrev pub word_of : List ℕ → Option Word
word_of w =
    if bytes_eq w (codes "D") then Some Doctype
    else (if bytes_eq w (codes "Dp") then Some PublicId
    else (if bytes_eq w (codes "Ds") then Some SystemId
    else (if bytes_eq w (codes "Dq") then Some ForceQuirks
    else (if bytes_eq w (codes "S") then Some StartTag
    else (if bytes_eq w (codes "E") then Some EndTag
    else (if bytes_eq w (codes "A") then Some Attribute
    else (if bytes_eq w (codes "/") then Some SelfClosing
    else (if bytes_eq w (codes "T") then Some Text
    else (if bytes_eq w (codes "C") then Some Comment
    else (if bytes_eq w (codes "N") then Some Null
    else (if bytes_eq w (codes "P") then Some ParseError
    else (if bytes_eq w (codes "Z") then Some EndOfFile
    else (if bytes_eq w (codes "X") then Some End
    else None)))))))))))))
