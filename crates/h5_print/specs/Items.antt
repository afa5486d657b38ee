-- The items of a text: tokens, each with the number of its first line, and calls of `end`.
use Rattle.std.specs.Prelude.{◌≡◌, ◌+◌, ℕ, List, [], ◌∷◌, ◌++◌, map, Option, Some, None, Result, Ok, Err, Vec, option_and_then, ◌==◌}
use Rattle.std.specs.List.{slice_split}
use Rattle.std.specs.Option.{option_map}
use Rattle.std.specs.declared.alloc.Global.{Global}
use Rattle.h5_token.specs.TokenText.{TokenText, token_text}
use Rattle.h5_print.specs.Parts.{PartText, token_with}
use Rattle.h5_print.specs.Lines.{LineText, IsBlank, TokenIs, PartIs, Ends, line_of}
use Rattle.h5_print.specs.declared.fault.LineFault.{LineFault}
use Rattle.h5_print.specs.declared.fault.LineFault.TheVariants.{Bad, Memory}
use Rattle.h5_print.specs.declared.items.Item.{Item}
use Rattle.h5_print.specs.declared.items.Item.TheVariants as item

pub data ItemText : Type 0 where
  TokenAt : (token : TokenText) (line : ℕ) → ItemText
  TheEnd : ItemText

-- an item, independent of where its texts are in memory
abbrev pub item_text : Item → ItemText
item_text (item.Token token line) = TokenAt (token_text token) line
item_text item.End = TheEnd

abbrev pub item_texts : List Item → List ItemText
item_texts = map item_text

-- a part is added to the token of the last item
abbrev pub item_with : PartText → ItemText → Option ItemText
item_with p (TokenAt token line) = option_map (λ t. TokenAt t line) (token_with token p)
item_with p TheEnd = None

abbrev pub with_last : (ItemText → Option ItemText) → List ItemText → Option (List ItemText)
with_last change [] = None
with_last change (x ∷ []) = option_map (λ y. y ∷ []) (change x)
with_last change (x ∷ y ∷ xs) = option_map (λ ys. x ∷ ys) (with_last change (y ∷ xs))

-- items, with the effect of the line with this number
abbrev pub items_with : List ItemText → ℕ → LineText → Option (List ItemText)
items_with items n IsBlank = Some items
items_with items n (TokenIs token) = Some (items ++ TokenAt token n ∷ [])
items_with items n (PartIs p) = with_last (item_with p) items
items_with items n Ends = Some (items ++ TheEnd ∷ [])

-- a line that is bad, itself or at its place, ends the parsing with its number
abbrev pub go_on : (List ItemText → Result (List ItemText) ℕ) → ℕ → Option (List ItemText) → Result (List ItemText) ℕ
go_on more n None = Err n
go_on more n (Some items) = more items

-- as above, for the text of a line
abbrev pub items_read : List ItemText → ℕ → List ℕ → Option (List ItemText)
items_read items n l = option_and_then (items_with items n) (line_of l)

abbrev pub items_from : ℕ → List ItemText → List (List ℕ) → Result (List ItemText) ℕ
items_from n items [] = Ok items
items_from n items (l ∷ ls) = go_on (λ more. items_from (n + 1) more ls) n (items_read items n l)

-- the items of a text, or the number of its first bad line; LF ends a line
abbrev pub items_of : List ℕ → Result (List ItemText) ℕ
items_of text = items_from 1 [] (slice_split (λ c. c == 10) text)

-- the result of parsing, unless an allocation failed
abbrev pub Reads : Result (List ItemText) ℕ → Result (Vec Item Global) LineFault → Type 0
Reads expected (Ok made) = expected ≡ Ok (item_texts made.items)
Reads expected (Err (Bad n)) = expected ≡ Err n
Reads expected (Err Memory) = Unit {0}

-- the items after a line with this number, unless an allocation failed
abbrev pub Takes : Option (List ItemText) → ℕ → List ItemText → Result (Unit {0}) LineFault → Type 0
Takes expected n made (Ok done) = expected ≡ Some made
Takes expected n made (Err (Bad line)) = (expected ≡ None) × (line ≡ n)
Takes expected n made (Err Memory) = Unit {0}
