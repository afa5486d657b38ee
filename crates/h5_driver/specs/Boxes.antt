-- The text of nodes in a box of a page, for any tokenizer.
use Rattle.std.specs.Prelude.{◌≡◌, ◌≢◌, ℕ, true, false, List, [], ◌++◌}
use Rattle.h5_token.specs.TokenText.{TokenText}
use Rattle.h5_interface.specs.Seen.{Seen}
use Rattle.h5_interface.specs.SinkChoices.{SinkChoices}
use Rattle.h5_builder_spec.specs.Run.{View}
use Rattle.h5_builder_laws.specs.Plain.{Around, Flow, IsPlain, Nodes}
use Rattle.h5_builder_laws.specs.Staying.{IsBox, standing}
use Rattle.h5_round_trip.specs.Inside.{StaysRead, text_before}
use Rattle.h5_round_trip.specs.Readable.{CanBeRead}
use Rattle.h5_driver.specs.Parsing.{IsParsing, Parsing, ProcessedAll, joined, text_of, view_of}
use Rattle.h5_driver.specs.Reading.{Parses}
use Rattle.h5_driver.specs.declared.reader.Reader.{Ghosts}

-- what a parser builds from a page is determined by a tokenizer, a builder and a remainder: it is what any reading of the
-- remainder to its end builds, and what is built from the remainder is built from the page
pub record IsBuiltFrom {T : Type 0} (Reads : T → View → List ℕ → List TokenText → View → Type 0) (choices : SinkChoices) (first : T) (view : View) (page : List ℕ) (reader : T) (at : View) (rest : List ℕ) : Type 0 where
  pub builds : (told : Seen) → Parses Reads choices reader at rest told → Parses Reads choices first view page told
  pub only : (told : Seen) → Parses Reads choices first view page told → (tokens : List TokenText) (end : View) → Reads reader at rest tokens end
      → (told.forest ≡ end.world.forest) × (told.quirks ≡ end.world.seen_quirks)

-- A PAGE KEEPS ITS BOX: the beginning of a page was read, up to the data state, over a builder at a box. The page without the nodes
-- is built from the remainder there. The page with their text is built from the remainder in the data state as well, over the
-- same builder, except that the nodes follow the box's children
pub record KeepsBox {T : Type 0} (IsIn : T → Type 0) (Readings : T → View → List ℕ → List TokenText → T → View → List ℕ → Type 0) (Reads : T → View → List ℕ → List TokenText → View → Type 0) (choices : SinkChoices)
    (first : T) (view : View) (front : List ℕ) (reader : T) (at : View) (o : Around) (box : IsBox o at.world) (nodes : Nodes) (rest : List ℕ) : Type 0 where
  pub stays : StaysRead IsIn Readings reader at o box nodes rest
  pub without_nodes : IsBuiltFrom Reads choices first view (front ++ rest) reader at rest
  pub with_nodes : IsBuiltFrom Reads choices first view (front ++ text_before nodes rest) stays.place (standing at stays.forest stays.ok stays.saved) rest

module _ {R S H O : Type 0} (reader : Ghosts R S H O) (choices : SinkChoices) where
  -- so does each page of a parser that has taken its beginning in chunks and hasn't failed
  abbrev pub PagesKeepBoxes : Type 0
  PagesKeepBoxes =
      (chunks : List (List ℕ)) (first now : Parsing R) (o : Around) (box : IsBox o (view_of reader now).world) (nodes : Nodes) (rest : List ℕ)
      → ProcessedAll reader chunks first now → IsParsing reader first → first.failed ≡ false → IsParsing reader now → now.failed ≡ false → now.waiting ≡ []
      → reader.IsInData (text_of reader now) → IsPlain true (Flow false o) nodes → CanBeRead nodes → rest ≢ []
      → KeepsBox reader.IsInData reader.Readings reader.Reads choices (text_of reader first) (view_of reader first) (first.waiting ++ joined chunks)
      (text_of reader now) (view_of reader now) o box nodes rest
