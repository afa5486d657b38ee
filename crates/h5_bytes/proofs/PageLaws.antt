-- Chunks of a page that were taken one after another are one text that was read.
use Rattle.std.proofs.Common.{◌≡◌, ◌++◌, ℕ, List, [], ◌∷◌, Option, Some, None, Result, IfOk, OnOk, Ok, Err, sym, subst, append_assoc, append-nil}
use Rattle.h5_token.specs.declared.fault.BuildFault.{BuildFault}
use Rattle.h5_interface.specs.Seen.{Seen}
use Rattle.h5_interface.specs.SinkChoices.{SinkChoices}
use Rattle.h5_encodings.specs.declared.sniffing.EncodingOpts.{EncodingOpts}
use Rattle.h5_driver.specs.Parsing.{Parsing, Processed, joined, text_of, view_of}
use Rattle.h5_driver.specs.inner.Readings.{AreReadings}
use Rattle.h5_driver.specs.Reading.{Parses}
use Rattle.h5_driver.specs.declared.reader.Reader.{Ghosts}
use Rattle.h5_driver.proofs.ReadingLaws.{followed_by, parses_behind}
use Rattle.h5_bytes.specs.Parsing.{IsHanded, ParsingPage, ProcessedAllBytes, ProcessedBytes}
use Rattle.h5_bytes.specs.Texts.{text_behind, text_in}

-- a chunk of text was passed
pub handed_on : {P Q : Type 0} (result : Result (Unit {0}) BuildFault) → (P → Q) → OnOk result P → OnOk result Q
handed_on (Ok tt) f p = f p
handed_on (Err fault) f p = p

module _ {R S H O : Type 0} (reader : Ghosts R S H O) {choices : SinkChoices} (law : AreReadings choices reader.first reader.Readings reader.Reads) where
  -- what a parser makes from what waits, with a text after it
  abbrev ParsesText : Parsing R → List ℕ → Seen → Type 0
  ParsesText p text told = Parses reader.Reads choices (text_of reader p) (view_of reader p) (p.waiting ++ text) told

  -- and with the text of bytes
  abbrev ParsesBytes : ParsingPage R → List ℕ → Seen → Type 0
  ParsesBytes p bytes told = ParsesText p.parser (text_behind p.opts p.stage bytes) told

  -- a chunk of text was taken, and then the remaining text
  piece_parsed : (text rest : List ℕ) (old new : Parsing R) (told : Seen) → Processed reader text old new → ParsesText new rest told → ParsesText old (text ++ rest) told
  piece_parsed text rest old new told took parses =
      let none : List ℕ → Type 0 = λ waiting. Parses reader.Reads choices (text_of reader new) (view_of reader new) (waiting ++ rest) told in
      subst (λ xs. Parses reader.Reads choices (text_of reader old) (view_of reader old) xs told) (append_assoc old.waiting text rest)
      (parses_behind law took.worked.ready (followed_by law rest took.advances) (subst none took.none_waits parses))

  handed_parsed : (piece : Option (List ℕ)) (rest : List ℕ) (old new : Parsing R) (told : Seen) → IsHanded reader piece old new → ParsesText new rest told → ParsesText old (text_in piece ++ rest) told
  handed_parsed None rest old new told same parses = subst (λ (p : Parsing R). ParsesText p rest told) same parses
  handed_parsed (Some text) rest old new told took parses = piece_parsed text rest old new told took parses

  pub chunk_parsed : (bytes more : List ℕ) (old new : ParsingPage R) (told : Seen) → ProcessedBytes reader bytes old new → ParsesBytes new more told → ParsesBytes old (bytes ++ more) told
  chunk_parsed bytes more old new told took parses =
      subst (λ text. ParsesText old.parser text told) (sym (took.takes.text more))
      (handed_parsed took.piece (text_behind old.opts new.stage more) old.parser new.parser told took.handed
      (subst (λ (opts : EncodingOpts). ParsesText new.parser (text_behind opts new.stage more) told) took.opts parses))

  -- and then the end
  pub told_of_bytes : {O : Type 0} (tells : O → Seen) (bytes : List ℕ) (old new : ParsingPage R) → ProcessedBytes reader bytes old new
      → (result : Result O BuildFault) → IfOk result (λ o. ParsesBytes new [] (tells o)) → IfOk result (λ o. ParsesBytes old bytes (tells o))
  told_of_bytes tells bytes old new took (Ok o) parses = subst (λ bs. ParsesBytes old bs (tells o)) (append-nil bytes) (chunk_parsed bytes [] old new (tells o) took parses)
  told_of_bytes tells bytes old new took (Err f) parses = parses

  pub told_of_text : {O : Type 0} (tells : O → Seen) (text rest whole : List ℕ) (old new : Parsing R) → Processed reader text old new → whole ≡ text ++ rest
      → (result : Result O BuildFault) → IfOk result (λ o. ParsesText new rest (tells o)) → IfOk result (λ o. ParsesText old whole (tells o))
  told_of_text tells text rest whole old new took same (Ok o) parses = subst (λ t. ParsesText old t (tells o)) (sym same) (piece_parsed text rest old new (tells o) took parses)
  told_of_text tells text rest whole old new took same (Err f) parses = parses

  pub chunks_parsed : (chunks : List (List ℕ)) (first last : ParsingPage R) (told : Seen) → ProcessedAllBytes reader chunks first last → ParsesBytes last [] told → ParsesBytes first (joined chunks) told
  chunks_parsed [] first last told same parses = subst (λ (p : ParsingPage R). ParsesBytes p [] told) (sym same) parses
  chunks_parsed (bytes ∷ chunks) first last told (now, (took, rest)) parses =
      chunk_parsed bytes (joined chunks) first now told took (chunks_parsed chunks now last told rest parses)
