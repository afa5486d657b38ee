-- Chunks of bytes that were taken one after another are one text that was read.
use Rattle.std.proofs.Common.{◌≡◌, ◌++◌, ℕ, List, [], ◌∷◌, Result, IfOk, Ok, Err, ap, sym, subst, ◌∙◌, append_assoc, append-nil}
use Rattle.std.specs.Str.Lossy.{utf8_lossy}
use Rattle.h5_token.specs.declared.fault.BuildFault.{BuildFault}
use Rattle.h5_interface.specs.Seen.{Seen}
use Rattle.h5_interface.specs.SinkChoices.{SinkChoices}
use Rattle.h5_tokenizer_input.specs.Decoding.{Decodes}
use Rattle.h5_tokenizer_input.proofs.DecodingLaws.{decodes_before, decodes_then}
use Rattle.h5_driver.specs.Bytes.{AdvancesBytes, ParsingBytes, ProcessedAllBytes, ProcessedBytes}
use Rattle.h5_driver.specs.Parsing.{Parsing, joined, text_of, view_of}
use Rattle.h5_driver.specs.Reading.{Advances, Parses}
use Rattle.h5_driver.specs.inner.Readings.{AreReadings}
use Rattle.h5_driver.specs.inner.Working.{IsReady}
use Rattle.h5_driver.specs.declared.reader.Reader.{Ghosts}
use Rattle.h5_driver.proofs.ReadingLaws.{followed_by, nothing_read, parses_behind, piece_taken}

module _ {R S H O : Type 0} (reader : Ghosts R S H O) {choices : SinkChoices} (law : AreReadings choices reader.first reader.Readings reader.Reads) where
  -- what a parser makes from a text
  abbrev ParsesText : Parsing R → List ℕ → Seen → Type 0
  ParsesText p xs told = Parses reader.Reads choices (text_of reader p) (view_of reader p) xs told

  -- from what waits, with more bytes after it
  abbrev ParsesWith : ParsingBytes R → List ℕ → Seen → Type 0
  ParsesWith p bytes told = ParsesText p.parser (p.parser.waiting ++ utf8_lossy (p.unfinished ++ bytes)) told

  -- from what waits, and an unfinished character
  abbrev ParsesRest : ParsingBytes R → Seen → Type 0
  ParsesRest p told = ParsesText p.parser (p.parser.waiting ++ utf8_lossy p.unfinished) told

  -- some of an input was read, from one parser up to another
  abbrev FromTo : ParsingBytes R → List ℕ → ParsingBytes R → List ℕ → Type 0
  FromTo p xs q ys = Advances reader.Readings (text_of reader p.parser) (view_of reader p.parser) xs (text_of reader q.parser) (view_of reader q.parser) ys

  pub nothing_taken : (p : ParsingBytes R) → AdvancesBytes reader [] p p
  nothing_taken p = record {
    text = [];
    decodes = λ more. ap (λ t. utf8_lossy (t ++ more)) (append-nil p.unfinished);
    advances = subst (λ xs. FromTo p xs p p.parser.waiting) (sym (append-nil p.parser.waiting)) (nothing_read law (text_of reader p.parser) (view_of reader p.parser) p.parser.waiting);
  }

  pub chunk_taken : (bytes chunk : List ℕ) (first old new : ParsingBytes R) → AdvancesBytes reader bytes first old → ProcessedBytes reader chunk old new → AdvancesBytes reader (bytes ++ chunk) first new
  chunk_taken bytes chunk first old new a took =
      let before = subst (λ bs. Decodes bs a.text (old.unfinished ++ chunk)) (append_assoc first.unfinished bytes chunk) (decodes_before (first.unfinished ++ bytes) a.text old.unfinished chunk a.decodes) in
      record {
        text = a.text ++ took.text;
        decodes = decodes_then (first.unfinished ++ (bytes ++ chunk)) a.text (old.unfinished ++ chunk) took.text new.unfinished before took.decoded.decodes;
        advances = subst (λ xs. FromTo first xs new new.parser.waiting) (append_assoc first.parser.waiting a.text took.text)
            (piece_taken law took.text a.advances took.processed.advances took.processed.none_waits);
      }

  -- and then the end
  pub bytes_parsed : (bytes : List ℕ) (first last : ParsingBytes R) (told : Seen) → IsReady (view_of reader first.parser) → AdvancesBytes reader bytes first last → ParsesRest last told → ParsesWith first bytes told
  bytes_parsed bytes first last told ready a parses =
      let tail = utf8_lossy last.unfinished in
      let waiting = first.parser.waiting in
      let whole : utf8_lossy (first.unfinished ++ bytes) ≡ a.text ++ tail =
      ap utf8_lossy (sym (append-nil (first.unfinished ++ bytes))) ∙ a.decodes [] ∙ ap (λ t. a.text ++ utf8_lossy t) (append-nil last.unfinished) in
      subst (λ xs. ParsesText first.parser xs told) (append_assoc waiting a.text tail ∙ ap (λ t. waiting ++ t) (sym whole)) (parses_behind law ready (followed_by law tail a.advances) parses)

  pub told_of_bytes : {O : Type 0} (tells : O → Seen) (bytes : List ℕ) (first last : ParsingBytes R) → IsReady (view_of reader first.parser) → AdvancesBytes reader bytes first last
      → (result : Result O BuildFault) → IfOk result (λ o. ParsesRest last (tells o)) → IfOk result (λ o. ParsesWith first bytes (tells o))
  told_of_bytes tells bytes first last ready a (Ok o) parses = bytes_parsed bytes first last (tells o) ready a parses
  told_of_bytes tells bytes first last ready a (Err f) parses = parses

  all_taken : (chunks : List (List ℕ)) (bytes : List ℕ) (first old new : ParsingBytes R) → AdvancesBytes reader bytes first old → ProcessedAllBytes reader chunks old new → AdvancesBytes reader (bytes ++ joined chunks) first new
  all_taken [] bytes first old new a e = subst (λ bs. AdvancesBytes reader bs first new) (sym (append-nil bytes)) (subst (AdvancesBytes reader bytes first) e a)
  all_taken (chunk ∷ chunks) bytes first old new a (now, (took, rest)) =
      subst (λ bs. AdvancesBytes reader bs first new) (append_assoc bytes chunk (joined chunks)) (all_taken chunks (bytes ++ chunk) first now new (chunk_taken bytes chunk first old now a took) rest)

  pub chunks_streamed : (chunks : List (List ℕ)) (first last : ParsingBytes R) (told : Seen) → ProcessedAllBytes reader chunks first last → ParsesRest last told → ParsesWith first (joined chunks) told
  chunks_streamed [] first last told e parses =
      subst (λ bs. ParsesText first.parser (first.parser.waiting ++ utf8_lossy bs) told) (sym (append-nil first.unfinished)) (subst (λ (p : ParsingBytes R). ParsesRest p told) (sym e) parses)
  chunks_streamed (chunk ∷ chunks) first last told (now, (took, rest)) parses =
      bytes_parsed (joined (chunk ∷ chunks)) first last told took.processed.worked.ready (all_taken (chunk ∷ chunks) [] first first last (nothing_taken first) (now, (took, rest))) parses
