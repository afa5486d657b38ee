-- Chunks that were taken one after another are one text that was read.
use Rattle.std.proofs.Common.{◌++◌, ℕ, List, [], ◌∷◌, sym, subst, append_assoc, append-nil}
use Rattle.h5_interface.specs.Seen.{Seen}
use Rattle.h5_interface.specs.SinkChoices.{SinkChoices}
use Rattle.h5_builder_spec.specs.Run.{View}
use Rattle.h5_driver.specs.Parsing.{Parsing, ProcessedAll, joined, text_of, view_of}
use Rattle.h5_driver.specs.Reading.{Advances, Parses}
use Rattle.h5_driver.specs.inner.Readings.{AreReadings}
use Rattle.h5_driver.specs.declared.reader.Reader.{Ghosts}
use Rattle.h5_driver.proofs.ReadingLaws.{nothing_read, parses_behind, piece_taken}

module _ {R S H O : Type 0} (reader : Ghosts R S H O) {choices : SinkChoices} (law : AreReadings choices reader.first reader.Readings reader.Reads) where
  -- what was read from a tokenizer, a view and an input, up to this parser
  abbrev pub UpTo : reader.Text → View → List ℕ → Parsing R → Type 0
  UpTo r v xs p = Advances reader.Readings r v xs (text_of reader p) (view_of reader p) p.waiting

  pub advance : (r : reader.Text) (v : View) (xs : List ℕ) (texts : List (List ℕ)) (old new : Parsing R) → UpTo r v xs old → ProcessedAll reader texts old new → UpTo r v (xs ++ joined texts) new
  advance r v xs [] old new a e = subst (λ ys. UpTo r v ys new) (sym (append-nil xs)) (subst (UpTo r v xs) e a)
  advance r v xs (text ∷ texts) old new a (now, (took, rest)) =
      subst (λ ys. UpTo r v ys new) (append_assoc xs text (joined texts)) (advance r v (xs ++ text) texts now new (piece_taken law text a took.advances took.none_waits) rest)

  -- what a parser makes from what waits, with a text after it
  abbrev ParsesWith : Parsing R → List ℕ → Seen → Type 0
  ParsesWith p xs told = Parses reader.Reads choices (text_of reader p) (view_of reader p) xs told

  pub streamed : (texts : List (List ℕ)) (first last : Parsing R) (told : Seen) → ProcessedAll reader texts first last → ParsesWith last last.waiting told → ParsesWith first (first.waiting ++ joined texts) told
  streamed [] first last told e parses = subst (λ ys. ParsesWith first ys told) (sym (append-nil first.waiting)) (subst (λ (p : Parsing R). ParsesWith p p.waiting told) (sym e) parses)
  streamed (text ∷ texts) first last told (now, (took, rest)) parses =
      parses_behind law took.worked.ready
      (advance (text_of reader first) (view_of reader first) first.waiting (text ∷ texts) first last (nothing_read law (text_of reader first) (view_of reader first) first.waiting) (now, (took, rest))) parses
