-- A page keeps its box.
use Rattle.std.proofs.Common.{◌≢◌, ◌++◌, ℕ, true, false, List, [], subst}
use Rattle.h5_token.specs.TokenText.{TokenText}
use Rattle.h5_interface.specs.SinkChoices.{SinkChoices}
use Rattle.h5_builder_laws.specs.Plain.{Around, Flow, IsPlain, Nodes}
use Rattle.h5_builder_laws.specs.Staying.{IsBox, tokens_of}
use Rattle.h5_tokenizer_input.specs.declared.options.TokenizerOpts.{TokenizerOpts}
use Rattle.h5_round_trip.specs.Inside.{TextsStayRead, text_before}
use Rattle.h5_round_trip.specs.Readable.{CanBeRead}
use Rattle.h5_builder_spec.specs.Run.{View}
use Rattle.h5_driver.specs.Boxes.{IsBuiltFrom, KeepsBox, PagesKeepBoxes}
use Rattle.h5_driver.specs.Parsing.{joined, text_of, view_of}
use Rattle.h5_driver.specs.Reading.{Advances}
use Rattle.h5_driver.specs.inner.Readings.{AreReadings}
use Rattle.h5_driver.specs.inner.Working.{IsReady}
use Rattle.h5_driver.specs.declared.reader.Reader.{Ghosts}
use Rattle.h5_driver.proofs.ReadingLaws.{followed_by, nothing_read, parses_behind, read_further}
use Rattle.h5_driver.proofs.StreamLaws.{advance}

module _ {T : Type 0} {choices : SinkChoices} {first : TokenizerOpts → T} {Readings : T → View → List ℕ → List TokenText → T → View → List ℕ → Type 0} {Reads : T → View → List ℕ → List TokenText → View → Type 0}
    (law : AreReadings choices first Readings Reads) where
  -- what was read decides, with the remainder, what is built
  built_from : {r s : T} {v w : View} {page rest : List ℕ} → IsReady v → Advances Readings r v page s w rest → IsBuiltFrom Reads choices r v page s w rest
  built_from {r = r} {s = s} {v = v} {w = w} {page = page} {rest = rest} ready a = record {
    builds = λ told h. parses_behind law ready a h;
    only = λ told h tokens end reads. (h.any (a.tokens ++ tokens) end (law.to_end r s v w end page rest a.tokens tokens a.readings reads)).1;
  }

  keeps_box : {IsIn : T → Type 0} → TextsStayRead IsIn Readings → {r s : T} {v w : View} {front : List ℕ} (o : Around) (box : IsBox o w.world) (nodes : Nodes) (rest : List ℕ)
      → IsReady v → Advances Readings r v front s w [] → IsReady w → IsIn s → IsPlain true (Flow false o) nodes → CanBeRead nodes → rest ≢ []
      → KeepsBox IsIn Readings Reads choices r v front s w o box nodes rest
  keeps_box stay {s = s} {w = w} o box nodes rest ready a now h plain readable some =
      let kept = stay s w o box nodes rest h now.fitting now.unended now.unfailed plain readable some in
      record {
        stays = kept;
        without_nodes = built_from ready (followed_by law rest a);
        with_nodes = built_from ready (read_further law (followed_by law (text_before nodes rest) a) (record { tokens = tokens_of nodes; readings = kept.reads }));
      }

module _ {R S H O : Type 0} (reader : Ghosts R S H O) {choices : SinkChoices} (law : AreReadings choices reader.first reader.Readings reader.Reads) where
  pub pages_keep_boxes : TextsStayRead reader.IsInData reader.Readings → PagesKeepBoxes reader choices
  pages_keep_boxes stay chunks first now o box nodes rest took was unfailed_then is unfailed none h plain readable some =
      let begun = nothing_read law (text_of reader first) (view_of reader first) first.waiting in
      let a = advance reader law (text_of reader first) (view_of reader first) first.waiting chunks first now begun took in
      let read = subst (λ ys. Advances reader.Readings (text_of reader first) (view_of reader first) (first.waiting ++ joined chunks) (text_of reader now) (view_of reader now) ys) none a in
      keeps_box law stay o box nodes rest (was.works unfailed_then).ready read (is.works unfailed).ready h plain readable some
