-- Laws of readings by the standard tokenizer over a builder.
use Rattle.std.specs.Prelude.{◌≡◌, ◌++◌, ℕ, false, List, [], ◌∷◌}
use Rattle.std.proofs.Common.{refl, ap, sym, subst, ◌∙◌, append_assoc, append-nil}
use Rattle.h5_token.specs.TokenText.{TokenText, EndOfFile}
use Rattle.h5_interface.specs.SinkChoices.{SinkChoices}
use Rattle.h5_builder_spec.specs.inner.Kept.{IsFitting}
use Rattle.h5_builder_spec.specs.Run.{View, after_all, after_token, run}
use Rattle.h5_builder_laws.proofs.cuts.JoinLaws.{view_joins}
use Rattle.h5_builder_laws.proofs.cuts.RunLaws.{token_cut}
use Rattle.h5_builder_laws.proofs.kept.FittingLaws.{token_fitting}
use Rattle.h5_builder_laws.specs.Staying.{standing, tokens_of}
use Rattle.h5_tokenizer_input.proofs.AnswerLaws.{unrefused}
use Rattle.h5_tokenizer_input.specs.Told as told
use Rattle.h5_tokenizer_spec.specs.End.{last_tokens}
use Rattle.h5_tokenizer_spec.specs.ReferenceTable.{references}
use Rattle.h5_tokenizer_spec.specs.Reading.{ReaderPlace}
use Rattle.h5_tokenizer_spec.specs.Whole.{Readings, ReadsToEnd, more_reading, no_reading}
use Rattle.h5_round_trip.proofs.standard.InsideLaws.{read_runs, texts_stay}
use Rattle.h5_round_trip.proofs.standard.ReadingLaws.{document_read, fragment_read}
use Rattle.h5_round_trip.proofs.ShapeLaws.{shape}
use Rattle.h5_round_trip.specs.Inside.{TextsStayRead, text_before}
use Rattle.h5_standard_tokenizer.specs.Mark.{behind_mark}
use Rattle.h5_standard_tokenizer.specs.Options.{first_place}
use Rattle.h5_standard_tokenizer.specs.ReaderText.{ReaderText}
use Rattle.h5_tokenizer_spec.proofs.ReadLaws.{read_goes_on}
use Rattle.h5_tokenizer_input.specs.Options.{default_options}
use Rattle.h5_driver.specs.KeptReadings.{readings_agree}
use Rattle.h5_driver.specs.inner.Readings.{AreReadings}
use Rattle.h5_driver.specs.StandardReader as reader
use Rattle.h5_driver.specs.StandardReader.{ahead}
use Rattle.h5_driver.specs.BuilderSink.{after, ended, foreign, replies}

-- readings from a place, and a text that is read to its end
abbrev ReadingsAt : SinkChoices → ReaderPlace → View → List ℕ → List TokenText → ReaderPlace → View → List ℕ → Type 0
ReadingsAt choices p v xs ts q w ys = Readings references (replies choices) (after choices) foreign p v xs ts q w ys

abbrev ReadsAt : SinkChoices → ReaderPlace → View → List ℕ → List TokenText → View → Type 0
ReadsAt choices p v xs ts n = ReadsToEnd references (replies choices) (after choices) foreign (ended choices) p v xs ts n

-- the meaning afterwards is what the run of the tokens leaves
readings_run : (choices : SinkChoices) {p q : ReaderPlace} {m n : View} {xs ys : List ℕ} {ts : List TokenText} → ReadingsAt choices p m xs ts q n ys → n ≡ after_all choices ts m
unfolding run
readings_run choices no_reading = refl
readings_run choices {m = m} (more_reading {ts = ts} {us = us} r s g) = read_runs choices s ∙ ap (after_all choices us) (readings_run choices r) ∙ sym (view_joins choices ts us m)

same_run : (choices : SinkChoices) (ts : List TokenText) (line : ℕ) (v : View) → told.after_all (after choices) v ts line ≡ after_all choices ts v
unfolding run
same_run choices [] line v = refl
same_run choices (t ∷ ts) line v = same_run choices ts line (after_token choices t v)

-- a reading to the end leaves what the run of its tokens, and then the end, leave
reads_run : (choices : SinkChoices) (p : ReaderPlace) (m : View) (xs : List ℕ) (ts : List TokenText) (n : View) → ReadsAt choices p m xs ts n → n ≡ ended choices (after_all choices ts m)
unfolding run
reads_run choices p m xs ts n r =
    let last = last_tokens references r.place in
    let all = last ++ EndOfFile ∷ [] in
    r.closed
    ∙ ap (λ v. ended choices (after_token choices EndOfFile v)) (same_run choices last r.place.began r.meaning)
    ∙ ap (ended choices) (sym (view_joins choices last (EndOfFile ∷ []) r.meaning))
    ∙ ap (λ v. ended choices (after_all choices all v)) (readings_run choices r.readings)
    ∙ ap (ended choices) (sym (view_joins choices r.handed all m)) ∙ ap (λ x. ended choices (after_all choices x m)) (sym r.tokens)

-- one list of readings, and then another
chain : (choices : SinkChoices) {p q r : ReaderPlace} {m n o : View} {xs ys zs : List ℕ} {ts us : List TokenText} → ReadingsAt choices p m xs ts q n ys → ReadingsAt choices q n ys us r o zs → ReadingsAt choices p m xs (ts ++ us) r o zs
chain choices {p = p} {q = q} {m = m} {n = n} {xs = xs} {ys = ys} {ts = ts} a no_reading = subst (λ x. ReadingsAt choices p m xs x q n ys) (sym (append-nil ts)) a
chain choices {p = p} {r = r} {m = m} {o = o} {xs = xs} {zs = zs} {ts = ts} a (more_reading {ts = us} {us = vs} b s g) =
    subst (λ x. ReadingsAt choices p m xs x r o zs) (append_assoc ts us vs) (more_reading (chain choices a b) s g)

-- what was read before, and then the remaining input
reads_behind : (choices : SinkChoices) {p q : ReaderPlace} {m n o : View} {xs ys : List ℕ} {ts us : List TokenText} → ReadingsAt choices p m xs ts q n ys → ReadsAt choices q n ys us o → ReadsAt choices p m xs (ts ++ us) o
reads_behind choices {ts = ts} a r = record {
  handed = ts ++ r.handed;
  place = r.place;
  meaning = r.meaning;
  readings = chain choices a r.readings;
  tokens = ap (λ x. ts ++ x) r.tokens ∙ sym (append_assoc ts r.handed (last_tokens references r.place ++ EndOfFile ∷ []));
  closed = r.closed;
}

pub are_readings : (choices : SinkChoices) → AreReadings choices reader.first (reader.Readings choices) (reader.Reads choices)
are_readings choices = record {
  nothing = λ r v xs more. no_reading;
  followed = λ r s v w xs ys ts text h more.
      subst (λ zs. ReadingsAt choices r.place v (ahead r zs) ts s.place w (ahead s ((ys ++ text) ++ more))) (sym (append_assoc xs text more))
      (subst (λ zs. ReadingsAt choices r.place v (ahead r (xs ++ (text ++ more))) ts s.place w (ahead s zs)) (sym (append_assoc ys text more)) (h (text ++ more)));
  chained = λ r s t v w x xs ys zs ts us a b more. chain choices (a more) (b more);
  to_end = λ r s v w n xs ys ts us a h.
      let before : ReadingsAt choices r.place v (ahead r xs) ts s.place w (ahead s ys) =
      subst (λ zs. ReadingsAt choices r.place v (ahead r xs) ts s.place w (ahead s zs)) (append-nil ys)
      (subst (λ zs. ReadingsAt choices r.place v (ahead r zs) ts s.place w (ahead s (ys ++ []))) (append-nil xs) (a [])) in
      reads_behind choices before h;
  runs = λ r v n xs ts h. reads_run choices r.place v (ahead r xs) ts n h;
  agree = λ r v n o xs ts us ready a b.
      readings_agree references (replies choices) (after choices) foreign IsFitting (λ w t line h. token_fitting choices t w h) (ended choices) (λ w t k l. refl) (λ w x y ys zs j k l h. token_cut choices x ys y zs w h) (record { fitting = λ f e. ready.fitting }) a b;
  documents = λ d v readable answers. document_read (replies choices) (after choices) foreign (ended choices) d v readable answers;
  fragments = λ nodes v plain readable unmarked cuts answers.
      let r = fragment_read (replies choices) (after choices) foreign (ended choices) nodes v (shape nodes plain) readable cuts answers in
      (r.tokens, (r.joined, (r.meaning, subst (λ xs. ReadsAt choices (first_place default_options) v xs r.tokens r.meaning) (sym unmarked) r.reads)));
}

-- the text of nodes stays in its box, whatever follows the remainder
pub texts_stay_here : (choices : SinkChoices) → TextsStayRead reader.IsInData (reader.Readings choices)
texts_stay_here choices r v o b nodes rest h fits unended unfailed plain readable some =
    let s = texts_stay choices foreign r.place v o b nodes rest h.place fits unended unfailed plain readable some in
    let now : ReaderText = record { at_start = false; place = s.place; stage = r.stage } in
    let text = text_before nodes rest in
    record {
      place = now;
      is_in = record { started = refl; place = s.is_in };
      forest = s.forest;
      ok = s.ok;
      saved = s.saved;
      reads = λ more.
          subst (λ b. ReadingsAt choices r.place v (behind_mark b (text ++ more)) (tokens_of nodes) s.place (standing v s.forest s.ok s.saved) (rest ++ more)) (sym h.started)
          (more_reading no_reading (read_goes_on references (replies choices) (after choices) foreign more s.reads.1.1) (unrefused s.reads.0 s.reads.1.0));
      added = s.added;
      looks = s.looks;
      stands = s.stands;
      changes = s.changes;
    }
