-- Errors over a builder don't depend on how a text is split.
use Rattle.std.proofs.Common.{[], refl}
use Rattle.h5_interface.specs.SinkChoices.{SinkChoices}
use Rattle.h5_builder_spec.specs.inner.Kept.{IsFitting}
use Rattle.h5_builder_spec.specs.Run.{View}
use Rattle.h5_builder_laws.proofs.cuts.RunLaws.{token_cut}
use Rattle.h5_builder_laws.proofs.kept.FittingLaws.{token_fitting}
use Rattle.h5_builder_laws.proofs.StartLaws.{all_none}
use Rattle.h5_builder_laws.specs.Rebuilding.{with_scripting}
use Rattle.h5_tokenizer_input.specs.Options.{default_options as of_reader}
use Rattle.h5_round_trip.proofs.standard.ReadingLaws.{document_tells_nothing}
use Rattle.h5_round_trip.specs.Written.{written_of}
use Rattle.h5_standard_tokenizer.specs.Options.{first_place}
use Rattle.h5_tokenizer_spec.proofs.WholeLaws.{end_ends}
use Rattle.h5_tokenizer_spec.specs.ReferenceTable.{references}
use Rattle.h5_tree_builder.proofs.BuilderLaws.{fits_first}
use Rattle.h5_tree_builder.specs.Builder.{first_building}
use Rattle.h5_driver.specs.ErrorReports.{BuildsTheSame, DocumentsHaveNone, TextsHaveOneList}
use Rattle.h5_driver.specs.KeptReadings.{readings_agree}
use Rattle.h5_driver.specs.inner.Working.{IsReady}
use Rattle.h5_driver.specs.BuilderSink.{after, ended, foreign, replies}
use Rattle.h5_driver.proofs.KeptTellings.{tellings_agree, tellings_read}
use Rattle.h5_driver.proofs.PlainLaws.{document_answers}

fitting : (v : View) → IsReady v → IsFitting v
fitting v ready = record { fitting = λ f e. ready.fitting }

pub texts_have_one_list : (choices : SinkChoices) → TextsHaveOneList choices
texts_have_one_list choices p s v text told others ready a b =
    tellings_agree references (replies choices) (after choices) foreign IsFitting (λ w t line h. token_fitting choices t w h) (λ w t k l. refl) (λ w x y ys zs j k l h. token_cut choices x ys y zs w h)
    p s v text told others (fitting v ready) a b

pub documents_have_none : (choices : SinkChoices) → DocumentsHaveNone choices
documents_have_none choices d scripting seen s told holds readable none tells =
    let v = (first_building seen (with_scripting scripting)).view in
    let first : IsFitting v = record { fitting = λ f e. record { sound = all_none seen.forest holds.is_forest; fits = fits_first seen (with_scripting scripting) } } in
    tellings_agree references (replies choices) (after choices) foreign IsFitting (λ w t line h. token_fitting choices t w h) (λ w t k l. refl) (λ w x y ys zs j k l h. token_cut choices x ys y zs w h)
    (first_place of_reader) s v (written_of d) told [] first tells
    (document_tells_nothing (replies choices) (after choices) foreign (ended choices) d v s readable (document_answers choices scripting seen d holds) none)

pub builds_the_same : (choices : SinkChoices) → BuildsTheSame choices
builds_the_same choices p q s t v w n o text told tokens ready tellings closes reads =
    let read = tellings_read references (replies choices) (after choices) foreign tellings in
    readings_agree references (replies choices) (after choices) foreign IsFitting (λ w t line h. token_fitting choices t w h) (ended choices) (λ w t k l. refl) (λ w x y ys zs j k l h. token_cut choices x ys y zs w h) (fitting v ready)
    (end_ends (replies choices) (after choices) (ended choices) references foreign p v text read.tokens q w n read.readings closes) reads
