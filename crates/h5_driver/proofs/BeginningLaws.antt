-- A new builder is ready, and its mode isn't "text".
use Rattle.std.proofs.Common.{◌≡◌, ◌≢◌, ℕ, Option, true, refl, ap}
use Rattle.h5_interface.specs.Seen.{Seen}
use Rattle.h5_interface.specs.SinkChoices.{SinkChoices}
use Rattle.h5_tables.specs.declared.modes.InsertionMode.TheVariants.{InTable, Text}
use Rattle.h5_tables.specs.declared.options.TreeBuilderOpts.{TreeBuilderOpts}
use Rattle.h5_builder_spec.specs.Changes.{create_root}
use Rattle.h5_builder_spec.specs.reset.Reset.{reset_mode}
use Rattle.h5_builder_spec.specs.Run.{View}
use Rattle.h5_builder_spec.specs.inner.Kept.{Fitting}
use Rattle.h5_builder_spec.specs.World.{World}
use Rattle.h5_builder_spec.proofs.rows.RowTexts.{is_text, reset_no_text}
use Rattle.h5_tree_builder.specs.Builder.{first_building}
use Rattle.h5_tree_builder.specs.Fragment.{first_fragment, rooted_world}
use Rattle.h5_driver.specs.inner.Working.{Begins, IsReady, IsWorking}
use Rattle.h5_driver.proofs.TakenLaws.{text_no_text}

-- a new builder of a document is ready, and its mode isn't "text"
document_ready : (seen : Seen) (opts : TreeBuilderOpts) → Fitting (first_building seen opts).view.world → IsReady (first_building seen opts).view
document_ready seen opts f = record {
  unfailed = refl;
  unended = refl;
  fitting = f;
  saved = λ e. let i : is_text InTable ≡ true = ap is_text e in cc;
  kinds = f.fits.mode.fits.known.kinds;
}

document_no_text : (seen : Seen) (opts : TreeBuilderOpts) → (first_building seen opts).view.world.mode ≢ Text
document_no_text seen opts e = text_no_text (first_building seen opts).view.world.mode refl e

pub document_begins : (seen : Seen) (opts : TreeBuilderOpts) → Fitting (first_building seen opts).view.world → Begins (first_building seen opts).view
document_begins seen opts f = record { ready = document_ready seen opts f; no_text = document_no_text seen opts }

-- so is a new builder of a fragment
fragment_ready : (choices : SinkChoices) (seen : Seen) (context : ℕ) (form : Option ℕ) (opts : TreeBuilderOpts) → (let b = first_fragment choices seen context form opts in Fitting b.view.world → IsReady b.view)
unfolding create_root
fragment_ready choices seen context form opts f = record {
  unfailed = refl;
  unended = refl;
  fitting = f;
  saved = λ e. let i : is_text InTable ≡ true = ap is_text e in cc;
  kinds = f.fits.mode.fits.known.kinds;
}

fragment_no_text : (choices : SinkChoices) (seen : Seen) (context : ℕ) (form : Option ℕ) (opts : TreeBuilderOpts) → (let b = first_fragment choices seen context form opts in Fitting b.view.world → b.view.world.mode ≢ Text)
unfolding create_root
fragment_no_text choices seen context form opts f e =
    let w : World = rooted_world choices seen context form opts in
    text_no_text (reset_mode w) (reset_no_text w (refl, f.fits.mode.fits.known.kinds)) e

pub fragment_begins : (choices : SinkChoices) (seen : Seen) (context : ℕ) (form : Option ℕ) (opts : TreeBuilderOpts) → (let b = first_fragment choices seen context form opts in Fitting b.view.world → Begins b.view)
fragment_begins choices seen context form opts f = record { ready = fragment_ready choices seen context form opts f; no_text = fragment_no_text choices seen context form opts f }

-- a new builder works, for any tokenizer
pub begins_works : {T : Type 0} (IsRaw : T → Type 0) (r : T) (v : View) → Begins v → IsWorking IsRaw r v
begins_works IsRaw r v b = record { ready = b.ready; text = λ e. absurd (b.no_text e) }
