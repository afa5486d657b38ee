-- A doctype at the start: what it leaves of open elements, and that it leaves what a builder keeps.
use Rattle.std.proofs.Common.{◌≡◌, ℕ, true, false, cond, List, [], refl, subst, sym}
use Rattle.std.specs.Prelude.{unwrap_or}
use Rattle.h5_token.specs.TokenText.{DoctypeText}
use Rattle.h5_interface.specs.Seen.{append_doctype}
use Rattle.h5_interface.specs.SinkChoices.{SinkChoices}
use Rattle.h5_interface.proofs.MakingLaws.{append_doctype_rearranges}
use Rattle.h5_tables.specs.declared.modes.InsertionMode.TheVariants.{BeforeHtml, Initial}
use Rattle.h5_builder_spec.specs.reset.Situation.{Situation}
use Rattle.h5_builder_spec.specs.inner.NamesFit.{NamesFit}
use Rattle.h5_builder_spec.proofs.fitting.SituationRoleLaws.{names_later}
use Rattle.h5_names.specs.declared.qualified.QualName.{QualName}
use Rattle.h5_builder_spec.proofs.changes.SituationLaws.{KeepsSituation, situation_forest, situation_later, situation_same}
use Rattle.h5_builder_spec.specs.Changes.{insert_doctype, set_quirks_mode}
use Rattle.h5_builder_spec.specs.Run.{judged, with_doctype}
use Rattle.h5_builder_spec.specs.inner.Kept.{Fits, Fitting, HasLists}
use Rattle.h5_builder_spec.specs.Sound.{Sound, situation_of}
use Rattle.h5_builder_spec.specs.World.{World, names_of}
use Rattle.h5_builder_spec.proofs.changes.NameLaws.{names_kept}
use Rattle.h5_builder_spec.proofs.changes.SoundLaws.{all_rearranged}

pub names-insert_doctype : (choices : SinkChoices) (name public_id system_id : List ℕ) (w : World) → Sound w → names_of (insert_doctype choices name public_id system_id w) ≡ names_of w
unfolding insert_doctype names_of
names-insert_doctype choices name public_id system_id w k = names_kept w (append_doctype choices name public_id system_id w.forest) k (append_doctype_rearranges choices w.forest name public_id system_id k.stands.is_forest)

names-with_doctype : (choices : SinkChoices) (d : DoctypeText) (w : World) → Sound w → names_of (with_doctype choices d w) ≡ names_of w
unfolding with_doctype
names-with_doctype choices d w k =
    elim w.options.drop_doctype as (λ b. names_of (cond b w (insert_doctype choices (unwrap_or d.name []) (unwrap_or d.public_id []) (unwrap_or d.system_id []) w)) ≡ names_of w) [
      | true ↦ refl
      | false ↦ names-insert_doctype choices (unwrap_or d.name []) (unwrap_or d.public_id []) (unwrap_or d.system_id []) w k
    ]

-- a doctype changes the forest alone
keeps-with_doctype : (choices : SinkChoices) (d : DoctypeText) (w : World) → HasLists w → HasLists (with_doctype choices d w)
unfolding with_doctype insert_doctype
keeps-with_doctype choices d w h =
    elim w.options.drop_doctype as (λ b. HasLists (cond b w (insert_doctype choices (unwrap_or d.name []) (unwrap_or d.public_id []) (unwrap_or d.system_id []) w))) [ true ↦ h | false ↦ h ]

situation-with_doctype : (choices : SinkChoices) (d : DoctypeText) (w : World) → Sound w → KeepsSituation w (with_doctype choices d w)
unfolding with_doctype insert_doctype
situation-with_doctype choices d w k =
    elim w.options.drop_doctype as (λ b. KeepsSituation w (cond b w (insert_doctype choices (unwrap_or d.name []) (unwrap_or d.public_id []) (unwrap_or d.system_id []) w))) [
      | true ↦ situation_same w
      | false ↦ situation_forest w (append_doctype choices (unwrap_or d.name []) (unwrap_or d.public_id []) (unwrap_or d.system_id []) w.forest)
          (append_doctype_rearranges choices w.forest (unwrap_or d.name []) (unwrap_or d.public_id []) (unwrap_or d.system_id []) k.stands.is_forest)
    ]

-- the next mode says what the first one does
still_first : (s : Situation) (ns : List QualName) → NamesFit s Initial ns → NamesFit s BeforeHtml ns
still_first s ns f = record { fits = record { known = f.fits.known; place = f.fits.place }; named = tt }

pub fits_judged : (choices : SinkChoices) (d : DoctypeText) (w : World) → w.mode ≡ Initial → Sound w → Fits w → Fits (judged choices d w)
unfolding judged set_quirks_mode names_of
fits_judged choices d w e k h =
    let v = with_doctype choices d w in
    let later = situation_later w v k (situation-with_doctype choices d w k) in
    let first : NamesFit (situation_of w) Initial (names_of w) = subst (λ m. NamesFit (situation_of w) m (names_of w)) e h.mode in
    record {
      mode = subst (NamesFit (situation_of v) BeforeHtml) (sym (names-with_doctype choices d w k)) (still_first (situation_of v) (names_of w) (names_later (situation_of w) (situation_of v) later Initial (names_of w) first));
      lists = keeps-with_doctype choices d w h.lists;
    }

sound-with_doctype : (choices : SinkChoices) (d : DoctypeText) (w : World) → Sound w → Sound (with_doctype choices d w)
unfolding with_doctype insert_doctype
sound-with_doctype choices d w k =
    let g = append_doctype choices (unwrap_or d.name []) (unwrap_or d.public_id []) (unwrap_or d.system_id []) w.forest in
    elim w.options.drop_doctype as (λ b. Sound (cond b w (insert_doctype choices (unwrap_or d.name []) (unwrap_or d.public_id []) (unwrap_or d.system_id []) w))) [
      | true ↦ k
      | false ↦ all_rearranged w.forest g w.stack k (append_doctype_rearranges choices w.forest (unwrap_or d.name []) (unwrap_or d.public_id []) (unwrap_or d.system_id []) k.stands.is_forest)
    ]

sound-judged : (choices : SinkChoices) (d : DoctypeText) (w : World) → Sound w → Sound (judged choices d w)
unfolding judged set_quirks_mode
sound-judged choices d w k = sound-with_doctype choices d w k

pub judged_fitting : (choices : SinkChoices) (d : DoctypeText) (w : World) → w.mode ≡ Initial → Fitting w → Fitting (judged choices d w)
judged_fitting choices d w e g = record { sound = sound-judged choices d w g.sound; fits = fits_judged choices d w e g.sound g.fits }
