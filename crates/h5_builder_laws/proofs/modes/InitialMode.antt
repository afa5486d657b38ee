-- HTML standard, section 13.2.6.4.1, the "initial" insertion mode: each of its rows is lawful.
use Rattle.std.proofs.Common.{◌∷◌, [], refl, true}
use Rattle.h5_interface.specs.declared.marks.QuirksMode.TheVariants.{Quirks}
use Rattle.h5_tables.specs.TurnText.{CommentTurn, TextTurn, TurnText}
use Rattle.h5_tables.specs.declared.modes.InsertionMode.TheVariants.{BeforeHtml, Initial}
use Rattle.h5_tables.specs.declared.modes.SplitStatus.TheVariants.{Whitespace}
use Rattle.h5_builder_spec.specs.Changes.{set_quirks_mode}
use Rattle.h5_builder_spec.specs.Rows.{Again, SetQuirksMode, errs, row}
use Rattle.h5_builder_spec.specs.World.{World, names_of}
use Rattle.h5_builder_spec.specs.modes.InitialMode.{initial, initial_else}
use Rattle.h5_builder_laws.proofs.LawfulRow.{IsLawfulFor, lawful_choose, lawful_nothing, lawful_row}
use Rattle.h5_builder_laws.proofs.modes.SharedRows.{comment_to_document_lawful}
use Rattle.h5_builder_laws.proofs.turns.AgainLaws.{kind_of_turn}
use Rattle.h5_builder_laws.proofs.turns.Ranks as edges

else_lawful : (t : TurnText) (w : World) → IsLawfulFor t Initial w (initial_else t w)
unfolding initial_else set_quirks_mode names_of
else_lawful t w = lawful_choose w.options.iframe_srcdoc _ _
    (λ e. lawful_row (row [] (Again BeforeHtml)) tt (λ choices s h. record { fits = record { known = h.fits.known; place = h.fits.place }; named = tt }) (tt, (refl, tt)) tt (edges.initial (kind_of_turn t)))
    (λ e. lawful_row (errs (SetQuirksMode Quirks ∷ []) (Again BeforeHtml)) (tt, tt) (λ choices s h. record { fits = record { known = h.fits.known; place = h.fits.place }; named = tt }) (tt, (refl, tt)) tt (edges.initial (kind_of_turn t)))

pub lawful_initial : (t : TurnText) (w : World) → IsLawfulFor t Initial w (initial t w)
lawful_initial (CommentTurn x) w = comment_to_document_lawful Initial w x
lawful_initial (TextTurn Whitespace x) w = lawful_nothing true
lawful_initial t w = else_lawful t w
