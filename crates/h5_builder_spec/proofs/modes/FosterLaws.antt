-- A token that is handled by the rule of the body, with foster parenting on.
use Rattle.std.proofs.Common.{Bool, Some, [], ap, codes, false, refl, subst, sym, true, ℕ, ◌<◌, ◌∙◌, ◌∷◌, ◌≡◌}
use Rattle.h5_interface.specs.SinkChoices.{SinkChoices}
use Rattle.h5_tables.specs.TurnResult.{TurnResult}
use Rattle.h5_tables.specs.TurnText.{CommentTurn, EofTurn, NullTurn, TagTurn, TextTurn, TurnText}
use Rattle.h5_builder_spec.specs.Changes.{set_foster}
use Rattle.h5_builder_spec.specs.Rows.{Again, AgainBy, Answers, ClearActiveFormattingToMarker, Ending, EndsAs, Follows, IsAcknowledged, IsDone, PopTemplateMode, PopUntilNamed, ResetMode, Row, SetFoster, errs, next_mode, row}
use Rattle.h5_builder_spec.specs.World.{World, names_of}
use Rattle.h5_builder_spec.specs.reset.Reset.{reset_mode}
use Rattle.h5_builder_spec.specs.modes.InBody.{body_ends, in_body, in_body_tag, no_template_mode}
use Rattle.h5_builder_spec.specs.modes.InHead.{template_eof}
use Rattle.h5_builder_spec.specs.modes.Tables.{foster}
use Rattle.h5_builder_spec.specs.stack.Scope.{has_template}
use Rattle.h5_builder_spec.proofs.modes.InBody.{EndsBody, is_end_html, tag_row}
use Rattle.h5_builder_spec.proofs.rows.ByNameLaws.{holds_chosen}
use Rattle.h5_builder_spec.proofs.rows.KeptLaws.{apply_append}
use Rattle.h5_builder_spec.proofs.rows.MarkLaws.{still_told}
use Rattle.h5_tables.specs.TurnResult as results

-- an ending that doesn't look at the foster flag
abbrev IsOutright : Ending → Type 0
IsOutright (AgainBy mode) = (v : World) → mode (set_foster false v) ≡ mode v
IsOutright _ = Unit {0}

abbrev RowIsOutright : Row → Type 0
RowIsOutright r = IsOutright r.ending

ends_outright : (html : Bool) (x : Ending) → EndsBody html x → IsOutright x
ends_outright html IsDone h = tt
ends_outright html IsAcknowledged h = tt
ends_outright html (Answers answer) h = tt
ends_outright html (Again k) h = tt
ends_outright html (AgainBy mode) h = absurd h

-- the mode that is reset to after a template is closed
reset_outright : (v : World) → reset_mode (set_foster false v) ≡ reset_mode v
unfolding reset_mode names_of
reset_outright v = refl

outright_eof : (w : World) → RowIsOutright (template_eof w)
unfolding template_eof
outright_eof w =
    holds_chosen RowIsOutright (has_template (names_of w)) (errs (PopUntilNamed (codes "template") ∷ ClearActiveFormattingToMarker ∷ PopTemplateMode ∷ ResetMode ∷ []) (AgainBy reset_mode)) (row [] IsDone)
    (λ e. reset_outright) (λ e. tt)

-- so does each rule of the body
body_is_outright : (t : TurnText) (w : World) → IsOutright (in_body t w).ending
unfolding in_body_tag
body_is_outright (TagTurn tag) w = ends_outright (is_end_html tag.kind tag.name) (in_body_tag tag w).ending (tag_row tag.kind tag w).ends
body_is_outright (CommentTurn text) w = tt
body_is_outright (TextTurn status text) w = tt
body_is_outright NullTurn w = tt
body_is_outright EofTurn w = holds_chosen RowIsOutright (no_template_mode w.template_modes) (body_ends [] IsDone w) (template_eof w) (λ e. tt) (λ e. outright_eof w)

outright_next : (e : Ending) (v : World) → IsOutright e → next_mode e (set_foster false v) ≡ next_mode e v
outright_next IsDone v k = refl
outright_next IsAcknowledged v k = refl
outright_next (Again mode) v k = refl
outright_next (AgainBy mode) v k = ap Some (k v)
outright_next (Answers answer) v k = refl

outright_ends : {H : Type 0} (node : H → ℕ) (t : TurnText) (result : TurnResult H) (e : Ending) (v : World) → IsOutright e → EndsAs node t result e v → EndsAs node t result e (set_foster false v)
outright_ends node t results.Done e v k h = h
outright_ends node t results.DoneAckSelfClosing e v k h = h
outright_ends node t (results.Reprocess mode token) e v k h = (outright_next e v k ∙ h.0, h.1)
outright_ends node t (results.Answer answer) e v k h = h

-- a turn by the rules of "in body" while foster parenting is on; the flag is turned off after it
pub foster_follows : {H : Type 0} (choices : SinkChoices) (node : H → ℕ) (t : TurnText) (w v u : World) (a b c d : ℕ) (result : TurnResult H) → Follows choices node (in_body t (set_foster true w)) t (set_foster true w) v a b result → u ≡ set_foster false v
    → 0 < a → d ≡ b → Follows choices node (foster in_body t w) t w u c d result
foster_follows choices node t w v u a b c d result f e told same =
    let on = set_foster true w in
    let r = in_body t on in
    record {
      world = e ∙ ap (set_foster false) f.world ∙ sym (apply_append choices r.changes (SetFoster false ∷ []) on);
      ending = subst (EndsAs node t result r.ending) (sym e) (outright_ends node t result r.ending v (body_is_outright t on) f.ending);
      quiet = λ h. absurd (cc);
      noted = λ h. subst (λ n. 0 < n) (sym same) (still_told choices node r t on v a b result f told);
    }
