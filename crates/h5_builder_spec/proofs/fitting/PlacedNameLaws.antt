-- What a frame keeps of modes, and the changes of single rows.
use Rattle.std.proofs.Common.{◌≡◌, ◌+◌, suc, Bool, true, false, cond, List, [], ◌∷◌, refl, ap, sym, subst, ◌∙◌, arith}
use Rattle.h5_tables.specs.declared.modes.InsertionMode.{InsertionMode}
use Rattle.h5_tables.specs.declared.modes.InsertionMode.TheVariants.{Initial, BeforeHtml, InBody, Text, InTable, InTableText, InCaption, InColumnGroup, InTableBody, InRow, InCell, InTemplate, AfterBody, AfterAfterBody}
use Rattle.h5_builder_spec.specs.inner.Contexts.{LeastContext, TableBodyContext, TableRowContext, Under}
use Rattle.h5_builder_spec.specs.inner.Fits.{Fits, Known, Place, Placed, context_templates, goes_by_body, is_whole}
use Rattle.h5_builder_spec.specs.reset.Situation.{Situation}
use Rattle.h5_builder_spec.specs.inner.Floors.{Grounded, HasBase, RootIs}
use Rattle.h5_builder_spec.specs.inner.Frames.{Frame}
use Rattle.h5_builder_spec.specs.reset.Roles.{Role, count_roles, has_role, is_template}
use Rattle.h5_builder_spec.proofs.fitting.FrameLaws.{Rooted, root_rooted}

frame_base : (w : Bool) {old new : List Role} → Frame old new → HasBase w old → HasBase w new
frame_base true f b = f.base b
frame_base false f b = tt

pub frame_placed : (w : Bool) (s : Situation) {old new : List Role} → Frame old new → Under old → (m : InsertionMode) → goes_by_body m ≡ true → Placed w s m old → Placed w s m new
frame_placed w s f u InBody h p = f.grounded w p u
frame_placed w s f u AfterBody h p = f.grounded w p u
frame_placed w s f u AfterAfterBody h p = f.grounded w p u
frame_placed w s f u InTable h p = (f.grounded w p.0 u, frame_base w f p.1)
frame_placed w s f u InCaption h p = (f.grounded w p.0 u, frame_base w f p.1)
frame_placed w s f u InColumnGroup h p = (f.grounded w p.0 u, frame_base w f p.1)
frame_placed w s f u InTableBody h p = (f.grounded w p.0 u, (frame_base w f p.1.0, f.over TableBodyContext u p.1.1))
frame_placed w s f u InRow h p = (f.grounded w p.0 u, (frame_base w f p.1.0, f.over TableRowContext u p.1.1))
frame_placed w s f u InCell h p = (f.grounded w p.0 u, (frame_base w f p.1.0, f.cell u p.1.1))
frame_placed w s f u InTemplate h p = (f.grounded w p.0 u, (p.1.0, f.over LeastContext u p.1.1))
frame_placed w s f u _ h p = absurd (cc)

any_none : (p : Role → Bool) (ns : List Role) → count_roles p ns ≡ 0 → has_role p ns ≡ false
any_none p [] h = refl
any_none p (n ∷ ns) h = at (p n) h (any_none p ns)
  where
    at : (b : Bool) → cond b (suc (count_roles p ns)) (count_roles p ns) ≡ 0 → (count_roles p ns ≡ 0 → has_role p ns ≡ false) → cond b true (has_role p ns) ≡ false
    at true e f = absurd (omega (arith, e))
    at false e f = f e

pub none_any : (p : Role → Bool) (ns : List Role) → has_role p ns ≡ false → count_roles p ns ≡ 0
none_any p [] h = refl
none_any p (n ∷ ns) h = at (p n) h (none_any p ns)
  where
    at : (b : Bool) → cond b true (has_role p ns) ≡ false → (has_role p ns ≡ false → count_roles p ns ≡ 0) → cond b (suc (count_roles p ns)) (count_roles p ns) ≡ 0
    at true e f = absurd (cc)
    at false e f = f e

pub same_templates : (old new : List Role) → count_roles is_template new ≡ count_roles is_template old → has_role is_template old ≡ false → has_role is_template new ≡ false
same_templates old new e h = any_none is_template new (e ∙ none_any is_template old h)

body_place : (s : Situation) (m : InsertionMode) (ns : List Role) → goes_by_body m ≡ true → Place s m ns ≡ Placed (is_whole s.context) s m ns
body_place s Initial ns h = absurd (cc)
body_place s BeforeHtml ns h = absurd (cc)
body_place s Text ns h = absurd (cc)
body_place s InTableText ns h = absurd (cc)
body_place s _ ns h = refl

-- so a frame keeps all facts
pub known_frame : (s : Situation) {old new : List Role} → Frame old new → Known s old → Known s new
known_frame s {old = old} {new = new} f k = record {
  root = f.root k.root;
  modes = k.modes ∙ ap (λ c. c + context_templates s.context) (sym f.templates);
  kinds = k.kinds;
  opened = λ a. k.opened (f.head a);
  ok = λ o. same_templates old new f.templates (k.ok o);
  under = f.under k.under;
}

pub frame_fits : (s : Situation) (m : InsertionMode) (old new : List Role) → goes_by_body m ≡ true → Frame old new → Fits s m old → Fits s m new
frame_fits s m old new h f k = record {
  known = known_frame s f k.known;
  place = subst (λ (t : Type 0). t) (sym (body_place s m new h)) (frame_placed (is_whole s.context) s f k.known.under m h (subst (λ (t : Type 0). t) (body_place s m old h) k.place));
}

-- the floor that those modes stand on
placed_grounded : (w : Bool) (s : Situation) (m : InsertionMode) (ns : List Role) → goes_by_body m ≡ true → Placed w s m ns → Grounded w ns
placed_grounded w s InBody ns h p = p
placed_grounded w s AfterBody ns h p = p
placed_grounded w s AfterAfterBody ns h p = p
placed_grounded w s InTable ns h p = p.0
placed_grounded w s InCaption ns h p = p.0
placed_grounded w s InColumnGroup ns h p = p.0
placed_grounded w s InTableBody ns h p = p.0
placed_grounded w s InRow ns h p = p.0
placed_grounded w s InCell ns h p = p.0
placed_grounded w s InTemplate ns h p = p.0
placed_grounded w s _ ns h p = absurd (cc)

pub fits_grounded : (s : Situation) (m : InsertionMode) (ns : List Role) → goes_by_body m ≡ true → Fits s m ns → Grounded (is_whole s.context) ns
fits_grounded s m ns h f = placed_grounded (is_whole s.context) s m ns h (subst (λ (t : Type 0). t) (body_place s m ns h) f.place)

pub grounded_rooted : {w : Bool} {ns : List Role} → Grounded w ns → RootIs ns → Rooted ns
grounded_rooted {ns = []} g r = elim g [ ]
grounded_rooted {ns = n ∷ ns} g r = root_rooted n ns r
