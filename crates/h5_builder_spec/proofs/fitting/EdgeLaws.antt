-- The root, a fragment's start, modes that are left for a text, and framesets.
use Rattle.std.proofs.Common.{◌≡◌, suc, Bool, true, cond, List, [], ◌∷◌, Some, refl, ap, sym, subst, arith}
use Rattle.h5_tables.specs.declared.modes.InsertionMode.{InsertionMode}
use Rattle.h5_tables.specs.declared.modes.InsertionMode.TheVariants.{BeforeHtml, BeforeHead, AfterHead, Text, InTable, InTableText, InFrameset, AfterFrameset, AfterAfterFrameset}
use Rattle.h5_builder_spec.specs.reset.SituationChanges.{start_of, with_saved}
use Rattle.h5_builder_spec.specs.inner.Fits.{Fits, Known, Placed, is_table_mode, is_whole}
use Rattle.h5_builder_spec.specs.reset.Situation.{Situation}
use Rattle.h5_builder_spec.specs.inner.Floors.{Left, grounded_left, on_root, root_left}
use Rattle.h5_builder_spec.specs.reset.ResetByRoles.{reset}
use Rattle.h5_builder_spec.specs.reset.Roles.{FramesetRole, HtmlRole, PlainRole, Role, TemplateRole, count_roles, has_role, is_head, is_template}
use Rattle.h5_builder_spec.proofs.fitting.FrameLaws.{root_rooted}
use Rattle.h5_builder_spec.proofs.fitting.ChangeLaws.{known_fewer, known_push, reset_fits, reset_place, text_fits}
use Rattle.h5_builder_spec.proofs.BoolLaws.{later_true, neither_of}

-- the root of a document
pub root_pushed : (s : Situation) (ns : List Role) → Fits s BeforeHtml ns → Fits s BeforeHead (HtmlRole ∷ ns)
root_pushed s ns f =
    let e = f.place.0 in
    let k = subst (Known s) e f.known in
    subst (λ x. Fits s BeforeHead (HtmlRole ∷ x)) (sym e) (record {
      known = record { root = refl; modes = k.modes; kinds = k.kinds; opened = k.opened; ok = k.ok; under = (refl, tt) };
      place = (ap is_whole f.place.1.1, refl);
    })

-- a fragment's start
start_left : (c : Role) → Left (is_whole (Some c)) (HtmlRole ∷ [])
start_left HtmlRole = root_left
start_left _ = grounded_left on_root

start_known : (c : Role) → Known (start_of c) (HtmlRole ∷ [])
start_known TemplateRole = record { root = refl; modes = refl; kinds = (refl, tt); opened = λ h. absurd (cc); ok = λ h. refl; under = (refl, tt) }
start_known _ = record { root = refl; modes = refl; kinds = tt; opened = λ h. absurd (cc); ok = λ h. refl; under = (refl, tt) }

pub fragment_fits : (c : Role) → Fits (start_of c) (reset (start_of c) (HtmlRole ∷ [])) (HtmlRole ∷ [])
fragment_fits c = reset_fits (start_of c) (HtmlRole ∷ []) (start_left c) (start_known c)

-- the saved mode is not looked at
known_saved : (s : Situation) (m : InsertionMode) (ns : List Role) → Known s ns → Known (with_saved m s) ns
known_saved s m ns k = record { root = k.root; modes = k.modes; kinds = k.kinds; opened = k.opened; ok = k.ok; under = k.under }

placed_saved : (w : Bool) (s : Situation) (m k : InsertionMode) (ns : List Role) → Placed w s k ns → Placed w (with_saved m s) k ns
placed_saved w s m InTable ns p = p
placed_saved w s m _ ns p = p

-- text in a raw element, over a mode that is left for it
pub text_pushed : (s : Situation) (m : InsertionMode) (n : Role) (ns : List Role) → Known s (n ∷ ns) → Placed (is_whole s.context) s m (n ∷ ns) → Fits (with_saved m s) Text (PlainRole ∷ n ∷ ns)
text_pushed s m n ns k p = text_fits (with_saved m s) m n ns refl (known_saved s m (n ∷ ns) k) (placed_saved (is_whole s.context) s m m (n ∷ ns) p)

-- text in a table
pub table_text_begun : (s : Situation) (m : InsertionMode) (ns : List Role) → is_table_mode m ≡ true → Known s ns → Placed (is_whole s.context) s m ns → Fits (with_saved m s) InTableText ns
table_text_begun s m ns h k p = record { known = known_saved s m ns k; place = (m, (refl, (h, placed_saved (is_whole s.context) s m m ns p))) }

pub record Saved (s : Situation) (ns : List Role) : Type 0 where
  pub mode : InsertionMode
  pub saved : s.saved_mode ≡ Some mode
  pub is_table : is_table_mode mode ≡ true
  pub fits : Fits s mode ns

pub table_text_ended : (s : Situation) (ns : List Role) → Fits s InTableText ns → Saved s ns
table_text_ended s ns f = record {
  mode = f.place.0;
  saved = f.place.1.0;
  is_table = f.place.1.1.0;
  fits = record { known = f.known; place = reset_place s ns f.place.0 f.place.1.1.1 };
}

-- framesets
pub frameset_pushed : (s : Situation) (n : Role) (ns : List Role) → Fits s InFrameset (n ∷ ns) → Fits s InFrameset (FramesetRole ∷ n ∷ ns)
frameset_pushed s n ns f = record {
  known = known_push s FramesetRole (n ∷ ns) refl refl refl (root_rooted n ns f.known.root) f.known;
  place = (omega arith, f.place.1);
}

pub frameset_popped : (s : Situation) (n m : Role) (ns : List Role) → Fits s InFrameset (n ∷ m ∷ ns) → Fits s InFrameset (m ∷ ns)
frameset_popped s n m ns f =
    let p = neither_of (is_template n) (has_role is_template (m ∷ ns)) f.place.1 in
    let k = f.known in
    record {
      known = known_fewer s (n ∷ m ∷ ns) (m ∷ ns) k.root (sym (ap (λ b. cond b (suc (count_roles is_template (m ∷ ns))) (count_roles is_template (m ∷ ns))) p.0)) (later_true (is_head n) (has_role is_head (m ∷ ns))) k.under.1 k;
      place = (omega arith, p.1);
    }

pub frameset_left : (s : Situation) (ns : List Role) → Fits s InFrameset ns → Fits s AfterFrameset ns
frameset_left s ns f = record { known = f.known; place = f.place.0 }

-- a frameset right after the head
pub frameset_begun : (s : Situation) (ns : List Role) → Fits s AfterHead ns → Fits s InFrameset (FramesetRole ∷ ns)
frameset_begun s ns f =
    let e = f.place.1.0 in
    let k = subst (Known s) e f.known in
    subst (λ x. Fits s InFrameset (FramesetRole ∷ x)) (sym e) (record {
      known = known_push s FramesetRole (HtmlRole ∷ []) refl refl refl refl k;
      place = (omega arith, refl);
    })

-- a formatting element that blanks after a frameset bring back
pub after_frameset_pushed : (s : Situation) (n : Role) (ns : List Role) → Fits s AfterAfterFrameset (n ∷ ns) → Fits s AfterAfterFrameset (PlainRole ∷ n ∷ ns)
after_frameset_pushed s n ns f = record {
  known = known_push s PlainRole (n ∷ ns) refl refl refl (root_rooted n ns f.known.root) f.known;
  place = omega arith;
}
