-- The changes that aren't frames, and the mode that fits after each: parts of tables, tables, templates and framesets.
use Rattle.std.proofs.Common.{◌≡◌, ◌+◌, ℕ, suc, Bool, true, false, cond, List, [], ◌∷◌, length, Some, refl, ap, sym, ◌∙◌, arith}
use Rattle.h5_tables.specs.declared.modes.InsertionMode.{InsertionMode}
use Rattle.h5_tables.specs.declared.modes.InsertionMode.TheVariants.{Initial, BeforeHtml, InBody, Text, InTable, InTableText, InTemplate, InFrameset}
use Rattle.h5_builder_spec.specs.reset.SituationChanges.{later_modes, mode_below, mode_of, with_template, without_template}
use Rattle.h5_builder_spec.specs.inner.Contexts.{Clear, StackContext, Under, context_of, down_to, ends, stands, starts}
use Rattle.h5_builder_spec.specs.inner.Fits.{AllKinds, Fits, Known, Place, Placed, context_templates, goes_by_body, is_whole}
use Rattle.h5_builder_spec.specs.reset.Situation.{Situation}
use Rattle.h5_builder_spec.specs.inner.Floors.{Grounded, HasBase, Left, RootIs, above, grounded_left, head_left, in_head, on_template, root_left}
use Rattle.h5_builder_spec.specs.inner.Frames.{Cut, here, passes_table_scope, passes_to_template, there}
use Rattle.h5_builder_spec.specs.reset.ResetByRoles.{reset}
use Rattle.h5_builder_spec.specs.reset.Roles.{CaptionRole, CellRole, ColgroupRole, FramesetRole, HtmlRole, PlainRole, Role, RowRole, SectionRole, TableRole, TemplateRole, count_roles, has_role, is_floor_name, is_ground, is_head, is_table_part, is_template}
use Rattle.h5_builder_spec.proofs.fitting.ContextLaws.{down_grounded, down_starts, down_templates, down_under, down_rooted, starts_clear, starts_stands}
use Rattle.h5_builder_spec.proofs.fitting.CutNameLaws.{Closed, closed, closed_base, cut_any_later, cut_root, cut_under}
use Rattle.h5_builder_spec.proofs.fitting.FrameLaws.{Rooted, root_rooted, rooted_push, rooted_root}
use Rattle.h5_builder_spec.proofs.fitting.PlacedNameLaws.{fits_grounded, grounded_rooted, none_any, same_templates}
use Rattle.h5_builder_spec.proofs.fitting.ResetLaws.{reset_placed}
use Rattle.h5_builder_spec.proofs.fitting.TemplateNameLaws.{template_count, template_left}
use Rattle.h5_builder_spec.proofs.BoolLaws.{later_true}

-- a name that is neither template nor head is pushed, where it may stand
pub known_push : (s : Situation) (n : Role) (ns : List Role) → is_template n ≡ false → is_head n ≡ false → stands n ns ≡ true → Rooted ns → Known s ns → Known s (n ∷ ns)
known_push s n ns t h e r k = record {
  root = rooted_root (n ∷ ns) (rooted_push n ns r);
  modes = k.modes ∙ sym (ap (λ b. cond b (suc (count_roles is_template ns)) (count_roles is_template ns) + context_templates s.context) t);
  kinds = k.kinds;
  opened = λ a. k.opened (sym (ap (λ b. cond b true (has_role is_head ns)) h) ∙ a);
  ok = λ o. ap (λ b. cond b true (has_role is_template ns)) t ∙ k.ok o;
  under = (e, k.under);
}

-- fewer names, and no template less
pub known_fewer : (s : Situation) (old new : List Role) → RootIs new → count_roles is_template new ≡ count_roles is_template old → (has_role is_head new ≡ true → has_role is_head old ≡ true) → Under new → Known s old → Known s new
known_fewer s old new r t h u k = record {
  root = r;
  modes = k.modes ∙ ap (λ c. c + context_templates s.context) (sym t);
  kinds = k.kinds;
  opened = λ a. k.opened (h a);
  ok = λ o. same_templates old new t (k.ok o);
  under = u;
}

known_closed : (s : Situation) {old new : List Role} → Closed old new → Known s old → Known s new
known_closed s {old = old} {new = new} c k = known_fewer s old new (c.root k.root) c.templates c.head (c.under k.under) k

down_any : (p : Role → Bool) (c : StackContext) (ns : List Role) → has_role p (down_to c ns) ≡ true → has_role p ns ≡ true
down_any p c [] h = h
down_any p c (n ∷ ns) h = at (ends c n) h (λ k. later_true (p n) (has_role p ns) (down_any p c ns k))
  where
    at : (b : Bool) → has_role p (cond b (n ∷ ns) (down_to c ns)) ≡ true → (has_role p (down_to c ns) ≡ true → has_role p (n ∷ ns) ≡ true) → has_role p (n ∷ ns) ≡ true
    at true e f = e
    at false e f = f e

known_down : (s : Situation) (c : StackContext) (ns : List Role) → Rooted ns → Known s ns → Known s (down_to c ns)
known_down s c ns r k = known_fewer s ns (down_to c ns) (rooted_root (down_to c ns) (down_rooted c ns r)) (down_templates c ns) (down_any is_head c ns) (down_under c ns k.under) k

base_push : (w : Bool) (n : Role) (ns : List Role) → HasBase w ns → HasBase w (n ∷ ns)
base_push true n ns h = later_true (is_ground n) (has_role is_ground ns) h
base_push false n ns h = tt

-- a table is pushed
pub table_fits : (s : Situation) (m : InsertionMode) (n : Role) (ns : List Role) → goes_by_body m ≡ true → Fits s m (n ∷ ns) → Fits s InTable (TableRole ∷ n ∷ ns)
table_fits s m n ns h f =
    let g = fits_grounded s m (n ∷ ns) h f in
    record {
      known = known_push s TableRole (n ∷ ns) refl refl refl (root_rooted n ns f.known.root) f.known;
      place = (above TableRole refl g, base (is_whole s.context));
    }
  where
    base : (w : Bool) → HasBase w (TableRole ∷ n ∷ ns)
    base true = refl
    base false = tt

-- a template is pushed, also over the root or the head alone
template_grounded : {w : Bool} {ns : List Role} → Left w ns → Grounded w (TemplateRole ∷ ns)
template_grounded (grounded_left g) = above TemplateRole refl g
template_grounded root_left = on_template
template_grounded head_left = in_head

pub template_fits : (s : Situation) (ns : List Role) → Left (is_whole s.context) ns → Rooted ns → Known s ns → Fits (with_template s) InTemplate (TemplateRole ∷ ns)
template_fits s ns l r k = record {
  known = record {
    root = rooted_root (TemplateRole ∷ ns) (rooted_push TemplateRole ns r);
    modes = let e = k.modes in omega (arith, e);
    kinds = (refl, k.kinds);
    opened = k.opened;
    ok = λ o. absurd (cc);
    under = (stood ns, k.under);
  };
  place = (template_grounded l, (omega arith, refl));
}
  where
    stood : (ns : List Role) → stands TemplateRole ns ≡ true
    stood [] = refl
    stood (n ∷ ns) = refl

-- a part of a table is put in its context
put_placed : (w : Bool) (s : Situation) (n : Role) (ns : List Role) → is_table_part n ≡ true → Grounded w ns → HasBase w ns → Placed w s (mode_of n) (n ∷ ns)
put_placed w s CaptionRole ns h g b = (above CaptionRole refl g, base_push w CaptionRole ns b)
put_placed w s ColgroupRole ns h g b = (above ColgroupRole refl g, base_push w ColgroupRole ns b)
put_placed w s SectionRole ns h g b = (above SectionRole refl g, (base_push w SectionRole ns b, refl))
put_placed w s RowRole ns h g b = (above RowRole refl g, (base_push w RowRole ns b, refl))
put_placed w s CellRole ns h g b = (above CellRole refl g, (base_push w CellRole ns b, refl))
put_placed w s _ ns h g b = absurd (cc)

table_part_kept : (n : Role) → is_table_part n ≡ true → (is_template n ≡ false) × ((is_head n ≡ false) × (is_floor_name n ≡ false))
table_part_kept CaptionRole h = (refl, (refl, refl))
table_part_kept ColgroupRole h = (refl, (refl, refl))
table_part_kept SectionRole h = (refl, (refl, refl))
table_part_kept RowRole h = (refl, (refl, refl))
table_part_kept CellRole h = (refl, (refl, refl))
table_part_kept _ h = absurd (cc)

place_of : (s : Situation) (n : Role) (ns : List Role) → is_table_part n ≡ true → Placed (is_whole s.context) s (mode_of n) ns → Place s (mode_of n) ns
place_of s CaptionRole ns h p = p
place_of s ColgroupRole ns h p = p
place_of s SectionRole ns h p = p
place_of s RowRole ns h p = p
place_of s CellRole ns h p = p
place_of s _ ns h p = absurd (cc)

pub put_fits : (s : Situation) (n : Role) (ns : List Role) → is_table_part n ≡ true → Grounded (is_whole s.context) ns → HasBase (is_whole s.context) ns → Clear (context_of n) ns → Known s ns → Fits s (mode_of n) (n ∷ down_to (context_of n) ns)
put_fits s n ns h g b c k =
    let d = down_grounded (context_of n) g b c in
    let r = grounded_rooted g k.root in
    let p = table_part_kept n h in
    let low = down_to (context_of n) ns in
    record {
      known = known_push s n low p.0 p.1.0 (starts_stands n low (down_starts (context_of n) ns)) (down_rooted (context_of n) ns r) (known_down s (context_of n) ns r k);
      place = place_of s n (n ∷ low) h (put_placed (is_whole s.context) s n low h d.0 d.1);
    }

-- a part of a table found in table scope is closed
cut_stands : {passes : Role → Bool} {x : Role} {ns rest : List Role} → Cut passes x ns rest → Under ns → stands x rest ≡ true
cut_stands here u = u.0
cut_stands (there n h c) u = cut_stands c u.1

stands_starts : (n : Role) (ns : List Role) → is_table_part n ≡ true → stands n ns ≡ true → starts (context_of n) ns ≡ true
stands_starts n [] h e = refl
stands_starts CaptionRole (m ∷ ms) h e = e
stands_starts ColgroupRole (m ∷ ms) h e = e
stands_starts SectionRole (m ∷ ms) h e = e
stands_starts RowRole (m ∷ ms) h e = e
stands_starts CellRole (m ∷ ms) h e = e
stands_starts _ (m ∷ ms) h e = absurd (cc)

table_part_ground : (n : Role) → is_table_part n ≡ true → is_ground n ≡ false
table_part_ground TableRole h = absurd (cc)
table_part_ground TemplateRole h = absurd (cc)
table_part_ground _ h = refl

base_closed : (w : Bool) (old new : List Role) → has_role is_ground new ≡ has_role is_ground old → HasBase w old → HasBase w new
base_closed true old new e b = e ∙ b
base_closed false old new e b = tt

below_placed : (s : Situation) (x : Role) (ns : List Role) → is_table_part x ≡ true → Grounded (is_whole s.context) ns → HasBase (is_whole s.context) ns → Clear (context_of x) ns → Place s (mode_below x) ns
below_placed s CaptionRole ns h g b c = (g, b)
below_placed s ColgroupRole ns h g b c = (g, b)
below_placed s SectionRole ns h g b c = (g, b)
below_placed s RowRole ns h g b c = (g, (b, c))
below_placed s CellRole ns h g b c = (g, (b, c))
below_placed s _ ns h g b c = absurd (cc)

pub close_fits : (s : Situation) (x : Role) {ns rest : List Role} → is_table_part x ≡ true → Cut passes_table_scope x ns rest → Grounded (is_whole s.context) ns → HasBase (is_whole s.context) ns → Known s ns → Fits s (mode_below x) rest
close_fits s x {ns = ns} {rest = rest} h c g b k =
    let p = table_part_kept x h in
    let d = closed x p.1.1 c in
    let e = closed_base x (table_part_ground x h) c in
    record {
      known = known_closed s d k;
      place = below_placed s x rest h (d.grounded (is_whole s.context) g) (base_closed (is_whole s.context) ns rest e b) (starts_clear (context_of x) rest (stands_starts x rest h (cut_stands c k.under)));
    }

-- so is any name that no floor has, where the mode is InBody
pub close_in_body : (s : Situation) (x : Role) {ns rest : List Role} → is_floor_name x ≡ false → Cut passes_table_scope x ns rest → Fits s InBody ns → Fits s InBody rest
close_in_body s x e c f =
    let d = closed x e c in
    record { known = known_closed s d f.known; place = d.grounded (is_whole s.context) f.place }

-- a mode that a reset chose is placed
pub reset_place : (s : Situation) (ns : List Role) (m : InsertionMode) → Placed (is_whole s.context) s m ns → Place s m ns
reset_place s ns Initial p = elim p [ ]
reset_place s ns BeforeHtml p = elim p [ ]
reset_place s ns Text p = elim p [ ]
reset_place s ns InTableText p = elim p [ ]
reset_place s ns _ p = p

pub reset_fits : (s : Situation) (ns : List Role) → Left (is_whole s.context) ns → Known s ns → Fits s (reset s ns) ns
reset_fits s ns l k = record { known = k; place = reset_place s ns (reset s ns) (reset_placed s ns l k.under k.kinds k.modes) }

-- an end tag table
pub table_closed : (s : Situation) {ns rest : List Role} → Cut passes_table_scope TableRole ns rest → Grounded (is_whole s.context) ns → Known s ns → Fits s (reset s rest) rest
table_closed s {rest = rest} c g k =
    let d = closed TableRole refl c in
    reset_fits s rest (grounded_left (d.grounded (is_whole s.context) g)) (known_closed s d k)

-- a template is closed
pub later_kinds : (ms : List InsertionMode) → AllKinds ms → AllKinds (later_modes ms)
later_kinds [] k = k
later_kinds (m ∷ ms) k = k.1

later_length : (ms : List InsertionMode) (k : ℕ) → length ms ≡ suc k → length (later_modes ms) ≡ k
later_length [] k e = absurd (omega (arith, e))
later_length (m ∷ ms) k e = omega (arith, e)

suc_plus : (a b c : ℕ) → a ≡ suc b → a + c ≡ suc (b + c)
suc_plus a b c e = omega (arith, e)

some_template : (passes : Role → Bool) {ns rest : List Role} → Cut passes TemplateRole ns rest → has_role is_template ns ≡ true
some_template passes here = refl
some_template passes (there {ns = ns} n h c) = later_true (is_template n) (has_role is_template ns) (some_template passes c)

pub template_closed : (s : Situation) {ns rest : List Role} → Cut passes_to_template TemplateRole ns rest → Grounded (is_whole s.context) ns → Known s ns → Fits (without_template s) (reset (without_template s) rest) rest
template_closed s {ns = ns} {rest = rest} c g k =
    reset_fits (without_template s) rest (template_left c g) (record {
      root = cut_root c k.root;
      modes = later_length s.template_modes (count_roles is_template rest + context_templates s.context) (k.modes ∙ suc_plus (count_roles is_template ns) (count_roles is_template rest) (context_templates s.context) (template_count c));
      kinds = later_kinds s.template_modes k.kinds;
      opened = λ a. k.opened (cut_any_later is_head c a);
      ok = λ o. absurd (let e = k.ok o in let t = some_template passes_to_template c in cc);
      under = cut_under c k.under;
    })

-- a frameset in place of the body
pub frameset_fits : (s : Situation) (ns : List Role) → s.frameset_ok ≡ true → Known s ns → Fits s InFrameset (FramesetRole ∷ HtmlRole ∷ [])
frameset_fits s ns o k = record {
  known = record {
    root = refl;
    modes = k.modes ∙ ap (λ c. c + context_templates s.context) (none_any is_template ns (k.ok o));
    kinds = k.kinds;
    opened = λ a. absurd (cc);
    ok = λ h. refl;
    under = (refl, (refl, tt));
  };
  place = (omega arith, refl);
}

-- what comes before x ends no context: then "down to" stops at x
pub cut_down : (c : StackContext) (passes : Role → Bool) (x : Role) → ((n : Role) → passes n ≡ true → ends c n ≡ false) → ends c x ≡ true → {ns rest : List Role} → Cut passes x ns rest → down_to c ns ≡ x ∷ rest
cut_down c passes x f e (here {rest = rest}) = ap (λ b. cond b (x ∷ rest) (down_to c rest)) e
cut_down c passes x f e (there {ns = ns} n h k) = ap (λ b. cond b (n ∷ ns) (down_to c ns)) (f n h) ∙ cut_down c passes x f e k

-- an element of text is pushed over a mode that is left for it, and popped again
pub text_fits : (s : Situation) (m : InsertionMode) (n : Role) (ns : List Role) → s.saved_mode ≡ Some m → Known s (n ∷ ns) → Placed (is_whole s.context) s m (n ∷ ns) → Fits s Text (PlainRole ∷ n ∷ ns)
text_fits s m n ns e k p = record {
  known = known_push s PlainRole (n ∷ ns) refl refl refl (root_rooted n ns k.root) k;
  place = (m, (e, (refl, p)));
}
