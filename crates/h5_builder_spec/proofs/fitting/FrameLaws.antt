-- The changes that are frames: plain names pushed, taken out and put on plain ones, one after another.
use Rattle.std.proofs.Common.{◌≡◌, suc, Bool, true, false, cond, List, [], ◌∷◌, refl, ap, sym, ◌∙◌}
use Rattle.h5_builder_spec.specs.inner.Contexts.{TableContext, Under, ends, stands, stands_on}
use Rattle.h5_builder_spec.specs.inner.Floors.{Grounded, RootIs, above}
use Rattle.h5_builder_spec.specs.inner.Frames.{Edited, Frame, keep, put_on, same, take_out}
use Rattle.h5_builder_spec.specs.reset.Roles.{CaptionRole, CellRole, ColgroupRole, PlainRole, Role, RowRole, SectionRole, count_roles, has_role, is_cell_role, is_ground, is_head, is_html, is_table, is_template, role_in_scope}

pub frame_refl : (ns : List Role) → Frame ns ns
frame_refl ns = record {
  grounded = λ w g u. g;
  under = λ u. u;
  root = λ r. r;
  templates = refl;
  base = λ b. b;
  over = λ c u o. o;
  cell = λ u c. c;
  head = λ h. h;
}

pub frame_trans : (a b c : List Role) → Frame a b → Frame b c → Frame a c
frame_trans a b c f g = record {
  grounded = λ w h u. g.grounded w (f.grounded w h u) (f.under u);
  under = λ u. g.under (f.under u);
  root = λ r. g.root (f.root r);
  templates = g.templates ∙ f.templates;
  base = λ h. g.base (f.base h);
  over = λ k u o. g.over k (f.under u) (f.over k u o);
  cell = λ u h. g.cell (f.under u) (f.cell u h);
  head = λ h. f.head (g.head h);
}

stands_plain : (ns : List Role) → stands PlainRole ns ≡ true
stands_plain [] = refl
stands_plain (n ∷ ns) = refl

-- what stands on a plain name may stand on anything
stands_any : (n : Role) (ns : List Role) → stands_on n PlainRole ≡ true → stands n ns ≡ true
stands_any n [] h = refl
stands_any PlainRole (m ∷ ms) h = refl
stands_any CaptionRole (m ∷ ms) h = absurd (cc)
stands_any ColgroupRole (m ∷ ms) h = absurd (cc)
stands_any SectionRole (m ∷ ms) h = absurd (cc)
stands_any RowRole (m ∷ ms) h = absurd (cc)
stands_any CellRole (m ∷ ms) h = absurd (cc)
stands_any _ (m ∷ ms) h = refl

edited_stands : (n : Role) {ns ms : List Role} → Edited ns ms → stands n ns ≡ true → stands n ms ≡ true
edited_stands n same h = h
edited_stands n (keep m e) h = h
edited_stands n (take_out {ms = ms} e) h = stands_any n ms h
edited_stands n (put_on e) h = h

edited_under : {ns ms : List Role} → Edited ns ms → Under ns → Under ms
edited_under same u = u
edited_under (keep n e) (s, u) = (edited_stands n e s, edited_under e u)
edited_under (take_out e) (s, u) = edited_under e u
edited_under (put_on {ms = ms} e) (s, u) = (refl, (stands_plain ms, edited_under e u))

edited_grounded : {ns ms : List Role} (w : Bool) → Edited ns ms → Grounded w ns → Grounded w ms
edited_grounded w same g = g
edited_grounded w (keep _ e) (above n h g) = above n h (edited_grounded w e g)
edited_grounded w (keep n same) g = g
edited_grounded w (keep n (keep m same)) g = g
edited_grounded w (keep n (keep m (keep k same))) g = g
edited_grounded w (take_out e) (above _ h g) = edited_grounded w e g
edited_grounded w (put_on e) (above _ h g) = above PlainRole refl (above PlainRole refl (edited_grounded w e g))

edited_any : (p : Role → Bool) {ns ms : List Role} → p PlainRole ≡ false → Edited ns ms → has_role p ms ≡ has_role p ns
edited_any p h same = refl
edited_any p h (keep n e) = ap (λ b. cond (p n) true b) (edited_any p h e)
edited_any p h (take_out {ns = ns} e) = edited_any p h e ∙ sym (ap (λ b. cond b true (has_role p ns)) h)
edited_any p h (put_on {ns = ns} {ms = ms} e) =
    ap (λ b. cond b true (has_role p (PlainRole ∷ ms))) h ∙ ap (λ b. cond (p PlainRole) true b) (edited_any p h e)

edited_count : (p : Role → Bool) {ns ms : List Role} → p PlainRole ≡ false → Edited ns ms → count_roles p ms ≡ count_roles p ns
edited_count p h same = refl
edited_count p h (keep {ns = ns} {ms = ms} n e) = ap (λ k. cond (p n) (suc k) k) (edited_count p h e)
edited_count p h (take_out {ns = ns} e) = edited_count p h e ∙ sym (ap (λ b. cond b (suc (count_roles p ns)) (count_roles p ns)) h)
edited_count p h (put_on {ns = ns} {ms = ms} e) =
    ap (λ b. cond b (suc (count_roles p (PlainRole ∷ ms))) (count_roles p (PlainRole ∷ ms))) h ∙ ap (λ k. cond (p PlainRole) (suc k) k) (edited_count p h e)

edited_scope : (is stop : Role → Bool) {ns ms : List Role} → is PlainRole ≡ false → stop PlainRole ≡ false → Edited ns ms → role_in_scope is stop ms ≡ role_in_scope is stop ns
edited_scope is stop h k same = refl
edited_scope is stop h k (keep n e) = ap (λ b. cond (is n) true (cond (stop n) false b)) (edited_scope is stop h k e)
edited_scope is stop h k (take_out {ns = ns} e) = edited_scope is stop h k e ∙ sym (skipped is stop ns h k)
  where
    skipped : (is stop : Role → Bool) (ns : List Role) → is PlainRole ≡ false → stop PlainRole ≡ false → role_in_scope is stop (PlainRole ∷ ns) ≡ role_in_scope is stop ns
    skipped is stop ns h k = ap (λ b. cond b true (cond (stop PlainRole) false (role_in_scope is stop ns))) h ∙ ap (λ b. cond b false (role_in_scope is stop ns)) k
edited_scope is stop h k (put_on {ns = ns} {ms = ms} e) =
    ap (λ b. cond b true (cond (stop PlainRole) false (role_in_scope is stop (PlainRole ∷ ms)))) h
    ∙ ap (λ b. cond b false (role_in_scope is stop (PlainRole ∷ ms))) k
    ∙ ap (λ b. cond (is PlainRole) true (cond (stop PlainRole) false b)) (edited_scope is stop h k e)

-- some are open, and the root is an html
abbrev pub Rooted : List Role → Type 0
Rooted [] = ⊥
Rooted (n ∷ []) = is_html n ≡ true
Rooted (n ∷ m ∷ ns) = Rooted (m ∷ ns)

pub rooted_root : (ns : List Role) → Rooted ns → RootIs ns
rooted_root [] r = tt
rooted_root (n ∷ []) r = r
rooted_root (n ∷ m ∷ ns) r = rooted_root (m ∷ ns) r

pub root_rooted : (n : Role) (ns : List Role) → RootIs (n ∷ ns) → Rooted (n ∷ ns)
root_rooted n [] r = r
root_rooted n (m ∷ ns) r = root_rooted m ns r

pub rooted_push : (n : Role) (ns : List Role) → Rooted ns → Rooted (n ∷ ns)
rooted_push n [] r = absurd r
rooted_push n (m ∷ ns) r = r

pub rooted_pop : (n : Role) (ns : List Role) → is_html n ≡ false → Rooted (n ∷ ns) → Rooted ns
rooted_pop n [] h r = absurd (cc)
rooted_pop n (m ∷ ns) h r = r

edited_rooted : {ns ms : List Role} → Edited ns ms → Rooted ns → Rooted ms
edited_rooted same r = r
edited_rooted (keep {ns = []} n same) r = r
edited_rooted (keep {ns = k ∷ ks} {ms = ms} n e) r = rooted_push n ms (edited_rooted e r)
edited_rooted (take_out {ns = ns} e) r = edited_rooted e (rooted_pop PlainRole ns refl r)
edited_rooted (put_on {ns = ns} {ms = ms} e) r =
    rooted_push PlainRole (PlainRole ∷ ms) (rooted_push PlainRole ms (edited_rooted e (rooted_pop PlainRole ns refl r)))

edited_root : {ns ms : List Role} → Edited ns ms → RootIs ns → RootIs ms
edited_root {ns = []} same r = tt
edited_root {ns = n ∷ ns} {ms = ms} e r = rooted_root ms (edited_rooted e (root_rooted n ns r))

-- plain names popped, taken out, or put on plain ones, and rounds of that
pub frame_edited : {ns ms : List Role} → Edited ns ms → Frame ns ms
frame_edited e = record {
  grounded = λ w g u. edited_grounded w e g;
  under = edited_under e;
  root = edited_root e;
  templates = edited_count is_template refl e;
  base = λ h. edited_any is_ground refl e ∙ h;
  over = λ c u o. edited_scope is_table (ends c) refl refl e ∙ o;
  cell = λ u h. edited_scope is_cell_role (ends TableContext) refl refl e ∙ h;
  head = λ h. sym (edited_any is_head refl e) ∙ h;
}

-- a plain name is pushed, where some are open
pub frame_push : (n : Role) (ns : List Role) → Frame (n ∷ ns) (PlainRole ∷ n ∷ ns)
frame_push n ns = record {
  grounded = λ w g u. above PlainRole refl g;
  under = λ u. (refl, u);
  root = λ r. r;
  templates = refl;
  base = λ h. h;
  over = λ c u o. o;
  cell = λ u h. h;
  head = λ h. h;
}
