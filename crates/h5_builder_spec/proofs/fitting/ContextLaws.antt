-- The open elements after the stack is cleared back to a context.
use Rattle.std.proofs.Common.{◌≡◌, suc, Bool, true, false, cond, List, [], ◌∷◌, refl, ap, sym, ◌∙◌}
use Rattle.h5_builder_spec.specs.inner.Contexts.{Clear, LeastContext, Over, StackContext, TableBodyContext, TableContext, TableRowContext, Under, context_of, down_to, ends, stands, starts}
use Rattle.h5_builder_spec.specs.inner.Floors.{Grounded, HasBase, above, in_head, on_body, on_root, on_template}
use Rattle.h5_builder_spec.specs.reset.Roles.{CaptionRole, CellRole, ColgroupRole, HtmlRole, Role, RowRole, SectionRole, TableRole, TemplateRole, count_roles, has_role, is_ground, is_html, is_table, is_template, role_in_scope}
use Rattle.h5_builder_spec.proofs.fitting.FrameLaws.{Rooted}

pub down_under : (c : StackContext) (ns : List Role) → Under ns → Under (down_to c ns)
down_under c [] u = tt
down_under c (n ∷ ns) u = elim (ends c n) as (λ b. Under (cond b (n ∷ ns) (down_to c ns))) [ true ↦ u | false ↦ down_under c ns u.1 ]

-- what is put there stands
pub down_starts : (c : StackContext) (ns : List Role) → starts c (down_to c ns) ≡ true
down_starts c [] = refl
down_starts c (n ∷ ns) = at (ends c n) refl (down_starts c ns)
  where
    at : (b : Bool) → ends c n ≡ b → starts c (down_to c ns) ≡ true → starts c (cond b (n ∷ ns) (down_to c ns)) ≡ true
    at true e h = e
    at false e h = h

pub starts_stands : (n : Role) (ns : List Role) → starts (context_of n) ns ≡ true → stands n ns ≡ true
starts_stands n [] h = refl
starts_stands CaptionRole (m ∷ ms) h = h
starts_stands ColgroupRole (m ∷ ms) h = h
starts_stands SectionRole (m ∷ ms) h = h
starts_stands RowRole (m ∷ ms) h = h
starts_stands CellRole (m ∷ ms) h = h
starts_stands _ (m ∷ ms) h = refl

template_ends : (c : StackContext) (n : Role) → ends c n ≡ false → is_template n ≡ false
template_ends c TemplateRole h = absurd (cc)
template_ends c _ h = refl

pub down_templates : (c : StackContext) (ns : List Role) → count_roles is_template (down_to c ns) ≡ count_roles is_template ns
down_templates c [] = refl
down_templates c (n ∷ ns) = at (ends c n) refl (down_templates c ns)
  where
    at : (b : Bool) → ends c n ≡ b → count_roles is_template (down_to c ns) ≡ count_roles is_template ns → count_roles is_template (cond b (n ∷ ns) (down_to c ns)) ≡ count_roles is_template (n ∷ ns)
    at true e h = refl
    at false e h = h ∙ sym (ap (λ t. cond t (suc (count_roles is_template ns)) (count_roles is_template ns)) (template_ends c n e))

html_ends : (c : StackContext) (n : Role) → is_html n ≡ true → ends c n ≡ true
html_ends c HtmlRole h = refl
html_ends c _ h = absurd (cc)

pub down_rooted : (c : StackContext) (ns : List Role) → Rooted ns → Rooted (down_to c ns)
down_rooted c [] r = absurd r
down_rooted c (n ∷ []) r = at (ends c n) (html_ends c n r)
  where
    at : (b : Bool) → b ≡ true → Rooted (cond b (n ∷ []) [])
    at true e = r
    at false e = absurd (cc)
down_rooted c (n ∷ m ∷ ns) r = elim (ends c n) as (λ b. Rooted (cond b (n ∷ m ∷ ns) (down_to c (m ∷ ns)))) [ true ↦ r | false ↦ down_rooted c (m ∷ ns) r ]

over_later : (c : StackContext) (n : Role) (ns : List Role) → ends c n ≡ false → Over c (n ∷ ns) → (is_ground n ≡ false) × Over c ns
over_later c n ns e o = (at n e o, passed n o)
  where
    at : (m : Role) → ends c m ≡ false → Over c (m ∷ ns) → is_ground m ≡ false
    at TableRole k h = absurd (cc)
    at TemplateRole k h = absurd (cc)
    at _ k h = refl

    stopped : (t b : Bool) → b ≡ false → cond t true (cond b false (role_in_scope is_table (ends c) ns)) ≡ false → Over c ns
    stopped true b k h = absurd (cc)
    stopped false true k h = absurd (cc)
    stopped false false k h = h

    passed : (m : Role) → Over c (n ∷ ns) → Over c ns
    passed m h = stopped (is_table n) (ends c n) e h

later : (c : StackContext) (n : Role) (ns : List Role) → ends c n ≡ false → Clear c (n ∷ ns) → (is_ground n ≡ false) × Clear c ns
later LeastContext n ns e h = over_later LeastContext n ns e h
later TableBodyContext n ns e h = over_later TableBodyContext n ns e h
later TableRowContext n ns e h = over_later TableRowContext n ns e h
later TableContext TableRole ns e h = absurd (cc)
later TableContext TemplateRole ns e h = absurd (cc)
later TableContext _ ns e h = (refl, tt)

base_later : (w : Bool) (n : Role) (ns : List Role) → is_ground n ≡ false → HasBase w (n ∷ ns) → HasBase w ns
base_later false n ns e b = tt
base_later true n ns e b = sym (ap (λ t. cond t true (has_role is_ground ns)) e) ∙ b

-- a floor is kept, and what stands above it
pub down_grounded : (c : StackContext) {w : Bool} {ns : List Role} → Grounded w ns → HasBase w ns → Clear c ns → Grounded w (down_to c ns) × HasBase w (down_to c ns)
down_grounded c on_root b k = (on_root, b)
down_grounded c on_body b k = absurd (cc)
down_grounded c on_template b k = (on_template, b)
down_grounded c in_head b k = (in_head, b)
down_grounded c (above {w = w} {ns = ns} n h g) b k = at (ends c n) refl (λ e. let l = later c n ns e k in down_grounded c g (base_later w n ns l.0 b) l.1)
  where
    at : (t : Bool) → ends c n ≡ t → (ends c n ≡ false → Grounded w (down_to c ns) × HasBase w (down_to c ns)) → Grounded w (cond t (n ∷ ns) (down_to c ns)) × HasBase w (cond t (n ∷ ns) (down_to c ns))
    at true e f = (above n h g, b)
    at false e f = f e

-- where a row or a cell has been closed, its context is clear
pub starts_clear : (c : StackContext) (ns : List Role) → starts c ns ≡ true → Clear c ns
starts_clear TableContext ns h = tt
starts_clear c [] h = refl
starts_clear TableRowContext (n ∷ ns) h = at n h
  where
    at : (m : Role) → ends TableRowContext m ≡ true → Over TableRowContext (m ∷ ns)
    at TemplateRole k = refl
    at HtmlRole k = refl
    at RowRole k = refl
    at _ k = absurd (cc)
starts_clear TableBodyContext (n ∷ ns) h = at n h
  where
    at : (m : Role) → ends TableBodyContext m ≡ true → Over TableBodyContext (m ∷ ns)
    at TemplateRole k = refl
    at HtmlRole k = refl
    at SectionRole k = refl
    at _ k = absurd (cc)
starts_clear LeastContext (n ∷ ns) h = at n h
  where
    at : (m : Role) → ends LeastContext m ≡ true → Over LeastContext (m ∷ ns)
    at TemplateRole k = refl
    at HtmlRole k = refl
    at _ k = absurd (cc)
