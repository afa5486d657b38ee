-- The rows of InTemplate, Text and the modes before the body.
use Rattle.std.proofs.Common.{◌≡◌, ◌<◌, ◌+◌, ℕ, suc, Bool, true, false, cond, List, [], ◌∷◌, length, Option, Some, None, refl, ap, sym, subst, ◌∙◌, arith}
use Rattle.h5_tables.specs.declared.modes.InsertionMode.{InsertionMode}
use Rattle.h5_tables.specs.declared.modes.InsertionMode.TheVariants.{BeforeHead, InHead, InHeadNoscript, AfterHead, InBody, Text, InTemplate}
use Rattle.h5_builder_spec.specs.reset.SituationChanges.{later_modes, with_head, with_last_mode}
use Rattle.h5_builder_spec.specs.inner.Contexts.{LeastContext, Over, StackContext, ends}
use Rattle.h5_builder_spec.specs.inner.Fits.{Fits, Known, Placed, PlacedBelow, context_templates, is_template_mode, is_whole}
use Rattle.h5_builder_spec.specs.reset.Situation.{Situation}
use Rattle.h5_builder_spec.specs.inner.Floors.{Grounded, HasBase, RootIs, on_body}
use Rattle.h5_builder_spec.specs.reset.Roles.{BodyRole, HeadRole, HtmlRole, PlainRole, Role, TableRole, TemplateRole, count_roles, has_role, is_ground, is_head, is_table, is_template, later_roles, role_in_scope}
use Rattle.h5_builder_spec.proofs.fitting.ResetLaws.{by_template}
use Rattle.h5_builder_spec.proofs.fitting.ChangeLaws.{known_fewer, known_push, later_kinds, reset_place}
use Rattle.h5_builder_spec.proofs.BoolLaws.{later_true}

-- as many template modes as templates: in InTemplate one is open, or the context is one
template_ground : (n : Role) → is_template n ≡ true → is_ground n ≡ true
template_ground TemplateRole h = refl
template_ground _ h = absurd (cc)

counted_ground : (ns : List Role) → 0 < count_roles is_template ns → has_role is_ground ns ≡ true
counted_ground [] h = absurd (omega arith)
counted_ground (n ∷ ns) h = at (is_template n) refl h (counted_ground ns)
  where
    at : (b : Bool) → is_template n ≡ b → 0 < cond b (suc (count_roles is_template ns)) (count_roles is_template ns) → (0 < count_roles is_template ns → has_role is_ground ns ≡ true) → has_role is_ground (n ∷ ns) ≡ true
    at true e k f = ap (λ b. cond b true (has_role is_ground ns)) (template_ground n e)
    at false e k f = later_true (is_ground n) (has_role is_ground ns) (f k)

base_of_modes : (context : Option Role) (ns : List Role) (k : ℕ) → 0 < k → k ≡ count_roles is_template ns + context_templates context → HasBase (is_whole context) ns
base_of_modes None ns k h e = counted_ground ns (omega (arith, e))
base_of_modes (Some HtmlRole) ns k h e = counted_ground ns (omega (arith, e))
base_of_modes (Some _) ns k h e = tt

-- a template or the root before any table: so does what ends another context
pub over_more : (c : StackContext) (ns : List Role) → Over LeastContext ns → Over c ns
over_more c [] o = refl
over_more c (TableRole ∷ ns) o = absurd (cc)
over_more c (TemplateRole ∷ ns) o = refl
over_more c (HtmlRole ∷ ns) o = refl
over_more c (n ∷ ns) o = stop (ends c n) (role_in_scope is_table (ends c) ns) (over_more c ns o)
  where
    stop : (b r : Bool) → r ≡ false → cond b false r ≡ false
    stop true r h = refl
    stop false r h = h

replaced : (m : InsertionMode) (ms : List InsertionMode) → 0 < length ms → length (m ∷ later_modes ms) ≡ length ms
replaced m [] h = absurd (omega arith)
replaced m (k ∷ ms) h = refl

pub in_template_other : (s : Situation) (m : InsertionMode) (ns : List Role) → is_template_mode m ≡ true → Fits s InTemplate ns → Fits (with_last_mode m s) m ns
in_template_other s m ns h f =
    let k = f.known in
    let some : 0 < length s.template_modes = f.place.1.0 in
    let t = with_last_mode m s in
    let more : 0 < length t.template_modes = omega arith in
    record {
      known = record { root = k.root; modes = replaced m s.template_modes some ∙ k.modes; kinds = (h, later_kinds s.template_modes k.kinds); opened = k.opened; ok = k.ok; under = k.under };
      place = reset_place t ns m (by_template (is_whole s.context) t ns f.place.0 (base_of_modes s.context ns (length s.template_modes) some k.modes) (λ c. over_more c ns f.place.1.1) more m h).1;
    }

-- the element of text is popped
pub record Popped (s : Situation) (ns : List Role) : Type 0 where
  pub mode : InsertionMode
  pub saved : s.saved_mode ≡ Some mode
  pub placed : Placed (is_whole s.context) s mode (later_roles ns)
  pub fits : Fits s mode (later_roles ns)

known_pop : (s : Situation) (n : Role) (ns : List Role) → n ≡ PlainRole → RootIs ns → Known s (n ∷ ns) → Known s ns
known_pop s n ns e r k =
    known_fewer s (n ∷ ns) ns r (sym (ap (λ x. cond (is_template x) (suc (count_roles is_template ns)) (count_roles is_template ns)) e)) (later_true (is_head n) (has_role is_head ns)) k.under.1 k

pub text_pop : (s : Situation) (ns : List Role) → Fits s Text ns → Popped s ns
text_pop s ns f = at ns f.place.0 f.place.1.0 f.place.1.1 f.known
  where
    at : (ns : List Role) (m : InsertionMode) → s.saved_mode ≡ Some m → PlacedBelow (is_whole s.context) s m ns → Known s ns → Popped s ns
    at [] m e p k = elim p [ ]
    at (n ∷ []) m e p k = elim p [ ]
    at (n ∷ l ∷ ns) m e p k = record { mode = m; saved = e; placed = p.1; fits = record { known = known_pop s n (l ∷ ns) p.0 k.root k; place = reset_place s (l ∷ ns) m p.1 } }

-- before the body the names are known exactly
pub head_pushed : (s : Situation) (ns : List Role) → Fits s BeforeHead ns → Fits (with_head s) InHead (HeadRole ∷ ns)
head_pushed s ns f =
    let k = f.known in
    let e = f.place.1 in
    let only = subst (Known s) e k in
    let t = with_head s in
    subst (λ x. Fits t InHead (HeadRole ∷ x)) (sym e) (record {
      known = record { root = refl; modes = only.modes; kinds = only.kinds; opened = λ a. refl; ok = only.ok; under = (refl, (refl, tt)) };
      place = (f.place.0, refl);
    })

pub head_popped : (s : Situation) (ns : List Role) → Fits s InHead ns → Fits s AfterHead (later_roles ns)
head_popped s ns f =
    let e = f.place.1 in
    let k = subst (Known s) e f.known in
    subst (λ x. Fits s AfterHead (later_roles x)) (sym e) (record {
      known = known_fewer s (HeadRole ∷ HtmlRole ∷ []) (HtmlRole ∷ []) refl refl (λ h. absurd (cc)) (refl, tt) k;
      place = (f.place.0, (refl, k.opened refl));
    })

pub body_pushed : (s : Situation) (ns : List Role) → Fits s AfterHead ns → Fits s InBody (BodyRole ∷ ns)
body_pushed s ns f =
    let e = f.place.1.0 in
    let k = subst (Known s) e f.known in
    subst (λ x. Fits s InBody (BodyRole ∷ x)) (sym e) (record {
      known = known_push s BodyRole (HtmlRole ∷ []) refl refl refl refl k;
      place = subst (λ w. Grounded w (BodyRole ∷ HtmlRole ∷ [])) (sym f.place.0) on_body;
    })

pub noscript_pushed : (s : Situation) (ns : List Role) → Fits s InHead ns → Fits s InHeadNoscript (PlainRole ∷ ns)
noscript_pushed s ns f =
    let e = f.place.1 in
    let k = subst (Known s) e f.known in
    subst (λ x. Fits s InHeadNoscript (PlainRole ∷ x)) (sym e) (record {
      known = known_push s PlainRole (HeadRole ∷ HtmlRole ∷ []) refl refl refl refl k;
      place = (f.place.0, refl);
    })

pub noscript_popped : (s : Situation) (ns : List Role) → Fits s InHeadNoscript ns → Fits s InHead (later_roles ns)
noscript_popped s ns f =
    let e = f.place.1 in
    let k = subst (Known s) e f.known in
    subst (λ x. Fits s InHead (later_roles x)) (sym e) (record {
      known = known_pop s PlainRole (HeadRole ∷ HtmlRole ∷ []) refl refl k;
      place = (f.place.0, refl);
    })
