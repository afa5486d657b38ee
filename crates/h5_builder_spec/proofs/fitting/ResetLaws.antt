-- The mode that a reset chooses fits the names of open elements.
use Rattle.std.proofs.Common.{◌≡◌, ◌<◌, ◌+◌, ℕ, suc, Bool, true, false, cond, List, [], ◌∷◌, ◌⊎◌, inl, inr, length, Option, Some, None, refl, ap, subst, ◌∙◌, arith}
use Rattle.h5_tables.specs.declared.modes.InsertionMode.{InsertionMode}
use Rattle.h5_tables.specs.declared.modes.InsertionMode.TheVariants.{BeforeHead, AfterHead, InBody, InTable, InCaption, InColumnGroup, InTableBody, InRow, InCell, InTemplate, InFrameset}
use Rattle.h5_builder_spec.specs.inner.Contexts.{LeastContext, Over, StackContext, TableBodyContext, TableContext, TableRowContext, Under, ends, stands, stands_on}
use Rattle.h5_builder_spec.specs.inner.Fits.{AllKinds, Counted, Placed, context_templates, is_template_mode, is_whole}
use Rattle.h5_builder_spec.specs.reset.Situation.{Situation}
use Rattle.h5_builder_spec.specs.inner.Floors.{Grounded, HasBase, Left, above, grounded_left, head_left, in_head, on_body, on_root, on_template, root_left}
use Rattle.h5_builder_spec.specs.reset.ResetByRoles.{context_or, decide, decide_root, first_mode, reset}
use Rattle.h5_builder_spec.specs.reset.Roles.{BodyRole, CaptionRole, CellRole, ColgroupRole, FramesetRole, HeadRole, HtmlRole, PlainRole, Role, RowRole, SectionRole, TableRole, TemplateRole, count_roles, has_role, is_base, is_ground, is_table_part, is_table, is_template, role_in_scope}

-- a part of a table stands, by others, on a table or a template
foot_table : (m : Role) → ends TableContext m ≡ true → is_base m ≡ false → is_ground m ≡ true
foot_table TableRole e b = refl
foot_table TemplateRole e b = refl
foot_table HtmlRole e b = absurd (cc)
foot_table _ e b = absurd (cc)

foot : (n m : Role) → is_table_part n ≡ true → stands_on n m ≡ true → is_base m ≡ false → (is_ground m ≡ true) ⊎ (is_table_part m ≡ true)
foot CaptionRole m s e b = inl (foot_table m e b)
foot ColgroupRole m s e b = inl (foot_table m e b)
foot SectionRole m s e b = inl (foot_table m e b)
foot RowRole TemplateRole s e b = inl refl
foot RowRole SectionRole s e b = inr refl
foot RowRole HtmlRole s e b = absurd (cc)
foot RowRole _ s e b = absurd (cc)
foot CellRole TemplateRole s e b = inl refl
foot CellRole RowRole s e b = inr refl
foot CellRole HtmlRole s e b = absurd (cc)
foot CellRole _ s e b = absurd (cc)
foot _ m s e b = absurd (cc)

any_first : (p : Role → Bool) (n : Role) (ns : List Role) → p n ≡ true → has_role p (n ∷ ns) ≡ true
any_first p n ns h = ap (λ b. cond b true (has_role p ns)) h

any_later : (p : Role → Bool) (n : Role) (ns : List Role) → has_role p ns ≡ true → has_role p (n ∷ ns) ≡ true
any_later p n ns h = at (p n)
  where
    at : (b : Bool) → cond b true (has_role p ns) ≡ true
    at true = refl
    at false = h

-- what a name over a whole document's floor stands on
footed : (n : Role) {ns : List Role} → is_table_part n ≡ true → Grounded true ns → stands n ns ≡ true → (has_role is_ground ns ≡ true) ⊎ (has_role is_table_part ns ≡ true)
footed n s on_body e = absurd (not_body n s e)
  where
    not_body : (n : Role) → is_table_part n ≡ true → stands_on n BodyRole ≡ true → ⊥
    not_body CaptionRole s e = absurd (cc)
    not_body ColgroupRole s e = absurd (cc)
    not_body SectionRole s e = absurd (cc)
    not_body RowRole s e = absurd (cc)
    not_body CellRole s e = absurd (cc)
    not_body _ s e = absurd (cc)
footed n s on_template e = inl refl
footed n s in_head e = inl refl
footed n s (above {ns = ns} m b g) e = elim (foot n m s e b) [ inl h ↦ inl (any_first is_ground m ns h) | inr h ↦ inr (any_first is_table_part m ns h) ]

-- a part of a table first, or what is known below
has_ground : {ns : List Role} → Grounded true ns → Under ns → has_role is_table_part ns ≡ true → has_role is_ground ns ≡ true
has_ground on_body u h = absurd (cc)
has_ground on_template u h = refl
has_ground in_head u h = refl
has_ground (above {ns = ns} n b g) u h = at (is_table_part n) refl h (has_ground g u.1)
  where
    at : (t : Bool) → is_table_part n ≡ t → cond t true (has_role is_table_part ns) ≡ true → (has_role is_table_part ns ≡ true → has_role is_ground ns ≡ true) → has_role is_ground (n ∷ ns) ≡ true
    at false e k f = any_later is_ground n ns (f k)
    at true e k f = any_later is_ground n ns (elim (footed n e g u.0) [ inl l ↦ l | inr l ↦ f l ])

pub base_of_table_part : (w : Bool) (ns : List Role) → Grounded w ns → Under ns → has_role is_table_part ns ≡ true → HasBase w ns
base_of_table_part true ns g u h = has_ground g u h
base_of_table_part false ns g u h = tt

base_of_ground : (w : Bool) (ns : List Role) → has_role is_ground ns ≡ true → HasBase w ns
base_of_ground true ns h = h
base_of_ground false ns h = tt

-- the last template mode
first_kind : (ms : List InsertionMode) → 0 < length ms → AllKinds ms → is_template_mode (first_mode ms) ≡ true
first_kind [] h k = absurd (omega arith)
first_kind (m ∷ ms) h k = k.0

-- a mode that a plain name on top leaves as it is
abbrev pub is_lasting : InsertionMode → Bool
is_lasting InBody = true
is_lasting InTable = true
is_lasting InCaption = true
is_lasting InColumnGroup = true
is_lasting InTableBody = true
is_lasting InRow = true
is_lasting InCell = true
is_lasting InTemplate = true
is_lasting InFrameset = true
is_lasting _ = false

abbrev pub Lasts : Bool → Situation → InsertionMode → List Role → Type 0
Lasts w s m ns = (is_lasting m ≡ true) × Placed w s m ns

base_push : (w : Bool) (ns : List Role) → HasBase w ns → HasBase w (PlainRole ∷ ns)
base_push true ns h = h
base_push false ns h = tt

lasts_push : (w : Bool) (s : Situation) (m : InsertionMode) (ns : List Role) → Lasts w s m ns → Lasts w s m (PlainRole ∷ ns)
lasts_push w s InBody ns h = (refl, above PlainRole refl h.1)
lasts_push w s InTable ns h = (refl, (above PlainRole refl h.1.0, base_push w ns h.1.1))
lasts_push w s InCaption ns h = (refl, (above PlainRole refl h.1.0, base_push w ns h.1.1))
lasts_push w s InColumnGroup ns h = (refl, (above PlainRole refl h.1.0, base_push w ns h.1.1))
lasts_push w s InTableBody ns h = (refl, (above PlainRole refl h.1.0, (base_push w ns h.1.1.0, h.1.1.1)))
lasts_push w s InRow ns h = (refl, (above PlainRole refl h.1.0, (base_push w ns h.1.1.0, h.1.1.1)))
lasts_push w s InCell ns h = (refl, (above PlainRole refl h.1.0, (base_push w ns h.1.1.0, h.1.1.1)))
lasts_push w s InTemplate ns h = (refl, (above PlainRole refl h.1.0, h.1.1))
lasts_push w s InFrameset ns h = (refl, (let k : 0 < length ns = h.1.0 in omega arith, h.1.1))
lasts_push w s _ ns h = absurd (let k = h.0 in cc)

-- what a template mode says holds if the template comes first, or if it is a fragment's context
pub by_template : (w : Bool) (s : Situation) (ns : List Role) → Grounded w ns → HasBase w ns → ((c : StackContext) → Over c ns) → 0 < length s.template_modes → (m : InsertionMode) → is_template_mode m ≡ true → Lasts w s m ns
by_template w s ns g b o some InTemplate h = (refl, (g, (some, o LeastContext)))
by_template w s ns g b o some InTable h = (refl, (g, b))
by_template w s ns g b o some InColumnGroup h = (refl, (g, b))
by_template w s ns g b o some InTableBody h = (refl, (g, (b, o TableBodyContext)))
by_template w s ns g b o some InRow h = (refl, (g, (b, o TableRowContext)))
by_template w s ns g b o some InBody h = (refl, g)
by_template w s ns g b o some _ h = absurd (cc)

ends_clear : (c : StackContext) (n : Role) (ns : List Role) → is_table n ≡ false → ends c n ≡ true → Over c (n ∷ ns)
ends_clear c n ns t e = ap (λ b. cond b true (cond (ends c n) false (role_in_scope is_table (ends c) ns))) t ∙ ap (λ b. cond b false (role_in_scope is_table (ends c) ns)) e

-- where a template is first
at_template : (w : Bool) (s : Situation) (ns : List Role) → Grounded w (TemplateRole ∷ ns) → AllKinds s.template_modes → Counted s (TemplateRole ∷ ns) → Lasts w s (first_mode s.template_modes) (TemplateRole ∷ ns)
at_template w s ns g k m =
    let some : 0 < length s.template_modes = omega (arith, m) in
    by_template w s (TemplateRole ∷ ns) g (base_of_ground w (TemplateRole ∷ ns) refl) (λ c. ends_clear c TemplateRole ns refl refl) some (first_mode s.template_modes) (first_kind s.template_modes some k)

reset_step : (w : Bool) (s : Situation) (n : Role) {ns : List Role} → Grounded w ns → decide s n (reset s ns) ≡ reset s (n ∷ ns)
reset_step w s n on_root = refl
reset_step w s n on_body = refl
reset_step w s n on_template = refl
reset_step w s n in_head = refl
reset_step w s n (above m b g) = refl

-- a name that decides, above the floor
decided : (w : Bool) (s : Situation) (n : Role) (ns : List Role) (below : InsertionMode) → is_base n ≡ false → Grounded w (n ∷ ns) → Under (n ∷ ns) → AllKinds s.template_modes → Counted s (n ∷ ns) → (n ≡ PlainRole → Lasts w s below ns) → Lasts w s (decide s n below) (n ∷ ns)
decided w s PlainRole ns below b g u k m rest = lasts_push w s below ns (rest refl)
decided w s TemplateRole ns below b g u k m rest = at_template w s ns g k m
decided w s TableRole ns below b g u k m rest = (refl, (g, base_of_ground w (TableRole ∷ ns) refl))
decided w s CaptionRole ns below b g u k m rest = (refl, (g, base_of_table_part w (CaptionRole ∷ ns) g u refl))
decided w s ColgroupRole ns below b g u k m rest = (refl, (g, base_of_table_part w (ColgroupRole ∷ ns) g u refl))
decided w s SectionRole ns below b g u k m rest = (refl, (g, (base_of_table_part w (SectionRole ∷ ns) g u refl, refl)))
decided w s RowRole ns below b g u k m rest = (refl, (g, (base_of_table_part w (RowRole ∷ ns) g u refl, refl)))
decided w s CellRole ns below b g u k m rest = (refl, (g, (base_of_table_part w (CellRole ∷ ns) g u refl, refl)))
decided w s _ ns below b g u k m rest = absurd (cc)

-- the root of a fragment
at_root : (s : Situation) (context : Option Role) → is_whole context ≡ false → AllKinds s.template_modes → length s.template_modes ≡ context_templates context → Lasts false s (decide_root s (context_or HtmlRole context)) (HtmlRole ∷ [])
at_root s None e k m = absurd (cc)
at_root s (Some PlainRole) e k m = (refl, on_root)
at_root s (Some HtmlRole) e k m = absurd (cc)
at_root s (Some HeadRole) e k m = (refl, on_root)
at_root s (Some BodyRole) e k m = (refl, on_root)
at_root s (Some FramesetRole) e k m = (refl, (omega arith, refl))
at_root s (Some TableRole) e k m = (refl, (on_root, tt))
at_root s (Some TemplateRole) e k m =
    let some : 0 < length s.template_modes = omega (arith, m) in
    by_template false s (HtmlRole ∷ []) on_root tt (λ c. ends_clear c HtmlRole [] refl refl) some (first_mode s.template_modes) (first_kind s.template_modes some k)
at_root s (Some CaptionRole) e k m = (refl, (on_root, tt))
at_root s (Some ColgroupRole) e k m = (refl, (on_root, tt))
at_root s (Some SectionRole) e k m = (refl, (on_root, (tt, refl)))
at_root s (Some RowRole) e k m = (refl, (on_root, (tt, refl)))
at_root s (Some CellRole) e k m = (refl, on_root)

counted_later : (s : Situation) (n : Role) (ns : List Role) → n ≡ PlainRole → Counted s (n ∷ ns) → Counted s ns
counted_later s n ns e m = m ∙ ap (λ x. cond (is_template x) (suc (count_roles is_template ns)) (count_roles is_template ns) + context_templates s.context) e

reset_grounded : (s : Situation) {w : Bool} {ns : List Role} → is_whole s.context ≡ w → Grounded w ns → Under ns → AllKinds s.template_modes → Counted s ns → Lasts w s (reset s ns) ns
reset_grounded s e on_root u k m = at_root s s.context e k (m ∙ zero_add (context_templates s.context))
  where
    zero_add : (k : ℕ) → 0 + k ≡ k
    zero_add k = omega arith
reset_grounded s e on_body u k m = (refl, on_body)
reset_grounded s e on_template u k m = at_template true s (HtmlRole ∷ []) on_template k m
reset_grounded s e in_head u k m = at_template true s (HeadRole ∷ HtmlRole ∷ []) in_head k m
reset_grounded s {w = w} e (above {ns = ns} n b g) u k m =
    subst (λ x. Lasts w s x (n ∷ ns)) (reset_step w s n g)
    (decided w s n ns (reset s ns) b (above n b g) u k m (λ p. reset_grounded s e g u.1 k (counted_later s n ns p m)))

-- the root of a whole document
at_whole : (s : Situation) (context : Option Role) → is_whole context ≡ true → Placed true s (decide_root s (context_or HtmlRole context)) (HtmlRole ∷ [])
at_whole s context e = by_context context e
  where
    by_head : (b : Bool) → s.has_head ≡ b → Placed true s (cond b AfterHead BeforeHead) (HtmlRole ∷ [])
    by_head true h = (refl, (refl, h))
    by_head false h = (refl, refl)

    by_context : (context : Option Role) → is_whole context ≡ true → Placed true s (decide_root s (context_or HtmlRole context)) (HtmlRole ∷ [])
    by_context None k = by_head s.has_head refl
    by_context (Some HtmlRole) k = by_head s.has_head refl
    by_context (Some _) k = absurd (cc)

reset_left : (s : Situation) (w : Bool) (ns : List Role) → is_whole s.context ≡ w → Left w ns → Under ns → AllKinds s.template_modes → Counted s ns → Placed w s (reset s ns) ns
reset_left s w ns e (grounded_left g) u k m = (reset_grounded s e g u k m).1
reset_left s w ns e root_left u k m = at_whole s s.context e
reset_left s w ns e head_left u k m = (refl, refl)

-- the reset lemma
pub reset_placed : (s : Situation) (ns : List Role) → Left (is_whole s.context) ns → Under ns → AllKinds s.template_modes → Counted s ns → Placed (is_whole s.context) s (reset s ns) ns
reset_placed s ns l u k m = reset_left s (is_whole s.context) ns refl l u k m
