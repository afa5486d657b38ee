-- What modes say by names: what frames and resets preserve, the modes before the body, and the modes left for a text.
use Rattle.std.proofs.Common.{◌≡◌, ◌<◌, ℕ, suc, Bool, true, false, cond, List, [], ◌∷◌, length, unwrap_or, codes, refl, ap, sym, subst, ◌∙◌, arith}
use Rattle.h5_names.specs.declared.qualified.QualName.{QualName}
use Rattle.h5_tables.specs.TagSets.{is_html_named}
use Rattle.h5_tables.specs.declared.modes.InsertionMode.{InsertionMode}
use Rattle.h5_tables.specs.declared.modes.InsertionMode.TheVariants.{Initial, BeforeHtml, BeforeHead, InHead, InHeadNoscript, AfterHead, InBody, Text, InTable, InTableText, InCaption, InColumnGroup, InTableBody, InRow, InCell, InTemplate, AfterBody, InFrameset, AfterFrameset, AfterAfterBody, AfterAfterFrameset}
use Rattle.h5_builder_spec.specs.formatting.FormattingNames.{html_name}
use Rattle.h5_builder_spec.specs.stack.Scope.{comes_before_special, cut_names, drop_while, is_implied_but, later_names}
use Rattle.h5_builder_spec.specs.reset.SituationChanges.{start_of, with_head, with_saved}
use Rattle.h5_builder_spec.specs.inner.Fits.{AllKinds, Fits, Known, Placed, goes_by_body, is_before_root, is_table_mode, is_template_mode, is_whole, may_be_left}
use Rattle.h5_builder_spec.specs.reset.Situation.{Situation}
use Rattle.h5_builder_spec.specs.inner.Floors.{Grounded, Left}
use Rattle.h5_builder_spec.specs.inner.Frames.{Frame}
use Rattle.h5_builder_spec.specs.inner.NamesFit.{AreNamed, IsNamed, ModeBelow, NamesFit, TableMode}
use Rattle.h5_builder_spec.specs.reset.Roles.{is_html_element, BodyRole, CellRole, FramesetRole, HeadRole, HtmlRole, PlainRole, Role, TemplateRole, is_floor_name, later_roles, role_of, role_of_local, roles}
use Rattle.h5_builder_spec.specs.reset.ResetByRoles.{context_or, decide, decide_root, first_mode, reset}
use Rattle.h5_builder_spec.proofs.fitting.ChangeLaws.{reset_fits}
use Rattle.h5_builder_spec.proofs.fitting.EdgeLaws.{fragment_fits, frameset_begun, root_pushed, table_text_begun, table_text_ended, text_pushed}
use Rattle.h5_builder_spec.specs.stack.Root.{RootIsHtml}
use Rattle.h5_builder_spec.proofs.roles.EndTagLaws.{still_comes}
use Rattle.h5_builder_spec.proofs.roles.PlainNameLaws.{frame_implied}
use Rattle.h5_builder_spec.proofs.roles.TestLaws.{fits_closed}
use Rattle.h5_builder_spec.proofs.roles.ExactLaws.{roles_root}
use Rattle.h5_builder_spec.proofs.fitting.HeadLaws.{body_pushed, head_popped, head_pushed, noscript_popped, noscript_pushed, text_pop}
use Rattle.h5_builder_spec.proofs.fitting.PlacedNameLaws.{frame_fits}
use Rattle.h5_builder_spec.proofs.roles.RoleLaws.{local_html, role_made, role_named}

pub roles_later : (ns : List QualName) → later_roles (roles ns) ≡ roles (later_names ns)
roles_later [] = refl
roles_later (n ∷ ns) = refl

-- a mode that says nothing about names
abbrev pub is_silent : InsertionMode → Bool
is_silent InHeadNoscript = false
is_silent Text = false
is_silent _ = true

silent_named : (s : Situation) (m : InsertionMode) (ns : List QualName) → is_silent m ≡ true → AreNamed s m ns
silent_named s InHeadNoscript ns h = absurd (cc)
silent_named s Text ns h = absurd (cc)
silent_named s _ ns h = tt

pub names_fit : (s : Situation) (m : InsertionMode) (ns : List QualName) → is_silent m ≡ true → Fits s m (roles ns) → NamesFit s m ns
names_fit s m ns h f = record { fits = f; named = silent_named s m ns h }

goes_silent : (m : InsertionMode) → goes_by_body m ≡ true → is_silent m ≡ true
goes_silent InHeadNoscript h = absurd (cc)
goes_silent Text h = absurd (cc)
goes_silent _ h = refl

-- what a frame keeps
pub names_frame : (s : Situation) (m : InsertionMode) (old new : List QualName) → goes_by_body m ≡ true → Frame (roles old) (roles new) → NamesFit s m old → NamesFit s m new
names_frame s m old new h e f = names_fit s m new (goes_silent m h) (frame_fits s m (roles old) (roles new) h e f.fits)

-- any other end tag in the body, also of a part of a table
pub names_ended : (s : Situation) (local : List ℕ) (ns : List QualName) → is_floor_name (role_of_local local) ≡ false → comes_before_special local ns ≡ true → NamesFit s InBody ns
    → NamesFit s InBody (cut_names (is_html_named local) (drop_while (is_implied_but local) ns))
names_ended s local ns e h f =
    let low = drop_while (is_implied_but local) ns in
    let g = names_frame s InBody ns low refl (frame_implied local ns) f in
    names_fit s InBody (cut_names (is_html_named local) low) refl (fits_closed s local low e (still_comes local ns h) g.fits)

-- the root is an `html`, and it is open once it has been made
pub names_root : (s : Situation) (m : InsertionMode) (ns : List QualName) → NamesFit s m ns → RootIsHtml ns
names_root s m ns f = roles_root ns f.fits.known.root

grounded_open : {w : Bool} {ns : List Role} → Grounded w ns → 0 < length ns
grounded_open {ns = []} g = elim g [ ]
grounded_open {ns = n ∷ ns} g = omega arith

placed_open : (w : Bool) (s : Situation) (m : InsertionMode) (ns : List Role) → Placed w s m ns → 0 < length ns
placed_open w s BeforeHead ns p = subst (λ (l : List Role). 0 < length l) (sym p.1) (omega arith)
placed_open w s InHead ns p = subst (λ (l : List Role). 0 < length l) (sym p.1) (omega arith)
placed_open w s InHeadNoscript ns p = subst (λ (l : List Role). 0 < length l) (sym p.1) (omega arith)
placed_open w s AfterHead ns p = subst (λ (l : List Role). 0 < length l) (sym p.1.0) (omega arith)
placed_open w s InBody ns p = grounded_open p
placed_open w s AfterBody ns p = grounded_open p
placed_open w s AfterAfterBody ns p = grounded_open p
placed_open w s InTable ns p = grounded_open p.0
placed_open w s InCaption ns p = grounded_open p.0
placed_open w s InColumnGroup ns p = grounded_open p.0
placed_open w s InTableBody ns p = grounded_open p.0
placed_open w s InRow ns p = grounded_open p.0
placed_open w s InCell ns p = grounded_open p.0
placed_open w s InTemplate ns p = grounded_open p.0
placed_open w s InFrameset ns p = p.0
placed_open w s AfterFrameset ns p = p
placed_open w s AfterAfterFrameset ns p = p
placed_open w s _ ns p = elim p [ ]

fits_open : (s : Situation) (m : InsertionMode) (ns : List Role) → is_before_root m ≡ false → Fits s m ns → 0 < length ns
fits_open s Initial ns h f = absurd (cc)
fits_open s BeforeHtml ns h f = absurd (cc)
fits_open s Text [] h f = elim (f.place.1.1) [ ]
fits_open s Text (n ∷ ns) h f = omega arith
fits_open s InTableText ns h f = placed_open (is_whole s.context) s f.place.0 ns f.place.1.1.1
fits_open s InBody ns h f = grounded_open f.place
fits_open s AfterBody ns h f = grounded_open f.place
fits_open s AfterAfterBody ns h f = grounded_open f.place
fits_open s InFrameset ns h f = f.place.0
fits_open s AfterFrameset ns h f = f.place
fits_open s AfterAfterFrameset ns h f = f.place
fits_open s BeforeHead ns h f = placed_open (is_whole s.context) s BeforeHead ns f.place
fits_open s InHead ns h f = placed_open (is_whole s.context) s InHead ns f.place
fits_open s InHeadNoscript ns h f = placed_open (is_whole s.context) s InHeadNoscript ns f.place
fits_open s AfterHead ns h f = placed_open (is_whole s.context) s AfterHead ns f.place
fits_open s _ ns h f = grounded_open f.place.0

pub roles_length : (ns : List QualName) → length (roles ns) ≡ length ns
roles_length [] = refl
roles_length (n ∷ ns) = ap suc (roles_length ns)

pub names_open : (s : Situation) (m : InsertionMode) (ns : List QualName) → is_before_root m ≡ false → NamesFit s m ns → 0 < length ns
names_open s m ns h f = let o = fits_open s m (roles ns) h f.fits in let e = roles_length ns in omega (arith, o, e)

-- a reset
pub kind_silent : (m : InsertionMode) → is_template_mode m ≡ true → is_silent m ≡ true
kind_silent InHeadNoscript h = absurd (cc)
kind_silent Text h = absurd (cc)
kind_silent _ h = refl

first_silent : (ms : List InsertionMode) → AllKinds ms → is_silent (first_mode ms) ≡ true
first_silent [] k = refl
first_silent (m ∷ ms) k = kind_silent m k.0

decide_silent : (s : Situation) (n : Role) (m : InsertionMode) → AllKinds s.template_modes → is_silent m ≡ true → is_silent (decide s n m) ≡ true
decide_silent s TemplateRole m k h = first_silent s.template_modes k
decide_silent s PlainRole m k h = h
decide_silent s HtmlRole m k h = at s.has_head
  where
    at : (b : Bool) → is_silent (cond b AfterHead BeforeHead) ≡ true
    at true = refl
    at false = refl
decide_silent s _ m k h = refl

root_silent : (s : Situation) (n : Role) → AllKinds s.template_modes → is_silent (decide_root s n) ≡ true
root_silent s CellRole k = refl
root_silent s HeadRole k = refl
root_silent s PlainRole k = decide_silent s PlainRole InBody k refl
root_silent s n k = decide_silent s n InBody k refl

pub reset_silent : (s : Situation) (ns : List Role) → AllKinds s.template_modes → is_silent (reset s ns) ≡ true
reset_silent s [] k = refl
reset_silent s (n ∷ []) k = root_silent s (context_or n s.context) k
reset_silent s (n ∷ m ∷ ns) k = decide_silent s n (reset s (m ∷ ns)) k (reset_silent s (m ∷ ns) k)

pub reset_named : (s : Situation) (ns : List QualName) → Fits s (reset s (roles ns)) (roles ns) → NamesFit s (reset s (roles ns)) ns
reset_named s ns f = names_fit s (reset s (roles ns)) ns (reset_silent s (roles ns) f.known.kinds) f

pub names_reset : (s : Situation) (ns : List QualName) → Left (is_whole s.context) (roles ns) → Known s (roles ns) → NamesFit s (reset s (roles ns)) ns
names_reset s ns l k = reset_named s ns (reset_fits s (roles ns) l k)

-- the start of a fragment's parser, by the name of its context element
root_role : role_of (html_name (codes "html")) ≡ HtmlRole
root_role = role_made (codes "html") ∙ local_html

pub names_fragment : (c : QualName) → NamesFit (start_of (role_of c)) (reset (start_of (role_of c)) (HtmlRole ∷ [])) (html_name (codes "html") ∷ [])
names_fragment c =
    let s = start_of (role_of c) in
    let f = fragment_fits (role_of c) in
    names_fit s (reset s (HtmlRole ∷ [])) (html_name (codes "html") ∷ []) (reset_silent s (HtmlRole ∷ []) f.known.kinds)
    (subst (λ x. Fits s (reset s (HtmlRole ∷ [])) (x ∷ [])) (sym root_role) f)

-- the root, the head, the body
pub names_root_pushed : (s : Situation) (ns : List QualName) → NamesFit s BeforeHtml ns → NamesFit s BeforeHead (html_name (codes "html") ∷ ns)
names_root_pushed s ns f = record { fits = subst (λ x. Fits s BeforeHead (x ∷ roles ns)) (sym root_role) (root_pushed s (roles ns) f.fits); named = tt }

pub names_head_pushed : (s : Situation) (n : QualName) (ns : List QualName) → role_of n ≡ HeadRole → NamesFit s BeforeHead ns → NamesFit (with_head s) InHead (n ∷ ns)
names_head_pushed s n ns e f = record { fits = subst (λ x. Fits (with_head s) InHead (x ∷ roles ns)) (sym e) (head_pushed s (roles ns) f.fits); named = tt }

pub names_head_popped : (s : Situation) (ns : List QualName) → NamesFit s InHead ns → NamesFit s AfterHead (later_names ns)
names_head_popped s ns f = record { fits = subst (Fits s AfterHead) (roles_later ns) (head_popped s (roles ns) f.fits); named = tt }

pub names_body_pushed : (s : Situation) (n : QualName) (ns : List QualName) → role_of n ≡ BodyRole → NamesFit s AfterHead ns → NamesFit s InBody (n ∷ ns)
names_body_pushed s n ns e f = record { fits = subst (λ x. Fits s InBody (x ∷ roles ns)) (sym e) (body_pushed s (roles ns) f.fits); named = tt }

pub names_frameset_begun : (s : Situation) (n : QualName) (ns : List QualName) → role_of n ≡ FramesetRole → NamesFit s AfterHead ns → NamesFit s InFrameset (n ∷ ns)
names_frameset_begun s n ns e f = record { fits = subst (λ x. Fits s InFrameset (x ∷ roles ns)) (sym e) (frameset_begun s (roles ns) f.fits); named = tt }

-- a `noscript` in the head
noscript_plain : (n : QualName) → is_html_named (codes "noscript") n ≡ true → role_of n ≡ PlainRole
unfolding role_of_local
noscript_plain n h = role_named (codes "noscript") n h ∙ plain
  where
    plain : role_of_local (codes "noscript") ≡ PlainRole
    plain = refl

pub names_noscript_pushed : (s : Situation) (n : QualName) (ns : List QualName) → is_html_named (codes "noscript") n ≡ true → NamesFit s InHead ns → NamesFit s InHeadNoscript (n ∷ ns)
names_noscript_pushed s n ns e f = record { fits = subst (λ x. Fits s InHeadNoscript (x ∷ roles ns)) (sym (noscript_plain n e)) (noscript_pushed s (roles ns) f.fits); named = e }

pub names_noscript_popped : (s : Situation) (ns : List QualName) → NamesFit s InHeadNoscript ns → NamesFit s InHead (later_names ns)
names_noscript_popped s ns f = record { fits = subst (Fits s InHead) (roles_later ns) (noscript_popped s (roles ns) f.fits); named = tt }

left_placed : (s : Situation) (m : InsertionMode) (ns : List Role) → may_be_left m ≡ true → Fits s m ns → Placed (is_whole s.context) s m ns
left_placed s Initial ns h f = absurd (cc)
left_placed s BeforeHtml ns h f = absurd (cc)
left_placed s Text ns h f = absurd (cc)
left_placed s InTableText ns h f = absurd (cc)
left_placed s _ ns h f = f.place

left_named : (s : Situation) (m : InsertionMode) (ns : List QualName) → may_be_left m ≡ true → AreNamed s m ns → IsNamed m ns
left_named s Text ns h k = absurd (cc)
left_named s _ ns h k = k

placed_named : (w : Bool) (s : Situation) (m : InsertionMode) (rs : List Role) (ns : List QualName) → Placed w s m rs → IsNamed m ns → AreNamed s m ns
placed_named w s Text rs ns p k = elim p [ ]
placed_named w s _ rs ns p k = k

-- an HTML element with a plain name is pushed for a text
pub names_text_pushed : (s : Situation) (m : InsertionMode) (x n : QualName) (ns : List QualName) → may_be_left m ≡ true → role_of x ≡ PlainRole → is_html_element x ≡ true → NamesFit s m (n ∷ ns) → NamesFit (with_saved m s) Text (x ∷ n ∷ ns)
names_text_pushed s m x n ns h e l f = record {
  fits = subst (λ y. Fits (with_saved m s) Text (y ∷ roles (n ∷ ns))) (sym e) (text_pushed s m (role_of n) (roles ns) f.fits.known (left_placed s m (roles (n ∷ ns)) h f.fits));
  named = (l, λ k j. subst (λ y. IsNamed y (n ∷ ns)) (ap (λ o. unwrap_or o m) j) (left_named s m (n ∷ ns) h f.named));
}

-- and popped again
pub names_text_popped : (s : Situation) (ns : List QualName) → NamesFit s Text ns → ModeBelow s ns
names_text_popped s ns f =
    let p = text_pop s (roles ns) f.fits in
    record {
      mode = p.mode;
      saved = p.saved;
      fit = record { fits = subst (Fits s p.mode) (roles_later ns) p.fits; named = placed_named (is_whole s.context) s p.mode (later_roles (roles ns)) (later_names ns) p.placed (f.named.1 p.mode p.saved) };
    }

-- a mode of a table is left for a text in it, and taken up again
table_silent : (m : InsertionMode) → is_table_mode m ≡ true → (is_silent m ≡ true) × (may_be_left m ≡ true)
table_silent InTable h = (refl, refl)
table_silent InTableBody h = (refl, refl)
table_silent InRow h = (refl, refl)
table_silent _ h = absurd (cc)

pub names_table_text_begun : (s : Situation) (m : InsertionMode) (ns : List QualName) → is_table_mode m ≡ true → NamesFit s m ns → NamesFit (with_saved m s) InTableText ns
names_table_text_begun s m ns h f =
    record { fits = table_text_begun s m (roles ns) h f.fits.known (left_placed s m (roles ns) (table_silent m h).1 f.fits); named = tt }

pub names_table_text_ended : (s : Situation) (ns : List QualName) → NamesFit s InTableText ns → TableMode s ns
names_table_text_ended s ns f =
    let e = table_text_ended s (roles ns) f.fits in
    record { mode = e.mode; saved = e.saved; is_table = e.is_table; fit = names_fit s e.mode ns (table_silent e.mode e.is_table).0 e.fits }
