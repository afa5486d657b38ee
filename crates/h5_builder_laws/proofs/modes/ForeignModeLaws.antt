-- The modes in which a token may be foreign, and what changes of foreign content preserve of what these modes say.
use Rattle.std.proofs.Common.{◌≡◌, ◌<◌, ℕ, Bool, true, false, not, cond, List, [], ◌∷◌, length, map, codes, IsTrue, Option, Some, None, refl, ap, sym, subst, ◌∙◌, arith}
use Rattle.std.specs.Prelude.{unwrap_or}
use Rattle.h5_names.specs.AttributeText.{is_same_text}
use Rattle.h5_names.specs.declared.qualified.QualName.{QualName}
use Rattle.h5_interface.specs.SinkChoices.{SinkChoices}
use Rattle.h5_tables.specs.TagSets.{html_namespace, is_html_named}
use Rattle.h5_tables.specs.TurnText.{CommentTurn, EofTurn, NullTurn, TagTurn, TextTurn, TurnText}
use Rattle.h5_tables.specs.declared.modes.InsertionMode.{InsertionMode}
use Rattle.h5_tables.specs.declared.modes.InsertionMode.TheVariants.{AfterAfterBody, AfterAfterFrameset, AfterBody, AfterFrameset, AfterHead, BeforeHead, BeforeHtml, InBody, InCaption, InCell, InColumnGroup, InFrameset, InHead, InHeadNoscript, InRow, InTable, InTableBody, InTableText, InTemplate, Initial, Text}
use Rattle.h5_builder_spec.specs.stack.Scope.{cut_names, first_passes, later_names}
use Rattle.h5_builder_spec.specs.inner.Fits.{PlacedBelow, is_whole}
use Rattle.h5_builder_spec.specs.reset.Situation.{Situation}
use Rattle.h5_builder_spec.specs.inner.Frames.{Frame}
use Rattle.h5_builder_spec.specs.inner.NamesFit.{NamesFit}
use Rattle.h5_builder_spec.specs.reset.Roles.{is_html_element, HeadRole, HtmlRole, Role, is_plain, role_of, roles}
use Rattle.h5_builder_spec.specs.stack.Root.{IsRootOpen}
use Rattle.h5_builder_spec.proofs.BoolLaws.{or_first, or_neither}
use Rattle.h5_builder_spec.proofs.fitting.FrameLaws.{frame_refl, frame_trans}
use Rattle.h5_builder_spec.proofs.roles.RoleNameLaws.{frame_without}
use Rattle.h5_builder_spec.proofs.fitting.NamesFitLaws.{names_frame}
use Rattle.h5_builder_spec.proofs.changes.ForeignLaws.{leave_holds}
use Rattle.h5_builder_spec.proofs.changes.PopLaws.{names-pop}
use Rattle.h5_builder_spec.specs.Changes.{pop}
use Rattle.h5_builder_spec.proofs.fitting.PlacedNameLaws.{frame_placed, known_frame, same_templates}
use Rattle.h5_builder_spec.proofs.roles.RoleLaws.{named_ns}
use Rattle.h5_builder_spec.proofs.roles.TestLaws.{foreign_plain}
use Rattle.h5_builder_spec.specs.insertion.Foreign.{adjusted_current_node, adjusted_namespace, adjusted_of, is_foreign, is_foreign_at, is_named_in_any_case, is_taken_in, leave_foreign_content, namespace_at}
use Rattle.h5_builder_spec.specs.modes.ForeignContent.{Finds, ReachesHtml, search_end}
use Rattle.h5_builder_spec.specs.Sound.{situation_of}
use Rattle.h5_builder_spec.specs.World.{World, name_in, names_of}
use Rattle.h5_builder_spec.proofs.rows.KeptLaws.{FitsAs}
use Rattle.h5_builder_spec.proofs.fitting.NamesBodyLaws.{table_goes}

-- IN HTML: where the adjusted current node is an element of HTML no token is foreign
abbrev pub IsHtmlAt : World → Option ℕ → Type 0
IsHtmlAt w None = Unit {0}
IsHtmlAt w (Some n) = is_html_element (name_in w.forest n) ≡ true

taken_html : (choices : SinkChoices) (t : TurnText) (w : World) (o : Option ℕ) → IsHtmlAt w o → is_foreign_at choices t w.forest o ≡ false
taken_html choices t w None h = refl
taken_html choices t w (Some n) h = ap not (or_first (is_html_element (name_in w.forest n)) _ h)

pub html_not_foreign : (choices : SinkChoices) (t : TurnText) (w : World) → IsHtmlAt w (adjusted_current_node w) → is_foreign choices t w ≡ false
unfolding is_foreign
html_not_foreign choices (TagTurn tag) w h = taken_html choices (TagTurn tag) w (adjusted_current_node w) h
html_not_foreign choices (CommentTurn x) w h = taken_html choices (CommentTurn x) w (adjusted_current_node w) h
html_not_foreign choices (TextTurn status x) w h = taken_html choices (TextTurn status x) w (adjusted_current_node w) h
html_not_foreign choices NullTurn w h = taken_html choices NullTurn w (adjusted_current_node w) h
html_not_foreign choices EofTurn w h = refl

-- and where one is foreign, that node is there, and isn't HTML
at_foreign : (choices : SinkChoices) (t : TurnText) (w : World) (o : Option ℕ) → is_foreign_at choices t w.forest o ≡ true → is_same_text (namespace_at w.forest o) html_namespace ≡ false
at_foreign choices t w None h = absurd (cc)
at_foreign choices t w (Some n) h = (or_neither (is_html_element (name_in w.forest n)) _ (not_true (is_taken_in choices t w.forest n) h)).0
  where
    not_true : (b : Bool) → not b ≡ true → b ≡ false
    not_true true e = absurd (cc)
    not_true false e = refl

pub foreign_namespace : (choices : SinkChoices) (t : TurnText) (w : World) → is_foreign choices t w ≡ true → is_same_text (adjusted_namespace w) html_namespace ≡ false
unfolding is_foreign
foreign_namespace choices (TagTurn tag) w h = at_foreign choices (TagTurn tag) w (adjusted_current_node w) h
foreign_namespace choices (CommentTurn x) w h = at_foreign choices (CommentTurn x) w (adjusted_current_node w) h
foreign_namespace choices (TextTurn status x) w h = at_foreign choices (TextTurn status x) w (adjusted_current_node w) h
foreign_namespace choices NullTurn w h = at_foreign choices NullTurn w (adjusted_current_node w) h
foreign_namespace choices EofTurn w h = absurd (cc)

-- a name with a role of its own is HTML's
role_html : (n : QualName) (x : Role) → role_of n ≡ x → is_plain x ≡ false → is_html_element n ≡ true
role_html n x e p = at (is_html_element n) refl
  where
    at : (b : Bool) → is_html_element n ≡ b → b ≡ true
    at true h = refl
    at false h = absurd (let clash : true ≡ false = ap is_plain (sym (sym e ∙ foreign_plain n h)) ∙ p in cc)

-- THE EXACT MODES, in which the open elements are known, and a text
abbrev pub takes_foreign : InsertionMode → Bool
takes_foreign Initial = false
takes_foreign BeforeHtml = false
takes_foreign BeforeHead = false
takes_foreign InHead = false
takes_foreign InHeadNoscript = false
takes_foreign AfterHead = false
takes_foreign Text = false
takes_foreign _ = true

module _ (w : World) where
  abbrev Html : Type 0
  Html = IsHtmlAt w (adjusted_current_node w)

  -- none is open
  html_none : roles (names_of w) ≡ [] → Html
  unfolding names_of
  html_none e = at w.stack e
    where
      at : (s : List ℕ) → map role_of (map (name_in w.forest) s) ≡ [] → IsHtmlAt w (adjusted_of w.context s)
      at [] h = tt
      at (n ∷ s) h = absurd (cc)

  -- the root alone, in a whole document or in a context that is an `html`
  html_context : (o : Option ℕ) → w.context ≡ o → (n : ℕ) → is_whole (situation_of w).context ≡ true → role_of (name_in w.forest n) ≡ HtmlRole → is_html_element (name_in w.forest (unwrap_or o n)) ≡ true
  html_context None e n h r = role_html (name_in w.forest n) HtmlRole r refl
  html_context (Some c) e n h r = role_html (name_in w.forest c) HtmlRole (whole (role_of (name_in w.forest c)) (subst (λ (o : Option ℕ). is_whole (context_role o) ≡ true) e h)) refl
    where
      context_role : Option ℕ → Option Role
      context_role None = None
      context_role (Some m) = Some (role_of (name_in w.forest m))

      whole : (x : Role) → is_whole (Some x) ≡ true → x ≡ HtmlRole
      whole HtmlRole k = refl
      whole _ k = absurd (cc)

  html_root : is_whole (situation_of w).context ≡ true → roles (names_of w) ≡ HtmlRole ∷ [] → Html
  unfolding names_of
  html_root h e = at w.stack e
    where
      at : (s : List ℕ) → map role_of (map (name_in w.forest) s) ≡ HtmlRole ∷ [] → IsHtmlAt w (adjusted_of w.context s)
      at [] k = tt
      at (n ∷ []) k = html_context w.context refl n h (cc)
      at (n ∷ m ∷ s) k = absurd (cc)

  -- two or more, the current node an element of HTML
  pub html_first : 1 < length (roles (names_of w)) → IsTrue (first_passes is_html_element (names_of w)) → Html
  unfolding names_of
  html_first l h = at w.stack l h
    where
      at : (s : List ℕ) → 1 < length (map role_of (map (name_in w.forest) s)) → IsTrue (first_passes is_html_element (map (name_in w.forest) s)) → IsHtmlAt w (adjusted_of w.context s)
      at [] k j = tt
      at (n ∷ []) k j = absurd (omega (arith, k))
      at (n ∷ m ∷ s) k j = j

  html_head : roles (names_of w) ≡ HeadRole ∷ HtmlRole ∷ [] → Html
  unfolding names_of
  html_head e = at w.stack e
    where
      at : (s : List ℕ) → map role_of (map (name_in w.forest) s) ≡ HeadRole ∷ HtmlRole ∷ [] → IsHtmlAt w (adjusted_of w.context s)
      at [] k = tt
      at (n ∷ []) k = absurd (cc)
      at (n ∷ m ∷ s) k = role_html (name_in w.forest n) HeadRole (cc) refl

  text_two : (whole : Bool) (s : Situation) (m : InsertionMode) (ns : List Role) → PlacedBelow whole s m ns → 1 < length ns
  text_two whole s m [] h = absurd h
  text_two whole s m (n ∷ []) h = absurd h
  text_two whole s m (n ∷ k ∷ ns) h = omega arith

  noscript_html : (ns : List QualName) → IsTrue (first_passes (is_html_named (codes "noscript")) ns) → IsTrue (first_passes is_html_element ns)
  noscript_html [] h = h
  noscript_html (n ∷ ns) h = named_ns (codes "noscript") n h

  pub exact_html : (m : InsertionMode) → takes_foreign m ≡ false → FitsAs m w → Html
  exact_html Initial h f = html_none f.fits.place.0
  exact_html BeforeHtml h f = html_none f.fits.place.0
  exact_html BeforeHead h f = html_root f.fits.place.0 f.fits.place.1
  exact_html InHead h f = html_head f.fits.place.1
  exact_html InHeadNoscript h f = html_first (subst (λ ns. 1 < length ns) (sym f.fits.place.1) (omega arith)) (noscript_html (names_of w) f.named)
  exact_html AfterHead h f = html_root f.fits.place.0 f.fits.place.1.0
  exact_html Text h f = html_first (text_two (is_whole (situation_of w).context) (situation_of w) f.fits.place.0 (roles (names_of w)) f.fits.place.1.1) f.named.0
  exact_html _ h f = absurd (cc)

-- so where a token is foreign the mode takes one
pub foreign_mode : (choices : SinkChoices) (t : TurnText) (w : World) → is_foreign choices t w ≡ true → FitsAs w.mode w → takes_foreign w.mode ≡ true
foreign_mode choices t w h f = at (takes_foreign w.mode) refl
  where
    at : (b : Bool) → takes_foreign w.mode ≡ b → b ≡ true
    at true e = refl
    at false e = absurd (let clash = sym h ∙ html_not_foreign choices t w (exact_html w w.mode e f) in cc)

-- FRAMES
open_length : (ns : List QualName) → IsRootOpen ns → 0 < length (roles ns)
open_length [] h = absurd h
open_length (n ∷ ns) h = omega arith

pub names_foreign_frame : (s : Situation) (m : InsertionMode) (old new : List QualName) → takes_foreign m ≡ true → Frame (roles old) (roles new) → IsRootOpen new → NamesFit s m old → NamesFit s m new
names_foreign_frame s InFrameset old new h f o fit = record {
  fits = record { known = known_frame s f fit.fits.known; place = (open_length new o, same_templates (roles old) (roles new) f.templates fit.fits.place.1) };
  named = tt;
}
names_foreign_frame s AfterFrameset old new h f o fit = record { fits = record { known = known_frame s f fit.fits.known; place = open_length new o }; named = tt }
names_foreign_frame s AfterAfterFrameset old new h f o fit = record { fits = record { known = known_frame s f fit.fits.known; place = open_length new o }; named = tt }
names_foreign_frame s InTableText old new h f o fit =
    let p = fit.fits.place in
    record {
      fits = record {
        known = known_frame s f fit.fits.known;
        place = (p.0, (p.1.0, (p.1.1.0, frame_placed (is_whole s.context) s f fit.fits.known.under p.0 (table_goes p.0 p.1.1.0) p.1.1.1)));
      };
      named = tt;
    }
names_foreign_frame s InBody old new h f o fit = names_frame s InBody old new refl f fit
names_foreign_frame s InTable old new h f o fit = names_frame s InTable old new refl f fit
names_foreign_frame s InCaption old new h f o fit = names_frame s InCaption old new refl f fit
names_foreign_frame s InColumnGroup old new h f o fit = names_frame s InColumnGroup old new refl f fit
names_foreign_frame s InTableBody old new h f o fit = names_frame s InTableBody old new refl f fit
names_foreign_frame s InRow old new h f o fit = names_frame s InRow old new refl f fit
names_foreign_frame s InCell old new h f o fit = names_frame s InCell old new refl f fit
names_foreign_frame s InTemplate old new h f o fit = names_frame s InTemplate old new refl f fit
names_foreign_frame s AfterBody old new h f o fit = names_frame s AfterBody old new refl f fit
names_foreign_frame s AfterAfterBody old new h f o fit = names_frame s AfterAfterBody old new refl f fit
names_foreign_frame s _ old new h f o fit = absurd (cc)

foreign_no_root : (n : QualName) → is_html_element n ≡ false → is_html_named (codes "html") n ≡ false
foreign_no_root n h = at (is_html_named (codes "html") n) refl
  where
    at : (b : Bool) → is_html_named (codes "html") n ≡ b → b ≡ false
    at false e = refl
    at true e = absurd (let clash = sym h ∙ named_ns (codes "html") n e in cc)

-- leaving foreign content pops names of foreign elements, and never the root
pub frame_leave : (choices : SinkChoices) (w : World) → Frame (roles (names_of w)) (roles (names_of (leave_foreign_content choices w)))
frame_leave choices w =
    leave_holds (λ v. Frame (roles (names_of w)) (roles (names_of v))) choices
    (λ v x ns e f h. frame_trans (roles (names_of w)) (roles (names_of v)) (roles (names_of (pop choices v))) h (popped v x ns e f)) w (frame_refl (roles (names_of w)))
  where
    popped : (v : World) (x : QualName) (ns : List QualName) → names_of v ≡ x ∷ ns → is_html_element x ≡ false → Frame (roles (names_of v)) (roles (names_of (pop choices v)))
    popped v x ns e f =
        subst (λ ms. Frame (roles (names_of v)) (roles ms)) (sym (names-pop choices v ∙ ap later_names e))
        (subst (λ ms. Frame (roles ms) (roles ns)) (sym e) (frame_without [] ns x (foreign_plain x f)))

pub open_leave : (choices : SinkChoices) (w : World) → IsRootOpen (names_of w) → IsRootOpen (names_of (leave_foreign_content choices w))
open_leave choices w h =
    leave_holds (λ v. IsRootOpen (names_of v)) choices
    (λ v x ns e f k. subst IsRootOpen (sym (names-pop choices v ∙ ap later_names e)) (popped x ns (foreign_no_root x f) (subst IsRootOpen e k))) w h
  where
    popped : (x : QualName) (ns : List QualName) → is_html_named (codes "html") x ≡ false → IsRootOpen (x ∷ ns) → IsRootOpen ns
    popped x [] f k = absurd (let clash = sym f ∙ k in cc)
    popped x (n ∷ ns) f k = k

-- and so does the end tag of one that is found
pub record FoundForeign (local : List ℕ) (ns : List QualName) : Type 0 where
  pub frame : Frame (roles ns) (roles (cut_names (is_named_in_any_case local) ns))
  pub still_open : IsRootOpen ns → IsRootOpen (cut_names (is_named_in_any_case local) ns)

pub found_foreign : (local : List ℕ) (ns : List QualName) → search_end local ns ≡ Finds → FoundForeign local ns
found_foreign local [] h = absurd (cc)
found_foreign local (n ∷ []) h = absurd (cc)
found_foreign local (n ∷ m ∷ ns) h = at (is_html_element n) refl (is_named_in_any_case local n) refl h (found_foreign local (m ∷ ns))
  where
    at : (b : Bool) → is_html_element n ≡ b → (c : Bool) → is_named_in_any_case local n ≡ c → cond b ReachesHtml (cond c Finds (search_end local (m ∷ ns))) ≡ Finds → (search_end local (m ∷ ns) ≡ Finds → FoundForeign local (m ∷ ns)) → FoundForeign local (n ∷ m ∷ ns)
    at true e c d k next = absurd (cc)
    at false e true d k next =
        let plain = frame_without [] (m ∷ ns) n (foreign_plain n e) in
        let same : cut_names (is_named_in_any_case local) (n ∷ m ∷ ns) ≡ m ∷ ns = ap (λ b. cond b (m ∷ ns) (cut_names (is_named_in_any_case local) (m ∷ ns))) d in
        record { frame = subst (λ x. Frame (roles (n ∷ m ∷ ns)) (roles x)) (sym same) plain; still_open = λ o. subst IsRootOpen (sym same) o }
    at false e false d k next =
        let r = next k in
        let plain = frame_without [] (m ∷ ns) n (foreign_plain n e) in
        let same : cut_names (is_named_in_any_case local) (n ∷ m ∷ ns) ≡ cut_names (is_named_in_any_case local) (m ∷ ns) = ap (λ b. cond b (m ∷ ns) (cut_names (is_named_in_any_case local) (m ∷ ns))) d in
        record {
          frame = subst (λ x. Frame (roles (n ∷ m ∷ ns)) (roles x)) (sym same) (frame_trans (roles (n ∷ m ∷ ns)) (roles (m ∷ ns)) (roles (cut_names (is_named_in_any_case local) (m ∷ ns))) plain r.frame);
          still_open = λ o. subst IsRootOpen (sym same) (r.still_open o);
        }
