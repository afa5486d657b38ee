-- Changes in the body, where builder and sink are ready and the open elements fit a mode that uses the rules of the body: they are
-- ready after it, and the open elements fit the mode.
use Rattle.std.proofs.Common.{◌≡◌, ◌≢◌, ℕ, Bool, true, false, cond, List, [], ◌∷◌, codes, IsTrue, refl, ap, sym, subst, ◌∙◌}
use Rattle.h5_names.specs.AttributeText.{AttributeText}
use Rattle.h5_names.specs.declared.qualified.QualName.{QualName}
use Rattle.h5_token.specs.TokenText.{TagText}
use Rattle.h5_interface.specs.SinkChoices.{SinkChoices}
use Rattle.h5_tables.specs.TagSets.{formatting_names, is_button_scope, is_default_scope, is_heading, is_html_named, is_implied, is_one_of}
use Rattle.h5_tables.specs.declared.modes.InsertionMode.{InsertionMode}
use Rattle.h5_builder_spec.specs.formatting.FormattingList.{ElementEntry, Entry, MarkerEntry, closed_front}
use Rattle.h5_builder_spec.specs.formatting.FormattingNames.{AllFormatting, html_name}
use Rattle.h5_builder_spec.specs.stack.Order.{is_in}
use Rattle.h5_builder_spec.specs.stack.Scope.{cut_names, drop_while, first_passes, has_p_in_button_scope, in_scope, is_implied_but, later_names}
use Rattle.h5_builder_spec.specs.inner.Fits.{goes_by_body, is_whole}
use Rattle.h5_builder_spec.specs.inner.Frames.{Frame}
use Rattle.h5_builder_spec.specs.inner.NamesFit.{NamesFit}
use Rattle.h5_builder_spec.specs.reset.Roles.{is_html_element, PlainRole, role_of, role_of_local, roles}
use Rattle.h5_builder_spec.specs.stack.Root.{IsRootOpen}
use Rattle.h5_builder_spec.proofs.BoolLaws.{and_not}
use Rattle.h5_builder_spec.proofs.fitting.FrameLaws.{frame_refl, frame_trans}
use Rattle.h5_builder_spec.proofs.roles.RoleNameLaws.{frame_pushed, frame_while, frame_without}
use Rattle.h5_builder_spec.proofs.fitting.NamesFitLaws.{names_frame}
use Rattle.h5_builder_spec.proofs.fitting.OpenLaws.{body_left, left_after_root, names_root_open}
use Rattle.h5_builder_spec.proofs.fitting.PlacedNameLaws.{fits_grounded}
use Rattle.h5_builder_spec.proofs.roles.PlainNameLaws.{formatting_local_plain, frame_implied, heading_plain, implied_plain}
use Rattle.h5_builder_spec.proofs.roles.RoleLaws.{local_p, role_made, role_named}
use Rattle.h5_builder_spec.proofs.fitting.SituationRoleLaws.{names_later}
use Rattle.h5_builder_spec.proofs.roles.TestLaws.{button_default, foreign_plain, frame_closed, frame_found}
use Rattle.h5_builder_spec.specs.formatting.AdoptionAgency.{adoption_agency, handle_misnested_a_tags, handle_misnested_nobr_tags}
use Rattle.h5_builder_spec.specs.Changes.{add_attrs_to_second, append_text, generate_implied_end_except, insert_and_pop_element, insert_element, pop, pop_until_named, set_foster, set_frameset_not_ok, set_frameset_ok_by_text}
use Rattle.h5_builder_spec.specs.stack.Closing.{close_p_element, close_p_element_in_button_scope, generate_implied_end_tags, pop_heading, pop_until_heading}
use Rattle.h5_builder_spec.specs.formatting.Formatting.{create_formatting_element, insert_anew, insert_for, reconstruct_active_formatting_elements}
use Rattle.h5_builder_spec.specs.Rows.{AddAttrsToSecond, ClosePElement, GenerateImpliedEnd, InsertAndPopForeignElement, InsertElement, InsertForeignElement, PopHeading, PopUntilHeading, PopUntilNamed}
use Rattle.h5_builder_spec.specs.inner.Kept.{HasHtmlRoot}
use Rattle.h5_builder_spec.specs.Sound.{Sound, situation_of}
use Rattle.h5_builder_spec.specs.World.{World, names_of}
use Rattle.h5_builder_spec.proofs.adoption.AdoptionAgencyLaws.{agency_leaves, formatting_not_html, implied_keeps, misnested_a_leaves, until_named_keeps, while_keeps}
use Rattle.h5_builder_spec.proofs.adoption.AdoptionForest.{kinds_trans}
use Rattle.h5_builder_spec.proofs.adoption.AdoptionFrameLaws.{Framed, Standing, agency_framed, framed_same, framed_then, misnested_a_framed}
use Rattle.h5_builder_spec.proofs.changes.ClosingLaws.{names-all_implied, names-close_p, names-pop_heading, names-until_heading, still_in_scope}
use Rattle.h5_builder_spec.proofs.changes.FormattingLaws.{AllListedOpen, format_ready, reconstruct_ready, sound_anew, root_anew}
use Rattle.h5_builder_spec.proofs.changes.ListsLaws.{IsSteady, ready_steady, steady_changes, steady_leaf, steady_ready, steady_text}
use Rattle.h5_builder_spec.proofs.changes.NameLaws.{names-add_to_second, names-append, names-cut, names-insert, names-insert_and_pop}
use Rattle.h5_builder_spec.proofs.changes.SituationLaws.{KeepsSituation, situation_add_to_second, situation_format, situation_frameset, situation_insert, situation_later, situation_leaf, situation_pop, situation_reconstruct, situation_same, situation_text, situation_then, situation_tree}
use Rattle.h5_builder_spec.proofs.changes.TreeLaws.{tree_adoption, tree_close_p, tree_implied, tree_misnested_a_tags}
use Rattle.h5_builder_spec.specs.insertion.Foreign.{insert_and_pop_foreign_element, insert_foreign_element}
use Rattle.h5_builder_spec.proofs.changes.ForeignLaws.{names-insert_and_pop_foreign, names-insert_foreign, situation_insert_and_pop_foreign, situation_insert_foreign}

-- FRAMES of names

-- a plain name is pushed, where the root is open
frame_onto : (n : QualName) (ns : List QualName) → IsRootOpen ns → role_of n ≡ PlainRole → Frame (roles ns) (roles (n ∷ ns))
frame_onto n [] h e = absurd h
frame_onto n (m ∷ ns) h e = frame_pushed n m ns e

-- a `p` in button scope is closed
frame_close_p : (ns : List QualName) → has_p_in_button_scope ns ≡ true → Frame (roles ns) (roles (cut_names (is_html_named (codes "p")) (drop_while (is_implied_but (codes "p")) ns)))
frame_close_p ns h =
    let low = drop_while (is_implied_but (codes "p")) ns in
    frame_trans (roles ns) (roles low) (roles (cut_names (is_html_named (codes "p")) low)) (frame_implied (codes "p") ns)
    (frame_closed (codes "p") is_button_scope low local_p button_default
    (still_in_scope (is_html_named (codes "p")) is_button_scope (is_implied_but (codes "p")) (λ n e. (and_not (is_implied n) (is_html_named (codes "p") n) e).1) ns h))

-- implied end tags
pub frame_all_implied : (ns : List QualName) → Frame (roles ns) (roles (drop_while is_implied ns))
frame_all_implied ns = frame_while is_implied implied_plain ns

-- and up to and including a plain one in default scope
pub frame_close : (is : QualName → Bool) (ns : List QualName) → ((n : QualName) → is n ≡ true → role_of n ≡ PlainRole) → ((n : QualName) → is_implied n ≡ true → is n ≡ false) → in_scope is is_default_scope ns ≡ true
    → Frame (roles ns) (roles (cut_names is (drop_while is_implied ns)))
frame_close is ns plain apart h =
    let low = drop_while is_implied ns in
    frame_trans (roles ns) (roles low) (roles (cut_names is low)) (frame_all_implied ns) (frame_found is is_default_scope low plain (λ n e. e) (still_in_scope is is_default_scope is_implied apart ns h))

-- a heading that is the current node is popped
frame_pop_heading : (ns : List QualName) → Frame (roles ns) (roles (cond (first_passes is_heading ns) (later_names ns) ns))
frame_pop_heading [] = frame_refl []
frame_pop_heading (n ∷ ns) = at (is_heading n) refl
  where
    at : (b : Bool) → is_heading n ≡ b → Frame (roles (n ∷ ns)) (roles (cond b ns (n ∷ ns)))
    at true e = frame_without [] ns n (heading_plain n e)
    at false e = frame_refl (roles (n ∷ ns))

-- new elements for entries
pub front_formatting : (s : List ℕ) (l : List Entry) → AllFormatting l → AllFormatting (closed_front s l)
front_formatting s [] h = tt
front_formatting s (MarkerEntry ∷ l) h = tt
front_formatting s (ElementEntry n t ∷ l) h = at (is_in n s) (front_formatting s l h.1)
  where
    at : (b : Bool) → AllFormatting (closed_front s l) → AllFormatting (cond b [] (ElementEntry n t ∷ closed_front s l))
    at true k = tt
    at false k = (h.0, k)

framed_anew : (choices : SinkChoices) (l : List Entry) (w : World) → AllFormatting l → Sound w → IsRootOpen (names_of w) → Framed w (insert_anew choices l w)
framed_anew choices [] w h k o = frame_refl (roles (names_of w))
framed_anew choices (MarkerEntry ∷ l) w h k o = framed_anew choices l w h k o
framed_anew choices (ElementEntry n tag ∷ l) w h k o =
    let v = insert_anew choices l w in
    framed_then w v (insert_for choices tag v) (framed_anew choices l w h.1 k o)
    (subst (λ ns. Frame (roles (names_of v)) (roles ns)) (sym (names-insert choices tag.name tag.attrs tag.had_duplicate_attributes v (sound_anew choices l w k)))
    (frame_onto (html_name tag.name) (names_of v) (root_anew choices l w k o) (role_made tag.name ∙ formatting_local_plain tag.name h.0)))

framed_reconstruct : (choices : SinkChoices) (w : World) → HasHtmlRoot w → Framed w (reconstruct_active_formatting_elements choices w)
unfolding reconstruct_active_formatting_elements names_of
framed_reconstruct choices w k = framed_anew choices (closed_front w.stack w.formatting) w (front_formatting w.stack w.formatting k.sound.formatting) k.sound k.root

-- the stack alone is cut
cut_situation : (local : List ℕ) (w : World) → KeepsSituation w (pop_until_named local w)
unfolding pop_until_named
cut_situation local w = situation_tree w (pop_until_named local w) refl (situation_same w).kinds

heading_situation : (w : World) → KeepsSituation w (pop_until_heading w)
unfolding pop_until_heading
heading_situation w = situation_tree w (pop_until_heading w) refl (situation_same w).kinds

-- in a mode: builder and sink are ready, and the open elements fit the mode
pub record ReadyIn (m : InsertionMode) (w : World) : Type 0 where
  pub ready : HasHtmlRoot w
  pub fit : NamesFit (situation_of w) m (names_of w)

module _ (m : InsertionMode) (goes : goes_by_body m ≡ true) where
  pub ready_in : (w : World) → IsSteady w → NamesFit (situation_of w) m (names_of w) → ReadyIn m w
  ready_in w k f = record { ready = steady_ready w k (names_root_open (situation_of w) m (names_of w) (left_after_root m (body_left m goes)) f); fit = f }

  -- one change, by what it keeps
  pub in_step : (w v : World) → ReadyIn m w → IsSteady v → KeepsSituation w v → Framed w v → ReadyIn m v
  in_step w v r k s f =
      ready_in v k
      (names_later (situation_of w) (situation_of v) (situation_later w v r.ready.sound s) m (names_of v) (names_frame (situation_of w) m (names_of w) (names_of v) goes f r.fit))

  standing : (w : World) → ReadyIn m w → Standing (is_whole (situation_of w).context) w
  standing w r = record { grounded = fits_grounded (situation_of w) m (roles (names_of w)) goes r.fit.fits; under = r.fit.fits.known.under }

  pub steady : (w : World) → ReadyIn m w → IsSteady w
  steady w r = ready_steady w r.ready

  -- no open element changes
  pub in_frameset_text : (t : List ℕ) (w : World) → ReadyIn m w → ReadyIn m (set_frameset_ok_by_text t w)
  unfolding set_frameset_ok_by_text names_of
  in_frameset_text t w r =
      in_step w (set_frameset_ok_by_text t w) r (record { sound = r.ready.sound; lists = r.ready.lists }) (situation_frameset w t) (frame_refl (roles (names_of w)))

  pub in_frameset_off : (w : World) → ReadyIn m w → ReadyIn m (set_frameset_not_ok w)
  unfolding names_of
  in_frameset_off w r =
      let s = situation_same w in
      in_step w (set_frameset_not_ok w) r (record { sound = r.ready.sound; lists = r.ready.lists })
      (record { kinds = s.kinds; modes = refl; saved = refl; context = refl; head = λ h. h; ok = λ h. absurd (cc) }) (frame_refl (roles (names_of w)))

  pub in_foster : (on : Bool) (w : World) → ReadyIn m w → ReadyIn m (set_foster on w)
  unfolding names_of
  in_foster on w r = record { ready = record { sound = r.ready.sound; lists = r.ready.lists; root = r.ready.root }; fit = r.fit }

  pub in_text : (t : List ℕ) (w : World) → t ≢ [] → ReadyIn m w → ReadyIn m (append_text t w)
  in_text t w some r = in_step w (append_text t w) r (steady_text w (steady w r) t some) (situation_text w t some r.ready.sound) (framed_same w (append_text t w) (names-append t w some r.ready.sound))

module _ (choices : SinkChoices) (m : InsertionMode) (goes : goes_by_body m ≡ true) (w : World) (r : ReadyIn m w) where
  pub in_second_attrs : (attrs : List AttributeText) → ReadyIn m (add_attrs_to_second attrs w)
  in_second_attrs attrs =
      in_step m goes w (add_attrs_to_second attrs w) r (steady_changes choices (AddAttrsToSecond attrs ∷ []) w (tt, tt) (steady m goes w r)) (situation_add_to_second w attrs r.ready.sound)
      (framed_same w (add_attrs_to_second attrs w) (names-add_to_second attrs w r.ready.sound))

  pub in_leaf : (local : List ℕ) (attrs : List AttributeText) (duplicates : Bool) → ReadyIn m (insert_and_pop_element choices local attrs duplicates w)
  in_leaf local attrs duplicates =
      in_step m goes w (insert_and_pop_element choices local attrs duplicates w) r (steady_leaf choices w (steady m goes w r) local attrs duplicates) (situation_leaf choices w local attrs duplicates r.ready.sound)
      (framed_same w (insert_and_pop_element choices local attrs duplicates w) (names-insert_and_pop choices local attrs duplicates w r.ready.sound))

  -- a plain element is pushed
  pub in_insert : (local : List ℕ) (attrs : List AttributeText) (duplicates : Bool) → role_of_local local ≡ PlainRole → ReadyIn m (insert_element choices local attrs duplicates w)
  in_insert local attrs duplicates plain =
      in_step m goes w (insert_element choices local attrs duplicates w) r (steady_changes choices (InsertElement local attrs duplicates ∷ []) w (tt, tt) (steady m goes w r))
      (situation_insert choices w local attrs duplicates r.ready.sound)
      (subst (λ ns. Frame (roles (names_of w)) (roles ns)) (sym (names-insert choices local attrs duplicates w r.ready.sound)) (frame_onto (html_name local) (names_of w) r.ready.root (role_made local ∙ plain)))

  -- an element of SVG or MathML
  pub in_leaf_foreign : (name : QualName) (attrs : List AttributeText) (duplicates : Bool) → ReadyIn m (insert_and_pop_foreign_element choices name attrs duplicates w)
  in_leaf_foreign name attrs duplicates =
      let v = insert_and_pop_foreign_element choices name attrs duplicates w in
      in_step m goes w v r (steady_changes choices (InsertAndPopForeignElement name attrs duplicates ∷ []) w (tt, tt) (steady m goes w r))
      (situation_insert_and_pop_foreign choices name attrs duplicates w r.ready.sound) (framed_same w v (names-insert_and_pop_foreign choices name attrs duplicates w r.ready.sound))

  pub in_insert_foreign : (name : QualName) (attrs : List AttributeText) (duplicates : Bool) → is_html_element name ≡ false → ReadyIn m (insert_foreign_element choices name attrs duplicates w)
  in_insert_foreign name attrs duplicates foreign =
      in_step m goes w (insert_foreign_element choices name attrs duplicates w) r (steady_changes choices (InsertForeignElement name attrs duplicates ∷ []) w (tt, tt) (steady m goes w r))
      (situation_insert_foreign choices name attrs duplicates w r.ready.sound)
      (subst (λ ns. Frame (roles (names_of w)) (roles ns)) (sym (names-insert_foreign choices name attrs duplicates w r.ready.sound)) (frame_onto name (names_of w) r.ready.root (foreign_plain name foreign)))

  -- elements are closed
  implied_situation : KeepsSituation w (generate_implied_end_tags choices w)
  unfolding generate_implied_end_tags
  implied_situation = situation_tree w (generate_implied_end_tags choices w) (tree_implied choices w) (while_keeps choices is_implied (names_of w) w r.ready.sound r.ready.lists).kinds

  pop_heading_situation : KeepsSituation w (pop_heading choices w)
  unfolding pop_heading
  pop_heading_situation = elim (first_passes is_heading (names_of w)) as (λ b. KeepsSituation w (cond b (pop choices w) w)) [ true ↦ situation_pop choices w | false ↦ situation_same w ]

  pub in_implied : ReadyIn m (generate_implied_end_tags choices w)
  in_implied =
      in_step m goes w (generate_implied_end_tags choices w) r (steady_changes choices (GenerateImpliedEnd ∷ []) w (tt, tt) (steady m goes w r)) implied_situation
      (subst (λ ns. Frame (roles (names_of w)) (roles ns)) (sym (names-all_implied choices w)) (frame_all_implied (names_of w)))

  close_p_situation : KeepsSituation w (close_p_element choices w)
  unfolding close_p_element
  close_p_situation =
      let v = generate_implied_end_except choices (codes "p") w in
      let one = implied_keeps choices (codes "p") w r.ready.sound r.ready.lists in
      situation_tree w (pop_until_named (codes "p") v) (tree_close_p choices w) (kinds_trans w.forest v.forest (pop_until_named (codes "p") v).forest one.kinds (until_named_keeps (codes "p") v one.sound one.lists).kinds)

  pub in_close_p : has_p_in_button_scope (names_of w) ≡ true → ReadyIn m (close_p_element choices w)
  in_close_p h =
      in_step m goes w (close_p_element choices w) r (steady_changes choices (ClosePElement ∷ []) w (tt, tt) (steady m goes w r)) close_p_situation
      (subst (λ ns. Frame (roles (names_of w)) (roles ns)) (sym (names-close_p choices w)) (frame_close_p (names_of w) h))

  pub in_close_p_in_scope : ReadyIn m (close_p_element_in_button_scope choices w)
  unfolding close_p_element_in_button_scope
  in_close_p_in_scope = at (has_p_in_button_scope (names_of w)) refl
    where
      at : (b : Bool) → has_p_in_button_scope (names_of w) ≡ b → ReadyIn m (cond b (close_p_element choices w) w)
      at true e = in_close_p e
      at false e = r

  pub in_pop_heading : ReadyIn m (pop_heading choices w)
  in_pop_heading =
      in_step m goes w (pop_heading choices w) r (steady_changes choices (PopHeading ∷ []) w (tt, tt) (steady m goes w r)) pop_heading_situation
      (subst (λ ns. Frame (roles (names_of w)) (roles ns)) (sym (names-pop_heading choices w)) (frame_pop_heading (names_of w)))

  -- implied end tags, and up to and including a plain name, or a heading, in default scope
  pub in_close_named : (local : List ℕ) → role_of_local local ≡ PlainRole → ((n : QualName) → is_implied n ≡ true → is_html_named local n ≡ false) → in_scope (is_html_named local) is_default_scope (names_of w) ≡ true
      → ReadyIn m (pop_until_named local (generate_implied_end_tags choices w))
  in_close_named local plain apart h =
      let v = generate_implied_end_tags choices w in
      in_step m goes w (pop_until_named local v) r (steady_changes choices (GenerateImpliedEnd ∷ PopUntilNamed local ∷ []) w (tt, (tt, tt)) (steady m goes w r))
      (situation_then w v (pop_until_named local v) implied_situation (cut_situation local v))
      (subst (λ ns. Frame (roles (names_of w)) (roles ns)) (sym (names-cut local v ∙ ap (cut_names (is_html_named local)) (names-all_implied choices w)))
      (frame_close (is_html_named local) (names_of w) (λ n e. role_named local n e ∙ plain) apart h))

  pub in_close_heading : ((n : QualName) → is_implied n ≡ true → is_heading n ≡ false) → in_scope is_heading is_default_scope (names_of w) ≡ true → ReadyIn m (pop_until_heading (generate_implied_end_tags choices w))
  in_close_heading apart h =
      let v = generate_implied_end_tags choices w in
      in_step m goes w (pop_until_heading v) r (steady_changes choices (GenerateImpliedEnd ∷ PopUntilHeading ∷ []) w (tt, (tt, tt)) (steady m goes w r))
      (situation_then w v (pop_until_heading v) implied_situation (heading_situation v))
      (subst (λ ns. Frame (roles (names_of w)) (roles ns)) (sym (names-until_heading v ∙ ap (cut_names is_heading) (names-all_implied choices w)))
      (frame_close is_heading (names_of w) heading_plain apart h))

  -- active formatting elements
  pub in_reconstruct : ReadyIn m (reconstruct_active_formatting_elements choices w)
  in_reconstruct =
      let v = reconstruct_active_formatting_elements choices w in
      in_step m goes w v r (ready_steady v (reconstruct_ready choices w r.ready)) (situation_reconstruct choices w r.ready.sound) (framed_reconstruct choices w r.ready)

  names-format : (tag : TagText) → names_of (create_formatting_element choices tag w) ≡ html_name tag.name ∷ names_of w
  unfolding create_formatting_element names_of
  names-format tag = names-insert choices tag.name tag.attrs tag.had_duplicate_attributes w r.ready.sound

  pub in_format : (tag : TagText) → IsTrue (is_one_of formatting_names tag.name) → AllListedOpen w → ReadyIn m (create_formatting_element choices tag w)
  in_format tag named all =
      let v = create_formatting_element choices tag w in
      in_step m goes w v r (ready_steady v (format_ready choices tag w named all r.ready)) (situation_format choices tag w r.ready.sound)
      (subst (λ ns. Frame (roles (names_of w)) (roles ns)) (sym (names-format tag)) (frame_onto (html_name tag.name) (names_of w) r.ready.root (role_made tag.name ∙ formatting_local_plain tag.name named)))

  pub in_agency : (name : List ℕ) → IsTrue (is_one_of formatting_names name) → ReadyIn m (adoption_agency choices name w)
  in_agency name named =
      let v = adoption_agency choices name w in
      let leaves = agency_leaves choices name w (formatting_not_html name named) r.ready in
      in_step m goes w v r (ready_steady v leaves.ready) (situation_tree w v (tree_adoption choices name w) leaves.kinds)
      (agency_framed (is_whole (situation_of w).context) choices name w (formatting_local_plain name named) r.ready (standing m goes w r))

  pub in_misnested_a : ReadyIn m (handle_misnested_a_tags choices w)
  in_misnested_a =
      let v = handle_misnested_a_tags choices w in
      let leaves = misnested_a_leaves choices w r.ready in
      in_step m goes w v r (ready_steady v leaves.ready) (situation_tree w v (tree_misnested_a_tags choices w) leaves.kinds)
      (misnested_a_framed (is_whole (situation_of w).context) choices w r.ready (standing m goes w r))

pub in_misnested_nobr : (choices : SinkChoices) (m : InsertionMode) (goes : goes_by_body m ≡ true) (w : World) → ReadyIn m w → ReadyIn m (handle_misnested_nobr_tags choices w)
unfolding handle_misnested_nobr_tags formatting_names
in_misnested_nobr choices m goes w r =
    elim (in_scope (is_html_named (codes "nobr")) is_default_scope (names_of w)) as (λ b. ReadyIn m (cond b (reconstruct_active_formatting_elements choices (adoption_agency choices (codes "nobr") w)) w)) [
      | true ↦ in_reconstruct choices m goes (adoption_agency choices (codes "nobr") w) (in_agency choices m goes w r (codes "nobr") refl)
      | false ↦ r
    ]
