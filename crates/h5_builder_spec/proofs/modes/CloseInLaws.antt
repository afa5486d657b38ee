-- More changes in the body, where builder and sink are ready and the open elements fit a mode that uses the rules of the body: they
-- are ready after it, and the open elements fit the mode.
use Rattle.std.proofs.lemmas.Bool.{eqb-true}
use Rattle.std.proofs.lemmas.Slice.Eq.{bytes_eq-Decides}
use Rattle.std.proofs.Common.{◌≡◌, ℕ, ◌==◌, Bool, true, false, cond, not, ◌&&◌, List, [], ◌∷◌, Option, Some, None, codes, IsTrue, inl, inr, refl, ap, sym, subst, ◌∙◌}
use Rattle.h5_names.specs.AttributeText.{AttributeText, is_same_text}
use Rattle.h5_names.specs.declared.qualified.QualName.{QualName}
use Rattle.h5_interface.specs.Forest.{Forest, IsElement, kind_of}
use Rattle.h5_interface.specs.SinkChoices.{Rearranges, SinkChoices}
use Rattle.h5_tables.specs.TagSets.{html_namespace, formatting_names, is_default_scope, is_html_named, is_implied, is_one_of, is_special}
use Rattle.h5_tables.specs.declared.modes.InsertionMode.{InsertionMode}
use Rattle.h5_builder_spec.specs.formatting.FormattingList.{ElementEntry, Entry, MarkerEntry, nodes_of}
use Rattle.h5_builder_spec.specs.stack.Order.{IsIn, is_in}
use Rattle.h5_builder_spec.specs.inner.Frames.{Frame, passes_table_scope}
use Rattle.h5_builder_spec.specs.reset.Roles.{PlainRole, is_plain, role_of, role_of_local, roles}
use Rattle.h5_builder_spec.proofs.BoolLaws.{and_both, and_not}
use Rattle.h5_builder_spec.proofs.fitting.FrameLaws.{frame_trans}
use Rattle.h5_builder_spec.proofs.roles.SetLaws.{ordinary_plain}
use Rattle.h5_builder_spec.proofs.changes.TreeLaws.{OnlyTree, tree_implied_except, tree_pop, tree_remove, tree_then, tree_until}
use Rattle.h5_builder_spec.specs.stack.Closing.{close_item, close_list_item, copy_closed_option, ends_item_search, generate_implied_end_tags, generate_implied_end_in_select, is_html_among, newest_item, passed_names}
use Rattle.h5_builder_spec.specs.stack.Scope.{comes_before_special, cut_names, drop_while, first_passes, in_scope, is_implied_but, later_names, node_in_scope, oldest_of, oldest_passing}
use Rattle.h5_builder_spec.proofs.entries.PassLaws.{lists_without_node}
use Rattle.h5_builder_spec.specs.modes.Shared.{current_is}
use Rattle.h5_builder_spec.proofs.adoption.AdoptionFrameLaws.{Framed, framed_same, taken_framed}
use Rattle.h5_builder_spec.proofs.adoption.AdoptionForest.{kinds_trans}
use Rattle.h5_builder_spec.specs.World.{World, name_in, name_of_found, names_of}
use Rattle.h5_builder_spec.specs.formatting.FormattingNames.{AllFormatting, AllOfTags, html_name}
use Rattle.h5_builder_spec.proofs.changes.SituationLaws.{situation_forest, situation_tree}
use Rattle.h5_builder_spec.proofs.modes.ReadyInLaws.{ReadyIn, in_implied, in_insert, in_step, steady}
use Rattle.h5_builder_spec.proofs.roles.RoleNameLaws.{cut_roles, frame_without}
use Rattle.h5_builder_spec.specs.inner.Kept.{HasLists}
use Rattle.h5_builder_spec.specs.Sound.{IsHtml, Sound}
use Rattle.h5_builder_spec.specs.Changes.{clear_form, generate_implied_end_except, insert_form, pop, pop_until_named, set_ignore_lf, with_forest}
use Rattle.h5_builder_spec.proofs.roles.EndTagLaws.{frame_other_end}
use Rattle.h5_builder_spec.proofs.roles.PlainNameLaws.{frame_implied, plain_only}
use Rattle.h5_builder_spec.proofs.changes.NameLaws.{names-cut, names-implied, names_kept}
use Rattle.h5_builder_spec.specs.formatting.AdoptionAgency.{remove_from_stack}
use Rattle.h5_builder_spec.proofs.adoption.AdoptionAgencyLaws.{Keeps, implied_keeps, pop_keeps, taken_ready, until_named_keeps, while_keeps}
use Rattle.h5_builder_spec.proofs.changes.PlaceLaws.{form_open_stands, no_form_stands}
use Rattle.h5_builder_spec.proofs.roles.RoleLaws.{role_made, role_named}
use Rattle.h5_builder_spec.specs.formatting.Formatting.{clear_active_formatting_to_marker, insert_marker}
use Rattle.h5_builder_spec.proofs.changes.ClosingLaws.{still_in_scope}
use Rattle.h5_builder_spec.proofs.changes.PopLaws.{names-pop}
use Rattle.h5_builder_spec.specs.inner.Contexts.{ends}
use Rattle.h5_builder_spec.proofs.fitting.CutNameLaws.{frame_cut}
use Rattle.h5_builder_spec.proofs.changes.ListsLaws.{steady_cleared, steady_marker, steady_rearranged}
use Rattle.h5_builder_spec.specs.inner.Fits.{goes_by_body}
use Rattle.h5_builder_spec.proofs.changes.SoundLaws.{element_is_node}
use Rattle.h5_builder_spec.proofs.roles.RoleSetLaws.{set_passes}
use Rattle.h5_builder_spec.proofs.roles.TestLaws.{frame_closed}

-- FRAMES of names

-- the item that is looked for comes before any element that ends the search
found_item : (locals : List (List ℕ)) (n : QualName) (local : List ℕ) → is_html_among locals n ≡ true → n.local ≡ local → is_html_named local n ≡ true
unfolding is_html_named
found_item locals n local a e =
    subst (λ l. (is_same_text n.ns html_namespace && is_same_text n.local l) ≡ true) e
    (ap (λ b. b && is_same_text n.local n.local) ((and_both (is_same_text n.ns html_namespace) (is_one_of locals n.local) a).0) ∙ (bytes_eq-Decides n.local n.local).1 refl)

item_in_scope : (locals : List (List ℕ)) (ns : List QualName) (local : List ℕ) → newest_item locals ns ≡ Some local → in_scope (is_html_named local) ends_item_search ns ≡ true
item_in_scope locals [] local h = absurd (cc)
item_in_scope locals (n ∷ ns) local h = at (is_html_among locals n) (ends_item_search n) refl h (item_in_scope locals ns local)
  where
    at : (a b : Bool) → is_html_among locals n ≡ a → cond a (Some n.local) (cond b None (newest_item locals ns)) ≡ Some local → (newest_item locals ns ≡ Some local → in_scope (is_html_named local) ends_item_search ns ≡ true)
        → cond (is_html_named local n) true (cond b false (in_scope (is_html_named local) ends_item_search ns)) ≡ true
    at true b a e f = ap (λ c. cond c true (cond b false (in_scope (is_html_named local) ends_item_search ns))) (found_item locals n local a (cc))
    at false true a e f = absurd (cc)
    at false false a e f = rest (is_html_named local n) (f e)
      where
        rest : (c : Bool) → in_scope (is_html_named local) ends_item_search ns ≡ true → cond c true (in_scope (is_html_named local) ends_item_search ns) ≡ true
        rest true k = refl
        rest false k = k

-- and is one of those that are looked for
item_is_one : (locals : List (List ℕ)) (ns : List QualName) (local : List ℕ) → newest_item locals ns ≡ Some local → is_one_of locals local ≡ true
item_is_one locals [] local h = absurd (cc)
item_is_one locals (n ∷ ns) local h = at (is_html_among locals n) (ends_item_search n) refl h (item_is_one locals ns local)
  where
    at : (a b : Bool) → is_html_among locals n ≡ a → cond a (Some n.local) (cond b None (newest_item locals ns)) ≡ Some local → (newest_item locals ns ≡ Some local → is_one_of locals local ≡ true) → is_one_of locals local ≡ true
    at true b a e f = let same : n.local ≡ local = cc in subst (λ l. is_one_of locals l ≡ true) same ((and_both (is_same_text n.ns html_namespace) (is_one_of locals n.local) a).1)
    at false true a e f = absurd (cc)
    at false false a e f = f e

item_passes : (n : QualName) → ends_item_search n ≡ false → passes_table_scope (role_of n) ≡ true
unfolding passed_names role_of_local
item_passes n h = at (is_special n) (is_html_among passed_names n) refl refl h
  where
    at : (a b : Bool) → is_special n ≡ a → is_html_among passed_names n ≡ b → (a && not b) ≡ false → passes_table_scope (role_of n) ≡ true
    at true true e k o = ap passes_table_scope (plain_only (role_of n) (set_passes is_plain passed_names n (refl, (refl, (refl, tt))) k))
    at true false e k o = absurd (cc)
    at false b e k o = ap passes_table_scope (ordinary_plain n e)

frame_item : (local : List ℕ) (ns : List QualName) → role_of_local local ≡ PlainRole → in_scope (is_html_named local) ends_item_search ns ≡ true
    → Frame (roles ns) (roles (cut_names (is_html_named local) (drop_while (is_implied_but local) ns)))
frame_item local ns plain h =
    let low = drop_while (is_implied_but local) ns in
    frame_trans (roles ns) (roles low) (roles (cut_names (is_html_named local) low)) (frame_implied local ns)
    (frame_cut (cut_roles (is_html_named local) ends_item_search passes_table_scope PlainRole (λ n k. role_named local n k ∙ plain) (λ n k l. item_passes n l) low
    (still_in_scope (is_html_named local) ends_item_search (is_implied_but local) (λ n e. (and_not (is_implied n) (is_html_named local n) e).1) ns h)))

-- implied end tags except for a plain name, and pops up to and including it, in a scope
frame_close_except : (local : List ℕ) (stop : QualName → Bool) (ns : List QualName) → role_of_local local ≡ PlainRole → ((n : QualName) → stop n ≡ false → is_default_scope n ≡ false) → in_scope (is_html_named local) stop ns ≡ true
    → Frame (roles ns) (roles (cut_names (is_html_named local) (drop_while (is_implied_but local) ns)))
frame_close_except local stop ns plain ends h =
    let low = drop_while (is_implied_but local) ns in
    frame_trans (roles ns) (roles low) (roles (cut_names (is_html_named local) low)) (frame_implied local ns)
    (frame_closed local stop low plain ends (still_in_scope (is_html_named local) stop (is_implied_but local) (λ n e. (and_not (is_implied n) (is_html_named local n) e).1) ns h))

-- a form isn't a formatting element, so it isn't listed
form_formatted : (name : List ℕ) → IsTrue (is_one_of formatting_names name) → name ≡ codes "form" → ⊥
unfolding formatting_names
form_formatted name h e = let k = ap (is_one_of formatting_names) e in cc

form_unlisted : (f : Forest) (n : ℕ) (l : List Entry) → IsHtml f (codes "form") n → AllOfTags f l → AllFormatting l → ¬ (IsIn n (nodes_of l))
form_unlisted f n [] is tags names i = i
form_unlisted f n (MarkerEntry ∷ l) is tags names i = form_unlisted f n l is tags names i
form_unlisted f n (ElementEntry x tag ∷ l) is tags names (inl e) = form_formatted tag.name names.0 (ap (λ (q : QualName). q.local) (ap name_of_found (sym tags.0 ∙ ap (kind_of f) (sym e) ∙ is)))
form_unlisted f n (ElementEntry x tag ∷ l) is tags names (inr i) = form_unlisted f n l is tags.1 names.1 i

-- an option that is open
pub oldest_is_open : (is : QualName → Bool) (ns : List QualName) (s : List ℕ) (n : ℕ) → oldest_passing is ns s ≡ Some n → IsIn n s
oldest_is_open is [] s n h = absurd (cc)
oldest_is_open is (x ∷ ns) [] n h = absurd (cc)
oldest_is_open is (x ∷ ns) (y ∷ s) n h = at (oldest_passing is ns s) (is x) h (oldest_is_open is ns s n)
  where
    at : (o : Option ℕ) (b : Bool) → oldest_of o (cond b (Some y) None) ≡ Some n → (o ≡ Some n → IsIn n s) → IsIn n (y ∷ s)
    at (Some older) b e f = inr (f e)
    at None true e f = let same : y ≡ n = cc in inl (sym same)
    at None false e f = absurd (cc)

-- an element in scope is open
pub node_in_stack : (x : ℕ) (stop : QualName → Bool) (ns : List QualName) (s : List ℕ) → node_in_scope x stop ns s ≡ true → IsIn x s
node_in_stack x stop [] s h = absurd (cc)
node_in_stack x stop (n ∷ ns) [] h = absurd (cc)
node_in_stack x stop (n ∷ ns) (y ∷ s) h = at (x == y) (stop n) refl h (node_in_stack x stop ns s)
  where
    at : (a b : Bool) → (x == y) ≡ a → cond a true (cond b false (node_in_scope x stop ns s)) ≡ true → (node_in_scope x stop ns s ≡ true → IsIn x s) → IsIn x (y ∷ s)
    at true b a e f = inl (eqb-true x y a)
    at false true a e f = absurd (cc)
    at false false a e f = inr (f e)

-- implied ends, and kinds of nodes
pub all_implied_keeps : (choices : SinkChoices) (w : World) → Sound w → HasLists w → Keeps w (generate_implied_end_tags choices w)
unfolding generate_implied_end_tags
all_implied_keeps choices w k l = while_keeps choices is_implied (names_of w) w k l

module _ (m : InsertionMode) (goes : goes_by_body m ≡ true) where
  -- elements leave the stack
  in_closed : (w v : World) → ReadyIn m w → Keeps w v → OnlyTree w v → Framed w v → ReadyIn m v
  in_closed w v r k t f = in_step m goes w v r (record { sound = k.sound; lists = k.lists }) (situation_tree w v t k.kinds) f

  pub in_ignore_lf : (w : World) → ReadyIn m w → ReadyIn m (set_ignore_lf w)
  unfolding names_of
  in_ignore_lf w r = record { ready = record { sound = r.ready.sound; lists = r.ready.lists; root = r.ready.root }; fit = r.fit }

  pub in_no_form : (w : World) → ReadyIn m w → ReadyIn m (clear_form w)
  unfolding names_of
  in_no_form w r = record { ready = record { sound = no_form_stands w r.ready.sound; lists = r.ready.lists; root = r.ready.root }; fit = r.fit }

  pub in_marker : (w : World) → ReadyIn m w → ReadyIn m (insert_marker w)
  unfolding insert_marker names_of
  in_marker w r =
      let k = steady_marker w (steady m goes w r) in record { ready = record { sound = k.sound; lists = k.lists; root = r.ready.root }; fit = r.fit }

  pub in_cleared : (w : World) → ReadyIn m w → ReadyIn m (clear_active_formatting_to_marker w)
  unfolding clear_active_formatting_to_marker names_of
  in_cleared w r =
      let k = steady_cleared w (steady m goes w r) in record { ready = record { sound = k.sound; lists = k.lists; root = r.ready.root }; fit = r.fit }

module _ (choices : SinkChoices) (m : InsertionMode) (goes : goes_by_body m ≡ true) (w : World) (r : ReadyIn m w) where
  pub in_implied_except : (local : List ℕ) → ReadyIn m (generate_implied_end_except choices local w)
  in_implied_except local =
      in_closed m goes w (generate_implied_end_except choices local w) r (implied_keeps choices local w r.ready.sound r.ready.lists) (tree_implied_except choices local w)
      (subst (λ ns. Frame (roles (names_of w)) (roles ns)) (sym (names-implied choices local w)) (frame_implied local (names_of w)))

  pub in_until : (local : List ℕ) → role_of_local local ≡ PlainRole → in_scope (is_html_named local) is_default_scope (names_of w) ≡ true → ReadyIn m (pop_until_named local w)
  in_until local plain h =
      in_closed m goes w (pop_until_named local w) r (until_named_keeps local w r.ready.sound r.ready.lists) (tree_until local w)
      (subst (λ ns. Frame (roles (names_of w)) (roles ns)) (sym (names-cut local w)) (frame_closed local is_default_scope (names_of w) plain (λ n e. e) h))

  -- implied end tags except for a name, and pops up to and including it
  in_end : (local : List ℕ) → Frame (roles (names_of w)) (roles (cut_names (is_html_named local) (drop_while (is_implied_but local) (names_of w)))) → ReadyIn m (pop_until_named local (generate_implied_end_except choices local w))
  in_end local f =
      let v = generate_implied_end_except choices local w in
      let one = implied_keeps choices local w r.ready.sound r.ready.lists in
      let two = until_named_keeps local v one.sound one.lists in
      in_closed m goes w (pop_until_named local v) r
      (record { sound = two.sound; lists = two.lists; kinds = kinds_trans w.forest v.forest (pop_until_named local v).forest one.kinds two.kinds })
      (tree_then w v (pop_until_named local v) (tree_implied_except choices local w) (tree_until local v))
      (subst (λ ns. Frame (roles (names_of w)) (roles ns)) (sym (names-cut local v ∙ ap (cut_names (is_html_named local)) (names-implied choices local w))) f)

  pub in_close_except : (local : List ℕ) (stop : QualName → Bool) → role_of_local local ≡ PlainRole → ((n : QualName) → stop n ≡ false → is_default_scope n ≡ false) → in_scope (is_html_named local) stop (names_of w) ≡ true
      → ReadyIn m (pop_until_named local (generate_implied_end_except choices local w))
  in_close_except local stop plain ends h = in_end local (frame_close_except local stop (names_of w) plain ends h)

  pub in_close_other : (local : List ℕ) → role_of_local local ≡ PlainRole → comes_before_special local (names_of w) ≡ true → ReadyIn m (pop_until_named local (generate_implied_end_except choices local w))
  in_close_other local plain h = in_end local (frame_other_end local (names_of w) plain h)

  pub in_list_item : (locals : List (List ℕ)) → ((local : List ℕ) → is_one_of locals local ≡ true → role_of_local local ≡ PlainRole) → ReadyIn m (close_list_item choices locals w)
  unfolding close_list_item
  in_list_item locals plain = at (newest_item locals (names_of w)) refl
    where
      at : (o : Option (List ℕ)) → newest_item locals (names_of w) ≡ o → ReadyIn m (close_item choices o w)
      at None e = r
      at (Some local) e = in_end local (frame_item local (names_of w) (plain local (item_is_one locals (names_of w) local e)) (item_in_scope locals (names_of w) local e))

  pub in_select : ReadyIn m (generate_implied_end_in_select choices w)
  unfolding generate_implied_end_in_select
  in_select = elim (in_scope (is_html_named (codes "select")) is_default_scope (names_of w)) as (λ b. ReadyIn m (cond b (generate_implied_end_tags choices w) w)) [ true ↦ in_implied choices m goes w r | false ↦ r ]

  -- a plain element that is the current node
  pub in_pop : (local : List ℕ) → role_of_local local ≡ PlainRole → current_is local w ≡ true → ReadyIn m (pop choices w)
  in_pop local plain h =
      in_closed m goes w (pop choices w) r (pop_keeps choices w r.ready.sound r.ready.lists) (tree_pop choices w)
      (subst (λ ns. Frame (roles (names_of w)) (roles ns)) (sym (names-pop choices w)) (framed (names_of w) h))
    where
      framed : (ns : List QualName) → first_passes (is_html_named local) ns ≡ true → Frame (roles ns) (roles (later_names ns))
      framed [] e = absurd (cc)
      framed (n ∷ ns) e = frame_without [] ns n (role_named local n e ∙ plain)

  -- a form
  form_plain : role_of_local (codes "form") ≡ PlainRole
  unfolding role_of_local
  form_plain = refl

  pub in_insert_form : (attrs : List AttributeText) (duplicates : Bool) → ReadyIn m (insert_form choices attrs duplicates w)
  unfolding insert_form names_of
  in_insert_form attrs duplicates =
      let u = in_insert choices m goes w r (codes "form") attrs duplicates form_plain in
      record {
        ready = record { sound = form_open_stands choices attrs duplicates w r.ready.sound u.ready.sound; lists = u.ready.lists; root = u.ready.root };
        fit = u.fit;
      }

  pub in_remove_form : (n : ℕ) → IsHtml w.forest (codes "form") n → ReadyIn m (remove_from_stack choices n w)
  unfolding is_html_named html_namespace
  in_remove_form n is =
      let name : name_in w.forest n ≡ html_name (codes "form") = ap name_of_found is in
      let out = form_unlisted w.forest n w.formatting is r.ready.sound.listed r.ready.sound.formatting in
      let t = taken_ready choices n w r.ready (ap (is_html_named (codes "html")) name) (lists_without_node n w.stack w.formatting out r.ready.lists) in
      in_closed m goes w (remove_from_stack choices n w) r (record { sound = t.ready.sound; lists = t.ready.lists; kinds = t.kinds }) (tree_remove choices n w)
      (taken_framed choices n w (ap role_of name ∙ role_made (codes "form") ∙ form_plain))

  -- an option is copied, if it was closed
  pub in_copy : (n : ℕ) → IsElement w.forest n → ReadyIn m (copy_closed_option choices n w)
  unfolding copy_closed_option names_of
  in_copy n is = elim (is_in n w.stack) as (λ b. ReadyIn m (with_forest (cond b w.forest (choices.after_option_copy w.forest n)) w)) [ true ↦ r | false ↦ copied ]
    where
      copied : ReadyIn m (with_forest (choices.after_option_copy w.forest n) w)
      copied =
          let g = choices.after_option_copy w.forest n in
          let rearranged = choices.option_copy_rearranges w.forest n r.ready.sound.stands.is_forest (element_is_node w.forest n is) in
          in_step m goes w (with_forest g w) r (steady_rearranged w g rearranged (steady m goes w r)) (situation_forest w g rearranged) (framed_same w (with_forest g w) (same g rearranged))
        where
          same : (g : Forest) → Rearranges w.forest g → names_of (with_forest g w) ≡ names_of w
          same g k = names_kept w g r.ready.sound k
