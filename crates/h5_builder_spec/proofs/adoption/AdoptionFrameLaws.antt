-- What the adoption agency, and the rules that call it, preserve of what modes say: by roles it removes plain names,
-- and inserts them after plain ones.
use Rattle.std.proofs.Common.{◌≡◌, ◌≤◌, inl, inr, ℕ, zero, suc, Bool, true, false, cond, not, ◌&&◌, ◌||◌, List, [], ◌∷◌, ◌++◌, length, filter, take, map, codes, Option, Some, None, refl, ap, sym, subst, ◌∙◌, arith}
use Rattle.std.specs.List.{list_any}
use Rattle.std.proofs.lemmas.List.{map-append}
use Rattle.h5_names.specs.declared.qualified.QualName.{QualName}
use Rattle.h5_interface.specs.Changes.{mark}
use Rattle.h5_interface.specs.Forest.{ElementNode, Forest}
use Rattle.h5_interface.specs.SinkChoices.{SinkChoices}
use Rattle.h5_interface.proofs.ForestLaws.{node_of_kind}
use Rattle.h5_tables.specs.TagSets.{is_default_scope, is_html_named, is_special}
use Rattle.h5_builder_spec.specs.formatting.Adoption.{FormattingElement, FurthestBlock, furthest_block, newer_than, newest_named, older_than, to_clone, without_node}
use Rattle.h5_builder_spec.specs.formatting.FormattingList.{Entry, nodes_of, without_entry}
use Rattle.h5_builder_spec.specs.formatting.FormattingNames.{html_name}
use Rattle.h5_builder_spec.specs.stack.Order.{IsIn, is_in}
use Rattle.h5_builder_spec.specs.stack.Scope.{comes_before_special, cut_names, first_passes, later_names}
use Rattle.h5_builder_spec.proofs.entries.PairLaws.{in_left, in_right, is_in_true}
use Rattle.h5_builder_spec.proofs.entries.PassLaws.{furthest_block_at, stack_split, without_node_split}
use Rattle.h5_builder_spec.specs.inner.Contexts.{Under}
use Rattle.h5_builder_spec.specs.inner.Floors.{Grounded}
use Rattle.h5_builder_spec.specs.inner.Frames.{AllPlain, Cut, Frame, here, passes_table_scope, there}
use Rattle.h5_builder_spec.specs.reset.Roles.{PlainRole, role_of, role_of_local, roles}
use Rattle.h5_builder_spec.proofs.BoolLaws.{or_neither}
use Rattle.h5_builder_spec.proofs.fitting.CutNameLaws.{frame_cut}
use Rattle.h5_builder_spec.proofs.roles.EndTagLaws.{frame_other_end}
use Rattle.h5_builder_spec.proofs.fitting.FrameLaws.{frame_refl, frame_trans}
use Rattle.h5_builder_spec.proofs.roles.RoleNameLaws.{frame_without}
use Rattle.h5_builder_spec.proofs.adoption.NamesAdoptionLaws.{frame_adopted}
use Rattle.h5_builder_spec.proofs.roles.RoleLaws.{role_named}
use Rattle.h5_builder_spec.proofs.roles.SetLaws.{default_passes, ordinary_plain}
use Rattle.h5_builder_spec.specs.formatting.AdoptionAgency.{MayAdopt, Nest, adopt, adopt_at, adopt_by, adopt_within, adoption_agency, close_misnested_a, handle_misnested_a_tags, nest, placed, refilled, remove_from_stack, unlist_and_remove}
use Rattle.h5_builder_spec.specs.Changes.{generate_implied_end_except, pop, pop_until_named}
use Rattle.h5_builder_spec.specs.stack.Closing.{close_named}
use Rattle.h5_builder_spec.specs.inner.Kept.{HasHtmlRoot}
use Rattle.h5_builder_spec.specs.World.{World, current, name_in, name_of_found, names_of}
use Rattle.h5_builder_spec.proofs.adoption.AdoptionAgencyLaws.{agency_leaves}
use Rattle.h5_builder_spec.proofs.adoption.AdoptionForest.{marked_kind}
use Rattle.h5_builder_spec.proofs.adoption.AdoptionPlace.{any_none, formatting_is_plain, newest_is_plain, newest_of_tag, older_is_open}
use Rattle.h5_builder_spec.proofs.adoption.AdoptionRound.{adopt_ready, clone_is_plain, cut_stack, map_same, round_count, round_kinds}
use Rattle.h5_builder_spec.proofs.changes.NameLaws.{names-cut, names-implied}
use Rattle.h5_builder_spec.proofs.changes.PopLaws.{names-pop}
use Rattle.h5_builder_spec.proofs.changes.SoundLaws.{element_is_node}

-- the open elements stand as modes of the body have them
pub record Standing (whole : Bool) (w : World) : Type 0 where
  pub grounded : Grounded whole (roles (names_of w))
  pub under : Under (roles (names_of w))

abbrev pub Framed : World → World → Type 0
Framed w v = Frame (roles (names_of w)) (roles (names_of v))

pub framed_then : (u v w : World) → Framed u v → Framed v w → Framed u w
framed_then u v w a b = frame_trans (roles (names_of u)) (roles (names_of v)) (roles (names_of w)) a b

pub framed_same : (w v : World) → names_of v ≡ names_of w → Framed w v
framed_same w v e = subst (λ ns. Frame (roles (names_of w)) (roles ns)) (sym e) (frame_refl (roles (names_of w)))

pub standing_framed : (whole : Bool) (w v : World) → Framed w v → Standing whole w → Standing whole v
standing_framed whole w v f s = record { grounded = f.grounded whole s.grounded s.under; under = f.under s.under }

-- Lengths and names.

filter_shorter : (p : ℕ → Bool) (s : List ℕ) → length (filter p s) ≤ length s
filter_shorter p [] = omega arith
filter_shorter p (n ∷ s) = at (p n) (filter_shorter p s)
  where
    at : (b : Bool) → length (filter p s) ≤ length s → length (cond b (n ∷ filter p s) (filter p s)) ≤ suc (length s)
    at true h = omega (arith, h)
    at false h = omega (arith, h)

take_shorter : (k : ℕ) (s : List ℕ) → length (take k s) ≤ length s
take_shorter zero s = omega arith
take_shorter (suc k) [] = omega arith
take_shorter (suc k) (n ∷ s) = let h = take_shorter k s in omega (arith, h)

clones_shorter : (l : List Entry) (s : List ℕ) → length (to_clone l s) ≤ length s
clones_shorter l s =
    let a = filter_shorter (λ n. is_in n (nodes_of l)) (take 3 s) in
    let b = take_shorter 3 s in
    omega (arith, a, b)

map_length : (named : ℕ → QualName) (s : List ℕ) → length (map named s) ≡ length s
map_length named [] = refl
map_length named (n ∷ s) = ap suc (map_length named s)

any_map : (p : QualName → Bool) (named : ℕ → QualName) (s : List ℕ) → list_any p (map named s) ≡ list_any (λ n. p (named n)) s
any_map p named [] = refl
any_map p named (n ∷ s) = ap (λ b. p (named n) || b) (any_map p named s)

all_plain : (named : ℕ → QualName) (s : List ℕ) → ((n : ℕ) → IsIn n s → role_of (named n) ≡ PlainRole) → AllPlain (roles (map named s))
all_plain named [] h = tt
all_plain named (n ∷ s) h = (h n (inl refl), all_plain named s (λ m i. h m (inr i)))

-- A round with a furthest block.

module _ {name : List ℕ} {f : FormattingElement} {k : FurthestBlock} (choices : SinkChoices) (w : World) (ready : HasHtmlRoot w) (may : MayAdopt name f k w) (whole : Bool) where
  abbrev made : Nest
  made = nest choices w.formatting (to_clone w.formatting k.between) k.block w.forest

  abbrev own : ℕ
  own = choices.fresh (placed f made w)

  abbrev older : List ℕ
  older = older_than f.node w.stack

  abbrev named : ℕ → QualName
  named = name_in w.forest

  abbrev renamed : ℕ → QualName
  renamed = name_in (refilled choices f k.block (placed f made w))

  kept_name : (n : ℕ) → IsIn n w.stack → renamed n ≡ named n
  kept_name n i = ap name_of_found (round_kinds choices w ready may n (element_is_node w.forest n (ready.sound.stands.elements n i)))

  newer_open : (n : ℕ) → IsIn n k.newer → IsIn n w.stack
  newer_open n i = subst (IsIn n) (sym (cut_stack choices w ready may)) (in_left n k.newer (k.block ∷ (k.between ++ f.node ∷ older)) i)

  block_open : IsIn k.block w.stack
  block_open = subst (IsIn k.block) (sym (cut_stack choices w ready may)) (in_right k.block k.newer (k.block ∷ (k.between ++ f.node ∷ older)) (inl refl))

  names_before : names_of w ≡ map named k.newer ++ named k.block ∷ (map named k.between ++ named f.node ∷ map named older)
  unfolding names_of
  names_before =
      ap (map named) (cut_stack choices w ready may)
      ∙ map-append named k.newer (k.block ∷ (k.between ++ f.node ∷ older))
      ∙ ap (λ l. map named k.newer ++ named k.block ∷ l) (map-append named k.between (f.node ∷ older))

  names_after : names_of (adopt choices f k w) ≡ map named k.newer ++ renamed own ∷ named k.block ∷ (map renamed made.clones ++ map named older)
  unfolding names_of
  names_after =
      map-append renamed k.newer (own ∷ k.block ∷ (made.clones ++ older))
      ∙ ap (λ l. map renamed k.newer ++ renamed own ∷ renamed k.block ∷ l) (map-append renamed made.clones older)
      ∙ ap (λ l. l ++ renamed own ∷ renamed k.block ∷ (map renamed made.clones ++ map renamed older)) (map_same renamed named k.newer (λ n i. kept_name n (newer_open n i)))
      ∙ ap (λ x. map named k.newer ++ renamed own ∷ x ∷ (map renamed made.clones ++ map renamed older)) (kept_name k.block block_open)
      ∙ ap (λ l. map named k.newer ++ renamed own ∷ named k.block ∷ (map renamed made.clones ++ l)) (map_same renamed named older (λ n i. kept_name n (older_is_open w may n i)))

  clone_role : (n : ℕ) → IsIn n (own ∷ made.clones) → role_of (renamed n) ≡ PlainRole
  clone_role n i = let p = clone_is_plain choices w ready may n i in ap (λ o. role_of (name_of_found o)) p.kind ∙ ordinary_plain (html_name p.local) p.is_plain

  adopt_framed : Standing whole w → Framed w (adopt choices f k w)
  adopt_framed s =
      let parts = furthest_block_at (λ n. is_special (name_in w.forest n)) (newer_than f.node w.stack) k may.block in
      let scope = any_none (λ n. is_default_scope (name_in w.forest n)) (newer_than f.node w.stack) k.block may.in_scope (subst (IsIn k.block) (sym parts.cut) (in_right k.block k.newer (k.block ∷ k.between) (inl refl))) in
      let a = map_length renamed made.clones in
      let b = map_length named k.between in
      let c = round_count choices w ready may in
      let d = clones_shorter w.formatting k.between in
      subst (λ ns. Frame (roles ns) (roles (names_of (adopt choices f k w)))) (sym names_before)
      (subst (λ ns. Frame (roles (map named k.newer ++ named k.block ∷ (map named k.between ++ named f.node ∷ map named older))) (roles ns)) (sym names_after)
      (frame_adopted whole (map named k.newer) (map named k.between) (map renamed made.clones) (map named older) (named k.block) (named f.node) (renamed own)
      (ordinary_plain (named f.node) (formatting_is_plain w may ready.sound)) (clone_role own (inl refl)) scope
      (any_map is_special named k.between ∙ parts.is_furthest)
      (all_plain renamed made.clones (λ n i. clone_role n (inr i))) (omega (arith, a, b, c, d))
      (subst (λ ns. Grounded whole (roles ns)) names_before s.grounded) (subst (λ ns. Under (roles ns)) names_before s.under)))

-- Elements that go.

-- up to and including a plain element, if none above it ends a scope
cut_behind : (named : ℕ → QualName) (newer older : List ℕ) (n : ℕ) → list_any (λ m. is_default_scope (named m)) newer ≡ false → role_of (named n) ≡ PlainRole
    → Cut passes_table_scope PlainRole (roles (map named (newer ++ n ∷ older))) (roles (map named older))
cut_behind named [] older n h e = subst (λ x. Cut passes_table_scope PlainRole (x ∷ roles (map named older)) (roles (map named older))) (sym e) here
cut_behind named (m ∷ newer) older n h e =
    let both = or_neither (is_default_scope (named m)) (list_any (λ j. is_default_scope (named j)) newer) h in
    there (role_of (named m)) (default_passes (named m) both.0) (cut_behind named newer older n both.1 e)

closed_framed : (n : ℕ) (w : World) → IsIn n w.stack → list_any (λ m. is_default_scope (name_in w.forest m)) (newer_than n w.stack) ≡ false → role_of (name_in w.forest n) ≡ PlainRole
    → Framed w (record w { stack = older_than n w.stack; formatting = without_entry n w.formatting })
unfolding names_of
closed_framed n w i scope plain =
    subst (λ s. Frame (roles (map (name_in w.forest) s)) (roles (map (name_in w.forest) (older_than n w.stack)))) (sym (stack_split n w.stack i))
    (frame_cut (cut_behind (name_in w.forest) (newer_than n w.stack) (older_than n w.stack) n scope plain))

entry_gone_framed : (n : ℕ) (w : World) → Framed w (record w { formatting = without_entry n w.formatting })
unfolding names_of
entry_gone_framed n w = frame_refl (roles (names_of w))

-- an element leaves the stack
pub taken_framed : (choices : SinkChoices) (n : ℕ) (w : World) → role_of (name_in w.forest n) ≡ PlainRole → Framed w (remove_from_stack choices n w)
unfolding remove_from_stack names_of
taken_framed choices n w plain = at (is_in n w.stack) refl
  where
    marked : Forest
    marked = mark (choices.marks_after_pop w.forest n) w.forest

    named : ℕ → QualName
    named = name_in w.forest

    taken : IsIn n w.stack → Frame (roles (map named w.stack)) (roles (map named (without_node n w.stack)))
    taken i =
        subst (λ s. Frame (roles (map named s)) (roles (map named (without_node n w.stack)))) (sym (stack_split n w.stack i))
        (subst (λ s. Frame (roles (map named (newer_than n w.stack ++ n ∷ older_than n w.stack))) (roles (map named s))) (sym (without_node_split n w.stack i))
        (subst (λ ns. Frame (roles ns) (roles (map named (newer_than n w.stack ++ older_than n w.stack)))) (sym (map-append named (newer_than n w.stack) (n ∷ older_than n w.stack)))
        (subst (λ ns. Frame (roles (map named (newer_than n w.stack) ++ named n ∷ map named (older_than n w.stack))) (roles ns)) (sym (map-append named (newer_than n w.stack) (older_than n w.stack)))
        (frame_without (map named (newer_than n w.stack)) (map named (older_than n w.stack)) (named n) plain))))

    same_names : map (name_in marked) (without_node n w.stack) ≡ map named (without_node n w.stack)
    same_names = map_same (name_in marked) named (without_node n w.stack) (λ m j. ap name_of_found (marked_kind (choices.marks_after_pop w.forest n) w.forest m))

    at : (b : Bool) → is_in n w.stack ≡ b → Framed w (cond b (record w { forest = marked; stack = without_node n w.stack }) w)
    at true e = subst (λ ns. Frame (roles (map named w.stack)) (roles ns)) (sym same_names) (taken (is_in_true n w.stack e))
    at false e = frame_refl (roles (names_of w))

-- and the list
removed_framed : (choices : SinkChoices) (n : ℕ) (w : World) → role_of (name_in w.forest n) ≡ PlainRole → Framed w (unlist_and_remove choices n w)
unfolding names_of
removed_framed choices n w plain = taken_framed choices n (record w { formatting = without_entry n w.formatting }) plain

-- "any other end tag" for a plain name
close_named_framed : (choices : SinkChoices) (name : List ℕ) (w : World) → role_of_local name ≡ PlainRole → Framed w (close_named choices name w)
unfolding close_named
close_named_framed choices name w plain = at (comes_before_special name (names_of w)) refl
  where
    at : (b : Bool) → comes_before_special name (names_of w) ≡ b → Framed w (cond b (pop_until_named name (generate_implied_end_except choices name w)) w)
    at false e = frame_refl (roles (names_of w))
    at true e =
        subst (λ ns. Frame (roles (names_of w)) (roles ns)) (sym (names-cut name (generate_implied_end_except choices name w) ∙ ap (cut_names (is_html_named name)) (names-implied choices name w)))
        (frame_other_end name (names_of w) plain e)

-- Rounds.

round_framed : (whole : Bool) (again : World → World) → ((v : World) → HasHtmlRoot v → Standing whole v → Framed v (again v)) → (choices : SinkChoices) (name : List ℕ) (w : World) → role_of_local name ≡ PlainRole → HasHtmlRoot w → Standing whole w
    → Framed w (adopt_by again choices name (newest_named name w.formatting) w)
round_framed whole again go choices name w plain ready s = at (newest_named name w.formatting) refl
  where
    block_of : FormattingElement → Option FurthestBlock
    block_of f = furthest_block (λ n. is_special (name_in w.forest n)) (newer_than f.node w.stack)

    scope_ends : FormattingElement → Bool
    scope_ends f = list_any (λ n. is_default_scope (name_in w.forest n)) (newer_than f.node w.stack)

    by_block : (f : FormattingElement) → newest_named name w.formatting ≡ Some f → IsIn f.node w.stack → scope_ends f ≡ false → (o : Option FurthestBlock) → block_of f ≡ o → Framed w (adopt_at again choices f o w)
    by_block f newest i scope None e = closed_framed f.node w i scope (ordinary_plain (name_in w.forest f.node) (newest_is_plain name w newest ready.sound))
    by_block f newest i scope (Some k) e =
        let may : MayAdopt name f k w = record { newest = newest; is_open = i; in_scope = scope; block = e } in
        let v = adopt choices f k w in
        let one = adopt_framed choices w ready may whole s in
        framed_then w v (again v) one (go v (adopt_ready choices w ready may) (standing_framed whole w v one s))

    by_place : (f : FormattingElement) → newest_named name w.formatting ≡ Some f → (b : Bool) → is_in f.node w.stack ≡ b → (c : Bool) → scope_ends f ≡ c
        → Framed w (cond (not b) (record w { formatting = without_entry f.node w.formatting }) (cond c w (adopt_at again choices f (block_of f) w)))
    by_place f newest false e c v = entry_gone_framed f.node w
    by_place f newest true e true v = frame_refl (roles (names_of w))
    by_place f newest true e false v = by_block f newest (is_in_true f.node w.stack e) v (block_of f) refl

    at : (o : Option FormattingElement) → newest_named name w.formatting ≡ o → Framed w (adopt_by again choices name o w)
    at None e = close_named_framed choices name w plain
    at (Some f) e = by_place f e (is_in f.node w.stack) refl (scope_ends f) refl

within_framed : (whole : Bool) (n : ℕ) (choices : SinkChoices) (name : List ℕ) (w : World) → role_of_local name ≡ PlainRole → HasHtmlRoot w → Standing whole w → Framed w (adopt_within n choices name w)
within_framed whole zero choices name w plain ready s = frame_refl (roles (names_of w))
within_framed whole (suc n) choices name w plain ready s = round_framed whole (adopt_within n choices name) (λ v r t. within_framed whole n choices name v plain r t) choices name w plain ready s

-- the current node is popped, where it has the plain name
pop_framed : (choices : SinkChoices) (name : List ℕ) (w : World) → role_of_local name ≡ PlainRole → first_passes (is_html_named name) (names_of w) ≡ true → Framed w (pop choices w)
pop_framed choices name w plain h = subst (λ ns. Frame (roles (names_of w)) (roles ns)) (sym (names-pop choices w)) (at (names_of w) h)
  where
    at : (ns : List QualName) → first_passes (is_html_named name) ns ≡ true → Frame (roles ns) (roles (later_names ns))
    at [] k = absurd (cc)
    at (n ∷ ns) k = frame_without [] ns n (role_named name n k ∙ plain)

-- the adoption agency for a plain name
pub agency_framed : (whole : Bool) (choices : SinkChoices) (name : List ℕ) (w : World) → role_of_local name ≡ PlainRole → HasHtmlRoot w → Standing whole w → Framed w (adoption_agency choices name w)
unfolding adoption_agency
agency_framed whole choices name w plain ready s = at (first_passes (is_html_named name) (names_of w)) refl (not (is_in (current w) (nodes_of w.formatting)))
  where
    at : (b : Bool) → first_passes (is_html_named name) (names_of w) ≡ b → (c : Bool) → Framed w (cond (b && c) (pop choices w) (adopt_within 8 choices name w))
    at true e true = pop_framed choices name w plain e
    at true e false = within_framed whole 8 choices name w plain ready s
    at false e c = within_framed whole 8 choices name w plain ready s

-- an `a` that is listed is closed
pub misnested_a_framed : (whole : Bool) (choices : SinkChoices) (w : World) → HasHtmlRoot w → Standing whole w → Framed w (handle_misnested_a_tags choices w)
unfolding handle_misnested_a_tags role_of_local
misnested_a_framed whole choices w ready s = at (newest_named (codes "a") w.formatting) refl
  where
    v : World
    v = adoption_agency choices (codes "a") w

    at : (o : Option FormattingElement) → newest_named (codes "a") w.formatting ≡ o → Framed w (close_misnested_a choices o w)
    at None e = frame_refl (roles (names_of w))
    at (Some f) e =
        let kind = newest_of_tag (codes "a") w e ready.sound in
        let leaves = agency_leaves choices (codes "a") w refl ready in
        let kept : name_in v.forest f.node ≡ name_in w.forest f.node = ap name_of_found (leaves.kinds f.node (node_of_kind w.forest f.node (ElementNode (html_name f.tag.name)) kind)) in
        framed_then w v (unlist_and_remove choices f.node v) (agency_framed whole choices (codes "a") w refl ready s)
        (removed_framed choices f.node v (ap role_of kept ∙ ordinary_plain (name_in w.forest f.node) (newest_is_plain (codes "a") w e ready.sound)))
