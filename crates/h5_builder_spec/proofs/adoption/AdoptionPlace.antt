-- The furthest block in a round of the adoption agency may be put at its new place, and the world is sound then (HTML
-- standard, sections 13.2.6.1 and 13.2.6.4.7).
use Rattle.std.proofs.Common.{◌≡◌, ◌≢◌, inl, inr, ℕ, Bool, true, false, ◌==◌, ◌&&◌, ◌||◌, cond, List, [], ◌∷◌, ◌++◌, map, codes, Option, Some, None, IsTrue, refl, ap, sym, subst, ◌∙◌, arith}
use Rattle.std.specs.List.{list_any}
use Rattle.std.specs.Prelude.{unwrap_or}
use Rattle.std.proofs.lemmas.Bool.{eq-eqb, eqb-true, ne_eqb}
use Rattle.h5_names.specs.declared.qualified.QualName.{QualName}
use Rattle.h5_interface.specs.Ancestors.{AtOrAbove, Further, IsAncestor, Parent}
use Rattle.h5_interface.specs.Changes.{detach}
use Rattle.h5_interface.specs.Forest.{ChildNode, ElementNode, Forest, FragmentNode, IsForest, IsNode, Node, contents_of, kind_of, parent_of}
use Rattle.h5_interface.specs.NewElement.{is_html_template}
use Rattle.h5_interface.specs.Seen.{CanStandBy, IsFreeFor}
use Rattle.h5_interface.specs.SinkChoices.{Rearranges}
use Rattle.h5_interface.proofs.AncestorLaws.{at_or_above_trans}
use Rattle.h5_interface.proofs.ChildLaws.{count-append}
use Rattle.h5_interface.proofs.ForestLaws.{rearranged_ancestor, rearranged_node, at_parent}
use Rattle.h5_interface.proofs.HangingLaws.{detach_rearranges, detached_parent}
use Rattle.h5_interface.proofs.RehangLaws.{Rehangs}
use Rattle.h5_tables.specs.TagSets.{html_namespace, is_default_scope, is_html_named, is_special, is_table_outer, scope_names, special_names}
use Rattle.h5_builder_spec.specs.formatting.Adoption.{FormattingElement, FurthestBlock, block_or, furthest_block, newer_than, newest_named, older_than}
use Rattle.h5_builder_spec.specs.formatting.FormattingList.{ElementEntry, Entry, MarkerEntry, nodes_of}
use Rattle.h5_builder_spec.specs.formatting.FormattingNames.{IsOfTag}
use Rattle.h5_builder_spec.specs.reset.Roles.{is_html_element}
use Rattle.h5_builder_spec.specs.stack.Order.{Before, Distinct, IsIn, first_or, last_or}
use Rattle.h5_builder_spec.proofs.entries.EachLaws.{each_at}
use Rattle.h5_builder_spec.proofs.entries.PairLaws.{before_across, before_first, before_second, in_left, in_right}
use Rattle.h5_builder_spec.proofs.entries.PassLaws.{furthest_block_at, newest_named_at, ordered_distinct, stack_split}
use Rattle.h5_builder_spec.proofs.entries.PlainListLaws.{listed_is_plain}
use Rattle.h5_builder_spec.specs.stack.Root.{IsRootOpen}
use Rattle.h5_builder_spec.proofs.BoolLaws.{or_neither}
use Rattle.h5_builder_spec.proofs.roles.SetLaws.{default_named, special_in_scope, special_named}
use Rattle.h5_builder_spec.specs.formatting.AdoptionAgency.{IsLoose, MayAdopt, common_ancestor, KeepsKinds}
use Rattle.h5_builder_spec.specs.Changes.{with_forest}
use Rattle.h5_builder_spec.specs.insertion.Place.{CanPut, IsPlaceIn, LastChild, Place, TableFosterParenting, appropriate_place, foster_place, from_foster_parent, inside, is_foster_parent, put}
use Rattle.h5_builder_spec.specs.Sound.{AllStand, Sound}
use Rattle.h5_builder_spec.specs.World.{World, name_in, name_of_found, names_of, root}
use Rattle.h5_builder_spec.proofs.adoption.AdoptionForest.{before_trans, block_is_newer, can_detach, detached_all, detached_loose, detached_parents, loose_hung, loose_not_oldest, all_hung}
use Rattle.h5_builder_spec.proofs.changes.PlaceLaws.{parent_at, place_is_there, put_keeps, put_rehangs}
use Rattle.h5_builder_spec.proofs.changes.SoundLaws.{element_is_node}

-- What the names say.

not_so : (a b : Bool) → (a ≡ true → b ≡ true) → b ≡ false → a ≡ false
not_so false b f e = refl
not_so true b f e = let w = f refl in cc

-- what isn't special is no `html`, and no foster parent; nor is what no scope ends at
pub plain_not_html : (n : QualName) → is_special n ≡ false → is_html_named (codes "html") n ≡ false
unfolding special_names
plain_not_html n h = not_so _ _ (special_named (codes "html") n refl) h

pub plain_not_template : (n : QualName) → is_special n ≡ false → is_html_template n ≡ false
unfolding special_names is_html_named html_namespace
plain_not_template n h = not_so _ _ (special_named (codes "template") n refl) h

neither : (a b : Bool) → a ≡ false → b ≡ false → (a || b) ≡ false
neither false false e h = refl
neither true b e h = absurd (cc)
neither false true e h = absurd (cc)

plain_not_foster : (n : QualName) → is_special n ≡ false → is_foster_parent n ≡ false
unfolding special_names
plain_not_foster n h = neither _ _ (not_so _ _ (special_named (codes "template") n refl) h) (not_so _ _ (special_named (codes "table") n refl) h)

unscoped_not_foster : (n : QualName) → is_default_scope n ≡ false → is_foster_parent n ≡ false
unfolding scope_names
unscoped_not_foster n h = neither _ _ (not_so _ _ (default_named (codes "template") n refl) h) (not_so _ _ (default_named (codes "table") n refl) h)

-- Tests of open elements where they keep their names.

any_same : (p q : ℕ → Bool) (s : List ℕ) → ((n : ℕ) → IsIn n s → p n ≡ q n) → list_any p s ≡ list_any q s
any_same p q [] same = refl
any_same p q (n ∷ s) same = ap (λ b. b || list_any p s) (same n (inl refl)) ∙ ap (λ b. q n || b) (any_same p q s (λ m i. same m (inr i)))

block_same : (p q : ℕ → Bool) (s : List ℕ) → ((n : ℕ) → IsIn n s → p n ≡ q n) → furthest_block p s ≡ furthest_block q s
block_same p q [] same = refl
block_same p q (n ∷ s) same = ap (λ b. block_or n b s (furthest_block p s)) (same n (inl refl)) ∙ ap (block_or n (q n) s) (block_same p q s (λ m i. same m (inr i)))

pub any_none : (p : ℕ → Bool) (s : List ℕ) (n : ℕ) → list_any p s ≡ false → IsIn n s → p n ≡ false
any_none p [] n h i = absurd i
any_none p (m ∷ s) n h (inl e) = ap p e ∙ (or_neither (p m) (list_any p s) h).0
any_none p (m ∷ s) n h (inr i) = any_none p s n (or_neither (p m) (list_any p s) h).1 i

-- An open element that is no `html` isn't the root: there are older ones.
pub not_oldest : (w : World) (n : ℕ) → IsIn n w.stack → is_html_named (codes "html") (name_in w.forest n) ≡ false → IsRootOpen (names_of w) → older_than n w.stack ≢ []
unfolding names_of
not_oldest w n i other open_root e =
    let html = root_named (newer_than n w.stack) (subst (λ s. IsRootOpen (map (name_in w.forest) s)) (stack_split n w.stack i ∙ ap (λ o. newer_than n w.stack ++ n ∷ o) e) open_root) in
    let clash : true ≡ false = sym html ∙ other in cc
  where
    root_named : (a : List ℕ) → IsRootOpen (map (name_in w.forest) (a ++ n ∷ [])) → IsTrue (is_html_named (codes "html") (name_in w.forest n))
    root_named [] h = h
    root_named (m ∷ []) h = h
    root_named (m ∷ j ∷ a) h = root_named (j ∷ a) h

-- The newest entry of a name: its element is of its tag, and isn't special.

module _ (name : List ℕ) {f : FormattingElement} (w : World) (newest : newest_named name w.formatting ≡ Some f) (sound : Sound w) where
  pub newest_of_tag : IsOfTag w.forest f.node f.tag
  newest_of_tag =
      let at = newest_named_at name w.formatting f newest in
      each_at (IsOfTag w.forest) at.newer at.older w.formatting f.node f.tag at.cut sound.listed

  pub newest_is_plain : is_special (name_in w.forest f.node) ≡ false
  newest_is_plain =
      let at = newest_named_at name w.formatting f newest in
      let p = listed_is_plain w.forest w.formatting sound.listed sound.formatting f.node (subst (λ l. IsIn f.node (nodes_of l)) (sym at.cut) (listed at.newer at.older)) in
      ap (λ o. is_special (name_of_found o)) p.kind ∙ p.is_plain
    where
      listed : (a r : List Entry) → IsIn f.node (nodes_of (a ++ ElementEntry f.node f.tag ∷ r))
      listed [] r = inl refl
      listed (MarkerEntry ∷ a) r = listed a r
      listed (ElementEntry n t ∷ a) r = inr (listed a r)

-- Open elements about the formatting element.

module _ {name : List ℕ} {f : FormattingElement} {k : FurthestBlock} (w : World) (may : MayAdopt name f k w) where
  abbrev newer : List ℕ
  newer = newer_than f.node w.stack

  abbrev older : List ℕ
  older = older_than f.node w.stack

  cut : w.stack ≡ newer ++ f.node ∷ older
  cut = stack_split f.node w.stack may.is_open

  pub newer_is_open : (y : ℕ) → IsIn y (newer_than f.node w.stack) → IsIn y w.stack
  newer_is_open y i = subst (IsIn y) (sym cut) (in_left y newer (f.node ∷ older) i)

  pub older_is_open : (y : ℕ) → IsIn y (older_than f.node w.stack) → IsIn y w.stack
  older_is_open y i = subst (IsIn y) (sym cut) (in_right y newer (f.node ∷ older) (inr i))

  pub older_than_block : (y : ℕ) → IsIn y (older_than f.node w.stack) → Before w.stack k.block y
  older_than_block y i =
      let parts = furthest_block_at (λ n. is_special (name_in w.forest n)) newer k may.block in
      subst (λ s. Before s k.block y) (sym cut)
      (before_across k.block y newer (f.node ∷ older) (subst (IsIn k.block) (sym parts.cut) (in_right k.block k.newer (k.block ∷ k.between) (inl refl))) (inr i))

  -- the furthest block is an element of HTML: what is special of MathML and SVG ends the scope
  pub block_is_html : is_html_element (name_in w.forest k.block) ≡ true
  block_is_html =
      let parts = furthest_block_at (λ n. is_special (name_in w.forest n)) newer k may.block in
      special_in_scope (name_in w.forest k.block) parts.is_special
      (any_none (λ n. is_default_scope (name_in w.forest n)) newer k.block may.in_scope (subst (IsIn k.block) (sym parts.cut) (in_right k.block k.newer (k.block ∷ k.between) (inl refl))))

  -- the formatting element is of its tag, and isn't special
  pub formatting_of_tag : Sound w → IsOfTag w.forest f.node f.tag
  formatting_of_tag sound = newest_of_tag name w may.newest sound

  pub formatting_is_plain : Sound w → is_special (name_in w.forest f.node) ≡ false
  formatting_is_plain sound = newest_is_plain name w may.newest sound

  -- it isn't the root, so there are older open elements
  pub older_some : Sound w → IsRootOpen (names_of w) → older_than f.node w.stack ≢ []
  older_some sound open_root = not_oldest w f.node may.is_open (plain_not_html (name_in w.forest f.node) (formatting_is_plain sound)) open_root

  pub ancestor_is_older : Sound w → IsRootOpen (names_of w) → IsIn (common_ancestor f w) (older_than f.node w.stack)
  ancestor_is_older sound open_root = at older (older_some sound open_root)
    where
      at : (s : List ℕ) → s ≢ [] → IsIn (first_or (root w) s) s
      at [] some = absurd (some refl)
      at (n ∷ s) some = inl refl

  pub root_is_older : Sound w → IsRootOpen (names_of w) → IsIn (root w) (older_than f.node w.stack)
  root_is_older sound open_root = subst (λ s. IsIn (last_or w.forest.document s) older) (sym cut) (behind w.forest.document newer)
    where
      last_in : (d : ℕ) (s : List ℕ) → IsIn (last_or d s) (d ∷ s)
      last_in d [] = inl refl
      last_in d (n ∷ s) = inr (last_in n s)

      some : (d : ℕ) (s : List ℕ) → s ≢ [] → IsIn (last_or d s) s
      some d [] h = absurd (h refl)
      some d (n ∷ s) h = last_in n s

      behind : (d : ℕ) (a : List ℕ) → IsIn (last_or d (a ++ f.node ∷ older)) older
      behind d [] = some f.node older (older_some sound open_root)
      behind d (n ∷ a) = behind n a

  -- foster parenting looks at older elements alone
  foster_is_older : Sound w → from_foster_parent w.forest w.stack ≡ from_foster_parent w.forest older
  foster_is_older sound =
      ap (from_foster_parent w.forest) cut
      ∙ skip newer (λ n i. unscoped_not_foster (name_in w.forest n) (any_none (λ m. is_default_scope (name_in w.forest m)) newer n may.in_scope i))
      ∙ ap (λ b. cond b (f.node ∷ older) (from_foster_parent w.forest older)) (plain_not_foster (name_in w.forest f.node) (formatting_is_plain sound))
    where
      skip : (a : List ℕ) → ((n : ℕ) → IsIn n a → is_foster_parent (name_in w.forest n) ≡ false) → from_foster_parent w.forest (a ++ f.node ∷ older) ≡ from_foster_parent w.forest (f.node ∷ older)
      skip [] none = refl
      skip (n ∷ a) none =
          ap (λ b. cond b (n ∷ (a ++ f.node ∷ older)) (from_foster_parent w.forest (a ++ f.node ∷ older))) (none n (inl refl))
          ∙ skip a (λ m i. none m (inr i))

-- a round may still be made where nodes stay what they are
pub may_adopt_kept : {name : List ℕ} {f : FormattingElement} {k : FurthestBlock} (w : World) (g : Forest) → Sound w → KeepsKinds w.forest g → MayAdopt name f k w → MayAdopt name f k (with_forest g w)
may_adopt_kept {name} {f} {k} w g sound same may = record {
  newest = may.newest;
  is_open = may.is_open;
  in_scope = any_same (λ n. is_default_scope (name_in g n)) (λ n. is_default_scope (name_in w.forest n)) (newer_than f.node w.stack) (λ n i. ap is_default_scope (named n i)) ∙ may.in_scope;
  block = block_same (λ n. is_special (name_in g n)) (λ n. is_special (name_in w.forest n)) (newer_than f.node w.stack) (λ n i. ap is_special (named n i)) ∙ may.block;
}
  where
    named : (n : ℕ) → IsIn n (newer_than f.node w.stack) → name_in g n ≡ name_in w.forest n
    named n i = ap name_of_found (same n (element_is_node w.forest n (sound.stands.elements n (newer_is_open w may n i))))

-- A place that a node isn't above.

abbrev pub IsClearOf : Forest → ℕ → Place → Type 0
IsClearOf g z (LastChild q) = ¬ (AtOrAbove (parent_of g) z q)
IsClearOf g z (TableFosterParenting n prev) = ¬ (AtOrAbove (parent_of g) z n) × ¬ (AtOrAbove (parent_of g) z prev)

-- so it isn't above what becomes the parent there
pub clear_parent : (g : Forest) (z : ℕ) (p : Place) → IsClearOf g z p → ¬ (AtOrAbove (parent_of g) z (parent_at g p))
clear_parent g z (LastChild q) clear = clear
clear_parent g z (TableFosterParenting n prev) clear = at (parent_of g n) refl
  where
    at : (o : Option ℕ) → parent_of g n ≡ o → ¬ (AtOrAbove (parent_of g) z (unwrap_or o prev))
    at None e = clear.1
    at (Some q) e = λ h. clear.0 (at_or_above_trans (parent_of g) z q n h (inr (Parent e)))

-- nor where nodes were loosened
pub clear_rearranged : (g h : Forest) (z : ℕ) (p : Place) → IsForest g → Rearranges g h → IsPlaceIn g p → IsClearOf g z p → IsClearOf h z p
clear_rearranged g h z p forest r there clear = at p there clear
  where
    old : (q : ℕ) → IsNode g q → ¬ (AtOrAbove (parent_of g) z q) → ¬ (AtOrAbove (parent_of h) z q)
    old q node out (inl e) = out (inl e)
    old q node out (inr a) = out (inr (rearranged_ancestor g h z q forest r node a))

    at : (p : Place) → IsPlaceIn g p → IsClearOf g z p → IsClearOf h z p
    at (LastChild q) there clear = old q there clear
    at (TableFosterParenting n prev) there clear = (old n (element_is_node g n there.0) clear.0, old prev there.1 clear.1)

-- contents have the template as their parent
pub contents_parent : (g : Forest) (t c : ℕ) → IsForest g → contents_of g t ≡ Some c → parent_of g c ≡ Some t
contents_parent g t c k e = at (g.node t) refl
  where
    at : (o : Option Node) → g.node t ≡ o → parent_of g c ≡ Some t
    at None w = let z = (rw w at e) in cc
    at (Some d) w =
        let z : d.contents ≡ Some c = (rw w at e) in
        let all = (rw (w, z) at (k.one_parent t c)) in
        let one : ◌≡◌ {A = ℕ} (cond (c == c) 1 0) 1 = rw (eq-eqb c c refl) refl in
        at_parent t (parent_of g c) (omega (arith, simp count-append at all, one))

-- what isn't above a node isn't above its contents, unless it is these
inside_clear : (g : Forest) (z n : ℕ) → IsForest g → kind_of g z ≢ Some FragmentNode → ¬ (AtOrAbove (parent_of g) z n) → ¬ (AtOrAbove (parent_of g) z (inside g n))
inside_clear g z n k other out = at (is_html_template (name_in g n)) (contents_of g n) refl
  where
    above : (c : ℕ) → contents_of g n ≡ Some c → AtOrAbove (parent_of g) z c → ⊥
    above c e (inl same) = other (ap (kind_of g) same ∙ k.hosted n c e)
    above c e (inr (Parent up)) = out (inl (only z n (sym up ∙ contents_parent g n c k e)))
      where
        only : (a b : ℕ) → Some a ≡ Some b → a ≡ b
        only a b w = cc
    above c e (inr (Further p a up)) = out (inr (subst (IsAncestor (parent_of g) z) (only p n (sym up ∙ contents_parent g n c k e)) a))
      where
        only : (a b : ℕ) → Some a ≡ Some b → a ≡ b
        only a b w = cc

    at : (b : Bool) (o : Option ℕ) → contents_of g n ≡ o → ¬ (AtOrAbove (parent_of g) z (cond b (unwrap_or o n) n))
    at false o e = out
    at true None e = out
    at true (Some c) e = above c e

foster_clear : (g : Forest) (z html : ℕ) (s : List ℕ) → IsForest g → kind_of g z ≢ Some FragmentNode → ((y : ℕ) → IsIn y s → ¬ (AtOrAbove (parent_of g) z y)) → ¬ (AtOrAbove (parent_of g) z html)
    → IsClearOf g z (foster_place g html (from_foster_parent g s))
foster_clear g z html [] k other out top = top
foster_clear g z html (n ∷ s) k other out top =
    elim (is_foster_parent (name_in g n)) as (λ b. IsClearOf g z (foster_place g html (cond b (n ∷ s) (from_foster_parent g s)))) [
      | true ↦ elim (is_html_template (name_in g n)) as (λ b. IsClearOf g z (cond b (LastChild (inside g n)) (TableFosterParenting n (first_or n s)))) [
        | true ↦ inside_clear g z n k other (out n (inl refl))
        | false ↦ (out n (inl refl), next s out)
      ]
      | false ↦ foster_clear g z html s k other (λ y i. out y (inr i)) top
    ]
  where
    next : (s : List ℕ) → ((y : ℕ) → IsIn y (n ∷ s) → ¬ (AtOrAbove (parent_of g) z y)) → ¬ (AtOrAbove (parent_of g) z (first_or n s))
    next [] out = out n (inl refl)
    next (m ∷ s) out = out m (inr (inl refl))

-- the appropriate place for an element older than the formatting element, by what is above none of these
pub place_is_clear : {name : List ℕ} {f : FormattingElement} {k : FurthestBlock} (w : World) → (may : MayAdopt name f k w) → Sound w → IsRootOpen (names_of w) → (target z : ℕ) → IsIn target (older_than f.node w.stack)
    → kind_of w.forest z ≢ Some FragmentNode → ((y : ℕ) → IsIn y (older_than f.node w.stack) → ¬ (AtOrAbove (parent_of w.forest) z y)) → IsClearOf w.forest z (appropriate_place w target)
unfolding appropriate_place
place_is_clear {name} {f} {k} w may sound open_root target z i other out =
    elim (w.foster && is_table_outer (name_in w.forest target)) as (λ b. IsClearOf w.forest z (cond b (foster_place w.forest (root w) (from_foster_parent w.forest w.stack)) (LastChild (inside w.forest target)))) [
      | true ↦ subst (λ s. IsClearOf w.forest z (foster_place w.forest (root w) s)) (sym (foster_is_older w may sound))
          (foster_clear w.forest z (root w) (older_than f.node w.stack) sound.stands.is_forest other out (out (root w) (root_is_older w may sound open_root)))
      | false ↦ inside_clear w.forest z target sound.stands.is_forest other (out target i)
    ]

-- What is loose is put there.

module _ {name : List ℕ} {f : FormattingElement} {k : FurthestBlock} (w : World) (may : MayAdopt name f k w) (sound : Sound w) (open_root : IsRootOpen (names_of w)) (target : ℕ) (behind : IsIn target (older_than f.node w.stack)) (last : ℕ)
    (loose : IsLoose w.forest w.stack k.block last) where
  abbrev free_forest : Forest
  free_forest = detach last w.forest

  abbrev spot : Place
  spot = appropriate_place w target

  distinct : Distinct w.stack
  distinct = ordered_distinct (parent_of w.forest) w.stack sound.stands.ordered

  rearranged : Rearranges w.forest free_forest
  rearranged = detach_rearranges w.forest last sound.stands.is_forest (can_detach w.forest w.stack k.block last loose)

  spot_is_there : IsPlaceIn w.forest spot
  spot_is_there = place_is_there w target sound (element_is_node w.forest target (sound.stands.elements target (older_is_open w may target behind)))

  last_apart : (y : ℕ) → IsIn y (older_than f.node w.stack) → ¬ (AtOrAbove (parent_of w.forest) last y)
  last_apart y i a =
      let under = older_than_block w may y i in
      elim (loose.below y (older_is_open w may y i) a) [
        | inl e ↦ distinct k.block (subst (Before w.stack k.block) e under)
        | inr j ↦ distinct k.block (before_trans k.block y k.block w.stack distinct under j)
      ]

  last_clear : IsClearOf free_forest last spot
  last_clear = clear_rearranged w.forest free_forest last spot sound.stands.is_forest rearranged spot_is_there (place_is_clear w may sound open_root target last behind loose.no_fragment last_apart)

  pub can_put_loose : CanPut (detach last w.forest) (appropriate_place w target) (ChildNode last)
  can_put_loose = at spot spot_is_there last_clear
    where
      free : (q : ℕ) → ¬ (AtOrAbove (parent_of free_forest) last q) → IsFreeFor free_forest q last
      free q out = record {
        is_node = rearranged_node w.forest free_forest last rearranged loose.is_node;
        no_document = λ e. loose.no_document (sym (rearranged.same_kind last loose.is_node) ∙ e);
        no_parent = detached_parent w.forest last;
        not_above = out;
      }

      at : (p : Place) → IsPlaceIn w.forest p → IsClearOf free_forest last p → CanPut free_forest p (ChildNode last)
      at (LastChild q) there clear = record { is_node = rearranged_node w.forest free_forest q rearranged there; child = free q clear }
      at (TableFosterParenting n prev) there clear = record {
        element_is_node = rearranged_node w.forest free_forest n rearranged (element_is_node w.forest n there.0);
        prev_is_node = rearranged_node w.forest free_forest prev rearranged there.1;
        child = by (parent_of free_forest n) refl;
      }
        where
          kind : kind_of free_forest n ≡ Some (ElementNode there.0.0)
          kind = rearranged.same_kind n (element_is_node w.forest n there.0) ∙ there.0.1

          by : (o : Option ℕ) → parent_of free_forest n ≡ o → CanStandBy o free_forest n prev (ChildNode last)
          by None e = record { is_node = rearranged_node w.forest free_forest prev rearranged there.1; child = free prev clear.1 }
          by (Some q) e = record {
            parent = q;
            is_parent = e;
            no_fragment = λ z. let v : Some (ElementNode there.0.0) ≡ Some FragmentNode = sym kind ∙ z in cc;
            child = free q (λ a. clear.0 (at_or_above_trans (parent_of free_forest) last q n a (inr (Parent e))));
          }

  pub put_loose_rehangs : Rehangs (detach last w.forest) (put (appropriate_place w target) (ChildNode last) (detach last w.forest)) (λ n. n == last) (Some (parent_at (detach last w.forest) (appropriate_place w target)))
  put_loose_rehangs = put_rehangs free_forest spot (ChildNode last) rearranged.is_forest can_put_loose

  pub put_loose_kinds : KeepsKinds w.forest (put (appropriate_place w target) (ChildNode last) (detach last w.forest))
  put_loose_kinds = λ n there. put_loose_rehangs.kinds n ∙ rearranged.same_kind n there

  -- other nodes keep their parents
  pub put_loose_parents : (m : ℕ) → m ≢ last → parent_of (put (appropriate_place w target) (ChildNode last) (detach last w.forest)) m ≡ parent_of w.forest m
  put_loose_parents m other =
      put_loose_rehangs.parents m ∙ ap (λ b. cond b (Some (parent_at free_forest spot)) (parent_of free_forest m)) (ne_eqb m last other)
      ∙ detached_parents w.forest last m other

  -- the world is sound then, and it is as loose as it was
  pub put_loose_all : AllStand (put (appropriate_place w target) (ChildNode last) (detach last w.forest)) w.stack w.formatting w.head w.form w.context
  put_loose_all =
      all_hung free_forest (put spot (ChildNode last) free_forest) (λ n. n == last) (parent_at free_forest spot) w.stack
      (detached_all w.forest w.stack k.block last sound loose) (put_keeps free_forest spot (ChildNode last) rearranged.is_forest can_put_loose) put_loose_rehangs
      (λ x y z before e above come. apart x y before above (subst (λ m. AtOrAbove (parent_of free_forest) m y) (eqb-true z last e) come))
      (λ n o e. loose_not_oldest w.forest w.stack k.block f.node last n distinct (block_is_newer w may) loose o (inl (sym (eqb-true n last e))))
    where
      -- what is newer than the block isn't above the place
      newer_clear : (x : ℕ) → Before w.stack x k.block → ¬ (AtOrAbove (parent_of free_forest) x (parent_at free_forest spot))
      newer_clear x before =
          let there = sound.stands.elements x (before_first x k.block w.stack before) in
          clear_parent free_forest x spot
          (clear_rearranged w.forest free_forest x spot sound.stands.is_forest rearranged spot_is_there
          (place_is_clear w may sound open_root target x behind
          (λ e. let v : Some (ElementNode there.0) ≡ Some FragmentNode = sym there.1 ∙ e in cc)
          (λ y i. sound.stands.ordered.newer x y (before_trans x k.block y w.stack distinct before (older_than_block w may y i)))))

      apart : (x y : ℕ) → Before w.stack x y → AtOrAbove (parent_of free_forest) x (parent_at free_forest spot) → AtOrAbove (parent_of free_forest) last y → ⊥
      apart x y before above come = elim ((detached_loose w.forest w.stack k.block last sound.stands loose).below y (before_second x y w.stack before) come) [
        | inl e ↦ newer_clear x (subst (Before w.stack x) e before) above
        | inr j ↦ newer_clear x (before_trans x y k.block w.stack distinct before j) above
      ]

  pub put_loose_still : IsLoose (put (appropriate_place w target) (ChildNode last) (detach last w.forest)) w.stack k.block last
  put_loose_still =
      let kept = detached_loose w.forest w.stack k.block last sound.stands loose in
      loose_hung free_forest (put spot (ChildNode last) free_forest) (λ n. n == last) (parent_at free_forest spot) w.stack k.block last put_loose_rehangs kept
      (λ y z i e above come. kept.below y i (subst (λ m. AtOrAbove (parent_of free_forest) m y) (eqb-true z last e) come))

-- In the element that is next older than the formatting element.
