-- A round of the adoption agency with a furthest block: what holds for builder and sink before it holds after it (HTML
-- standard, section 13.2.6.4.7, "adoption agency algorithm").
use Rattle.std.proofs.Common.{◌≡◌, ◌≢◌, ◌⊎◌, inl, inr, ℕ, suc, Bool, true, false, ◌==◌, cond, List, [], ◌∷◌, ◌++◌, append_assoc, length, filter, map, take, codes, Option, Some, None, IsTrue, refl, ap, sym, subst, ◌∙◌}
use Rattle.std.proofs.lemmas.Bool.{eq-eqb, eqb-true}
use Rattle.h5_names.specs.declared.qualified.QualName.{QualName}
use Rattle.h5_token.specs.TokenText.{TagText}
use Rattle.h5_interface.specs.Ancestors.{AtOrAbove, Further, IsAncestor, Parent}
use Rattle.h5_interface.specs.Forest.{ElementNode, Forest, HasContents, IsElement, IsForest, IsNode, kind_of, parent_of}
use Rattle.h5_interface.specs.NewElement.{is_html_template}
use Rattle.h5_interface.specs.SinkChoices.{SinkChoices}
use Rattle.h5_interface.proofs.AncestorLaws.{ancestor_trans, at_or_above_trans}
use Rattle.h5_interface.proofs.ForestLaws.{child_is_node, node_of_kind, there_alike}
use Rattle.h5_tables.specs.TagSets.{formatting_names, is_one_of, is_special}
use Rattle.h5_builder_spec.specs.formatting.Adoption.{FormattingElement, FurthestBlock, IsCloneOf, adopted_at, clones_wanted_at, newer_than, older_than, round_stack, to_clone}
use Rattle.h5_builder_spec.specs.formatting.FormattingList.{EachEntry, ElementEntry, Entry, MarkerEntry, nodes_of}
use Rattle.h5_builder_spec.specs.formatting.FormattingNames.{AllFormatting, AllOfTags, IsOfTag, IsPlain, html_name}
use Rattle.h5_builder_spec.specs.formatting.Fresh.{AreFresh, Makes, no_more, one_more}
use Rattle.h5_builder_spec.specs.inner.Lists.{Lists}
use Rattle.h5_builder_spec.specs.stack.Order.{Before, IsIn, is_in}
use Rattle.h5_builder_spec.proofs.entries.FreshLaws.{fresh_round, listed_adopted, made_new}
use Rattle.h5_builder_spec.proofs.entries.PairLaws.{before_left, before_right, before_split, before_across, in_left, in_right, in_split, is_in_true}
use Rattle.h5_builder_spec.proofs.entries.PassLaws.{each_tag_adopted, furthest_block_at, lists_adopted, ordered_distinct, stack_split}
use Rattle.h5_builder_spec.proofs.entries.PlainListLaws.{listed_is_plain}
use Rattle.h5_builder_spec.specs.stack.Root.{IsRootOpen}
use Rattle.h5_builder_spec.proofs.fitting.OpenLaws.{open_push}
use Rattle.h5_builder_spec.specs.formatting.AdoptionAgency.{IsLoose, MayAdopt, Nest, adopt, common_ancestor, nest, placed, refilled, tag_in, wrapped, KeepsKinds}
use Rattle.h5_builder_spec.specs.Changes.{with_forest}
use Rattle.h5_builder_spec.specs.Sound.{AllStand, IsHtml, RootIsTop, Sound, Stands}
use Rattle.h5_builder_spec.specs.inner.Kept.{HasHtmlRoot}
use Rattle.h5_builder_spec.specs.World.{World, name_in, name_of_found, names_of}
use Rattle.h5_builder_spec.proofs.adoption.AdoptionForest.{before_trans, block_is_newer, block_is_open, filled, filled_all, filled_kinds, filled_loose, filled_of_tag, filled_parent, filled_parents, kinds_refl, kinds_trans, loose_block, marked_all, marked_kind, marked_kinds, marked_loose, marked_parent, wrapped_all, wrapped_kinds, wrapped_loose, wrapped_of_tag, wrapped_parent, wrapped_parents}
use Rattle.h5_builder_spec.proofs.adoption.AdoptionPlace.{ancestor_is_older, formatting_is_plain, formatting_of_tag, may_adopt_kept, older_is_open, older_some, older_than_block, plain_not_template, put_loose_all, put_loose_kinds, put_loose_parents, put_loose_still}
use Rattle.h5_builder_spec.proofs.changes.SoundLaws.{element_is_node}

-- Chains of parents.

-- the parent of a node is the first of these, that one's the next, and so on; the last of all is this
abbrev pub IsChain : (ℕ → Option ℕ) → ℕ → List ℕ → ℕ → Type 0
IsChain up n [] last = n ≡ last
IsChain up n (c ∷ cs) last = (up n ≡ Some c) × IsChain up c cs last

chain_last : (up : ℕ → Option ℕ) (n : ℕ) (cs : List ℕ) (last : ℕ) → IsChain up n cs last → AtOrAbove up last n
chain_last up n [] last k = inl (sym k)
chain_last up n (c ∷ cs) last k = at_or_above_trans up last c n (chain_last up c cs last k.1) (inr (Parent k.0))

chain_above : (up : ℕ → Option ℕ) (n : ℕ) (cs : List ℕ) (last y : ℕ) → IsChain up n cs last → IsIn y cs → IsAncestor up y n
chain_above up n [] last y k i = absurd i
chain_above up n (c ∷ cs) last y k (inl e) = Parent (k.0 ∙ ap (λ z. Some z) (sym e))
chain_above up n (c ∷ cs) last y k (inr i) = ancestor_trans up y c n (chain_above up c cs last y k.1 i) (Parent k.0)

chain_below : (up : ℕ → Option ℕ) (n : ℕ) (cs : List ℕ) (last y : ℕ) → IsChain up n cs last → IsIn y cs → AtOrAbove up last y
chain_below up n [] last y k i = absurd i
chain_below up n (c ∷ cs) last y k (inl e) = subst (AtOrAbove up last) (sym e) (chain_last up c cs last k.1)
chain_below up n (c ∷ cs) last y k (inr i) = chain_below up c cs last y k.1 i

chain_order : (up : ℕ → Option ℕ) (n : ℕ) (cs : List ℕ) (last x y : ℕ) → IsChain up n cs last → Before cs x y → IsAncestor up y x
chain_order up n [] last x y k h = absurd h
chain_order up n (c ∷ cs) last x y k (inl h) = subst (IsAncestor up y) (sym h.0) (chain_above up c cs last y k.1 h.1)
chain_order up n (c ∷ cs) last x y k (inr h) = chain_order up c cs last x y k.1 h

-- a chain from a node stays where the parents stay of those that are above that node and below the last one
chain_kept : (up down : ℕ → Option ℕ) (b n : ℕ) (cs : List ℕ) (last : ℕ) → ((m p : ℕ) → up m ≡ Some p → AtOrAbove up m b → AtOrAbove up last p → down m ≡ Some p) → AtOrAbove up n b → IsChain up n cs last → IsChain down n cs last
chain_kept up down b n [] last keep above k = k
chain_kept up down b n (c ∷ cs) last keep above k =
    (keep n c k.0 above (chain_last up c cs last k.1), chain_kept up down b c cs last keep (at_or_above_trans up c n b (inr (Parent k.0)) above) k.1)

-- Tags of what is listed.

pub tagged : (l : List Entry) (n : ℕ) → IsIn n (nodes_of l) → (t : TagText) × (tag_in l n ≡ Some t)
tagged [] n i = absurd i
tagged (MarkerEntry ∷ l) n i = tagged l n i
tagged (ElementEntry m t ∷ l) n i = at (m == n) refl i (tagged l n)
  where
    at : (b : Bool) → (m == n) ≡ b → IsIn n (m ∷ nodes_of l) → (IsIn n (nodes_of l) → (u : TagText) × (tag_in l n ≡ Some u)) → (u : TagText) × (cond b (Some t) (tag_in l n) ≡ Some u)
    at true e i go = (t, refl)
    at false e (inl w) go = absurd (let v : true ≡ false = sym (eq-eqb m n (sym w)) ∙ e in cc)
    at false e (inr j) go = go j

pub each_tag_in : (P : ℕ → TagText → Type 0) (l : List Entry) (n : ℕ) (t : TagText) → EachEntry P l → tag_in l n ≡ Some t → P n t
each_tag_in P [] n t k e = absurd (cc)
each_tag_in P (MarkerEntry ∷ l) n t k e = each_tag_in P l n t k e
each_tag_in P (ElementEntry m u ∷ l) n t k e = at (m == n) refl e (each_tag_in P l n t k.1)
  where
    same : (a b : TagText) → Some a ≡ Some b → a ≡ b
    same a b v = cc

    at : (b : Bool) → (m == n) ≡ b → cond b (Some u) (tag_in l n) ≡ Some t → (tag_in l n ≡ Some t → P n t) → P n t
    at true w v go = subst (P n) (same u t v) (subst (λ z. P z u) (eqb-true m n w) k.0)
    at false w v go = go v

-- Clones around a node.

-- what is so of the clones of some elements around a node, which make a nest of a forest
pub record IsNest (choices : SinkChoices) (g : Forest) (s : List ℕ) (l : List Entry) (head form context : Option ℕ) (block : ℕ) (originals : List ℕ) (inner : ℕ) (n : Nest) : Type 0 where
  pub all : AllStand n.forest s l head form context
  pub loose : IsLoose n.forest s block n.outermost
  pub kinds : KeepsKinds g n.forest
  pub chain : IsChain (parent_of n.forest) inner n.clones n.outermost
  pub parents : (m : ℕ) → IsNode g m → m ≢ inner → parent_of n.forest m ≡ parent_of g m
  pub makes : (ns : List ℕ) → Makes n.forest ns → Makes g (n.clones ++ ns)
  pub count : length n.clones ≡ length originals
  pub of_tags : (y x : ℕ) (t : TagText) → IsCloneOf originals n.clones y x → tag_in l x ≡ Some t → IsOfTag n.forest y t

-- one clone, and those of the other elements around it
abbrev pub around : ℕ → Nest → Nest
around c n = record { forest = n.forest; clones = c ∷ n.clones; outermost = n.outermost }

pub nest_step : (choices : SinkChoices) (l : List Entry) (x : ℕ) (xs : List ℕ) (last : ℕ) (g : Forest) (t : TagText) → tag_in l x ≡ Some t
    → nest choices l (x ∷ xs) last g ≡ around (choices.fresh g) (nest choices l xs (choices.fresh g) (wrapped choices (Some t) last g))
nest_step choices l x xs last g t e = ap (λ o. around (choices.fresh g) (nest choices l xs (choices.fresh g) (wrapped choices o last g))) e

module _ {l : List Entry} {head form context : Option ℕ} (choices : SinkChoices) (s : List ℕ) (b a : ℕ) (under : Before s b a) where
  none_more : (g : Forest) (last : ℕ) → AllStand g s l head form context → IsLoose g s b last → IsNest choices g s l head form context b [] last (record { forest = g; clones = []; outermost = last })
  none_more g last k loose = record {
    all = k;
    loose = loose;
    kinds = kinds_refl g;
    chain = refl;
    parents = λ m there other. refl;
    makes = λ ns h. h;
    count = refl;
    of_tags = λ y x t h e. absurd h;
  }

  -- one more clone
  pub nest_around : (g : Forest) (x : ℕ) (xs : List ℕ) (last : ℕ) (t : TagText) (n : Nest) → AllStand g s l head form context → IsLoose g s b last → tag_in l x ≡ Some t
      → IsNest choices (wrapped choices (Some t) last g) s l head form context b xs (choices.fresh g) n → IsNest choices g s l head form context b (x ∷ xs) last (around (choices.fresh g) n)
  nest_around g x xs last t n k loose e inner = record {
    all = inner.all;
    loose = inner.loose;
    kinds = kinds_trans g v n.forest kinds inner.kinds;
    chain = (inner.parents last (there_alike g v last (kinds last loose.is_node) loose.is_node) (not_new last loose.is_node) ∙ wrapped_parent choices t g s b last forest loose, inner.chain);
    parents = λ m there other. inner.parents m (there_alike g v m (kinds m there) there) (not_new m there) ∙ wrapped_parents choices t g s b last forest loose m there other;
    makes = λ ns h. one_more v (λ there. there (choices.fresh_is_new g forest)) (λ m there. there_alike g v m (kinds m there) there) new_there (inner.makes ns h);
    count = ap suc inner.count;
    of_tags = λ y z u h w. of_tags y z u h w;
  }
    where
      v : Forest
      v = wrapped choices (Some t) last g

      forest : IsForest g
      forest = k.stands.is_forest

      kinds : KeepsKinds g v
      kinds = wrapped_kinds choices t g s b last forest loose

      not_new : (m : ℕ) → IsNode g m → m ≢ choices.fresh g
      not_new m there w = there (ap g.node w ∙ choices.fresh_is_new g forest)

      new_there : IsNode v (choices.fresh g)
      new_there = node_of_kind v (choices.fresh g) (ElementNode (html_name t.name)) (wrapped_of_tag choices t g s b last forest loose)

      same : (p q : TagText) → Some p ≡ Some q → p ≡ q
      same p q w = cc

      of_tags : (y z : ℕ) (u : TagText) → IsCloneOf (x ∷ xs) (choices.fresh g ∷ n.clones) y z → tag_in l z ≡ Some u → IsOfTag n.forest y u
      of_tags y z u (inl h) w =
          subst (λ m. IsOfTag n.forest m u) (sym h.1)
          (subst (IsOfTag n.forest (choices.fresh g)) (same t u (sym e ∙ ap (tag_in l) (sym h.0) ∙ w))
          (inner.kinds (choices.fresh g) new_there ∙ wrapped_of_tag choices t g s b last forest loose))
      of_tags y z u (inr h) w = inner.of_tags y z u h w

  -- all of them
  pub nested : (g : Forest) (xs : List ℕ) (last : ℕ) → AllStand g s l head form context → IsLoose g s b last → ((x : ℕ) → IsIn x xs → IsIn x (nodes_of l))
      → IsNest choices g s l head form context b xs last (nest choices l xs last g)
  nested g [] last k loose listed = none_more g last k loose
  nested g (x ∷ xs) last k loose listed =
      let tag = tagged l x (listed x (inl refl)) in
      subst (IsNest choices g s l head form context b (x ∷ xs) last) (sym (nest_step choices l x xs last g tag.0 tag.1))
      (nest_around g x xs last tag.0 (nest choices l xs (choices.fresh g) (wrapped choices (Some tag.0) last g)) k loose tag.1
      (nested (wrapped choices (Some tag.0) last g) xs (choices.fresh g)
      (wrapped_all choices tag.0 g s b last a under k loose)
      (wrapped_loose choices tag.0 g s b last k.stands loose)
      (λ y i. listed y (inr i))))

-- The order of the new stack.

module _ (up : ℕ → Option ℕ) (newer older clones : List ℕ) (b c last : ℕ) (acyclic : (n : ℕ) → ¬ (IsAncestor up n n)) (ordered : (x y : ℕ) → Before (newer ++ b ∷ older) x y → ¬ (AtOrAbove up x y)) (chain : IsChain up b clones last) (own : up c ≡ Some b)
    (new : (x : ℕ) → IsIn x newer → x ≢ c) (apart : (y : ℕ) → IsIn y older → ¬ (AtOrAbove up last y)) where
  -- what is above the new child of the block is above the block
  above_own : (x : ℕ) → x ≢ c → AtOrAbove up x c → AtOrAbove up x b
  above_own x other (inl e) = absurd (other e)
  above_own x other (inr (Parent e)) = inl (only x b (sym e ∙ own))
    where
      only : (p q : ℕ) → Some p ≡ Some q → p ≡ q
      only p q w = cc
  above_own x other (inr (Further p a e)) = inr (subst (IsAncestor up x) (only p b (sym e ∙ own)) a)
    where
      only : (p q : ℕ) → Some p ≡ Some q → p ≡ q
      only p q w = cc

  -- and what is below it is below the block
  below_own : (y : ℕ) → AtOrAbove up c y → IsAncestor up b y
  below_own y (inl e) = Parent (ap up (sym e) ∙ own)
  below_own y (inr a) = ancestor_trans up b c y (Parent own) a

  above_clone : (x y : ℕ) → IsIn y clones → AtOrAbove up x y → IsAncestor up x b
  above_clone x y i (inl e) = subst (λ z. IsAncestor up z b) (sym e) (chain_above up b clones last y chain i)
  above_clone x y i (inr a) = ancestor_trans up x y b a (chain_above up b clones last y chain i)

  of_newer : (x : ℕ) → IsIn x newer → (y : ℕ) → IsIn y (c ∷ b ∷ (clones ++ older)) → ¬ (AtOrAbove up x y)
  of_newer x i y (inl e) h = ordered x b (before_across x b newer (b ∷ older) i (inl refl)) (above_own x (new x i) (subst (AtOrAbove up x) e h))
  of_newer x i y (inr (inl e)) h = ordered x b (before_across x b newer (b ∷ older) i (inl refl)) (subst (AtOrAbove up x) e h)
  of_newer x i y (inr (inr j)) h = elim (in_split y clones older j) [
    | inl k ↦ ordered x b (before_across x b newer (b ∷ older) i (inl refl)) (inr (above_clone x y k h))
    | inr k ↦ ordered x y (before_across x y newer (b ∷ older) i (inr k)) h
  ]

  of_own : (y : ℕ) → IsIn y (b ∷ (clones ++ older)) → ¬ (AtOrAbove up c y)
  of_own y (inl e) h = acyclic b (subst (IsAncestor up b) e (below_own y h))
  of_own y (inr j) h = elim (in_split y clones older j) [
    | inl k ↦ acyclic b (ancestor_trans up b y b (below_own y h) (chain_above up b clones last y chain k))
    | inr k ↦ ordered b y (before_right b y newer (b ∷ older) (inl (refl, k))) (inr (below_own y h))
  ]

  of_block : (y : ℕ) → IsIn y (clones ++ older) → ¬ (AtOrAbove up b y)
  of_block y j h = elim (in_split y clones older j) [
    | inl k ↦ acyclic b (above_clone b y k h)
    | inr k ↦ ordered b y (before_right b y newer (b ∷ older) (inl (refl, k))) h
  ]

  among_clones : (x y : ℕ) → Before clones x y → ¬ (AtOrAbove up x y)
  among_clones x y h (inl e) = acyclic x (subst (λ z. IsAncestor up z x) (sym e) (chain_order up b clones last x y chain h))
  among_clones x y h (inr a) = acyclic x (ancestor_trans up x y x a (chain_order up b clones last x y chain h))

  of_rest : (x y : ℕ) → Before (clones ++ older) x y → ¬ (AtOrAbove up x y)
  of_rest x y h a = elim (before_split x y clones older h) [
    | inl j ↦ among_clones x y j a
    | inr j ↦ elim j [
      | inl k ↦ apart y k.1 (at_or_above_trans up last x y (chain_below up b clones last x chain k.0) a)
      | inr k ↦ ordered x y (before_right x y newer (b ∷ older) (inr k)) a
    ]
  ]

  round_ordered : (x y : ℕ) → Before (round_stack newer c b clones older) x y → ¬ (AtOrAbove up x y)
  round_ordered x y h a = elim (before_split x y newer (c ∷ b ∷ (clones ++ older)) h) [
    | inl j ↦ ordered x y (before_left x y newer (b ∷ older) j) a
    | inr j ↦ elim j [
      | inl k ↦ of_newer x k.0 y k.1 a
      | inr k ↦ elim k [
        | inl i ↦ of_own y i.1 (subst (λ z. AtOrAbove up z y) i.0 a)
        | inr i ↦ elim i [
          | inl m ↦ of_block y m.1 (subst (λ z. AtOrAbove up z y) m.0 a)
          | inr m ↦ of_rest x y m a
        ]
      ]
    ]
  ]

-- what stands about a gap
before_gap : (x y : ℕ) (a m o : List ℕ) (b f : ℕ) → Before (a ++ b ∷ o) x y → Before (a ++ b ∷ (m ++ f ∷ o)) x y
before_gap x y a m o b f h = elim (before_split x y a (b ∷ o) h) [
  | inl j ↦ before_left x y a (b ∷ (m ++ f ∷ o)) j
  | inr j ↦ elim j [
    | inl k ↦ before_across x y a (b ∷ (m ++ f ∷ o)) k.0 (wider k.1)
    | inr k ↦ elim k [
      | inl i ↦ before_right x y a (b ∷ (m ++ f ∷ o)) (inl (i.0, in_right y m (f ∷ o) (inr i.1)))
      | inr i ↦ before_right x y a (b ∷ (m ++ f ∷ o)) (inr (before_right x y m (f ∷ o) (inr i)))
    ]
  ]
]
  where
    wider : IsIn y (b ∷ o) → IsIn y (b ∷ (m ++ f ∷ o))
    wider (inl e) = inl e
    wider (inr i) = inr (in_right y m (f ∷ o) (inr i))

-- The root stays the oldest.

pub append_some : (a r : List ℕ) → r ≢ [] → a ++ r ≢ []
append_some [] r some = some
append_some (n ∷ a) r some = λ e. cc

top_cons : (g : Forest) (n : ℕ) (r : List ℕ) → r ≢ [] → RootIsTop g r → RootIsTop g (n ∷ r)
top_cons g n [] some k = absurd (some refl)
top_cons g n (m ∷ r) some k = k

pub top_before : (g : Forest) (a r : List ℕ) → r ≢ [] → RootIsTop g r → RootIsTop g (a ++ r)
top_before g [] r some k = k
top_before g (n ∷ a) r some k = top_cons g n (a ++ r) (append_some a r some) (top_before g a r some k)

pub top_after : (g : Forest) (n : ℕ) (r : List ℕ) → r ≢ [] → RootIsTop g (n ∷ r) → RootIsTop g r
top_after g n [] some k = absurd (some refl)
top_after g n (m ∷ r) some k = k

pub top_behind : (g : Forest) (a r : List ℕ) → r ≢ [] → RootIsTop g (a ++ r) → RootIsTop g r
top_behind g [] r some k = k
top_behind g (n ∷ a) r some k = top_behind g a r some (top_after g n (a ++ r) (append_some a r some) k)

pub open_after : (n : QualName) (ns : List QualName) → ns ≢ [] → IsRootOpen (n ∷ ns) → IsRootOpen ns
open_after n [] some k = absurd (some refl)
open_after n (m ∷ ns) some k = k

pub map_some : (named : ℕ → QualName) (r : List ℕ) → r ≢ [] → map named r ≢ []
map_some named [] some = absurd (some refl)
map_some named (n ∷ r) some = λ e. cc

pub open_behind : (named : ℕ → QualName) (a r : List ℕ) → r ≢ [] → IsRootOpen (map named (a ++ r)) → IsRootOpen (map named r)
open_behind named [] r some k = k
open_behind named (n ∷ a) r some k = open_behind named a r some (open_after (named n) (map named (a ++ r)) (map_some named (a ++ r) (append_some a r some)) k)

pub open_before : (named : ℕ → QualName) (a r : List ℕ) → IsRootOpen (map named r) → IsRootOpen (map named (a ++ r))
open_before named [] r k = k
open_before named (n ∷ a) r k = open_push (named n) (map named (a ++ r)) (open_before named a r k)

pub map_same : (p q : ℕ → QualName) (s : List ℕ) → ((n : ℕ) → IsIn n s → p n ≡ q n) → map p s ≡ map q s
map_same p q [] same = refl
map_same p q (n ∷ s) same = ap (λ x. x ∷ map p s) (same n (inl refl)) ∙ ap (λ xs. q n ∷ xs) (map_same p q s (λ m i. same m (inr i)))

pub root_kept : (w : World) (g : Forest) → Sound w → KeepsKinds w.forest g → IsRootOpen (names_of w) → IsRootOpen (names_of (with_forest g w))
unfolding names_of
root_kept w g sound same k =
    subst IsRootOpen (map_same (name_in w.forest) (name_in g) w.stack (λ n i. sym (ap name_of_found (same n (element_is_node w.forest n (sound.stands.elements n i)))))) k

-- A round.

-- each clone has an original, and this is one of those that are cloned
clone_original : (xs ys : List ℕ) (y : ℕ) → length ys ≡ length xs → IsIn y ys → (x : ℕ) × IsCloneOf xs ys y x
clone_original xs [] y e i = absurd i
clone_original [] (z ∷ ys) y e i = absurd (cc)
clone_original (x ∷ xs) (z ∷ ys) y e (inl h) = (x, inl (refl, h))
clone_original (x ∷ xs) (z ∷ ys) y e (inr i) =
    let k = clone_original xs ys y (less (length ys) (length xs) e) i in (k.0, inr k.1)
  where
    less : (p q : ℕ) → suc p ≡ suc q → p ≡ q
    less p q w = cc

pub original_in : (xs ys : List ℕ) (y x : ℕ) → IsCloneOf xs ys y x → IsIn x xs
original_in [] ys y x h = h
original_in (a ∷ xs) [] y x h = absurd h
original_in (a ∷ xs) (b ∷ ys) y x (inl h) = inl h.0
original_in (a ∷ xs) (b ∷ ys) y x (inr h) = inr (original_in xs ys y x h)

-- those that are cloned are listed
pub to_clone_is_listed : (l : List Entry) (between : List ℕ) (x : ℕ) → IsIn x (to_clone l between) → IsIn x (nodes_of l)
to_clone_is_listed l between x = passed (take 3 between)
  where
    passed : (s : List ℕ) → IsIn x (filter (λ n. is_in n (nodes_of l)) s) → IsIn x (nodes_of l)
    passed [] i = absurd i
    passed (y ∷ s) i = at (is_in y (nodes_of l)) refl i (passed s)
      where
        at : (b : Bool) → is_in y (nodes_of l) ≡ b → IsIn x (cond b (y ∷ filter (λ n. is_in n (nodes_of l)) s) (filter (λ n. is_in n (nodes_of l)) s)) → (IsIn x (filter (λ n. is_in n (nodes_of l)) s) → IsIn x (nodes_of l)) → IsIn x (nodes_of l)
        at true e (inl v) go = subst (λ z. IsIn z (nodes_of l)) (sym v) (is_in_true y (nodes_of l) e)
        at true e (inr v) go = go v
        at false e v go = go v

module _ {name : List ℕ} {f : FormattingElement} {k : FurthestBlock} (choices : SinkChoices) (w : World) (ready : HasHtmlRoot w) (may : MayAdopt name f k w) where
  abbrev originals : List ℕ
  originals = to_clone w.formatting k.between

  abbrev clones_made : Nest
  clones_made = nest choices w.formatting (to_clone w.formatting k.between) k.block w.forest

  abbrev older_ones : List ℕ
  older_ones = older_than f.node w.stack

  abbrev sound : Sound w
  sound = ready.sound

  -- after the clones were made, and stand around the block
  pub nest_all : IsNest choices w.forest w.stack w.formatting w.head w.form w.context k.block (to_clone w.formatting k.between) k.block (nest choices w.formatting (to_clone w.formatting k.between) k.block w.forest)
  nest_all =
      nested choices w.stack k.block f.node (block_is_newer w may) w.forest originals k.block sound (loose_block w.forest w.stack k.block sound.stands (block_is_open w may))
      (λ x i. to_clone_is_listed w.formatting k.between x i)

  abbrev in_midst : World
  in_midst = with_forest clones_made.forest w

  abbrev place_forest : Forest
  place_forest = placed f clones_made w

  may_midst : MayAdopt name f k in_midst
  may_midst = may_adopt_kept w clones_made.forest sound nest_all.kinds may

  root_midst : IsRootOpen (names_of in_midst)
  root_midst = root_kept w clones_made.forest sound nest_all.kinds ready.root

  ancestor_midst : IsIn (common_ancestor f w) (older_than f.node w.stack)
  ancestor_midst = ancestor_is_older w may sound ready.root

  -- after they were put in the common ancestor
  pub round_placed : AllStand (placed f clones_made w) w.stack w.formatting w.head w.form w.context
  round_placed = put_loose_all in_midst may_midst nest_all.all root_midst (common_ancestor f w) ancestor_midst clones_made.outermost nest_all.loose

  pub round_placed_kinds : KeepsKinds w.forest (placed f clones_made w)
  round_placed_kinds =
      kinds_trans w.forest clones_made.forest place_forest nest_all.kinds
      (put_loose_kinds in_midst may_midst nest_all.all root_midst (common_ancestor f w) ancestor_midst clones_made.outermost nest_all.loose)

  placed_chain : IsChain (parent_of place_forest) k.block clones_made.clones clones_made.outermost
  placed_chain =
      let last = clones_made.outermost in
      let up = parent_of clones_made.forest in
      chain_kept up (parent_of place_forest) k.block k.block clones_made.clones last
      (λ m p e above below.
      put_loose_parents in_midst may_midst nest_all.all root_midst (common_ancestor f w) ancestor_midst last nest_all.loose m
      (λ same. nest_all.all.stands.is_forest.acyclic last (cycle last m p same e below)) ∙ e)
      (inl refl) nest_all.chain
    where
      cycle : (last m p : ℕ) → m ≡ last → parent_of clones_made.forest m ≡ Some p → AtOrAbove (parent_of clones_made.forest) last p → IsAncestor (parent_of clones_made.forest) last last
      cycle last m p same e (inl h) = Parent (ap (parent_of clones_made.forest) (sym same) ∙ e ∙ ap (λ z. Some z) (sym h))
      cycle last m p same e (inr a) = Further p a (ap (parent_of clones_made.forest) (sym same) ∙ e)

  placed_loose : IsLoose place_forest w.stack k.block clones_made.outermost
  placed_loose = put_loose_still in_midst may_midst nest_all.all root_midst (common_ancestor f w) ancestor_midst clones_made.outermost nest_all.loose

  -- after the block was refilled
  abbrev own_clone : ℕ
  own_clone = choices.fresh place_forest

  abbrev full : Forest
  full = filled choices f.tag k.block place_forest

  abbrev new_forest : Forest
  new_forest = refilled choices f k.block place_forest

  abbrev open_block : IsIn k.block w.stack
  open_block = block_is_open w may

  pub round_refilled : AllStand (refilled choices f k.block (placed f clones_made w)) w.stack w.formatting w.head w.form w.context
  round_refilled =
      marked_all (choices.marks_after_pop full f.node) full w.stack (filled_all choices f.tag place_forest w.stack k.block round_placed.stands open_block round_placed)

  placed_refilled : KeepsKinds place_forest new_forest
  placed_refilled =
      kinds_trans place_forest full new_forest (filled_kinds choices f.tag place_forest w.stack k.block round_placed.stands open_block) (marked_kinds (choices.marks_after_pop full f.node) full)

  pub round_kinds : KeepsKinds w.forest (refilled choices f k.block (placed f clones_made w))
  round_kinds = kinds_trans w.forest place_forest new_forest round_placed_kinds placed_refilled

  midst_refilled : KeepsKinds clones_made.forest new_forest
  midst_refilled =
      kinds_trans clones_made.forest place_forest new_forest
      (put_loose_kinds in_midst may_midst nest_all.all root_midst (common_ancestor f w) ancestor_midst clones_made.outermost nest_all.loose) placed_refilled

  refilled_loose : IsLoose new_forest w.stack k.block clones_made.outermost
  refilled_loose =
      marked_loose (choices.marks_after_pop full f.node) full w.stack k.block clones_made.outermost (filled_all choices f.tag place_forest w.stack k.block round_placed.stands open_block round_placed).stands
      (filled_loose choices f.tag place_forest w.stack k.block round_placed.stands open_block clones_made.outermost placed_loose)

  own_parent : parent_of new_forest own_clone ≡ Some k.block
  own_parent = marked_parent (choices.marks_after_pop full f.node) full own_clone ∙ filled_parent choices f.tag place_forest w.stack k.block round_placed.stands open_block

  refilled_chain : IsChain (parent_of new_forest) k.block clones_made.clones clones_made.outermost
  refilled_chain =
      chain_kept (parent_of place_forest) (parent_of new_forest) k.block k.block clones_made.clones clones_made.outermost
      (λ m p e above below.
      marked_parent (choices.marks_after_pop full f.node) full m
      ∙ filled_parents choices f.tag place_forest w.stack k.block round_placed.stands open_block m (child_is_node place_forest m p e) (λ up. round_placed.stands.is_forest.acyclic k.block (cycle m up above)) ∙ e)
      (inl refl) placed_chain
    where
      cycle : (m : ℕ) → parent_of place_forest m ≡ Some k.block → AtOrAbove (parent_of place_forest) m k.block → IsAncestor (parent_of place_forest) k.block k.block
      cycle m up (inl e) = Parent (ap (parent_of place_forest) (sym e) ∙ up)
      cycle m up (inr a) = ancestor_trans (parent_of place_forest) k.block m k.block (Parent up) a

  -- they are of the tags of their originals
  pub clones_of_tags : (y x : ℕ) (t : TagText) → IsCloneOf (to_clone w.formatting k.between) clones_made.clones y x → tag_in w.formatting x ≡ Some t → IsOfTag (refilled choices f k.block (placed f clones_made w)) y t
  clones_of_tags y x t h e =
      let kind = nest_all.of_tags y x t h e in midst_refilled y (node_of_kind clones_made.forest y (ElementNode (html_name t.name)) kind) ∙ kind

  pub clone_of_tag : IsOfTag (refilled choices f k.block (placed f clones_made w)) (choices.fresh (placed f clones_made w)) f.tag
  clone_of_tag =
      marked_kind (choices.marks_after_pop full f.node) full own_clone ∙ filled_of_tag choices f.tag place_forest w.stack k.block round_placed.stands open_block

  -- the clones are new
  own_new : place_forest.node own_clone ≡ None
  own_new = choices.fresh_is_new place_forest round_placed.stands.is_forest

  round_makes : Makes w.forest (clones_made.clones ++ own_clone ∷ [])
  round_makes = nest_all.makes (own_clone ∷ []) (one_more new_forest
      (λ there. there_alike clones_made.forest place_forest own_clone (put_loose_kinds in_midst may_midst nest_all.all root_midst (common_ancestor f w) ancestor_midst clones_made.outermost nest_all.loose own_clone there) there own_new)
      (λ m there. there_alike clones_made.forest new_forest m (midst_refilled m there) there)
      (node_of_kind new_forest own_clone (ElementNode (html_name f.tag.name)) clone_of_tag)
      no_more)

  pub round_fresh : AreFresh (choices.fresh (placed f clones_made w) ∷ clones_made.clones) w.stack w.formatting
  round_fresh =
      fresh_round w.forest clones_made.clones own_clone w.stack w.formatting round_makes (λ n i. element_is_node w.forest n (sound.stands.elements n i)) sound.listed

  pub round_count : length clones_made.clones ≡ length (to_clone w.formatting k.between)
  round_count = nest_all.count

  -- the new stack
  abbrev new_stack : List ℕ
  new_stack = round_stack k.newer own_clone k.block clones_made.clones older_ones

  pub cut_stack : w.stack ≡ k.newer ++ k.block ∷ (k.between ++ f.node ∷ older_than f.node w.stack)
  cut_stack =
      let parts = furthest_block_at (λ n. is_special (name_in w.forest n)) (newer_than f.node w.stack) k may.block in
      stack_split f.node w.stack may.is_open ∙ ap (λ z. z ++ f.node ∷ older_ones) parts.cut ∙ append_assoc k.newer (k.block ∷ k.between) (f.node ∷ older_ones)

  newer_open : (x : ℕ) → IsIn x k.newer → IsIn x w.stack
  newer_open x i = subst (IsIn x) (sym cut_stack) (in_left x k.newer (k.block ∷ (k.between ++ f.node ∷ older_ones)) i)

  older_apart : (y : ℕ) → IsIn y older_ones → ¬ (AtOrAbove (parent_of new_forest) clones_made.outermost y)
  older_apart y i a =
      let under = older_than_block w may y i in
      let distinct = ordered_distinct (parent_of w.forest) w.stack sound.stands.ordered in
      elim (refilled_loose.below y (older_is_open w may y i) a) [
        | inl e ↦ distinct k.block (subst (Before w.stack k.block) e under)
        | inr j ↦ distinct k.block (before_trans k.block y k.block w.stack distinct under j)
      ]

  new_ordered : (x y : ℕ) → Before new_stack x y → ¬ (AtOrAbove (parent_of new_forest) x y)
  new_ordered x y h =
      round_ordered (parent_of new_forest) k.newer older_ones clones_made.clones k.block own_clone clones_made.outermost round_refilled.stands.is_forest.acyclic
      (λ p q before. round_refilled.stands.ordered.newer p q (subst (λ s. Before s p q) (sym cut_stack) (before_gap p q k.newer k.between older_ones k.block f.node before)))
      refilled_chain own_parent (λ p i e. round_fresh.unopened own_clone (inl refl) (subst (λ z. IsIn z w.stack) e (newer_open p i))) older_apart x y h

  -- a member was open, or is a clone
  member : (x : ℕ) → IsIn x new_stack → IsIn x w.stack ⊎ IsIn x (own_clone ∷ clones_made.clones)
  member x i = elim (in_split x k.newer (own_clone ∷ k.block ∷ (clones_made.clones ++ older_ones)) i) [
    | inl j ↦ inl (newer_open x j)
    | inr j ↦ elim j [
      | inl e ↦ inr (inl e)
      | inr m ↦ elim m [
        | inl e ↦ inl (subst (λ z. IsIn z w.stack) (sym e) open_block)
        | inr r ↦ elim (in_split x clones_made.clones older_ones r) [ inl c ↦ inr (inr c) | inr o ↦ inl (older_is_open w may x o) ]
      ]
    ]
  ]

  clone_not_there : (x : ℕ) → IsIn x (own_clone ∷ clones_made.clones) → ¬ (IsNode w.forest x)
  clone_not_there x i = made_new w.forest (clones_made.clones ++ own_clone ∷ []) x round_makes (turned i)
    where
      turned : IsIn x (own_clone ∷ clones_made.clones) → IsIn x (clones_made.clones ++ own_clone ∷ [])
      turned (inl e) = in_right x clones_made.clones (own_clone ∷ []) (inl e)
      turned (inr h) = in_left x clones_made.clones (own_clone ∷ []) h

  original_tag : (y x : ℕ) → IsCloneOf originals clones_made.clones y x → (t : TagText) × (tag_in w.formatting x ≡ Some t)
  original_tag y x h = tagged w.formatting x (to_clone_is_listed w.formatting k.between x (original_in originals clones_made.clones y x h))

  pub clone_is_plain : (x : ℕ) → IsIn x (choices.fresh (placed f clones_made w) ∷ clones_made.clones) → IsPlain (refilled choices f k.block (placed f clones_made w)) x
  clone_is_plain x (inl e) = record {
    local = f.tag.name;
    kind = ap (kind_of new_forest) e ∙ clone_of_tag;
    is_plain = ap (λ o. is_special (name_of_found o)) (sym (formatting_of_tag w may sound)) ∙ formatting_is_plain w may sound;
  }
  clone_is_plain y (inr i) =
      let o = clone_original originals clones_made.clones y round_count i in
      let t = original_tag y o.0 o.1 in
      let p = listed_is_plain w.forest w.formatting sound.listed sound.formatting o.0 (to_clone_is_listed w.formatting k.between o.0 (original_in originals clones_made.clones y o.0 o.1)) in
      record {
        local = t.0.name;
        kind = clones_of_tags y o.0 t.0 o.1 t.1;
        is_plain = ap (λ q. is_special (name_of_found q)) (sym (each_tag_in (IsOfTag w.forest) w.formatting o.0 t.0 sound.listed t.1) ∙ p.kind) ∙ p.is_plain;
      }

  new_stands : Stands new_forest new_stack
  new_stands = record {
    is_forest = round_refilled.stands.is_forest;
    elements = λ n i. elements n (member n i);
    ordered = record { newer = new_ordered };
    templates = λ n i. templates n (member n i);
  }
    where
      elements : (n : ℕ) → IsIn n w.stack ⊎ IsIn n (own_clone ∷ clones_made.clones) → IsElement new_forest n
      elements n (inl i) = round_refilled.stands.elements n i
      elements n (inr i) = let p = clone_is_plain n i in (html_name p.local, p.kind)

      templates : (n : ℕ) → IsIn n w.stack ⊎ IsIn n (own_clone ∷ clones_made.clones) → IsTrue (is_html_template (name_in new_forest n)) → HasContents new_forest n
      templates n (inl i) t = round_refilled.stands.templates n i t
      templates n (inr i) t =
          let p = clone_is_plain n i in
          let none = ap (λ o. is_html_template (name_of_found o)) p.kind ∙ plain_not_template (html_name p.local) p.is_plain in
          absurd (let clash : true ≡ false = sym t ∙ none in cc)

  new_root_top : RootIsTop new_forest new_stack
  new_root_top =
      let some = older_some w may sound ready.root in
      let behind = append_some clones_made.clones older_ones some in
      let top = top_behind new_forest (newer_than f.node w.stack) (f.node ∷ older_ones) (λ e. cc) (subst (RootIsTop new_forest) (stack_split f.node w.stack may.is_open) round_refilled.root_top) in
      top_before new_forest k.newer (own_clone ∷ k.block ∷ (clones_made.clones ++ older_ones)) (λ e. cc)
      (top_cons new_forest own_clone (k.block ∷ (clones_made.clones ++ older_ones)) (λ e. cc)
      (top_cons new_forest k.block (clones_made.clones ++ older_ones) behind
      (top_before new_forest clones_made.clones older_ones some (top_after new_forest f.node older_ones some top))))

  abbrev special : ℕ → Bool
  special = λ n. is_special (name_in w.forest n)

  abbrev new_list : List Entry
  new_list = (adopted_at f clones_made.clones own_clone (Some k) older_ones w.formatting).formatting

  new_listed : AllOfTags new_forest new_list
  new_listed =
      subst (λ o. AllOfTags new_forest (adopted_at f clones_made.clones own_clone o older_ones w.formatting).formatting) may.block
      (listed_adopted special name f clones_made.clones own_clone w.stack w.formatting w.forest new_forest may.newest round_kinds
      (λ y x h. alike y x (subst (λ o. IsCloneOf (clones_wanted_at o w.formatting) clones_made.clones y x) may.block h))
      (clone_of_tag ∙ sym (formatting_of_tag w may sound)) sound.listed)
    where
      alike : (y x : ℕ) → IsCloneOf originals clones_made.clones y x → kind_of new_forest y ≡ kind_of w.forest x
      alike y x h = let t = original_tag y x h in clones_of_tags y x t.0 h t.1 ∙ sym (each_tag_in (IsOfTag w.forest) w.formatting x t.0 sound.listed t.1)

  new_formatting : AllFormatting new_list
  new_formatting =
      subst (λ o. AllFormatting (adopted_at f clones_made.clones own_clone o older_ones w.formatting).formatting) may.block
      (each_tag_adopted (λ t. IsTrue (is_one_of formatting_names t.name)) special name f clones_made.clones own_clone w.stack w.formatting may.newest sound.formatting)

  new_lists : Lists new_stack new_list
  new_lists =
      subst (λ o. Lists (adopted_at f clones_made.clones own_clone o older_ones w.formatting).stack (adopted_at f clones_made.clones own_clone o older_ones w.formatting).formatting) may.block
      (lists_adopted special name f clones_made.clones own_clone w.stack w.formatting may.newest may.is_open (ordered_distinct (parent_of w.forest) w.stack sound.stands.ordered)
      unlisted (round_count ∙ sym (ap (λ o. length (clones_wanted_at o w.formatting)) may.block)) round_fresh ready.lists)
    where
      unlisted : (n : ℕ) → special n ≡ true → ¬ (IsIn n (nodes_of w.formatting))
      unlisted n is i =
          let p = listed_is_plain w.forest w.formatting sound.listed sound.formatting n i in
          let none : is_special (name_in w.forest n) ≡ false = ap (λ o. is_special (name_of_found o)) p.kind ∙ p.is_plain in
          let clash : true ≡ false = sym is ∙ none in cc

  new_root : IsRootOpen (names_of (adopt choices f k w))
  unfolding names_of
  new_root =
      let some = older_some w may sound ready.root in
      let named = name_in new_forest in
      let old = open_behind (name_in w.forest) (newer_than f.node w.stack ++ f.node ∷ []) older_ones some
      (subst (λ s. IsRootOpen (map (name_in w.forest) s)) (stack_split f.node w.stack may.is_open ∙ sym (append_assoc (newer_than f.node w.stack) (f.node ∷ []) older_ones)) ready.root) in
      let kept = subst IsRootOpen (map_same (name_in w.forest) named older_ones (λ n i. sym (ap name_of_found (round_kinds n (element_is_node w.forest n (sound.stands.elements n (older_is_open w may n i))))))) old in
      open_before named k.newer (own_clone ∷ k.block ∷ (clones_made.clones ++ older_ones))
      (open_push (named own_clone) (map named (k.block ∷ (clones_made.clones ++ older_ones)))
      (open_push (named k.block) (map named (clones_made.clones ++ older_ones)) (open_before named clones_made.clones older_ones kept)))

  -- a round leaves builder and sink ready
  pub adopt_ready : HasHtmlRoot (adopt choices f k w)
  adopt_ready = record {
    sound = record {
      stands = new_stands;
      root_top = new_root_top;
      head_node = round_refilled.head_node;
      form_node = round_refilled.form_node;
      form_name = λ n e i. form_name n e (member n i);
      apart = round_refilled.apart;
      context_node = round_refilled.context_node;
      context_out = λ n e i. context_out n e (member n i);
      context_no_head = round_refilled.context_no_head;
      listed = new_listed;
      formatting = new_formatting;
    };
    lists = new_lists;
    root = new_root;
  }
    where
      form_name : (n : ℕ) → w.form ≡ Some n → IsIn n w.stack ⊎ IsIn n (own_clone ∷ clones_made.clones) → IsHtml new_forest (codes "form") n
      form_name n e (inl i) = round_refilled.form_name n e i
      form_name n e (inr i) = absurd (clone_not_there n i (element_is_node w.forest n (sound.form_node n e)))

      context_out : (n : ℕ) → w.context ≡ Some n → ¬ (IsIn n w.stack ⊎ IsIn n (own_clone ∷ clones_made.clones))
      context_out n e (inl i) = round_refilled.context_out n e i
      context_out n e (inr i) = clone_not_there n i (element_is_node w.forest n (sound.context_node n e))
