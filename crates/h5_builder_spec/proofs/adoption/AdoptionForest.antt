-- The steps of a round of the adoption agency, one at a time: what each keeps of the forest and the open elements (HTML
-- standard, section 13.2.6.4.7, "adoption agency algorithm").
use Rattle.std.proofs.Common.{◌≡◌, ◌≢◌, ◌⊎◌, inl, inr, ℕ, Bool, true, false, ◌==◌, cond, List, [], ◌∷◌, Option, Some, None, refl, ap, sym, subst, ◌∙◌}
use Rattle.std.proofs.lemmas.Bool.{eq-eqb, eqb-true, ne_eqb}
use Rattle.h5_names.specs.declared.qualified.QualName.{QualName}
use Rattle.h5_token.specs.TokenText.{TagText}
use Rattle.h5_interface.specs.Ancestors.{AtOrAbove, IsAncestor, Parent}
use Rattle.h5_interface.specs.Changes.{detach, detach_from, has_child, mark, reparent}
use Rattle.h5_interface.specs.Forest.{ChildNode, DocumentNode, ElementNode, Forest, FragmentNode, IsForest, IsNode, Marks, Node, children_of, kind_of, parent_of}
use Rattle.h5_interface.specs.NewElement.{flags_of, is_html_template}
use Rattle.h5_interface.specs.Seen.{CanAppend, CanDetach, CanReparent, IsFreeFor, element, make, make_contents, plain, with_contents, with_last_child}
use Rattle.h5_interface.specs.SinkChoices.{Rearranges, SinkChoices}
use Rattle.h5_interface.proofs.AncestorLaws.{ancestor_trans, at_or_above_trans, no_ancestor}
use Rattle.h5_interface.proofs.ForestLaws.{ancestor_is_node, rearranged_ancestor, rearranged_node, rearranges_trans, there_alike}
use Rattle.h5_interface.proofs.HangingLaws.{append_node_keeps, append_node_rehangs, detach_rearranges, detached_parent, moved_child, reparent_keeps, reparent_rehangs}
use Rattle.h5_interface.proofs.MakingLaws.{IsLone, add_keeps, added_parent, element_lone, host_rehangs, made_is_free, made_kind, made_parent, make_element_rearranges, mark_rearranges, new_is_free, new_is_node, new_kind, old_is_node, plain_lone}
use Rattle.h5_interface.proofs.RehangLaws.{Rehangs, hung_ancestor, rehung_node}
use Rattle.h5_builder_spec.specs.formatting.FormattingList.{Entry}
use Rattle.h5_builder_spec.specs.formatting.FormattingNames.{IsOfTag, html_name}
use Rattle.h5_builder_spec.specs.stack.Order.{Before, Distinct, IsIn}
use Rattle.h5_builder_spec.proofs.entries.EachLaws.{each_more}
use Rattle.h5_builder_spec.specs.formatting.Adoption.{FormattingElement, FurthestBlock, newer_than, older_than}
use Rattle.h5_builder_spec.proofs.entries.PairLaws.{before_across, before_first, before_second, in_right}
use Rattle.h5_builder_spec.proofs.entries.PassLaws.{furthest_block_at, ordered_distinct, stack_split}
use Rattle.h5_tables.specs.TagSets.{is_special}
use Rattle.h5_builder_spec.specs.formatting.AdoptionAgency.{IsLoose, MayAdopt, make_for, wrapped, KeepsKinds}
use Rattle.h5_builder_spec.specs.Sound.{AllStand, RootIsTop, Stands}
use Rattle.h5_builder_spec.specs.World.{World, name_in, name_of_found}
use Rattle.h5_builder_spec.proofs.changes.SoundLaws.{all_rearranged, element_is_node, stands_rearranged}

-- Members of a list.

-- of two members one stands before the other
pub one_first : (x y : ℕ) (s : List ℕ) → IsIn x s → IsIn y s → (x ≡ y) ⊎ (Before s x y ⊎ Before s y x)
one_first x y [] h k = absurd h
one_first x y (n ∷ s) (inl h) (inl k) = inl (h ∙ sym k)
one_first x y (n ∷ s) (inl h) (inr k) = inr (inl (inl (h, k)))
one_first x y (n ∷ s) (inr h) (inl k) = inr (inr (inl (k, h)))
one_first x y (n ∷ s) (inr h) (inr k) =
    elim (one_first x y s h k) [ inl e ↦ inl e | inr j ↦ elim j [ inl i ↦ inr (inl (inr i)) | inr i ↦ inr (inr (inr i)) ] ]

pub before_trans : (x y z : ℕ) (s : List ℕ) → Distinct s → Before s x y → Before s y z → Before s x z
before_trans x y z [] d h k = absurd h
before_trans x y z (n ∷ s) d (inl h) (inl k) = inl (h.0, k.1)
before_trans x y z (n ∷ s) d (inl h) (inr k) = inl (h.0, before_second y z s k)
before_trans x y z (n ∷ s) d (inr h) (inl k) = absurd (d y (inl (k.0, before_second x y s h)))
before_trans x y z (n ∷ s) d (inr h) (inr k) = inr (before_trans x y z s (λ m j. d m (inr j)) h k)

-- the oldest one
abbrev pub IsOldest : ℕ → List ℕ → Type 0
IsOldest n [] = ⊥
IsOldest n (m ∷ []) = n ≡ m
IsOldest n (m ∷ k ∷ s) = IsOldest n (k ∷ s)

pub oldest_in : (n : ℕ) (s : List ℕ) → IsOldest n s → IsIn n s
oldest_in n [] h = h
oldest_in n (m ∷ []) h = inl h
oldest_in n (m ∷ k ∷ s) h = inr (oldest_in n (k ∷ s) h)

pub oldest_is_last : (n y : ℕ) (s : List ℕ) → Distinct s → IsOldest n s → ¬ (Before s n y)
oldest_is_last n y [] d o h = h
oldest_is_last n y (m ∷ []) d o (inl h) = h.1
oldest_is_last n y (m ∷ []) d o (inr h) = h
oldest_is_last n y (m ∷ k ∷ s) d o (inl h) = d n (inl (h.0, oldest_in n (k ∷ s) o))
oldest_is_last n y (m ∷ k ∷ s) d o (inr h) = oldest_is_last n y (k ∷ s) (λ x j. d x (inr j)) o h

top_of_oldest : (f : Forest) (s : List ℕ) (n p : ℕ) → RootIsTop f s → IsOldest n s → parent_of f n ≡ Some p → p ≡ f.document
top_of_oldest f [] n p k o e = absurd o
top_of_oldest f (m ∷ []) n p k o e = k p (ap (parent_of f) (sym o) ∙ e)
top_of_oldest f (m ∷ j ∷ s) n p k o e = top_of_oldest f (j ∷ s) n p k o e

-- Nodes stay what they are.

pub kinds_refl : (f : Forest) → KeepsKinds f f
kinds_refl f = λ n there. refl

pub kinds_trans : (f g h : Forest) → KeepsKinds f g → KeepsKinds g h → KeepsKinds f h
kinds_trans f g h a b = λ n there. b n (there_alike f g n (a n there) there) ∙ a n there

-- Nodes are hung.

-- what was sound stays sound, if no newer open element is above an older one that comes below it
pub stands_hung : (f g : Forest) (chosen : ℕ → Bool) (q : ℕ) (s : List ℕ) → Stands f s → IsForest g → Rehangs f g chosen (Some q)
    → ((x y z : ℕ) → Before s x y → chosen z ≡ true → AtOrAbove (parent_of f) x q → AtOrAbove (parent_of f) z y → ⊥) → Stands g s
stands_hung f g chosen q s k forest r apart = record {
  is_forest = forest;
  elements = λ n h. let e = k.elements n h in (e.0, r.kinds n ∙ e.1);
  ordered = record { newer = λ x y b h. newer x y b h };
  templates = λ n h t. r.contents n (k.templates n h (ap (λ o. is_html_template (name_of_found o)) (sym (r.kinds n)) ∙ t));
}
  where
    newer : (x y : ℕ) → Before s x y → AtOrAbove (parent_of g) x y → ⊥
    newer x y b (inl e) = k.ordered.newer x y b (inl e)
    newer x y b (inr a) = elim (hung_ancestor f g chosen q x y r a) [ inl j ↦ k.ordered.newer x y b (inr j) | inr j ↦ apart x y j.0 b j.1 j.2 j.3 ]

top_hung : (f g : Forest) (chosen : ℕ → Bool) (q : ℕ) (s : List ℕ) → Rehangs f g chosen (Some q) → ((n : ℕ) → IsOldest n s → ¬ (chosen n ≡ true)) → RootIsTop f s → RootIsTop g s
top_hung f g chosen q [] r out k = tt
top_hung f g chosen q (n ∷ []) r out k = λ p e. k p (at p (chosen n) refl (sym (r.parents n) ∙ e)) ∙ sym r.document
  where
    at : (p : ℕ) (b : Bool) → chosen n ≡ b → cond b (Some q) (parent_of f n) ≡ Some p → parent_of f n ≡ Some p
    at p true w e = absurd (out n refl w)
    at p false w e = e
top_hung f g chosen q (n ∷ m ∷ s) r out k = top_hung f g chosen q (m ∷ s) r out k

module _ {l : List Entry} {head form context : Option ℕ} where
  pub all_hung : (f g : Forest) (chosen : ℕ → Bool) (q : ℕ) (s : List ℕ) → AllStand f s l head form context → IsForest g → Rehangs f g chosen (Some q)
      → ((x y z : ℕ) → Before s x y → chosen z ≡ true → AtOrAbove (parent_of f) x q → AtOrAbove (parent_of f) z y → ⊥)
      → ((n : ℕ) → IsOldest n s → ¬ (chosen n ≡ true)) → AllStand g s l head form context
  all_hung f g chosen q s k forest r apart out = record {
    stands = stands_hung f g chosen q s k.stands forest r apart;
    root_top = top_hung f g chosen q s r out k.root_top;
    head_node = λ n e. r.kinds n ∙ k.head_node n e;
    form_node = λ n e. let h = k.form_node n e in (h.0, r.kinds n ∙ h.1);
    form_name = λ n e h. r.kinds n ∙ k.form_name n e h;
    apart = k.apart;
    context_node = λ n e. let h = k.context_node n e in (h.0, r.kinds n ∙ h.1);
    context_out = k.context_out;
    context_no_head = k.context_no_head;
    listed = each_more (IsOfTag f) (IsOfTag g) l (λ n t e. r.kinds n ∙ e) k.listed;
    formatting = k.formatting;
  }

-- Where the furthest block stands.

-- it is newer than the formatting element
pub block_is_newer : {name : List ℕ} {f : FormattingElement} {k : FurthestBlock} (w : World) → MayAdopt name f k w → Before w.stack k.block f.node
block_is_newer {name} {f} {k} w may =
    let parts = furthest_block_at (λ n. is_special (name_in w.forest n)) (newer_than f.node w.stack) k may.block in
    subst (λ s. Before s k.block f.node) (sym (stack_split f.node w.stack may.is_open))
    (before_across k.block f.node (newer_than f.node w.stack) (f.node ∷ older_than f.node w.stack)
    (subst (IsIn k.block) (sym parts.cut) (in_right k.block k.newer (k.block ∷ k.between) (inl refl))) (inl refl))

pub block_is_open : {name : List ℕ} {f : FormattingElement} {k : FurthestBlock} (w : World) → MayAdopt name f k w → IsIn k.block w.stack
block_is_open {name} {f} {k} w may = before_first k.block f.node w.stack (block_is_newer w may)

-- What may be hung elsewhere.

-- the furthest block itself
pub loose_block : (g : Forest) (s : List ℕ) (b : ℕ) → Stands g s → IsIn b s → IsLoose g s b b
loose_block g s b k i = record {
  is_node = element_is_node g b (k.elements b i);
  no_document = λ e. let w : Some (ElementNode (k.elements b i).0) ≡ Some DocumentNode = sym (k.elements b i).1 ∙ e in cc;
  no_fragment = λ e. let w : Some (ElementNode (k.elements b i).0) ≡ Some FragmentNode = sym (k.elements b i).1 ∙ e in cc;
  below = λ y h a. elim (one_first y b s h i) [ inl e ↦ inl e | inr j ↦ elim j [ inl o ↦ inr o | inr o ↦ absurd (k.ordered.newer b y o a) ] ];
}

-- a rearrangement leaves it so
pub loose_rearranged : (f g : Forest) (s : List ℕ) (b last : ℕ) → Stands f s → Rearranges f g → IsLoose f s b last → IsLoose g s b last
loose_rearranged f g s b last k r loose = record {
  is_node = rearranged_node f g last r loose.is_node;
  no_document = λ e. loose.no_document (sym (r.same_kind last loose.is_node) ∙ e);
  no_fragment = λ e. loose.no_fragment (sym (r.same_kind last loose.is_node) ∙ e);
  below = λ y h a. loose.below y h (old y h a);
}
  where
    old : (y : ℕ) → IsIn y s → AtOrAbove (parent_of g) last y → AtOrAbove (parent_of f) last y
    old y h (inl e) = inl e
    old y h (inr a) = inr (rearranged_ancestor f g last y k.is_forest r (element_is_node f y (k.elements y h)) a)

-- so does hanging nodes, where it itself isn't above the place, or what comes below it is the block or newer
pub loose_hung : (f g : Forest) (chosen : ℕ → Bool) (q : ℕ) (s : List ℕ) (b last : ℕ) → Rehangs f g chosen (Some q) → IsLoose f s b last
    → ((y z : ℕ) → IsIn y s → chosen z ≡ true → AtOrAbove (parent_of f) last q → AtOrAbove (parent_of f) z y → (y ≡ b) ⊎ Before s y b) → IsLoose g s b last
loose_hung f g chosen q s b last r loose apart = record {
  is_node = rehung_node f g chosen (Some q) last r loose.is_node;
  no_document = λ e. loose.no_document (sym (r.kinds last) ∙ e);
  no_fragment = λ e. loose.no_fragment (sym (r.kinds last) ∙ e);
  below = λ y h a. below y h a;
}
  where
    below : (y : ℕ) → IsIn y s → AtOrAbove (parent_of g) last y → (y ≡ b) ⊎ Before s y b
    below y h (inl e) = loose.below y h (inl e)
    below y h (inr a) = elim (hung_ancestor f g chosen q last y r a) [ inl j ↦ loose.below y h (inr j) | inr j ↦ apart y j.0 h j.1 j.2 j.3 ]

-- what is loose is not the root, where the block isn't
pub loose_not_oldest : (g : Forest) (s : List ℕ) (b a last n : ℕ) → Distinct s → Before s b a → IsLoose g s b last → IsOldest n s → AtOrAbove (parent_of g) last n → ⊥
loose_not_oldest g s b a last n d under loose o h =
    elim (loose.below n (oldest_in n s o) h) [
      | inl e ↦ oldest_is_last n a s d o (subst (λ z. Before s z a) (sym e) under)
      | inr j ↦ oldest_is_last n b s d o j
    ]

pub can_detach : (g : Forest) (s : List ℕ) (b last : ℕ) → IsLoose g s b last → CanDetach g last
can_detach g s b last loose = record { is_node = loose.is_node; no_fragment = loose.no_fragment }

pub detached_loose : (g : Forest) (s : List ℕ) (b last : ℕ) → Stands g s → IsLoose g s b last → IsLoose (detach last g) s b last
detached_loose g s b last k loose =
    loose_rearranged g (detach last g) s b last k (detach_rearranges g last k.is_forest (can_detach g s b last loose)) loose

pub detached_all : {l : List Entry} {head form context : Option ℕ} (g : Forest) (s : List ℕ) (b last : ℕ) → AllStand g s l head form context → IsLoose g s b last → AllStand (detach last g) s l head form context
detached_all g s b last k loose =
    all_rearranged g (detach last g) s k (detach_rearranges g last k.stands.is_forest (can_detach g s b last loose))

pub detached_kinds : (g : Forest) (s : List ℕ) (b last : ℕ) → IsForest g → IsLoose g s b last → KeepsKinds g (detach last g)
detached_kinds g s b last k loose = (detach_rearranges g last k (can_detach g s b last loose)).same_kind

-- other nodes keep their parents
pub detached_parents : (f : Forest) (c m : ℕ) → m ≢ c → parent_of (detach c f) m ≡ parent_of f m
detached_parents f c m other = at (parent_of f c) (f.node m) refl
  where
    at : (o : Option ℕ) (x : Option Node) → f.node m ≡ x → parent_of (detach_from o c f) m ≡ parent_of f m
    at None x e = refl
    at (Some p) None e = rw e refl
    at (Some p) (Some d) e = rw (e, ne_eqb m c other) refl

-- A new element for a tag.

module _ (choices : SinkChoices) (tag : TagText) (g : Forest) (k : IsForest g) where
  abbrev clone : ℕ
  clone = choices.fresh g

  abbrev made : Forest
  made = make_for choices tag g

  new : g.node (choices.fresh g) ≡ None
  new = choices.fresh_is_new g k

  pub make_for_rearranges : Rearranges g (make_for choices tag g)
  make_for_rearranges =
      make_element_rearranges choices g (html_name tag.name) tag.attrs (flags_of (html_name tag.name) tag.attrs tag.had_duplicate_attributes) k

  pub make_for_kinds : KeepsKinds g (make_for choices tag g)
  make_for_kinds = make_for_rearranges.same_kind

  pub make_for_of_tag : IsOfTag (make_for choices tag g) (choices.fresh g) tag
  make_for_of_tag = made_kind choices g (html_name tag.name) tag.attrs (flags_of (html_name tag.name) tag.attrs tag.had_duplicate_attributes) k

  pub make_for_parent : parent_of (make_for choices tag g) (choices.fresh g) ≡ None
  make_for_parent = made_parent choices g (html_name tag.name) tag.attrs (flags_of (html_name tag.name) tag.attrs tag.had_duplicate_attributes) k

  pub make_for_is_free : (p : ℕ) → IsNode g p → IsFreeFor (make_for choices tag g) p (choices.fresh g)
  make_for_is_free p there = made_is_free choices g (html_name tag.name) tag.attrs (flags_of (html_name tag.name) tag.attrs tag.had_duplicate_attributes) p k there

  pub make_for_is_node : IsNode (make_for choices tag g) (choices.fresh g)
  make_for_is_node = (make_for_is_free g.document (document_there)).is_node
    where
      document_there : IsNode g g.document
      document_there e = let w = (rw e at k.root) in cc

  -- it is above nothing that was there, and nothing is above it
  pub make_for_above : (y : ℕ) → IsNode g y → ¬ (AtOrAbove (parent_of (make_for choices tag g)) (choices.fresh g) y)
  make_for_above y there = (make_for_is_free y there).not_above

  pub make_for_alone : (x : ℕ) → AtOrAbove (parent_of (make_for choices tag g)) x (choices.fresh g) → x ≡ choices.fresh g
  make_for_alone x (inl e) = e
  make_for_alone x (inr h) = absurd (no_ancestor (parent_of made) x clone make_for_parent h)

  -- what was there keeps its parent
  pub make_for_parents : (m : ℕ) → IsNode g m → parent_of (make_for choices tag g) m ≡ parent_of g m
  make_for_parents m there = at (is_html_template name)
    where
      name : QualName
      name = html_name tag.name

      d : Node
      d = element name tag.attrs (flags_of name tag.attrs tag.had_duplicate_attributes)

      lone : IsLone d
      lone = element_lone name tag.attrs (flags_of name tag.attrs tag.had_duplicate_attributes)

      h : Forest
      h = make choices d g

      kept : IsForest h
      kept = add_keeps g clone d k new lone

      hosted : parent_of (make_contents choices (choices.fresh g) h) m ≡ parent_of h m
      hosted =
          let c = choices.fresh h in
          let new_c : h.node c ≡ None = choices.fresh_is_new h kept in
          let fragment = plain FragmentNode in
          let there_n : IsNode h clone = new_is_node g clone d in
          let r = host_rehangs (make choices fragment h) clone c (add_keeps h c fragment kept new_c (plain_lone FragmentNode)) (old_is_node h c clone fragment there_n)
          (rw (ne_eqb clone c (λ e. there_n (ap h.node e ∙ new_c)), eq-eqb clone clone refl) refl) (new_kind h c fragment)
          (new_is_free h c clone fragment kept new_c (plain_lone FragmentNode) (λ e. cc) there_n) in
          r.parents m ∙ ap (λ b. cond b (Some clone) (parent_of (make choices fragment h) m)) (ne_eqb m c (λ e. old_is_node g clone m d there (ap h.node e ∙ new_c)))
          ∙ added_parent h c fragment new_c (plain_lone FragmentNode) m

      at : (b : Bool) → parent_of (with_contents b choices (choices.fresh g) h) m ≡ parent_of g m
      at true = hosted ∙ added_parent g clone d new lone m
      at false = added_parent g clone d new lone m

pub made_loose : (choices : SinkChoices) (tag : TagText) (g : Forest) (s : List ℕ) (b last : ℕ) → Stands g s → IsLoose g s b last → IsLoose (make_for choices tag g) s b last
made_loose choices tag g s b last k loose = loose_rearranged g (make_for choices tag g) s b last k (make_for_rearranges choices tag g k.is_forest) loose

pub made_all : {l : List Entry} {head form context : Option ℕ} (choices : SinkChoices) (tag : TagText) (g : Forest) (s : List ℕ) → AllStand g s l head form context → AllStand (make_for choices tag g) s l head form context
made_all choices tag g s k = all_rearranged g (make_for choices tag g) s k (make_for_rearranges choices tag g k.stands.is_forest)

-- A clone around what is loose. The block isn't the root: there is an older open element, `a`.

module _ (choices : SinkChoices) (tag : TagText) (g : Forest) (s : List ℕ) (b last : ℕ) where
  abbrev outer : ℕ
  outer = choices.fresh g

  abbrev loosened : Forest
  loosened = detach last (make_for choices tag g)

  pub made_can_detach : IsForest g → IsLoose g s b last → CanDetach (make_for choices tag g) last
  made_can_detach k loose =
      let r = make_for_rearranges choices tag g k in
      record { is_node = rearranged_node g (make_for choices tag g) last r loose.is_node; no_fragment = λ e. loose.no_fragment (sym (r.same_kind last loose.is_node) ∙ e) }

  loosened_made : IsForest g → IsLoose g s b last → Rearranges (make_for choices tag g) loosened
  loosened_made k loose = detach_rearranges (make_for choices tag g) last (make_for_rearranges choices tag g k).is_forest (made_can_detach k loose)

  pub loosened_rearranges : IsForest g → IsLoose g s b last → Rearranges g loosened
  loosened_rearranges k loose = rearranges_trans g (make_for choices tag g) loosened (make_for_rearranges choices tag g k) (loosened_made k loose)

  -- nothing is above the clone
  loosened_alone : IsForest g → IsLoose g s b last → (x : ℕ) → AtOrAbove (parent_of loosened) x outer → x ≡ outer
  loosened_alone k loose x (inl e) = e
  loosened_alone k loose x (inr h) =
      make_for_alone choices tag g k x (inr (rearranged_ancestor (make_for choices tag g) loosened x outer (make_for_rearranges choices tag g k).is_forest (loosened_made k loose) (make_for_is_node choices tag g k) h))

  pub can_wrap : IsForest g → IsLoose g s b last → CanAppend (detach last (make_for choices tag g)) (choices.fresh g) (ChildNode last)
  can_wrap k loose =
      let r = loosened_rearranges k loose in
      record {
        is_node = rearranged_node (make_for choices tag g) loosened outer (loosened_made k loose) (make_for_is_node choices tag g k);
        child = record {
          is_node = rearranged_node g loosened last r loose.is_node;
          no_document = λ e. loose.no_document (sym (r.same_kind last loose.is_node) ∙ e);
          no_parent = detached_parent (make_for choices tag g) last;
          not_above = λ h. loose.is_node (ap g.node (loosened_alone k loose last h) ∙ choices.fresh_is_new g k);
        };
      }

  pub wrapped_rehangs : IsForest g → IsLoose g s b last → Rehangs (detach last (make_for choices tag g)) (wrapped choices (Some tag) last g) (λ m. m == last) (Some (choices.fresh g))
  wrapped_rehangs k loose =
      let may = can_wrap k loose in append_node_rehangs loosened outer last (loosened_rearranges k loose).is_forest may.is_node may.child

  pub wrapped_is_forest : IsForest g → IsLoose g s b last → IsForest (wrapped choices (Some tag) last g)
  wrapped_is_forest k loose = append_node_keeps loosened outer last (loosened_rearranges k loose).is_forest (can_wrap k loose)

  pub wrapped_kinds : IsForest g → IsLoose g s b last → KeepsKinds g (wrapped choices (Some tag) last g)
  wrapped_kinds k loose = λ n there. (wrapped_rehangs k loose).kinds n ∙ (loosened_rearranges k loose).same_kind n there

  -- the clone is an element for the tag, and the parent of what it is around; other nodes keep their parents
  pub wrapped_of_tag : IsForest g → IsLoose g s b last → IsOfTag (wrapped choices (Some tag) last g) (choices.fresh g) tag
  wrapped_of_tag k loose =
      (wrapped_rehangs k loose).kinds outer ∙ (loosened_made k loose).same_kind outer (make_for_is_node choices tag g k) ∙ make_for_of_tag choices tag g k

  pub wrapped_parent : IsForest g → IsLoose g s b last → parent_of (wrapped choices (Some tag) last g) last ≡ Some (choices.fresh g)
  wrapped_parent k loose = (wrapped_rehangs k loose).parents last ∙ ap (λ c. cond c (Some outer) (parent_of loosened last)) (eq-eqb last last refl)

  pub wrapped_parents : IsForest g → IsLoose g s b last → (m : ℕ) → IsNode g m → m ≢ last → parent_of (wrapped choices (Some tag) last g) m ≡ parent_of g m
  wrapped_parents k loose m there other =
      (wrapped_rehangs k loose).parents m ∙ ap (λ c. cond c (Some outer) (parent_of loosened m)) (ne_eqb m last other)
      ∙ detached_parents (make_for choices tag g) last m other ∙ make_for_parents choices tag g k m there

  -- the world is sound then, and the clone is loose in its turn
  pub wrapped_all : {l : List Entry} {head form context : Option ℕ} (a : ℕ) → Before s b a → AllStand g s l head form context → IsLoose g s b last → AllStand (wrapped choices (Some tag) last g) s l head form context
  wrapped_all {l} {head} {form} {context} a under k loose =
      all_hung loosened (wrapped choices (Some tag) last g) (λ m. m == last) outer s kept (wrapped_is_forest forest loose) (wrapped_rehangs forest loose)
      (λ x y z before w above come. new_in x (before_first x y s before) (loosened_alone forest loose x above))
      (λ n o w. loose_not_oldest g s b a last n (ordered_distinct (parent_of g) s k.stands.ordered) under loose o (inl (sym (eqb-true n last w))))
    where
      forest : IsForest g
      forest = k.stands.is_forest

      kept : AllStand loosened s l head form context
      kept = all_rearranged g loosened s k (loosened_rearranges forest loose)

      new_in : (x : ℕ) → IsIn x s → x ≡ outer → ⊥
      new_in x i e = element_is_node g x (k.stands.elements x i) (ap g.node e ∙ choices.fresh_is_new g forest)

  pub wrapped_loose : Stands g s → IsLoose g s b last → IsLoose (wrapped choices (Some tag) last g) s b (choices.fresh g)
  wrapped_loose k loose = record {
    is_node = rehung_node loosened (wrapped choices (Some tag) last g) (λ m. m == last) (Some outer) outer r (can_wrap k.is_forest loose).is_node;
    no_document = λ e. let w : Some (ElementNode (html_name tag.name)) ≡ Some DocumentNode = sym (wrapped_of_tag k.is_forest loose) ∙ e in cc;
    no_fragment = λ e. let w : Some (ElementNode (html_name tag.name)) ≡ Some FragmentNode = sym (wrapped_of_tag k.is_forest loose) ∙ e in cc;
    below = λ y h a. below y h a;
  }
    where
      r : Rehangs loosened (wrapped choices (Some tag) last g) (λ m. m == last) (Some outer)
      r = wrapped_rehangs k.is_forest loose

      kept : IsLoose loosened s b last
      kept = loose_rearranged g loosened s b last k (loosened_rearranges k.is_forest loose) loose

      out : (y : ℕ) → IsIn y s → IsAncestor (parent_of loosened) outer y → ⊥
      out y h a =
          let there = element_is_node g y (k.elements y h) in
          ancestor_is_node g outer y k.is_forest (rearranged_ancestor g loosened outer y k.is_forest (loosened_rearranges k.is_forest loose) there a) (choices.fresh_is_new g k.is_forest)

      below : (y : ℕ) → IsIn y s → AtOrAbove (parent_of (wrapped choices (Some tag) last g)) outer y → (y ≡ b) ⊎ Before s y b
      below y h (inl e) = absurd (element_is_node g y (k.elements y h) (ap g.node (sym e) ∙ choices.fresh_is_new g k.is_forest))
      below y h (inr a) = elim (hung_ancestor loosened (wrapped choices (Some tag) last g) (λ m. m == last) outer outer y r a) [
        | inl j ↦ absurd (out y h j)
        | inr j ↦ kept.below y h (subst (λ z. AtOrAbove (parent_of loosened) z y) (eqb-true j.0 last j.1) j.3)
      ]

-- The block's children below a clone, which becomes the block's child.

abbrev pub emptied : SinkChoices → TagText → (block : ℕ) → Forest → Forest
emptied choices tag b g = reparent b (choices.fresh g) (make_for choices tag g)

abbrev pub filled : SinkChoices → TagText → (block : ℕ) → Forest → Forest
filled choices tag b g = with_last_child b (ChildNode (choices.fresh g)) (emptied choices tag b g)

pub can_reparent : (choices : SinkChoices) (tag : TagText) (g : Forest) (s : List ℕ) (b : ℕ) → Stands g s → IsIn b s → CanReparent (make_for choices tag g) b (choices.fresh g)
can_reparent choices tag g s b k i =
    let there = element_is_node g b (k.elements b i) in
    record {
      from_is_node = rearranged_node g (make_for choices tag g) b (make_for_rearranges choices tag g k.is_forest) there;
      to_is_node = make_for_is_node choices tag g k.is_forest;
      not_above = λ h. there (ap g.node (make_for_alone choices tag g k.is_forest b h) ∙ choices.fresh_is_new g k.is_forest);
    }

module _ (choices : SinkChoices) (tag : TagText) (g : Forest) (s : List ℕ) (b : ℕ) (k : Stands g s) (i : IsIn b s) where
  abbrev own : ℕ
  own = choices.fresh g

  abbrev bare : Forest
  bare = make_for choices tag g

  abbrev moves : ℕ → Bool
  moves = has_child (children_of bare b)

  bare_stands : Stands bare s
  bare_stands = stands_rearranged g bare s k (make_for_rearranges choices tag g k.is_forest)

  bare_block : IsNode bare b
  bare_block = (can_reparent choices tag g s b k i).from_is_node

  old_node : (x : ℕ) → IsIn x s → IsNode g x
  old_node x h = element_is_node g x (k.elements x h)

  not_own : (x : ℕ) → IsNode g x → x ≢ own
  not_own x there e = there (ap g.node e ∙ choices.fresh_is_new g k.is_forest)

  -- what moves was the block's child
  was_child : (z : ℕ) → moves z ≡ true → parent_of bare z ≡ Some b
  was_child z w = moved_child bare b z bare_stands.is_forest w

  pub emptied_rehangs : Rehangs (make_for choices tag g) (emptied choices tag b g) (has_child (children_of (make_for choices tag g) b)) (Some (choices.fresh g))
  emptied_rehangs = reparent_rehangs bare b own bare_stands.is_forest (can_reparent choices tag g s b k i)

  pub emptied_is_forest : IsForest (emptied choices tag b g)
  emptied_is_forest = reparent_keeps bare b own bare_stands.is_forest (can_reparent choices tag g s b k i)

  pub emptied_kinds : KeepsKinds g (emptied choices tag b g)
  emptied_kinds = λ n there. emptied_rehangs.kinds n ∙ make_for_kinds choices tag g k.is_forest n there

  below_moved : (z y : ℕ) → moves z ≡ true → AtOrAbove (parent_of bare) z y → IsAncestor (parent_of bare) b y
  below_moved z y w (inl e) = Parent (ap (parent_of bare) (sym e) ∙ was_child z w)
  below_moved z y w (inr a) = ancestor_trans (parent_of bare) b z y (Parent (was_child z w)) a

  -- the clone moves nowhere
  own_stays : (c : Bool) → moves own ≡ c → c ≡ false
  own_stays false w = refl
  own_stays true w = let v : None ≡ Some b = sym (make_for_parent choices tag g k.is_forest) ∙ was_child own w in cc

  emptied_parent : parent_of (emptied choices tag b g) own ≡ None
  emptied_parent = emptied_rehangs.parents own ∙ ap (λ c. cond c (Some own) (parent_of bare own)) (own_stays (moves own) refl) ∙ make_for_parent choices tag g k.is_forest

  -- what was there and is above something in the emptied forest was above it before
  emptied_above : (x y : ℕ) → IsNode g x → AtOrAbove (parent_of (emptied choices tag b g)) x y → AtOrAbove (parent_of bare) x y
  emptied_above x y there (inl e) = inl e
  emptied_above x y there (inr a) = elim (hung_ancestor bare (emptied choices tag b g) moves own x y emptied_rehangs a) [
    | inl j ↦ inr j
    | inr j ↦ absurd (not_own x there (make_for_alone choices tag g k.is_forest x j.2))
  ]

  -- and what comes below the clone was below the block
  emptied_below : (y : ℕ) → IsNode g y → AtOrAbove (parent_of (emptied choices tag b g)) own y → IsAncestor (parent_of bare) b y
  emptied_below y there (inl e) = absurd (not_own y there (sym e))
  emptied_below y there (inr a) = elim (hung_ancestor bare (emptied choices tag b g) moves own own y emptied_rehangs a) [
    | inl j ↦ absurd (make_for_above choices tag g k.is_forest y there (inr j))
    | inr j ↦ below_moved j.0 y j.1 j.3
  ]

  pub reparented_all : {l : List Entry} {head form context : Option ℕ} → AllStand g s l head form context → AllStand (emptied choices tag b g) s l head form context
  reparented_all all =
      all_hung bare (emptied choices tag b g) moves own s (made_all choices tag g s all) emptied_is_forest emptied_rehangs
      (λ x y z before w above come. not_own x (old_node x (before_first x y s before)) (make_for_alone choices tag g k.is_forest x above))
      (λ n o w. no_document (top_of_oldest g s n b all.root_top o (sym (make_for_parents choices tag g k.is_forest n (old_node n (oldest_in n s o))) ∙ was_child n w)))
    where
      no_document : b ≡ g.document → ⊥
      no_document e =
          let w : Some (ElementNode (k.elements b i).0) ≡ Some DocumentNode = sym (k.elements b i).1 ∙ ap (kind_of g) e ∙ k.is_forest.root in cc

  pub can_append_clone : CanAppend (emptied choices tag b g) b (ChildNode (choices.fresh g))
  can_append_clone = record {
    is_node = rehung_node bare (emptied choices tag b g) moves (Some own) b emptied_rehangs bare_block;
    child = record {
      is_node = rehung_node bare (emptied choices tag b g) moves (Some own) own emptied_rehangs (make_for_is_node choices tag g k.is_forest);
      no_document = λ e. let w : Some (ElementNode (html_name tag.name)) ≡ Some DocumentNode = sym (make_for_of_tag choices tag g k.is_forest) ∙ sym (emptied_rehangs.kinds own) ∙ e in cc;
      no_parent = emptied_parent;
      not_above = λ h. bare_stands.is_forest.acyclic b (emptied_below b (old_node b i) h);
    };
  }

  pub filled_rehangs : Rehangs (emptied choices tag b g) (filled choices tag b g) (λ m. m == choices.fresh g) (Some b)
  filled_rehangs = append_node_rehangs (emptied choices tag b g) b own emptied_is_forest can_append_clone.is_node can_append_clone.child

  pub filled_is_forest : IsForest (filled choices tag b g)
  filled_is_forest = append_node_keeps (emptied choices tag b g) b own emptied_is_forest can_append_clone

  pub filled_kinds : KeepsKinds g (filled choices tag b g)
  filled_kinds = λ n there. filled_rehangs.kinds n ∙ emptied_kinds n there

  -- the clone is an element for the tag, and the block's child; what isn't the block's child keeps its parent
  pub filled_of_tag : IsOfTag (filled choices tag b g) (choices.fresh g) tag
  filled_of_tag = filled_rehangs.kinds own ∙ emptied_rehangs.kinds own ∙ make_for_of_tag choices tag g k.is_forest

  pub filled_parent : parent_of (filled choices tag b g) (choices.fresh g) ≡ Some b
  filled_parent = filled_rehangs.parents own ∙ ap (λ c. cond c (Some b) (parent_of (emptied choices tag b g) own)) (eq-eqb own own refl)

  pub filled_parents : (m : ℕ) → IsNode g m → parent_of g m ≢ Some b → parent_of (filled choices tag b g) m ≡ parent_of g m
  filled_parents m there other =
      filled_rehangs.parents m ∙ ap (λ c. cond c (Some b) (parent_of (emptied choices tag b g) m)) (ne_eqb m own (not_own m there))
      ∙ emptied_rehangs.parents m ∙ ap (λ c. cond c (Some own) (parent_of bare m)) (stays (moves m) refl) ∙ same
    where
      same : parent_of bare m ≡ parent_of g m
      same = make_for_parents choices tag g k.is_forest m there

      stays : (c : Bool) → moves m ≡ c → c ≡ false
      stays false w = refl
      stays true w = absurd (other (sym same ∙ was_child m w))

  pub filled_all : {l : List Entry} {head form context : Option ℕ} → AllStand g s l head form context → AllStand (filled choices tag b g) s l head form context
  filled_all all =
      all_hung (emptied choices tag b g) (filled choices tag b g) (λ m. m == own) b s (reparented_all all) filled_is_forest filled_rehangs
      (λ x y z before w above come. bare_stands.ordered.newer x y before
      (at_or_above_trans (parent_of bare) x b y (emptied_above x b (old_node x (before_first x y s before)) above)
      (inr (emptied_below y (old_node y (before_second x y s before)) (subst (λ m. AtOrAbove (parent_of (emptied choices tag b g)) m y) (eqb-true z own w) come)))))
      (λ n o w. not_own n (old_node n (oldest_in n s o)) (eqb-true n own w))

  -- what is loose stays so
  pub filled_loose : (last : ℕ) → IsLoose g s b last → IsLoose (filled choices tag b g) s b last
  filled_loose last loose =
      loose_hung (emptied choices tag b g) (filled choices tag b g) (λ m. m == own) b s b last filled_rehangs emptied_loose
      (λ y z h w above come. (loose_block bare s b bare_stands i).below y h
      (inr (emptied_below y (old_node y h) (subst (λ m. AtOrAbove (parent_of (emptied choices tag b g)) m y) (eqb-true z own w) come))))
    where
      emptied_loose : IsLoose (emptied choices tag b g) s b last
      emptied_loose =
          loose_hung bare (emptied choices tag b g) moves own s b last emptied_rehangs (made_loose choices tag g s b last k loose)
          (λ y z h w above come. absurd (not_own last loose.is_node (make_for_alone choices tag g k.is_forest last above)))

-- Marks.

pub marked_all : {l : List Entry} {head form context : Option ℕ} (marks : ℕ → Marks) (g : Forest) (s : List ℕ) → AllStand g s l head form context → AllStand (mark marks g) s l head form context
marked_all marks g s k = all_rearranged g (mark marks g) s k (mark_rearranges g marks k.stands.is_forest)

pub marked_loose : (marks : ℕ → Marks) (g : Forest) (s : List ℕ) (b last : ℕ) → Stands g s → IsLoose g s b last → IsLoose (mark marks g) s b last
marked_loose marks g s b last k loose = loose_rearranged g (mark marks g) s b last k (mark_rearranges g marks k.is_forest) loose

pub marked_kind : (marks : ℕ → Marks) (g : Forest) (n : ℕ) → kind_of (mark marks g) n ≡ kind_of g n
marked_kind marks g n = at (g.node n) refl
  where
    at : (o : Option Node) → g.node n ≡ o → kind_of (mark marks g) n ≡ kind_of g n
    at None e = rw e refl
    at (Some d) e = rw e refl

pub marked_kinds : (marks : ℕ → Marks) (g : Forest) → KeepsKinds g (mark marks g)
marked_kinds marks g = λ n there. marked_kind marks g n

pub marked_parent : (marks : ℕ → Marks) (g : Forest) (n : ℕ) → parent_of (mark marks g) n ≡ parent_of g n
marked_parent marks g n = at (g.node n) refl
  where
    at : (o : Option Node) → g.node n ≡ o → parent_of (mark marks g) n ≡ parent_of g n
    at None e = rw e refl
    at (Some d) e = rw e refl
