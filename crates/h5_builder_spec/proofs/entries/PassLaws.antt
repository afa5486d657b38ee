-- What pops, cuts and a pass of the adoption agency leave of the stack and the list.
use Rattle.std.proofs.Common.{◌≡◌, inl, inr, ℕ, Bool, true, false, cond, List, [], ◌∷◌, ◌++◌, append_assoc, length, Option, Some, None, refl, ap, sym, subst, ◌∙◌}
use Rattle.std.specs.List.{list_any}
use Rattle.std.specs.Prelude.{◌==◌}
use Rattle.std.proofs.lemmas.Bool.{eqb-true, eqb-false, ne_eqb}
use Rattle.h5_names.specs.AttributeText.{is_same_text}
use Rattle.h5_names.specs.declared.qualified.QualName.{QualName}
use Rattle.h5_builder_spec.specs.formatting.Adoption.{FormattingElement, FurthestBlock, IsCloneOf, adopted, adopted_at, block_or, clones_wanted, clones_wanted_at, furthest_block, newer_than, newest_named, older_than, replaced_by, to_clone, without_node}
use Rattle.h5_builder_spec.specs.formatting.FormattingList.{EachEntry, ElementEntry, Entry, MarkerEntry, after_marker, nodes_of, without_entry}
use Rattle.h5_builder_spec.specs.formatting.Fresh.{AreFresh}
use Rattle.h5_builder_spec.specs.inner.Lists.{Lists}
use Rattle.h5_builder_spec.specs.stack.Order.{Distinct, IsIn, IsOrdered, but_first}
use Rattle.h5_builder_spec.specs.stack.Scope.{cut_above, cut_through}
use Rattle.h5_builder_spec.specs.formatting.Places.{FurthestBlockAt, NewestNamedAt}
use Rattle.h5_token.specs.TokenText.{TagText}
use Rattle.h5_builder_spec.proofs.entries.EachLaws.{each_at, each_more, each_round, each_without_entry}
use Rattle.h5_builder_spec.proofs.entries.RoundLaws.{replaced_by_which}
use Rattle.h5_builder_spec.proofs.entries.KeptListsLaws.{without_entry_gone, is_listed_or_not, lists_without_entry, lists_cut, lists_left}
use Rattle.h5_builder_spec.proofs.entries.WholeRoundLaws.{lists_round}
use Rattle.h5_builder_spec.proofs.entries.AlikeLaws.{same_text}

-- open elements that are ordered are distinct
pub ordered_distinct : (up : ℕ → Option ℕ) (s : List ℕ) → IsOrdered up s → Distinct s
ordered_distinct up s k x h = k.newer x x h (inl refl)

-- elements are popped
pub lists_but_first : (s : List ℕ) (l : List Entry) → Distinct s → Lists s l → Lists (but_first s) l
lists_but_first [] l d k = k
lists_but_first (n ∷ s) l d k = lists_cut (n ∷ []) s l d k

distinct_but_first : (s : List ℕ) → Distinct s → Distinct (but_first s)
distinct_but_first [] d = d
distinct_but_first (n ∷ s) d = λ x h. d x (inr h)

pub lists_cut_through : (is : QualName → Bool) (ns : List QualName) (s : List ℕ) (l : List Entry) → Distinct s → Lists s l → Lists (cut_through is ns s) l
lists_cut_through is [] s l d k = k
lists_cut_through is (n ∷ ns) s l d k = at (is n) (lists_but_first s l d k) (lists_cut_through is ns (but_first s) l (distinct_but_first s d) (lists_but_first s l d k))
  where
    at : (b : Bool) → Lists (but_first s) l → Lists (cut_through is ns (but_first s)) l → Lists (cond b (but_first s) (cut_through is ns (but_first s))) l
    at true h v = h
    at false h v = v

pub lists_cut_above : (is : QualName → Bool) (ns : List QualName) (s : List ℕ) (l : List Entry) → Distinct s → Lists s l → Lists (cut_above is ns s) l
lists_cut_above is [] s l d k = k
lists_cut_above is (n ∷ ns) s l d k = at (is n) (lists_cut_above is ns (but_first s) l (distinct_but_first s d) (lists_but_first s l d k))
  where
    at : (b : Bool) → Lists (cut_above is ns (but_first s)) l → Lists (cond b s (cut_above is ns (but_first s))) l
    at true v = k
    at false v = v

-- where an element stands
pub stack_split : (f : ℕ) (s : List ℕ) → IsIn f s → s ≡ newer_than f s ++ f ∷ older_than f s
stack_split f [] h = absurd h
stack_split f (n ∷ s) h = at (n == f) refl h (stack_split f s)
  where
    at : (b : Bool) → (n == f) ≡ b → IsIn f (n ∷ s) → (IsIn f s → s ≡ newer_than f s ++ f ∷ older_than f s) → n ∷ s ≡ cond b [] (n ∷ newer_than f s) ++ f ∷ cond b s (older_than f s)
    at true e i go = ap (λ z. z ∷ s) (eqb-true n f e)
    at false e (inl i) go = absurd (eqb-false n f e (sym i))
    at false e (inr i) go = ap (λ z. n ∷ z) (go i)

pub without_node_split : (f : ℕ) (s : List ℕ) → IsIn f s → without_node f s ≡ newer_than f s ++ older_than f s
without_node_split f [] h = absurd h
without_node_split f (n ∷ s) h = at (n == f) refl h (without_node_split f s)
  where
    at : (b : Bool) → (n == f) ≡ b → IsIn f (n ∷ s) → (IsIn f s → without_node f s ≡ newer_than f s ++ older_than f s) → cond b s (n ∷ without_node f s) ≡ cond b [] (n ∷ newer_than f s) ++ cond b s (older_than f s)
    at true e i go = refl
    at false e (inl i) go = absurd (eqb-false n f e (sym i))
    at false e (inr i) go = ap (λ z. n ∷ z) (go i)

without_node_none : (f : ℕ) (s : List ℕ) → ¬ (IsIn f s) → without_node f s ≡ s
without_node_none f [] out = refl
without_node_none f (n ∷ s) out = rw (ne_eqb n f (λ e. out (inl (sym e)))) (ap (λ z. n ∷ z) (without_node_none f s (λ i. out (inr i))))

-- an element that isn't listed, if it is open
pub lists_without_node : (f : ℕ) (s : List ℕ) (l : List Entry) → ¬ (IsIn f (nodes_of l)) → Lists s l → Lists (without_node f s) l
lists_without_node f s l out k = elim (is_listed_or_not f s) [
  | inl i ↦ subst (λ z. Lists z l) (sym (without_node_split f s i)) (lists_left (newer_than f s) (older_than f s) f l out (subst (λ z. Lists z l) (stack_split f s i) k))
  | inr o ↦ subst (λ z. Lists z l) (sym (without_node_none f s o)) k
]

-- an element leaves both, if it is there
pub lists_removed : (f : ℕ) (s : List ℕ) (l : List Entry) → Lists s l → Lists (without_node f s) (without_entry f l)
lists_removed f s l k = lists_without_node f s (without_entry f l) (without_entry_gone f l k.agrees.once) (lists_without_entry f s l k)

-- the stack is cut at an open element, and its entry is removed
pub lists_closed : (f : ℕ) (s : List ℕ) (l : List Entry) → IsIn f s → Distinct s → Lists s l → Lists (older_than f s) (without_entry f l)
lists_closed f s l i d k =
    let e = stack_split f s i in
    let again = append_assoc (newer_than f s) (f ∷ []) (older_than f s) in
    lists_without_entry f (older_than f s) l
    (lists_cut (newer_than f s ++ f ∷ []) (older_than f s) l (subst Distinct (e ∙ sym again) d) (subst (λ z. Lists z l) (e ∙ sym again) k))

differ : (x y : List ℕ) → is_same_text x y ≡ false → ¬ (x ≡ y)
differ x y h e = let v : true ≡ false = sym ((same_text x y).1 e) ∙ h in cc

pub newest_named_at : (name : List ℕ) (l : List Entry) (f : FormattingElement) → newest_named name l ≡ Some f → NewestNamedAt name f l
newest_named_at name [] f e = absurd (cc)
newest_named_at name (MarkerEntry ∷ l) f e = absurd (cc)
newest_named_at name (ElementEntry n t ∷ l) f e = at (is_same_text t.name name) refl e (newest_named_at name l f)
  where
    at : (b : Bool) → is_same_text t.name name ≡ b → cond b (Some (record { node = n; tag = t })) (newest_named name l) ≡ Some f → (newest_named name l ≡ Some f → NewestNamedAt name f l) → NewestNamedAt name f (ElementEntry n t ∷ l)
    at true v h go =
        let same : record { node = n; tag = t } ≡ f = some_element _ _ h in
        record {
          newer = [];
          older = l;
          cut = ap (λ (g : FormattingElement). ElementEntry g.node g.tag ∷ l) same;
          unmarked = tt;
          named = ap (λ (g : FormattingElement). g.tag.name) (sym same) ∙ (same_text t.name name).0 v;
          is_newest = tt;
        }
      where
        some_element : (a b : FormattingElement) → Some a ≡ Some b → a ≡ b
        some_element a b v = cc
    at false v h go =
        let k = go h in
        record {
          newer = ElementEntry n t ∷ k.newer;
          older = k.older;
          cut = ap (λ z. ElementEntry n t ∷ z) k.cut;
          unmarked = k.unmarked;
          named = k.named;
          is_newest = (differ t.name name v, k.is_newest);
        }

-- if there is none
pub newest_named_none : (name : List ℕ) (l : List Entry) → newest_named name l ≡ None → EachEntry (λ n t. ¬ (t.name ≡ name)) (after_marker l)
newest_named_none name [] e = tt
newest_named_none name (MarkerEntry ∷ l) e = tt
newest_named_none name (ElementEntry n t ∷ l) e = at (is_same_text t.name name) refl e (newest_named_none name l)
  where
    at : (b : Bool) → is_same_text t.name name ≡ b → cond b (Some (record { node = n; tag = t })) (newest_named name l) ≡ None
        → (newest_named name l ≡ None → EachEntry (λ n t. ¬ (t.name ≡ name)) (after_marker l)) → EachEntry (λ n t. ¬ (t.name ≡ name)) (ElementEntry n t ∷ after_marker l)
    at true v h go = absurd (none_is_some _ h)
      where
        none_is_some : (a : FormattingElement) → Some a ≡ None → ⊥
        none_is_some a v = cc
    at false v h go = (differ t.name name v, go h)

-- where the furthest block stands
pub furthest_block_none : (special : ℕ → Bool) (s : List ℕ) → furthest_block special s ≡ None → list_any special s ≡ false
furthest_block_none special [] e = refl
furthest_block_none special (n ∷ s) e = at (furthest_block special s) (special n) refl refl e (furthest_block_none special s)
  where
    at : (o : Option FurthestBlock) (b : Bool) → furthest_block special s ≡ o → special n ≡ b → block_or n b s o ≡ None → (furthest_block special s ≡ None → list_any special s ≡ false) → list_any special (n ∷ s) ≡ false
    at (Some j) b u v h go = absurd (none_is_some _ h)
      where
        none_is_some : (a : FurthestBlock) → Some a ≡ None → ⊥
        none_is_some a v = cc
    at None true u v h go = absurd (cc)
    at None false u v h go = rw v (go u)

pub furthest_block_at : (special : ℕ → Bool) (s : List ℕ) (k : FurthestBlock) → furthest_block special s ≡ Some k → FurthestBlockAt special k s
furthest_block_at special [] k e = absurd (cc)
furthest_block_at special (n ∷ s) k e = at (furthest_block special s) (special n) refl refl e (furthest_block_at special s)
  where
    some_block : (a b : FurthestBlock) → Some a ≡ Some b → a ≡ b
    some_block a b v = cc

    at : (o : Option FurthestBlock) (b : Bool) → furthest_block special s ≡ o → special n ≡ b → block_or n b s o ≡ Some k → ((j : FurthestBlock) → furthest_block special s ≡ Some j → FurthestBlockAt special j s) → FurthestBlockAt special k (n ∷ s)
    at (Some j) b u v h go =
        let p = go j u in
        subst (λ z. FurthestBlockAt special z (n ∷ s)) (some_block (record { newer = n ∷ j.newer; block = j.block; between = j.between }) k h)
        (record { cut = ap (λ z. n ∷ z) p.cut; is_special = p.is_special; is_furthest = p.is_furthest })
    at None true u v h go =
        subst (λ z. FurthestBlockAt special z (n ∷ s)) (some_block (record { newer = []; block = n; between = s }) k h)
        (record { cut = refl; is_special = v; is_furthest = furthest_block_none special s u })
    at None false u v h go = absurd (cc)

-- a pass of the adoption agency
pub lists_adopted : (special : ℕ → Bool) (name : List ℕ) (f : FormattingElement) (clones : List ℕ) (c : ℕ) (s : List ℕ) (l : List Entry)
    → newest_named name l ≡ Some f → IsIn f.node s → Distinct s → ((n : ℕ) → special n ≡ true → ¬ (IsIn n (nodes_of l)))
    → length clones ≡ length (clones_wanted special f s l) → AreFresh (c ∷ clones) s l → Lists s l
    → Lists (adopted special f clones c s l).stack (adopted special f clones c s l).formatting
lists_adopted special name f clones c s l found i d out as_many fresh k = at (furthest_block special (newer_than f.node s)) refl as_many
  where
    place : NewestNamedAt name f l
    place = newest_named_at name l f found

    at : (o : Option FurthestBlock) → furthest_block special (newer_than f.node s) ≡ o → length clones ≡ length (clones_wanted_at o l) → Lists (adopted_at f clones c o (older_than f.node s) l).stack (adopted_at f clones c o (older_than f.node s) l).formatting
    at None e many = lists_closed f.node s l i d k
    at (Some p) e many =
        let parts = furthest_block_at special (newer_than f.node s) p e in
        let stack : s ≡ p.newer ++ p.block ∷ (p.between ++ f.node ∷ older_than f.node s) =
        stack_split f.node s i ∙ ap (λ z. z ++ f.node ∷ older_than f.node s) parts.cut ∙ append_assoc p.newer (p.block ∷ p.between) (f.node ∷ older_than f.node s) in
        subst (λ z. Lists (adopted_at f clones c (Some p) (older_than f.node s) z).stack (adopted_at f clones c (Some p) (older_than f.node s) z).formatting) (sym place.cut)
        (lists_round p.newer p.block p.between f.node (older_than f.node s) clones c f.tag place.newer place.older
        (record {
          distinct = subst Distinct stack d;
          unlisted = subst (λ z. ¬ (IsIn p.block (nodes_of z))) place.cut (out p.block parts.is_special);
          unmarked = place.unmarked;
          as_many = subst (λ z. length clones ≡ length (to_clone z p.between)) place.cut many;
          fresh = subst (λ z. AreFresh (c ∷ clones) z (place.newer ++ ElementEntry f.node f.tag ∷ place.older)) stack (subst (AreFresh (c ∷ clones) s) place.cut fresh);
        })
        (subst (λ z. Lists z (place.newer ++ ElementEntry f.node f.tag ∷ place.older)) stack (subst (Lists s) place.cut k)))

-- what holds for each entry after it, if it does of the entries that stay, of each clone with the tag of its
-- original, and of the formatting element's clone with its tag
pub each_adopted : (P Q : ℕ → TagText → Type 0) (special : ℕ → Bool) (name : List ℕ) (f : FormattingElement) (clones : List ℕ) (c : ℕ) (s : List ℕ) (l : List Entry)
    → newest_named name l ≡ Some f → ((n : ℕ) (t : TagText) → P n t → Q n t) → ((y x : ℕ) (t : TagText) → IsCloneOf (clones_wanted special f s l) clones y x → P x t → Q y t) → (P f.node f.tag → Q c f.tag)
    → EachEntry P l → EachEntry Q (adopted special f clones c s l).formatting
each_adopted P Q special name f clones c s l found keep cloned own h = at (furthest_block special (newer_than f.node s)) cloned
  where
    place : NewestNamedAt name f l
    place = newest_named_at name l f found

    at : (o : Option FurthestBlock) → ((y x : ℕ) (t : TagText) → IsCloneOf (clones_wanted_at o l) clones y x → P x t → Q y t) → EachEntry Q (adopted_at f clones c o (older_than f.node s) l).formatting
    at None go = each_without_entry Q f.node l (each_more P Q l keep h)
    at (Some k) go = each_round P Q f.node f.tag k.between clones c l gives (own (each_at P place.newer place.older l f.node f.tag place.cut h)) h
      where
        gives : (n m : ℕ) (t : TagText) → P n t → replaced_by k.between (to_clone l k.between) clones n ≡ Some m → Q m t
        gives n m t p e = elim (replaced_by_which k.between (to_clone l k.between) clones n m e) [
          | inl i ↦ subst (λ z. Q z t) (sym i) (keep n t p)
          | inr i ↦ go m n t i p
        ]

pub each_tag_adopted : (Q : TagText → Type 0) (special : ℕ → Bool) (name : List ℕ) (f : FormattingElement) (clones : List ℕ) (c : ℕ) (s : List ℕ) (l : List Entry)
    → newest_named name l ≡ Some f → EachEntry (λ n t. Q t) l → EachEntry (λ n t. Q t) (adopted special f clones c s l).formatting
each_tag_adopted Q special name f clones c s l found h =
    each_adopted (λ n t. Q t) (λ n t. Q t) special name f clones c s l found (λ n t q. q) (λ y x t i q. q) (λ q. q) h
