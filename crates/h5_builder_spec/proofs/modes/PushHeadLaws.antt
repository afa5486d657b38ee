-- After the head only the root is open, and the head element is known. It is pushed again as the current node, and the
-- world is sound then; it is removed from the stack again, wherever it is.
use Rattle.std.proofs.Common.{◌≡◌, ◌≢◌, inl, inr, ℕ, Bool, true, false, cond, List, [], ◌∷◌, map, codes, Option, Some, None, is_some, IsTrue, refl, ap, sym, subst, ◌∙◌}
use Rattle.std.proofs.lemmas.Bool.{eq-eqb, ne_eqb}
use Rattle.h5_names.specs.declared.qualified.QualName.{QualName}
use Rattle.h5_interface.specs.Ancestors.{AtOrAbove, Further, Parent}
use Rattle.h5_interface.specs.Changes.{mark}
use Rattle.h5_interface.specs.Forest.{DocumentNode, ElementNode, Forest, HasContents, IsElement, kind_of, parent_of}
use Rattle.h5_interface.specs.NewElement.{is_html_template}
use Rattle.h5_interface.specs.SinkChoices.{SinkChoices}
use Rattle.h5_interface.proofs.AncestorLaws.{no_ancestor}
use Rattle.h5_tables.specs.TagSets.{html_namespace, is_html_named, is_special, special_names}
use Rattle.h5_tables.specs.declared.modes.InsertionMode.TheVariants.{AfterHead}
use Rattle.h5_builder_spec.specs.formatting.Adoption.{without_node}
use Rattle.h5_builder_spec.specs.formatting.FormattingList.{Entry, nodes_of}
use Rattle.h5_builder_spec.specs.formatting.FormattingNames.{html_name}
use Rattle.h5_builder_spec.specs.inner.Lists.{Lists}
use Rattle.h5_builder_spec.specs.stack.Order.{Before, IsIn, is_in}
use Rattle.h5_builder_spec.proofs.entries.KeptListsLaws.{lists_pushed}
use Rattle.h5_builder_spec.proofs.entries.PairLaws.{is_in_telling}
use Rattle.h5_builder_spec.proofs.entries.PassLaws.{lists_without_node}
use Rattle.h5_builder_spec.proofs.entries.PlainListLaws.{special_not_listed}
use Rattle.h5_builder_spec.specs.reset.Roles.{HeadRole, HtmlRole, role_of, role_of_local, roles}
use Rattle.h5_builder_spec.proofs.roles.RoleLaws.{role_made}
use Rattle.h5_builder_spec.specs.formatting.AdoptionAgency.{remove_from_stack}
use Rattle.h5_builder_spec.specs.Changes.{push_head, with_known}
use Rattle.h5_builder_spec.specs.Sound.{AllStand, IsHtml, Sound}
use Rattle.h5_builder_spec.specs.inner.Kept.{HasLists, HasHtmlRoot}
use Rattle.h5_builder_spec.specs.World.{World, name_in, name_of_found, names_of}
use Rattle.h5_builder_spec.proofs.adoption.AdoptionAgencyLaws.{taken_ready}
use Rattle.h5_builder_spec.proofs.adoption.AdoptionForest.{kinds_refl, marked_kind, marked_kinds}
use Rattle.h5_builder_spec.proofs.adoption.AdoptionRound.{map_same}
use Rattle.h5_builder_spec.proofs.rows.KeptLaws.{FitsAs}
use Rattle.h5_builder_spec.proofs.changes.SituationLaws.{KeepsSituation, situation_tree}
use Rattle.h5_builder_spec.proofs.changes.TreeLaws.{tree_remove}

-- only the root is open, and the head element is known
pub record OnlyRoot (w : World) : Type 0 where
  pub head : ℕ
  pub root : ℕ
  pub known : w.head ≡ Some head
  pub stack : w.stack ≡ root ∷ []
  pub is_root : role_of (name_in w.forest root) ≡ HtmlRole

pub only_root : (w : World) → FitsAs AfterHead w → OnlyRoot w
unfolding names_of
only_root w fit = at w.stack refl w.head refl fit.fits.place.1.0 fit.fits.place.1.1
  where
    at : (s : List ℕ) → w.stack ≡ s → (o : Option ℕ) → w.head ≡ o → roles (map (name_in w.forest) s) ≡ HtmlRole ∷ [] → is_some o ≡ true → OnlyRoot w
    at [] e o k r i = absurd (cc)
    at (n ∷ []) e None k r i = absurd (cc)
    at (n ∷ []) e (Some h) k r i = record { head = h; root = n; known = k; stack = e; is_root = cc }
    at (n ∷ m ∷ s) e o k r i = absurd (cc)

-- the name of a `head`
head_role : (f : Forest) (h : ℕ) → IsHtml f (codes "head") h → role_of (name_in f h) ≡ HeadRole
unfolding role_of_local
head_role f h is = ap (λ o. role_of (name_of_found o)) is ∙ role_made (codes "head")

head_is_special : is_special (html_name (codes "head")) ≡ true
unfolding is_special html_namespace special_names
head_is_special = refl

head_not_html : is_html_named (codes "html") (html_name (codes "head")) ≡ false
unfolding is_html_named html_namespace
head_not_html = refl

-- the head element is not listed
head_unlisted : (w : World) (h : ℕ) → Sound w → w.head ≡ Some h → ¬ (IsIn h (nodes_of w.formatting))
head_unlisted w h k known = special_not_listed w.forest w.formatting k.listed k.formatting h (html_name (codes "head")) (k.head_node h known) head_is_special

-- it is above the root
module _ {l : List Entry} {form context : Option ℕ} (f : Forest) (h r : ℕ) (k : AllStand f (r ∷ []) l (Some h) form context) (root : role_of (name_in f r) ≡ HtmlRole) where
  is_head : IsHtml f (codes "head") h
  is_head = k.head_node h refl

  not_root : h ≢ r
  not_root e = let clash : HeadRole ≡ HtmlRole = sym (head_role f h is_head) ∙ ap (λ n. role_of (name_in f n)) e ∙ root in cc

  not_document : h ≢ f.document
  not_document e = let clash : Some (ElementNode (html_name (codes "head"))) ≡ Some DocumentNode = sym is_head ∙ ap (kind_of f) e ∙ k.stands.is_forest.root in cc

  not_above : ¬ (AtOrAbove (parent_of f) h r)
  not_above (inl e) = not_root e
  not_above (inr (Parent e)) = not_document (k.root_top h e)
  not_above (inr (Further p a e)) = no_ancestor (parent_of f) h p (ap (parent_of f) (k.root_top p e) ∙ k.stands.is_forest.top) a

  head_above_root : AllStand f (h ∷ r ∷ []) l (Some h) form context
  unfolding html_namespace
  head_above_root = record {
    stands = record { is_forest = k.stands.is_forest; elements = elements; ordered = record { newer = newer }; templates = templates };
    root_top = k.root_top;
    head_node = k.head_node;
    form_node = k.form_node;
    form_name = named;
    apart = k.apart;
    context_node = k.context_node;
    context_out = out;
    context_no_head = k.context_no_head;
    listed = k.listed;
    formatting = k.formatting;
  }
    where
      elements : (n : ℕ) → IsIn n (h ∷ r ∷ []) → IsElement f n
      elements n (inl e) = subst (IsElement f) (sym e) (html_name (codes "head"), is_head)
      elements n (inr i) = k.stands.elements n i

      newer : (x y : ℕ) → Before (h ∷ r ∷ []) x y → ¬ (AtOrAbove (parent_of f) x y)
      newer x y (inl (e, inl d)) a = not_above (subst (λ n. AtOrAbove (parent_of f) h n) d (subst (λ n. AtOrAbove (parent_of f) n y) e a))
      newer x y (inl (e, inr i)) a = absurd i
      newer x y (inr b) a = k.stands.ordered.newer x y b a

      no_template : is_html_template (name_in f h) ≡ false
      no_template = ap (λ o. is_html_template (name_of_found o)) is_head

      templates : (n : ℕ) → IsIn n (h ∷ r ∷ []) → IsTrue (is_html_template (name_in f n)) → HasContents f n
      templates n (inl e) t = absurd (let clash : true ≡ false = sym t ∙ ap (λ m. is_html_template (name_in f m)) e ∙ no_template in cc)
      templates n (inr i) t = k.stands.templates n i t

      named : (n : ℕ) → form ≡ Some n → IsIn n (h ∷ r ∷ []) → IsHtml f (codes "form") n
      named n e (inl d) = absurd (k.apart n (ap (λ m. Some m) (sym d)) e)
      named n e (inr i) = k.form_name n e i

      out : (n : ℕ) → context ≡ Some n → ¬ (IsIn n (h ∷ r ∷ []))
      out n e (inl d) = k.context_no_head n (ap (λ m. Some m) (sym d)) e
      out n e (inr i) = k.context_out n e i

-- the head element isn't the root
pub head_not_root : (w : World) → Sound w → (o : OnlyRoot w) → o.head ≢ o.root
head_not_root w k o e =
    let clash : HeadRole ≡ HtmlRole = sym (head_role w.forest o.head (k.head_node o.head o.known)) ∙ ap (λ n. role_of (name_in w.forest n)) e ∙ o.is_root in
    cc

-- so the world is sound where it is pushed
pub sound_push_head : (w : World) → Sound w → OnlyRoot w → Sound (push_head w)
sound_push_head w k o =
    subst (λ head. AllStand w.forest (with_known head w.stack) w.formatting head w.form w.context) (sym o.known)
    (subst (λ s. AllStand w.forest (o.head ∷ s) w.formatting (Some o.head) w.form w.context) (sym o.stack)
    (head_above_root w.forest o.head o.root
    (subst (λ s. AllStand w.forest s w.formatting (Some o.head) w.form w.context) o.stack (subst (λ head. AllStand w.forest w.stack w.formatting head w.form w.context) o.known k))
    o.is_root))

-- and the list agrees with the stack
pub lists_push_head : (w : World) → Sound w → HasLists w → HasLists (push_head w)
lists_push_head w k lists = at w.head refl
  where
    at : (o : Option ℕ) → w.head ≡ o → Lists (with_known o w.stack) w.formatting
    at None e = lists
    at (Some h) e = lists_pushed h w.stack w.formatting (head_unlisted w h k e) lists

pub stack_push_head : (w : World) (h : ℕ) → w.head ≡ Some h → (push_head w).stack ≡ h ∷ w.stack
stack_push_head w h known = ap (λ o. with_known o w.stack) known

pub names_push_head : (w : World) (h : ℕ) → Sound w → w.head ≡ Some h → names_of (push_head w) ≡ html_name (codes "head") ∷ names_of w
unfolding names_of
names_push_head w h k known = ap (map (name_in w.forest)) (stack_push_head w h known) ∙ ap (λ o. name_of_found o ∷ map (name_in w.forest) w.stack) (k.head_node h known)

pub situation_push_head : (w : World) → KeepsSituation w (push_head w)
situation_push_head w = record { kinds = kinds_refl w.forest; modes = refl; saved = refl; context = refl; head = λ h. h; ok = λ h. h }

-- The head element leaves the stack.

pub head_left_ready : (choices : SinkChoices) (h : ℕ) (w : World) → w.head ≡ Some h → HasHtmlRoot w → HasHtmlRoot (remove_from_stack choices h w)
head_left_ready choices h w known ready =
    (taken_ready choices h w ready (ap (λ o. is_html_named (codes "html") (name_of_found o)) (ready.sound.head_node h known) ∙ head_not_html)
    (lists_without_node h w.stack w.formatting (head_unlisted w h ready.sound known) ready.lists)).ready

-- An element leaves the stack: what modes see, and names.

module _ (choices : SinkChoices) (n : ℕ) (w : World) where
  pub situation_removed : KeepsSituation w (remove_from_stack choices n w)
  unfolding remove_from_stack
  situation_removed = situation_tree w (remove_from_stack choices n w) (tree_remove choices n w) kinds
    where
      marked : Forest
      marked = mark (choices.marks_after_pop w.forest n) w.forest

      at : (b : Bool) (m : ℕ) → w.forest.node m ≢ None → kind_of (cond b (record w { forest = marked; stack = without_node n w.stack }) w).forest m ≡ kind_of w.forest m
      at true m there = marked_kinds (choices.marks_after_pop w.forest n) w.forest m there
      at false m there = refl

      kinds : (m : ℕ) → w.forest.node m ≢ None → kind_of (remove_from_stack choices n w).forest m ≡ kind_of w.forest m
      kinds = at (is_in n w.stack)

  names_removed : IsIn n w.stack → names_of (remove_from_stack choices n w) ≡ map (name_in w.forest) (without_node n w.stack)
  unfolding remove_from_stack names_of
  names_removed i =
      let marked : Forest = mark (choices.marks_after_pop w.forest n) w.forest in
      ap (λ b. names_of (cond b (record w { forest = marked; stack = without_node n w.stack }) w)) (is_in_telling n w.stack i)
      ∙ map_same (name_in marked) (name_in w.forest) (without_node n w.stack) (λ m j. ap name_of_found (marked_kind (choices.marks_after_pop w.forest n) w.forest m))

  first_gone : (a y : QualName) (xs ys : List QualName) → a ∷ xs ≡ y ∷ ys → xs ≡ ys
  first_gone a y xs ys e = cc

  second_gone : (a b x y : QualName) (xs ys : List QualName) → a ∷ b ∷ xs ≡ x ∷ y ∷ ys → a ∷ xs ≡ x ∷ ys
  second_gone a b x y xs ys e = cc

  -- the current node
  pub names_first_removed : (s : List ℕ) (y : QualName) (ns : List QualName) → w.stack ≡ n ∷ s → names_of w ≡ y ∷ ns → names_of (remove_from_stack choices n w) ≡ ns
  unfolding names_of
  names_first_removed s y ns e h =
      names_removed (subst (IsIn n) (sym e) (inl refl))
      ∙ ap (λ t. map (name_in w.forest) (without_node n t)) e
      ∙ ap (λ b. map (name_in w.forest) (cond b s (n ∷ without_node n s))) (eq-eqb n n refl)
      ∙ first_gone (name_in w.forest n) y (map (name_in w.forest) s) ns (sym (ap (map (name_in w.forest)) e) ∙ h)

  -- the one below it
  pub names_second_removed : (m : ℕ) (s : List ℕ) (x y : QualName) (ns : List QualName) → m ≢ n → w.stack ≡ m ∷ n ∷ s → names_of w ≡ x ∷ y ∷ ns → names_of (remove_from_stack choices n w) ≡ x ∷ ns
  unfolding names_of
  names_second_removed m s x y ns apart e h =
      names_removed (subst (IsIn n) (sym e) (inr (inl refl)))
      ∙ ap (λ t. map (name_in w.forest) (without_node n t)) e
      ∙ ap (λ b. map (name_in w.forest) (cond b (n ∷ s) (m ∷ without_node n (n ∷ s)))) (ne_eqb m n apart)
      ∙ ap (λ b. map (name_in w.forest) (m ∷ cond b s (n ∷ without_node n s))) (eq-eqb n n refl)
      ∙ second_gone (name_in w.forest m) (name_in w.forest n) x y (map (name_in w.forest) s) ns (sym (ap (map (name_in w.forest)) e) ∙ h)
