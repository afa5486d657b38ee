-- A text put twice is the joined text put once, wherever it is put.
use Rattle.std.proofs.Common.{◌≡◌, ℕ, ◌==◌, Bool, true, false, ◌&&◌, cond, List, [], ◌∷◌, ◌++◌, Option, Some, None, refl, ap, sym, ◌∙◌, append_assoc}
use Rattle.std.specs.Prelude.{unwrap_or}
use Rattle.std.proofs.lemmas.List.{append-nil}
use Rattle.h5_interface.specs.Changes.{append_text as append_text_to, edit_children, insert_before, insert_text_before, insert_text_below, join, joined}
use Rattle.h5_interface.specs.Forest.{Child, ChildNode, ChildText, Forest, Node, contents_of, kind_of, parent_of}
use Rattle.h5_interface.specs.NewElement.{is_html_template}
use Rattle.h5_interface.specs.Seen.{is_integration_point, with_child_by}
use Rattle.h5_interface.specs.SinkChoices.{SinkChoices}
use Rattle.h5_interface.proofs.ForestLaws.{same_forest}
use Rattle.h5_tables.specs.TagSets.{is_table_outer}
use Rattle.h5_builder_spec.specs.stack.Order.{first_or, last_or}
use Rattle.h5_builder_spec.specs.Changes.{with_forest}
use Rattle.h5_builder_spec.specs.insertion.Place.{LastChild, Place, TableFosterParenting, appropriate_place, foster_place, from_foster_parent, inside, is_foster_parent, place, put}
use Rattle.h5_builder_spec.specs.World.{World, name_in, name_of_found}

join_twice : (t u : List ℕ) (cs : List Child) → join (ChildText (t ++ u)) cs ≡ join (ChildText t) (join (ChildText u) cs)
join_twice t u [] = refl
join_twice t u (ChildNode n ∷ cs) = refl
join_twice t u (ChildText v ∷ cs) = ap (λ x. ChildText x ∷ cs) (append_assoc t u v)

joined_join : (c : Child) (zs ys : List Child) → joined (join c zs ++ ys) ≡ join c (joined (zs ++ ys))
joined_join (ChildNode n) zs ys = refl
joined_join (ChildText t) [] ys = refl
joined_join (ChildText t) (ChildNode n ∷ zs) ys = refl
joined_join (ChildText t) (ChildText u ∷ zs) ys = join_twice t u (joined (zs ++ ys))

-- joining is done once
pub joined_twice : (cs ys : List Child) → joined (joined cs ++ ys) ≡ joined (cs ++ ys)
joined_twice [] ys = refl
joined_twice (c ∷ cs) ys = joined_join c (joined cs) ys ∙ ap (join c) (joined_twice cs ys)

joined_pair : (cs : List Child) (t u : List ℕ) → joined (cs ++ ChildText t ∷ ChildText u ∷ []) ≡ joined (cs ++ ChildText (t ++ u) ∷ [])
joined_pair [] t u = refl
joined_pair (c ∷ cs) t u = ap (join c) (joined_pair cs t u)

text_twice : (cs : List Child) (t u : List ℕ) → joined (joined (cs ++ ChildText t ∷ []) ++ ChildText u ∷ []) ≡ joined (cs ++ ChildText (t ++ u) ∷ [])
text_twice cs t u = joined_twice (cs ++ ChildText t ∷ []) (ChildText u ∷ []) ∙ ap joined (append_assoc cs (ChildText t ∷ []) (ChildText u ∷ [])) ∙ joined_pair cs t u

-- an edit after another is one edit, where it is of each list of children
edited_twice : (p : ℕ) (first second both : List Child → List Child) (f : Forest) → ((cs : List Child) → joined (second (joined (first cs))) ≡ joined (both cs))
    → edit_children p second (edit_children p first f) ≡ edit_children p both f
edited_twice p first second both f same = same_forest _ _ refl refl (λ n. at n (f.node n) refl (n == p) refl)
  where
    at : (n : ℕ) (o : Option Node) → f.node n ≡ o → (b : Bool) → (n == p) ≡ b → (edit_children p second (edit_children p first f)).node n ≡ (edit_children p both f).node n
    at n None e b w = rw e refl
    at n (Some d) e true w = rw (e, w) (ap (λ cs. let x : Node = record d { children = cs } in Some x) (same d.children))
    at n (Some d) e false w = rw (e, w) refl

pub append_text_twice : (p : ℕ) (t u : List ℕ) (f : Forest) → append_text_to p u (append_text_to p t f) ≡ append_text_to p (t ++ u) f
append_text_twice p t u f = edited_twice p (λ cs. cs ++ ChildText t ∷ []) (λ cs. cs ++ ChildText u ∷ []) (λ cs. cs ++ ChildText (t ++ u) ∷ []) f (λ cs. text_twice cs t u)

-- before a node: the text that comes is joined to the one that was put there
joined_before : (s : ℕ) (t : List ℕ) (c : Child) (zs : List Child) → joined (insert_before s (ChildText t) (join c zs)) ≡ joined (insert_before s (ChildText t) (c ∷ zs))
joined_before s t (ChildNode n) zs = refl
joined_before s t (ChildText v) [] = refl
joined_before s t (ChildText v) (ChildNode n ∷ zs) = refl
joined_before s t (ChildText v) (ChildText u ∷ zs) = join_twice v u (joined (insert_before s (ChildText t) zs))

same_before : (s : ℕ) (t : List ℕ) (c : Child) (xs ys : List Child) → joined xs ≡ joined ys → joined (insert_before s (ChildText t) xs) ≡ joined (insert_before s (ChildText t) ys)
    → joined (insert_before s (ChildText t) (c ∷ xs)) ≡ joined (insert_before s (ChildText t) (c ∷ ys))
same_before s t (ChildText v) xs ys e h = ap (join (ChildText v)) h
same_before s t (ChildNode n) xs ys e h =
    elim (s == n) as (λ b. joined (cond b (ChildText t ∷ ChildNode n ∷ xs) (ChildNode n ∷ insert_before s (ChildText t) xs)) ≡ joined (cond b (ChildText t ∷ ChildNode n ∷ ys) (ChildNode n ∷ insert_before s (ChildText t) ys))) [
      | true ↦ ap (λ zs. ChildText t ∷ ChildNode n ∷ zs) e
      | false ↦ ap (λ zs. ChildNode n ∷ zs) h
    ]

joined_again : (cs : List Child) → joined (joined cs) ≡ joined cs
joined_again cs = ap joined (sym (append-nil (joined cs))) ∙ joined_twice cs [] ∙ ap joined (append-nil cs)

before_joined : (s : ℕ) (t : List ℕ) (cs : List Child) → joined (insert_before s (ChildText t) (joined cs)) ≡ joined (insert_before s (ChildText t) cs)
before_joined s t [] = refl
before_joined s t (c ∷ cs) = joined_before s t c (joined cs) ∙ same_before s t c (joined cs) cs (joined_again cs) (before_joined s t cs)

before_pair : (s : ℕ) (t u : List ℕ) (cs : List Child) → joined (insert_before s (ChildText u) (insert_before s (ChildText t) cs)) ≡ joined (insert_before s (ChildText (t ++ u)) cs)
before_pair s t u [] = refl
before_pair s t u (ChildText v ∷ cs) = ap (join (ChildText v)) (before_pair s t u cs)
before_pair s t u (ChildNode n ∷ cs) = at (s == n) refl (before_pair s t u cs)
  where
    at : (b : Bool) → (s == n) ≡ b → joined (insert_before s (ChildText u) (insert_before s (ChildText t) cs)) ≡ joined (insert_before s (ChildText (t ++ u)) cs)
        → joined (insert_before s (ChildText u) (cond b (ChildText t ∷ ChildNode n ∷ cs) (ChildNode n ∷ insert_before s (ChildText t) cs))) ≡ joined (cond b (ChildText (t ++ u) ∷ ChildNode n ∷ cs) (ChildNode n ∷ insert_before s (ChildText (t ++ u)) cs))
    at true e h = rw e refl
    at false e h = rw e (ap (λ zs. ChildNode n ∷ zs) h)

before_twice : (s : ℕ) (t u : List ℕ) (cs : List Child) → joined (insert_before s (ChildText u) (joined (insert_before s (ChildText t) cs))) ≡ joined (insert_before s (ChildText (t ++ u)) cs)
before_twice s t u cs = before_joined s u (insert_before s (ChildText t) cs) ∙ before_pair s t u cs

-- editing children changes no kinds, contents and parents
pub edit_kind : (p n : ℕ) (edit : List Child → List Child) (f : Forest) → kind_of (edit_children p edit f) n ≡ kind_of f n
edit_kind p n edit f = at (f.node n) refl
  where
    at : (o : Option Node) → f.node n ≡ o → kind_of (edit_children p edit f) n ≡ kind_of f n
    at None e = rw e refl
    at (Some d) e = rw e refl

pub edit_contents : (p n : ℕ) (edit : List Child → List Child) (f : Forest) → contents_of (edit_children p edit f) n ≡ contents_of f n
edit_contents p n edit f = at (f.node n) refl
  where
    at : (o : Option Node) → f.node n ≡ o → contents_of (edit_children p edit f) n ≡ contents_of f n
    at None e = rw e refl
    at (Some d) e = rw e refl

pub edit_parent : (p n : ℕ) (edit : List Child → List Child) (f : Forest) → parent_of (edit_children p edit f) n ≡ parent_of f n
edit_parent p n edit f = at (f.node n) refl
  where
    at : (o : Option Node) → f.node n ≡ o → parent_of (edit_children p edit f) n ≡ parent_of f n
    at None e = rw e refl
    at (Some d) e = rw e refl

-- a text before a node, put twice
insert_twice : (o : Option ℕ) (s : ℕ) (t u : List ℕ) (f : Forest) → insert_text_below o s u (insert_text_below o s t f) ≡ insert_text_below o s (t ++ u) f
insert_twice None s t u f = refl
insert_twice (Some p) s t u f = edited_twice p (insert_before s (ChildText t)) (insert_before s (ChildText u)) (insert_before s (ChildText (t ++ u))) f (before_twice s t u)

insert_parent : (o : Option ℕ) (s n : ℕ) (t : List ℕ) (f : Forest) → parent_of (insert_text_below o s t f) n ≡ parent_of f n
insert_parent None s n t f = refl
insert_parent (Some p) s n t f = edit_parent p n (insert_before s (ChildText t)) f

pub insert_text_twice : (s : ℕ) (t u : List ℕ) (f : Forest) → insert_text_before s u (insert_text_before s t f) ≡ insert_text_before s (t ++ u) f
insert_text_twice s t u f =
    ap (λ o. insert_text_below o s u (insert_text_before s t f)) (insert_parent (parent_of f s) s s t f) ∙ insert_twice (parent_of f s) s t u f

-- a text at a place, put twice
by_twice : (o : Option ℕ) (element prev : ℕ) (t u : List ℕ) (f : Forest) → with_child_by o element prev (ChildText u) (with_child_by o element prev (ChildText t) f) ≡ with_child_by o element prev (ChildText (t ++ u)) f
by_twice None element prev t u f = append_text_twice prev t u f
by_twice (Some p) element prev t u f = insert_text_twice element t u f

by_parent : (o : Option ℕ) (element prev n : ℕ) (t : List ℕ) (f : Forest) → parent_of (with_child_by o element prev (ChildText t) f) n ≡ parent_of f n
by_parent None element prev n t f = edit_parent prev n (λ cs. cs ++ ChildText t ∷ []) f
by_parent (Some p) element prev n t f = insert_parent (parent_of f element) element n t f

pub put_text_twice : (p : Place) (t u : List ℕ) (f : Forest) → put p (ChildText u) (put p (ChildText t) f) ≡ put p (ChildText (t ++ u)) f
put_text_twice (LastChild p) t u f = append_text_twice p t u f
put_text_twice (TableFosterParenting element prev) t u f =
    ap (λ o. with_child_by o element prev (ChildText u) (put (TableFosterParenting element prev) (ChildText t) f)) (by_parent (parent_of f element) element prev element t f)
    ∙ by_twice (parent_of f element) element prev t u f

-- g is f, except for the children
pub record SameButChildren (f g : Forest) : Type 0 where
  pub document : g.document ≡ f.document
  pub kinds : (n : ℕ) → kind_of g n ≡ kind_of f n
  pub contents : (n : ℕ) → contents_of g n ≡ contents_of f n
  pub points : (choices : SinkChoices) (n : ℕ) → is_integration_point choices g n ≡ is_integration_point choices f n

edit_point : (p n : ℕ) (edit : List Child → List Child) (f : Forest) (choices : SinkChoices) → is_integration_point choices (edit_children p edit f) n ≡ is_integration_point choices f n
edit_point p n edit f choices = at (f.node n) refl
  where
    at : (o : Option Node) → f.node n ≡ o → is_integration_point choices (edit_children p edit f) n ≡ is_integration_point choices f n
    at None e = rw e refl
    at (Some d) e = rw e refl

edited_same : (p : ℕ) (edit : List Child → List Child) (f : Forest) → SameButChildren f (edit_children p edit f)
edited_same p edit f = record { document = refl; kinds = λ n. edit_kind p n edit f; contents = λ n. edit_contents p n edit f; points = λ choices n. edit_point p n edit f choices }

inserted_same : (o : Option ℕ) (s : ℕ) (t : List ℕ) (f : Forest) → SameButChildren f (insert_text_below o s t f)
inserted_same None s t f = record { document = refl; kinds = λ n. refl; contents = λ n. refl; points = λ choices n. refl }
inserted_same (Some p) s t f = edited_same p (insert_before s (ChildText t)) f

by_same : (o : Option ℕ) (element prev : ℕ) (t : List ℕ) (f : Forest) → SameButChildren f (with_child_by o element prev (ChildText t) f)
by_same None element prev t f = edited_same prev (λ cs. cs ++ ChildText t ∷ []) f
by_same (Some p) element prev t f = inserted_same (parent_of f element) element t f

pub text_same : (p : Place) (t : List ℕ) (f : Forest) → SameButChildren f (put p (ChildText t) f)
text_same (LastChild p) t f = edited_same p (λ cs. cs ++ ChildText t ∷ []) f
text_same (TableFosterParenting element prev) t f = by_same (parent_of f element) element prev t f

-- the place of insertion doesn't depend on children
module _ (f g : Forest) (same : SameButChildren f g) where
  names_same : (n : ℕ) → name_in g n ≡ name_in f n
  names_same n = ap name_of_found (same.kinds n)

  inside_same : (n : ℕ) → inside g n ≡ inside f n
  inside_same n =
      ap (λ x. cond (is_html_template x) (unwrap_or (contents_of g n) n) n) (names_same n)
      ∙ ap (λ x. cond (is_html_template (name_in f n)) (unwrap_or x n) n) (same.contents n)

  from_same : (s : List ℕ) → from_foster_parent g s ≡ from_foster_parent f s
  from_same [] = refl
  from_same (n ∷ s) =
      ap (λ x. cond (is_foster_parent x) (n ∷ s) (from_foster_parent g s)) (names_same n)
      ∙ ap (λ x. cond (is_foster_parent (name_in f n)) (n ∷ s) x) (from_same s)

  foster_same : (html : ℕ) (s : List ℕ) → foster_place g html s ≡ foster_place f html s
  foster_same html [] = refl
  foster_same html (n ∷ s) =
      ap (λ x. cond (is_html_template x) (LastChild (inside g n)) (TableFosterParenting n (first_or n s))) (names_same n)
      ∙ ap (λ x. cond (is_html_template (name_in f n)) (LastChild x) (TableFosterParenting n (first_or n s))) (inside_same n)

  pub appropriate_same : (w : World) (target : ℕ) → w.forest ≡ f → appropriate_place (with_forest g w) target ≡ appropriate_place (with_forest f w) target
  unfolding appropriate_place
  appropriate_same w target e =
      ap (λ x. cond (w.foster && is_table_outer x) (foster_place g (last_or g.document w.stack) (from_foster_parent g w.stack)) (LastChild (inside g target))) (names_same target)
      ∙ ap (λ x. cond (w.foster && is_table_outer (name_in f target)) x (LastChild (inside g target)))
      (foster_same (last_or g.document w.stack) (from_foster_parent g w.stack)
      ∙ ap (λ s. foster_place f (last_or g.document w.stack) s) (from_same w.stack)
      ∙ ap (λ d. foster_place f (last_or d w.stack) (from_foster_parent f w.stack)) same.document)
      ∙ ap (λ x. cond (w.foster && is_table_outer (name_in f target)) (foster_place f (last_or f.document w.stack) (from_foster_parent f w.stack)) (LastChild x)) (inside_same target)

  pub place_same : (w : World) → w.forest ≡ f → place (with_forest g w) ≡ place (with_forest f w)
  place_same w e = appropriate_same w (first_or g.document w.stack) e ∙ ap (λ d. appropriate_place (with_forest f w) (first_or d w.stack)) same.document
