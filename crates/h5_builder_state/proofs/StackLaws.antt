-- The stack as it is stored, and as contracts see it.
use Rattle.std.proofs.Common.{◌≡◌, ◌-◌, ◌+◌, ◌<◌, ◌≤◌, ℕ, zero, suc, get_or, take, length-append, Bool, true, false, cond, List, [], ◌∷◌, ◌++◌, length, map, reverse, Option, None, Some, inl, codes, refl, ap, sym, subst, ◌∙◌, arith}
use Rattle.std.specs.Prelude.{slice_get, unwrap_or}
use Rattle.h5_names.specs.declared.qualified.QualName.{QualName}
use Rattle.h5_tables.specs.TagSets.{html_namespace, is_html_named}
use Rattle.h5_interface.specs.NewElement.{is_html_template}
use Rattle.h5_builder_spec.specs.formatting.FormattingList.{Entry}
use Rattle.h5_builder_spec.specs.stack.Order.{IsIn}
use Rattle.h5_builder_spec.specs.stack.Scope.{second_is}
use Rattle.h5_builder_spec.specs.insertion.Place.{inside}
use Rattle.h5_builder_spec.specs.World.{World, name_in, name_of_found}
use Rattle.h5_builder_spec.specs.stack.Order.{first_or, last_or}
use Rattle.std.proofs.lemmas.List.{length-map, length-reverse, map-append, reverse-append, take_more}
use Rattle.h5_interface.specs.Changes.{mark}
use Rattle.h5_interface.specs.Seen.{Seen, after_pop}
use Rattle.h5_interface.specs.SinkChoices.{SinkChoices}
use Rattle.h5_builder_spec.specs.Changes.{pop}
use Rattle.h5_interface.specs.Forest.{ElementNode, Forest, IsElement, IsNode, Marks, contents_of, kind_of}
use Rattle.h5_interface.proofs.MakingLaws.{mark_rearranges}
use Rattle.h5_builder_spec.specs.Sound.{AllStand, Sound}
use Rattle.h5_builder_spec.proofs.changes.SoundLaws.{all_rearranged, all_tail, element_is_node}
use Rattle.h5_builder_spec.proofs.entries.PairLaws.{in_left, in_right}
use Rattle.h5_builder_spec.proofs.changes.RemovalLaws.{last_or-append}

pub seen_pushed : {H A : Type 0} (node : H → A) (xs ys : List H) (x : H) → ys ≡ xs ++ x ∷ [] → reverse (map node ys) ≡ node x ∷ reverse (map node xs)
seen_pushed node xs ys x e = ap (λ z. reverse (map node z)) e ∙ ap reverse (map-append node xs (x ∷ [])) ∙ reverse-append (map node xs) (node x ∷ [])

-- one element less is open, and some marks changed
pub all_popped : {H : Type 0} {l : List Entry} {head form context : Option ℕ} (node : H → ℕ) (xs ys : List H) (x : H) (f : Forest) (marks : ℕ → Marks) → ys ≡ xs ++ x ∷ []
    → AllStand f (reverse (map node ys)) l head form context → AllStand (mark marks f) (reverse (map node xs)) l head form context
all_popped {H} {l} {head} {form} {context} node xs ys x f marks e k =
    let k' = all_tail f (node x) (reverse (map node xs)) (subst (λ s. AllStand f s l head form context) (seen_pushed node xs ys x e) k) in
    all_rearranged f (mark marks f) (reverse (map node xs)) k' (mark_rearranges f marks k'.stands.is_forest)

-- the last of a list
pub last_split : {A : Type 0} (xs : List A) (x : A) → Some x ≡ slice_get xs (length xs - 1) → (ys : List A) × (xs ≡ ys ++ x ∷ [])
last_split [] x e = absurd (cc)
last_split (y ∷ []) x e = ([], ap (λ z. z ∷ []) (cc))
last_split (y ∷ z ∷ zs) x e =
    let k : length (y ∷ z ∷ zs) - 1 ≡ suc (length (z ∷ zs) - 1) = omega arith in
    let r = last_split (z ∷ zs) x (e ∙ ap (slice_get (y ∷ z ∷ zs)) k) in
    (y ∷ r.0, ap (λ t. y ∷ t) r.1)

pub last_none : {A : Type 0} (xs : List A) → None ≡ slice_get xs (length xs - 1) → xs ≡ []
last_none [] e = refl
last_none (x ∷ []) e = absurd (cc)
last_none (x ∷ y ∷ ys) e =
    let more : length (x ∷ y ∷ ys) - 1 ≡ suc (length (y ∷ ys) - 1) = omega arith in
    let none : y ∷ ys ≡ [] = last_none (y ∷ ys) (e ∙ ap (slice_get (x ∷ y ∷ ys)) more) in
    absurd (cc)

pub first_none : {A : Type 0} (xs : List A) → None ≡ slice_get xs 0 → xs ≡ []
first_none [] e = refl
first_none (x ∷ xs) e = absurd (cc)

-- a world with another forest and other open elements
abbrev pub seen_world : World → Seen → List ℕ → World
seen_world w s stack = record w { forest = s.forest; seen_quirks = s.quirks; stack = stack }

-- the world after the current node was popped, and the sink was notified
pub popped_world : {H : Type 0} (node : H → ℕ) (choices : SinkChoices) (w : World) (old new : Seen) (ys xs : List H) (x : H) → ys ≡ xs ++ x ∷ [] → new ≡ after_pop choices (node x) old
    → seen_world w new (reverse (map node xs)) ≡ pop choices (seen_world w old (reverse (map node ys)))
unfolding pop
popped_world node choices w old new ys xs x e h =
    ap (λ z. seen_world w z (reverse (map node xs))) h ∙ sym (ap (λ s. pop choices (seen_world w old s)) (seen_pushed node xs ys x e))

-- where it stands as it is seen
pub record SeenFirst (s : List ℕ) (n : ℕ) : Type 0 where
  pub rest : List ℕ
  pub is : s ≡ n ∷ rest

pub seen_first : {H : Type 0} (node : H → ℕ) (xs : List H) (x : H) → Some x ≡ slice_get xs (length xs - 1) → SeenFirst (reverse (map node xs)) (node x)
seen_first node xs x e = let r = last_split xs x e in record { rest = reverse (map node r.0); is = seen_pushed node r.0 xs x r.1 }

pub first_in : (s : List ℕ) (n : ℕ) → SeenFirst s n → IsIn n s
first_in s n f = subst (IsIn n) (sym f.is) (inl refl)

pub first_of : (d : ℕ) (s : List ℕ) (n : ℕ) → SeenFirst s n → first_or d s ≡ n
first_of d s n f = ap (first_or d) f.is

-- the name of an element
pub named : (f : Forest) (n : ℕ) (name : QualName) → kind_of f n ≡ Some (ElementNode name) → name_in f n ≡ name
named f n name e = ap name_of_found e

-- an HTML template, by the test of the code
pub template_test : (f : Forest) (n : ℕ) (name : QualName) (b : Bool) → kind_of f n ≡ Some (ElementNode name) → b ≡ is_html_named (codes "template") name → is_html_template (name_in f n) ≡ b
unfolding is_html_named html_namespace
template_test f n name b e t = ap is_html_template (named f n name e) ∙ sym t

-- if something is put into a template, and into another node
pub inside_template : (f : Forest) (n c : ℕ) → is_html_template (name_in f n) ≡ true → contents_of f n ≡ Some c → inside f n ≡ c
inside_template f n c t e = ap (λ b. cond b (unwrap_or (contents_of f n) n) n) t ∙ ap (λ o. unwrap_or o n) e

pub inside_other : (f : Forest) (n : ℕ) → is_html_template (name_in f n) ≡ false → inside f n ≡ n
inside_other f n t = ap (λ b. cond b (unwrap_or (contents_of f n) n) n) t

pub seen_root : {H : Type 0} (node : H → ℕ) (d : ℕ) (xs : List H) (x : H) → Some x ≡ slice_get xs 0 → last_or d (reverse (map node xs)) ≡ node x
seen_root node d [] x e = absurd (cc)
seen_root node d (y ∷ ys) x e =
    let same : x ≡ y = cc in
    ap (last_or d) (reverse-append (node y ∷ []) (map node ys)) ∙ last_or-append d (node y) (reverse (map node ys)) ∙ ap node (sym same)

reverse_cons : (n : ℕ) (s : List ℕ) → reverse (n ∷ s) ≡ reverse s ++ n ∷ []
reverse_cons n s = reverse-append (n ∷ []) s

pub seen_at : {H : Type 0} (node : H → ℕ) (xs : List H) (i : ℕ) (x : H) → i < length xs → x ≡ get_or xs i x → IsIn (node x) (reverse (map node xs))
seen_at node [] i x h e = absurd (omega arith)
seen_at node (y ∷ ys) zero x h e =
    subst (IsIn (node x)) (sym (reverse_cons (node y) (map node ys))) (in_right (node x) (reverse (map node ys)) (node y ∷ []) (inl (ap node e)))
seen_at node (y ∷ ys) (suc i) x h e =
    subst (IsIn (node x)) (sym (reverse_cons (node y) (map node ys))) (in_left (node x) (reverse (map node ys)) (node y ∷ []) (seen_at node ys i x (omega arith) e))

pub element_at : {H : Type 0} (node : H → ℕ) (xs : List H) (f : Forest) (i : ℕ) (x : H) → ((n : ℕ) → IsIn n (reverse (map node xs)) → IsElement f n) → i < length (reverse (map node xs)) → x ≡ get_or xs i x → IsElement f (node x)
element_at node xs f i x k h e =
    k (node x) (seen_at node xs i x (omega (arith, h, length-reverse (map node xs), length-map xs node)) e)

-- an open element is a node
pub open_is_node : (w : World) (n : ℕ) → Sound w → IsIn n w.stack → IsNode w.forest n
open_is_node w n k h = element_is_node w.forest n (k.stands.elements n h)

-- one element more
pub stack_step : {H : Type 0} (node : H → ℕ) (xs : List H) (i : ℕ) (x : H) → i < length xs → x ≡ get_or xs i x → reverse (map node (take (i + 1) xs)) ≡ node x ∷ reverse (map node (take i xs))
stack_step node xs i x h e = seen_pushed node (take i xs) (take (i + 1) xs) x (take_more xs i x h ∙ ap (λ z. take i xs ++ z ∷ []) (sym e))

-- the element below one, which is itself where it is the root
pub below_first : {H : Type 0} (node : H → ℕ) (xs : List H) (i : ℕ) (x y : H) → i < length xs → x ≡ get_or xs i x → y ≡ get_or xs (i - 1) y → first_or (node x) (reverse (map node (take i xs))) ≡ node y
below_first node [] i x y h e d = absurd (omega arith)
below_first node (z ∷ xs) zero x y h e d = ap node (e ∙ sym d)
below_first node (z ∷ xs) (suc i) x y h e d =
    let one_more : suc i ≡ i + 1 = omega arith in
    let one_less : suc i - 1 ≡ i = omega arith in
    ap (λ k. first_or (node x) (reverse (map node (take k (z ∷ xs))))) one_more
    ∙ ap (first_or (node x)) (stack_step node (z ∷ xs) i y (omega (arith, h)) (d ∙ ap (λ k. get_or (z ∷ xs) k y) one_less))

-- the second from the root on
second_more : (local : List ℕ) (n : QualName) (ns : List QualName) → 2 ≤ length ns → second_is local (n ∷ ns) ≡ second_is local ns
second_more local n [] h = absurd (omega arith)
second_more local n (m ∷ []) h = absurd (omega arith)
second_more local n (m ∷ k ∷ ns) h = refl

second_is-append : (local : List ℕ) (ns : List QualName) (m k : QualName) → second_is local (ns ++ m ∷ k ∷ []) ≡ is_html_named local m
second_is-append local [] m k = refl
second_is-append local (n ∷ ns) m k =
    second_more local n (ns ++ m ∷ k ∷ []) (omega (arith, length-append ns (m ∷ k ∷ []))) ∙ second_is-append local ns m k

pub second_named : {H : Type 0} (node : H → ℕ) (f : Forest) (local : List ℕ) (xs : List H) (x : H) → 1 < length xs → x ≡ get_or xs 1 x → second_is local (map (name_in f) (reverse (map node xs))) ≡ is_html_named local (name_in f (node x))
second_named node f local [] x h e = absurd (omega arith)
second_named node f local (a ∷ []) x h e = absurd (omega arith)
second_named node f local (a ∷ b ∷ cs) x h e =
    ap (λ s. second_is local (map (name_in f) s)) (reverse-append (node a ∷ node b ∷ []) (map node cs))
    ∙ ap (second_is local) (map-append (name_in f) (reverse (map node cs)) (node b ∷ node a ∷ []))
    ∙ second_is-append local (map (name_in f) (reverse (map node cs))) (name_in f (node b)) (name_in f (node a))
    ∙ ap (λ z. is_html_named local (name_in f (node z))) (sym e)

pub second_none : {H : Type 0} (node : H → ℕ) (f : Forest) (local : List ℕ) (xs : List H) → length xs ≤ 1 → second_is local (map (name_in f) (reverse (map node xs))) ≡ false
second_none node f local [] h = refl
second_none node f local (a ∷ []) h = refl
second_none node f local (a ∷ b ∷ cs) h = absurd (omega arith)
