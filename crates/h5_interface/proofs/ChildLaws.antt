-- Lists of children: the nodes in them, and that no texts are neighbours.
use Rattle.std.proofs.Common.{◌≡◌, ◌≢◌, ◌∙◌, ℕ, ◌+◌, Bool, true, false, cond, List, [], ◌∷◌, ◌++◌, ap, arith, refl}
use Rattle.std.specs.Prelude.{◌==◌}
use Rattle.std.proofs.lemmas.Bool.Decides.{nat_tests}
use Rattle.h5_interface.specs.Changes.{insert_before, join, joined, without}
use Rattle.h5_interface.specs.Forest.{AreParted, Child, ChildNode, ChildText, count, nodes}

pub count-append : (c : ℕ) (xs ys : List ℕ) → count c (xs ++ ys) ≡ count c xs + count c ys
count-append c [] ys = grind arith
count-append c (x ∷ xs) ys = grind (arith, count-append c xs ys)

pub nodes-append : (xs ys : List Child) → nodes (xs ++ ys) ≡ nodes xs ++ nodes ys
nodes-append [] ys = refl
nodes-append (ChildNode n ∷ xs) ys = ap (λ ns. n ∷ ns) (nodes-append xs ys)
nodes-append (ChildText t ∷ xs) ys = nodes-append xs ys

nodes-join : (c : Child) (cs : List Child) → nodes (join c cs) ≡ nodes (c ∷ cs)
nodes-join (ChildNode n) cs = refl
nodes-join (ChildText t) [] = refl
nodes-join (ChildText t) (ChildNode n ∷ cs) = refl
nodes-join (ChildText t) (ChildText u ∷ cs) = refl

pub nodes-joined : (cs : List Child) → nodes (joined cs) ≡ nodes cs
nodes-joined [] = refl
nodes-joined (ChildNode n ∷ cs) = ap (λ ns. n ∷ ns) (nodes-joined cs)
nodes-joined (ChildText t ∷ cs) = nodes-join (ChildText t) (joined cs) ∙ nodes-joined cs

pub count-without : (c d : ℕ) (cs : List Child) → count d (nodes (without c cs)) ≡ cond (d == c) 0 (count d (nodes cs))
count-without c d [] = grind (arith, nat_tests)
count-without c d (ChildNode n ∷ cs) = grind (arith, nat_tests, count-without c d cs)
count-without c d (ChildText t ∷ cs) = count-without c d cs

-- a node comes once if the sibling does
pub count-insert_before : (s c d : ℕ) (cs : List Child) → count s (nodes cs) ≡ 1 → count d (nodes (insert_before s (ChildNode c) cs)) ≡ cond (d == c) 1 0 + count d (nodes cs)
count-insert_before s c d [] h = grind arith
count-insert_before s c d (ChildNode n ∷ cs) h = grind (arith, nat_tests, count-insert_before s c d cs)
count-insert_before s c d (ChildText t ∷ cs) h = count-insert_before s c d cs h

pub nodes-insert_before_text : (s : ℕ) (t : List ℕ) (cs : List Child) → nodes (insert_before s (ChildText t) cs) ≡ nodes cs
nodes-insert_before_text s t [] = refl
nodes-insert_before_text s t (ChildNode n ∷ cs) = grind (arith, nat_tests, nodes-insert_before_text s t cs)
nodes-insert_before_text s t (ChildText u ∷ cs) = nodes-insert_before_text s t cs

-- no text is empty
abbrev pub NoneEmpty : List Child → Type 0
NoneEmpty [] = Unit {0}
NoneEmpty (ChildNode n ∷ cs) = NoneEmpty cs
NoneEmpty (ChildText t ∷ cs) = (t ≢ []) × NoneEmpty cs

append_not_empty : (t u : List ℕ) → t ≢ [] → t ++ u ≢ []
append_not_empty [] u h = absurd (h refl)
append_not_empty (x ∷ t) u h = λ e. cc

parted-join : (c : Child) (cs : List Child) → NoneEmpty (c ∷ []) → AreParted cs → AreParted (join c cs)
parted-join (ChildNode n) cs h k = k
parted-join (ChildText t) [] h k = h.0
parted-join (ChildText t) (ChildNode n ∷ cs) h k = (h.0, k)
parted-join (ChildText t) (ChildText u ∷ []) h k = append_not_empty t u h.0
parted-join (ChildText t) (ChildText u ∷ ChildNode n ∷ cs) h k = (append_not_empty t u h.0, k.1)
parted-join (ChildText t) (ChildText u ∷ ChildText v ∷ cs) h k = absurd k

-- in joined children no texts are neighbours
pub parted-joined : (cs : List Child) → NoneEmpty cs → AreParted (joined cs)
parted-joined [] h = tt
parted-joined (ChildNode n ∷ cs) h = parted-joined cs h
parted-joined (ChildText t ∷ cs) h = parted-join (ChildText t) (joined cs) (h.0, tt) (parted-joined cs h.1)

pub none_empty_of_parted : (cs : List Child) → AreParted cs → NoneEmpty cs
none_empty_of_parted [] h = tt
none_empty_of_parted (ChildNode n ∷ cs) h = none_empty_of_parted cs h
none_empty_of_parted (ChildText t ∷ []) h = (h, tt)
none_empty_of_parted (ChildText t ∷ ChildNode n ∷ cs) h = (h.0, none_empty_of_parted cs h.1)
none_empty_of_parted (ChildText t ∷ ChildText u ∷ cs) h = absurd h

pub none_empty-append : (xs ys : List Child) → NoneEmpty xs → NoneEmpty ys → NoneEmpty (xs ++ ys)
none_empty-append [] ys h k = k
none_empty-append (ChildNode n ∷ xs) ys h k = none_empty-append xs ys h k
none_empty-append (ChildText t ∷ xs) ys h k = (h.0, none_empty-append xs ys h.1 k)

none_empty_cond : (b : Bool) (xs ys : List Child) → NoneEmpty xs → NoneEmpty ys → NoneEmpty (cond b xs ys)
none_empty_cond true xs ys h k = h
none_empty_cond false xs ys h k = k

pub none_empty-without : (c : ℕ) (cs : List Child) → NoneEmpty cs → NoneEmpty (without c cs)
none_empty-without c [] h = tt
none_empty-without c (ChildNode n ∷ cs) h = none_empty_cond (c == n) _ (ChildNode n ∷ without c cs) (none_empty-without c cs h) (none_empty-without c cs h)
none_empty-without c (ChildText t ∷ cs) h = (h.0, none_empty-without c cs h.1)

pub none_empty-insert_before : (s : ℕ) (x : Child) (cs : List Child) → NoneEmpty (x ∷ []) → NoneEmpty cs → NoneEmpty (insert_before s x cs)
none_empty-insert_before s x [] k h = tt
none_empty-insert_before s x (ChildNode n ∷ cs) k h =
    none_empty_cond (s == n) (x ∷ ChildNode n ∷ cs) (ChildNode n ∷ insert_before s x cs) (none_empty-append (x ∷ []) (ChildNode n ∷ cs) k h) (none_empty-insert_before s x cs k h)
none_empty-insert_before s x (ChildText t ∷ cs) k h = (h.0, none_empty-insert_before s x cs k h.1)

-- joining changes nothing if no texts are neighbours
pub joined-parted : (cs : List Child) → AreParted cs → joined cs ≡ cs
joined-parted [] h = refl
joined-parted (ChildNode n ∷ cs) h = ap (λ xs. ChildNode n ∷ xs) (joined-parted cs h)
joined-parted (ChildText t ∷ []) h = refl
joined-parted (ChildText t ∷ ChildNode n ∷ cs) h = ap (λ xs. ChildText t ∷ ChildNode n ∷ xs) (joined-parted cs h.1)
joined-parted (ChildText t ∷ ChildText u ∷ cs) h = absurd h

-- a node at the end joins nothing
pub parted-append_node : (cs : List Child) (n : ℕ) → AreParted cs → AreParted (cs ++ ChildNode n ∷ [])
parted-append_node [] n h = tt
parted-append_node (ChildNode m ∷ cs) n h = parted-append_node cs n h
parted-append_node (ChildText t ∷ []) n h = (h, tt)
parted-append_node (ChildText t ∷ ChildNode m ∷ cs) n h = (h.0, parted-append_node cs n h.1)
parted-append_node (ChildText t ∷ ChildText u ∷ cs) n h = absurd h

pub joined-append_node : (cs : List Child) (n : ℕ) → AreParted cs → joined (cs ++ ChildNode n ∷ []) ≡ cs ++ ChildNode n ∷ []
joined-append_node cs n h = joined-parted (cs ++ ChildNode n ∷ []) (parted-append_node cs n h)
