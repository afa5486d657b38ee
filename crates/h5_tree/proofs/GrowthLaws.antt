-- Columns that grow.
use Rattle.std.proofs.Common.{◌≡◌, ◌∙◌, ℕ, zero, suc, ◌+◌, ◌<◌, ◌≤◌, List, [], ◌∷◌, ◌++◌, ap, arith, get_or, length, refl, sym}
use Rattle.std.specs.Prelude.{◌%◌, ◌/◌}
use Rattle.h5_tree_block.specs.declared.columns.Ended.{Ended}
use Rattle.h5_tree_block.specs.declared.columns.FlatNode.{FlatNode}

-- a word of nodes that doesn't decrease, from a first number to a last one
abbrev pub AreGrowing : (word : FlatNode → ℕ) → (from : ℕ) → List FlatNode → (to : ℕ) → Type 0
AreGrowing word a [] b = a ≤ b
AreGrowing word a (x ∷ xs) b = (a ≤ word x) × AreGrowing word (word x) xs b

pub grow_from : (word : FlatNode → ℕ) (a b : ℕ) (xs : List FlatNode) (c : ℕ) → a ≤ b → AreGrowing word b xs c → AreGrowing word a xs c
grow_from word a b [] c le h = omega (arith, h)
grow_from word a b (x ∷ xs) c le h = let w = h.0 in (omega arith, h.1)

pub grow_append : (word : FlatNode → ℕ) (a : ℕ) (xs : List FlatNode) (b : ℕ) (ys : List FlatNode) (c : ℕ) → AreGrowing word a xs b → AreGrowing word b ys c → AreGrowing word a (xs ++ ys) c
grow_append word a [] b ys c le h = grow_from word a b ys c le h
grow_append word a (x ∷ xs) b ys c g h = (g.0, grow_append word (word x) xs b ys c g.1 h)

first_le : (word : FlatNode → ℕ) (a : ℕ) (xs : List FlatNode) (b first : ℕ) → AreGrowing word a xs b → ((d : FlatNode) → 0 < length xs → first ≡ word (get_or xs 0 d)) → (length xs ≡ 0 → first ≡ b) → a ≤ first
first_le word a [] b first h some none = let e = none refl in omega (arith, h, e)
first_le word a (x ∷ xs) b first h some none = let e = some x (omega arith) in omega (arith, h.0, e)

-- each number of the column isn't above the next one; the last one is the number after the column
pub grows_at : (word : FlatNode → ℕ) (column : ℕ → ℕ) (a : ℕ) (xs : List FlatNode) (b : ℕ) → AreGrowing word a xs b
    → ((n : ℕ) (d : FlatNode) → n < length xs → column n ≡ word (get_or xs n d)) → column (length xs) ≡ b
    → (n : ℕ) → n < length xs → column n ≤ column (n + 1)
grows_at word column a [] b h each last n lt = absurd (omega (arith, lt))
grows_at word column a (x ∷ xs) b h each last zero lt =
    let e = each 0 x (omega arith) in
    let one : (d : FlatNode) → 0 < length xs → column 1 ≡ word (get_or xs 0 d) = λ d some. each 1 d (omega (arith, some)) in
    let none : length xs ≡ 0 → column 1 ≡ b = λ none. ap (λ n. column (suc n)) (sym none) ∙ last in
    let le = first_le word (word x) xs b (column 1) h.1 one none in
    omega (arith, e, le)
grows_at word column a (x ∷ xs) b h each last (suc n) lt =
    let next : suc n + 1 ≡ suc (n + 1) = omega arith in
    let le = grows_at word (λ m. column (suc m)) (word x) xs b h.1 (λ m d some. each (suc m) d (omega (arith, some))) last n (omega (arith, lt)) in
    let same = ap column next in
    omega (arith, le, same)

-- texts that end one after the other
abbrev pub EndInTurn : (from : ℕ) → List Ended → (to : ℕ) → Type 0
EndInTurn a [] b = a ≡ b
EndInTurn a (x ∷ xs) b = (a ≤ x.end) × EndInTurn x.end xs b

pub one_more_ends : (a : ℕ) (xs : List Ended) (b word c : ℕ) → EndInTurn a xs b → b ≤ c → EndInTurn a (xs ++ record { word = word; end = c } ∷ []) c
one_more_ends a [] b word c h le = (omega (arith, h), refl)
one_more_ends a (x ∷ xs) b word c h le = (h.0, one_more_ends x.end xs b word c h.1 le)

module _ (column : ℕ → ℕ) where
  pub first_end : (a : ℕ) (xs : List Ended) (b : ℕ) → EndInTurn a xs b → ((n : ℕ) (d : Ended) → n < length xs → column n ≡ (get_or xs n d).end) → 0 < length xs → a ≤ column 0
  first_end a [] b h each some = absurd (omega (arith, some))
  first_end a (x ∷ xs) b h each some = let e = each 0 x (omega arith) in omega (arith, h.0, e)

pub next_end : (column : ℕ → ℕ) (a : ℕ) (xs : List Ended) (b : ℕ) → EndInTurn a xs b → ((n : ℕ) (d : Ended) → n < length xs → column n ≡ (get_or xs n d).end)
    → (n : ℕ) → suc n < length xs → column n ≤ column (suc n)
next_end column a [] b h each n lt = absurd (omega (arith, lt))
next_end column a (x ∷ xs) b h each zero lt =
    let e = each 0 x (omega arith) in
    let le = first_end (λ m. column (suc m)) x.end xs b h.1 (λ m d some. each (suc m) d (omega (arith, some))) (omega (arith, lt)) in
    omega (arith, e, le)
next_end column a (x ∷ xs) b h each (suc n) lt = next_end (λ m. column (suc m)) x.end xs b h.1 (λ m d some. each (suc m) d (omega (arith, some))) n (omega (arith, lt))

pub last_end : (column : ℕ → ℕ) (a : ℕ) (xs : List Ended) (b : ℕ) → EndInTurn a xs b → ((n : ℕ) (d : Ended) → n < length xs → column n ≡ (get_or xs n d).end)
    → (n : ℕ) → suc n ≡ length xs → column n ≡ b
last_end column a [] b h each n e = absurd (omega (arith, e))
last_end column a (x ∷ []) b h each zero e = each 0 x (omega arith) ∙ h.1
last_end column a (x ∷ y ∷ xs) b h each zero e = absurd (omega (arith, e))
last_end column a (x ∷ xs) b h each (suc n) e = last_end (λ m. column (suc m)) x.end xs b h.1 (λ m d some. each (suc m) d (omega (arith, some))) n (omega (arith, e))

-- the number of an element's name is below the number of names
abbrev pub AreNamed : (names : ℕ) → List FlatNode → Type 0
AreNamed names [] = Unit {0}
AreNamed names (x ∷ xs) = (x.kind % 256 ≡ 1 → x.kind / 256 < names) × AreNamed names xs

pub named_more : (a b : ℕ) (xs : List FlatNode) → a ≤ b → AreNamed a xs → AreNamed b xs
named_more a b [] le h = tt
named_more a b (x ∷ xs) le h = (λ k. let lt = h.0 k in omega (arith, lt), named_more a b xs le h.1)

pub named_append : (names : ℕ) (xs ys : List FlatNode) → AreNamed names xs → AreNamed names ys → AreNamed names (xs ++ ys)
named_append names [] ys g h = h
named_append names (x ∷ xs) ys g h = (g.0, named_append names xs ys g.1 h)

pub named_at : (names : ℕ) (column : ℕ → ℕ) (xs : List FlatNode) → AreNamed names xs → ((n : ℕ) (d : FlatNode) → n < length xs → column n ≡ (get_or xs n d).kind)
    → (n : ℕ) → n < length xs → column n % 256 ≡ 1 → column n / 256 < names
named_at names column [] h each n lt k = absurd (omega (arith, lt))
named_at names column (x ∷ xs) h each zero lt k =
    let e = each 0 x (omega arith) in
    let fits = h.0 (ap (λ w. w % 256) (sym e) ∙ k) in
    let same = ap (λ w. w / 256) e in
    omega (arith, fits, same)
named_at names column (x ∷ xs) h each (suc n) lt k = named_at names (λ m. column (suc m)) xs h.1 (λ m d some. each (suc m) d (omega (arith, some))) n (omega (arith, lt)) k
