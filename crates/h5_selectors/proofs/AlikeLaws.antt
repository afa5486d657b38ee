-- The siblings with a node's name, one by one along the links.
use Rattle.std.proofs.Common.{◌≡◌, ◌∙◌, ℕ, ◌+◌, ◌-◌, ◌<◌, ◌≤◌, Bool, true, false, ◌&&◌, List, [], ◌∷◌, ◌++◌, Option, None, Some, ap, append-nil, arith, cond, length, refl, sym}
use Rattle.std.specs.Prelude.{IfSome}
use Rattle.std.specs.List.{filter}
use Rattle.std.specs.Option.{option_map_or}
use Rattle.std.proofs.lemmas.List.{length-append}
use Rattle.std.proofs.lemmas.List.Elements.{filter-append, filter_agree}
use Rattle.std.specs.Cmp.Lexicographic.{same_text}
use Rattle.h5_names.specs.AttributeText.{is_same_text}
use Rattle.h5_names.specs.declared.qualified.QualName.{QualName}
use Rattle.h5_interface.specs.Forest.{Forest}
use Rattle.h5_selectors.specs.Rows.{IsBefore, IsBehind, node_in}
use Rattle.h5_tree.specs.Elements.{are_alike, before, behind, is_same_type, name_of}

both_true : (a b : Bool) → (a && b) ≡ true → (a ≡ true) × (b ≡ true)
both_true true true e = (refl, refl)
both_true true false e = cc
both_true false b e = cc

-- equal names are equal to the same names
like_the_same : (one other : QualName) → are_alike one other ≡ true → (third : QualName) → are_alike one third ≡ are_alike other third
like_the_same one other e third =
    let parts = both_true (is_same_text one.local other.local) (is_same_text one.ns other.ns) e in
    ap (λ l. is_same_text l third.local && is_same_text one.ns third.ns) (same_text one.local other.local (sym parts.0))
    ∙ ap (λ s. is_same_text other.local third.local && is_same_text s third.ns) (same_text one.ns other.ns (sym parts.1))

module _ (f : Forest) where
  abbrev alike : ℕ → ℕ → Bool
  alike = is_same_type f

  pub the_same : (n m : ℕ) → alike n m ≡ true → (x : ℕ) → alike n x ≡ alike m x
  the_same n m e x = at (name_of f n) (name_of f m) (name_of f x) e
    where
      at : (a b c : Option QualName) → option_map_or (λ name. option_map_or (are_alike name) b false) a false ≡ true
          → option_map_or (λ name. option_map_or (are_alike name) c false) a false ≡ option_map_or (λ name. option_map_or (are_alike name) c false) b false
      at None b c e = cc
      at (Some a) None c e = cc
      at (Some a) (Some b) None e = refl
      at (Some a) (Some b) (Some c) e = like_the_same a b e c

  module _ (ns : List ℕ) where
    abbrev node : ℕ → ℕ
    node = node_in f ns

    -- a sibling and those before it; a sibling and those after it
    abbrev pub up_to : Option ℕ → List ℕ
    up_to None = []
    up_to (Some q) = before f (node q) ++ node q ∷ []

    abbrev pub from : Option ℕ → List ℕ
    from None = []
    from (Some r) = node r ∷ behind f (node r)

    pub before_are : (k : ℕ) (o : Option ℕ) → IsBefore f ns k o → before f (node k) ≡ up_to o
    before_are k None e = e
    before_are k (Some q) h = h.2

    pub behind_are : (k : ℕ) (o : Option ℕ) → IsBehind f ns k o → behind f (node k) ≡ from o
    behind_are k None e = e
    behind_are k (Some r) h = h.2

    -- one with another name is passed
    pub passed_back : (k q : ℕ) (o : Option ℕ) → alike (node k) (node q) ≡ false → IsBefore f ns q o → filter (alike (node k)) (up_to (Some q)) ≡ filter (alike (node k)) (up_to o)
    passed_back k q o other h =
        filter-append (alike (node k)) (before f (node q)) (node q ∷ [])
        ∙ ap (λ b. filter (alike (node k)) (before f (node q)) ++ cond b (node q ∷ []) []) other
        ∙ append-nil (filter (alike (node k)) (before f (node q)))
        ∙ ap (filter (alike (node k))) (before_are q o h)

    pub passed_forth : (k r : ℕ) (o : Option ℕ) → alike (node k) (node r) ≡ false → IsBehind f ns r o → filter (alike (node k)) (from (Some r)) ≡ filter (alike (node k)) (from o)
    passed_forth k r o other h =
        ap (λ b. cond b (node r ∷ filter (alike (node k)) (behind f (node r))) (filter (alike (node k)) (behind f (node r)))) other
        ∙ ap (filter (alike (node k))) (behind_are r o h)

    -- one with the same name counts one more than its own count
    pub found_back : (k q : ℕ) → alike (node k) (node q) ≡ true → length (filter (alike (node k)) (up_to (Some q))) ≡ length (filter (alike (node q)) (before f (node q))) + 1
    found_back k q same =
        ap length (filter-append (alike (node k)) (before f (node q)) (node q ∷ []))
        ∙ ap (λ b. length (filter (alike (node k)) (before f (node q)) ++ cond b (node q ∷ []) [])) same
        ∙ length-append (filter (alike (node k)) (before f (node q))) (node q ∷ [])
        ∙ ap (λ l. length l + 1) (filter_agree (alike (node k)) (alike (node q)) (the_same (node k) (node q) same) (before f (node q)))

    pub found_forth : (k r : ℕ) → alike (node k) (node r) ≡ true → length (filter (alike (node k)) (from (Some r))) ≡ length (filter (alike (node r)) (behind f (node r))) + 1
    found_forth k r same =
        let more : length (node r ∷ filter (alike (node r)) (behind f (node r))) ≡ length (filter (alike (node r)) (behind f (node r))) + 1 = omega arith in
        ap (λ b. length (cond b (node r ∷ filter (alike (node k)) (behind f (node r))) (filter (alike (node k)) (behind f (node r))))) same
        ∙ ap (λ l. length (node r ∷ l)) (filter_agree (alike (node k)) (alike (node r)) (the_same (node k) (node r) same) (behind f (node r)))
        ∙ more

    -- where the links lead
    pub earlier_within : (k q : ℕ) (o : Option ℕ) → q ≤ k → IsBefore f ns q o → IfSome o (λ r. (0 < r) × (r < k))
    earlier_within k q None le e = tt
    earlier_within k q (Some r) le (some, up, e) = (some, omega (arith, le, up))

    pub later_within : (k r : ℕ) (o : Option ℕ) → k ≤ r → IsBehind f ns r o → IfSome o (λ q. (k < q) × (q < length ns))
    later_within k r None le e = tt
    later_within k r (Some q) le (up, within, e) = (omega (arith, le, up), within)

    pub fewer_back : (q : ℕ) (o : Option ℕ) → IsBefore f ns q o → option_map_or (λ r. r + 1) o 0 < q + 1
    fewer_back q None e = omega arith
    fewer_back q (Some r) (some, up, e) = omega (arith, up)

    pub fewer_forth : (r count : ℕ) (o : Option ℕ) → count ≡ length ns → r < count → IsBehind f ns r o → option_map_or (λ q. count - q) o 0 < count - r
    fewer_forth r count None same lt e = omega (arith, lt)
    fewer_forth r count (Some q) same lt (up, within, e) = omega (arith, lt, up, within, same)
