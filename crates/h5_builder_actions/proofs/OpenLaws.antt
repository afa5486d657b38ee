-- Walks over the stack of open elements, the newest first.
use Rattle.std.proofs.Common.{◌≡◌, ◌+◌, ◌<◌, ◌≤◌, ℕ, get_or, Bool, true, false, cond, ◌||◌, Some, None, List, [], ◌∷◌, ◌++◌, length, length-append, map, reverse, take, drop, inl, inr, refl, ap, sym, subst, ◌∙◌, arith}
use Rattle.std.specs.List.{list_any}
use Rattle.std.specs.Prelude.{◌==◌}
use Rattle.std.proofs.lemmas.Bool.{eqb-false}
use Rattle.std.proofs.lemmas.List.{length-map, length-reverse, length-take, map-append, reverse-append, take-append-drop, take_more}
use Rattle.h5_names.specs.declared.qualified.QualName.{QualName}
use Rattle.h5_tables.specs.TagSets.{is_special}
use Rattle.h5_builder_spec.specs.formatting.Adoption.{block_or, furthest_block, newer_than, older_than}
use Rattle.h5_builder_spec.specs.stack.Order.{IsIn}
use Rattle.h5_builder_spec.proofs.entries.PassLaws.{stack_split}
use Rattle.h5_builder_spec.specs.World.{World, name_in}
use Rattle.h5_builder_state.specs.Numbered.{values}
use Rattle.h5_builder_state.specs.declared.open_element.OpenElements.{OpenElements}
use Rattle.h5_builder_state.specs.View.{elements_of, open_node, stack_under}
use Rattle.h5_builder_state.specs.declared.open_element.OpenElement.{OpenElement}
use Rattle.h5_builder_state.specs.declared.state.State.{State}
use Rattle.h5_builder_state.proofs.StackLaws.{seen_pushed}
use Rattle.h5_builder_state.specs.OpenPlaces.{IsOpenAt}
use Rattle.h5_builder_actions.specs.FormattingPlaces.{IsBlockAt}

-- an element stands at this place, counted from the oldest
pub record StandsAt (n place : ℕ) (s : List ℕ) : Type 0 where
  pub is_in : IsIn n s
  pub here : place ≡ length (older_than n s)

pub stands_at : (n place : ℕ) (w : World) → IsOpenAt n place w → StandsAt n place w.stack
stands_at n place w k = record { is_in = k.is_open; here = k.here }

pub length_split : (n : ℕ) (s : List ℕ) → IsIn n s → length s ≡ length (newer_than n s) + 1 + length (older_than n s)
length_split n s h = omega (arith, ap length (stack_split n s h), length-append (newer_than n s) (n ∷ older_than n s))

-- it does so among fewer, while they reach above it
pub stands_left : (n place m : ℕ) (s : List ℕ) → StandsAt n place (m ∷ s) → place < length s → StandsAt n place s × (newer_than n (m ∷ s) ≡ m ∷ newer_than n s)
stands_left n place m s k h = at (m == n) refl k.is_in k.here
  where
    at : (b : Bool) → (m == n) ≡ b → IsIn n (m ∷ s) → place ≡ length (cond b s (older_than n s)) → StandsAt n place s × (cond b [] (m ∷ newer_than n s) ≡ m ∷ newer_than n s)
    at true e i c = absurd (omega (arith, c, h))
    at false e (inl i) c = absurd (eqb-false m n e (sym i))
    at false e (inr i) c = (record { is_in = i; here = c }, refl)

pub one_left : (p : ℕ → Bool) (n place m : ℕ) (s left : List ℕ) → left ≡ m ∷ s → StandsAt n place left → place < length s → StandsAt n place s × (list_any p (newer_than n left) ≡ (p m || list_any p (newer_than n s)))
one_left p n place m s left e k h =
    let one = stands_left n place m s (subst (StandsAt n place) e k) h in
    (one.0, ap (λ l. list_any p (newer_than n l)) e ∙ ap (list_any p) one.1)

-- and where they reach up to it none is newer
pub none_newer : (n place : ℕ) (s : List ℕ) → StandsAt n place s → length s ≡ place + 1 → newer_than n s ≡ []
none_newer n place s k h = empty (newer_than n s) (omega (arith, h, k.here, length_split n s k.is_in))
  where
    empty : (l : List ℕ) → length l ≡ 0 → l ≡ []
    empty [] e = refl
    empty (m ∷ l) e = absurd (omega (arith, e))

pub stands_under : (n place : ℕ) (p s : List ℕ) → StandsAt n place (p ++ s) → place < length s → StandsAt n place s × (newer_than n (p ++ s) ≡ p ++ newer_than n s)
stands_under n place [] s k h = (k, refl)
stands_under n place (m ∷ p) s k h =
    let one = stands_left n place m (p ++ s) k (omega (arith, h, length-append p s)) in
    let more = stands_under n place p s one.0 h in
    (more.0, one.1 ∙ ap (λ z. m ∷ z) more.1)

-- the stack, cut at a place
pub record StackCut (s left : List ℕ) : Type 0 where
  pub newer : List ℕ
  pub cut : s ≡ newer ++ left

pub stack_cut : {H : Type 0} (node : H → ℕ) (state : State H) (count : ℕ) → StackCut (reverse (map (open_node node) (elements_of state))) (stack_under node state count)
unfolding stack_under
stack_cut node state count =
    let items = (elements_of state) in
    record {
      newer = reverse (map (open_node node) (drop count items));
      cut = ap (λ z. reverse (map (open_node node) z)) (sym (take-append-drop count items))
          ∙ ap reverse (map-append (open_node node) (take count items) (drop count items))
          ∙ reverse-append (map (open_node node) (take count items)) (map (open_node node) (drop count items));
    }

pub length_under : {H : Type 0} (node : H → ℕ) (state : State H) (count : ℕ) → count ≤ length (reverse (map (open_node node) (elements_of state))) → length (stack_under node state count) ≡ count
unfolding stack_under
length_under node state count h =
    let items = (elements_of state) in
    omega (arith, h, length-reverse (map (open_node node) items), length-map items (open_node node), length-reverse (map (open_node node) (take count items)), length-map (take count items) (open_node node), length-take count items)

-- an open element stands where it does among those below a place above it
pub stands_below : {H : Type 0} (node : H → ℕ) (state : State H) (n place count : ℕ) → StandsAt n place (reverse (map (open_node node) (elements_of state))) → place < count
    → count ≤ length (reverse (map (open_node node) (elements_of state))) → StandsAt n place (stack_under node state count)
stands_below node state n place count k h c =
    let cut = stack_cut node state count in
    (stands_under n place cut.newer (stack_under node state count) (subst (StandsAt n place) cut.cut k) (omega (arith, h, length_under node state count c))).0

-- the oldest that is special is the furthest block
pub furthest_none : (special : ℕ → Bool) (s : List ℕ) → list_any special s ≡ false → furthest_block special s ≡ None
furthest_none special [] h = refl
furthest_none special (n ∷ s) h = at (special n) h (furthest_none special s)
  where
    at : (b : Bool) → (b || list_any special s) ≡ false → (list_any special s ≡ false → furthest_block special s ≡ None) → block_or n b s (furthest_block special s) ≡ None
    at true e go = absurd (cc)
    at false e go = ap (block_or n false s) (go e)

pub furthest_cut : (special : ℕ → Bool) (newer : List ℕ) (block : ℕ) (between : List ℕ) → special block ≡ true → list_any special between ≡ false
    → furthest_block special (newer ++ block ∷ between) ≡ Some (record { newer = newer; block = block; between = between })
furthest_cut special [] block between e none = ap (λ b. block_or block b between (furthest_block special between)) e ∙ ap (block_or block true between) (furthest_none special between none)
furthest_cut special (n ∷ newer) block between e none = ap (block_or n (special n) (newer ++ block ∷ between)) (furthest_cut special newer block between e none)

pub block_at : (n place at m : ℕ) (newer left : List ℕ) (w : World) → IsOpenAt n place w → w.stack ≡ newer ++ m ∷ left → at ≡ length left → place < at
    → is_special (name_in w.forest m) ≡ true → list_any (λ m. is_special (name_in w.forest m)) (newer_than n left) ≡ false → IsBlockAt n place at w
block_at n place at m newer left w k cut e above is none =
    let special = λ (m : ℕ). is_special (name_in w.forest m) in
    let whole : StandsAt n place (newer ++ m ∷ left) = subst (StandsAt n place) cut (stands_at n place w k) in
    let one = stands_under n place newer (m ∷ left) whole (omega (arith, e, above)) in
    let two = stands_left n place m left one.0 (omega (arith, e, above)) in
    let same : newer_than n w.stack ≡ newer ++ m ∷ newer_than n left = ap (newer_than n) cut ∙ one.1 ∙ ap (λ z. newer ++ z) two.1 in
    record {
      furthest = record { newer = newer; block = m; between = newer_than n left };
      found = ap (furthest_block special) same ∙ furthest_cut special newer m (newer_than n left) is none;
      here = omega (arith, e, two.0.here, length_split n left two.0.is_in);
    }

-- one more of the oldest
pub under_more : {H : Type 0} (node : H → ℕ) (state : State H) (place : ℕ) → place < length (reverse (map (open_node node) (elements_of state))) → (n : ℕ) × (stack_under node state (place + 1) ≡ n ∷ stack_under node state place)
unfolding stack_under
under_more {H} node state place h = at (elements_of state) h
  where
    at : (xs : List (OpenElement H)) → place < length (reverse (map (open_node node) xs)) → (n : ℕ) × (reverse (map (open_node node) (take (place + 1) xs)) ≡ n ∷ reverse (map (open_node node) (take place xs)))
    at [] k = absurd (omega (arith, k))
    at (x ∷ xs) k = (
      open_node node (get_or (x ∷ xs) place x),
      seen_pushed (open_node node) (take place (x ∷ xs)) (take (place + 1) (x ∷ xs)) (get_or (x ∷ xs) place x)
          (take_more (x ∷ xs) place x (omega (arith, k, length-reverse (map (open_node node) (x ∷ xs)), length-map (x ∷ xs) (open_node node)))),
    )

pub same_under : {H : Type 0} (node : H → ℕ) (x y : State H) (count : ℕ) → x.open_elems ≡ y.open_elems → stack_under node x count ≡ stack_under node y count
unfolding stack_under
same_under {H} node x y count e = ap (λ (v : OpenElements H). reverse (map (open_node node) (take count (values v.elements)))) e

-- one of some passes by its name
pub any_named : (is : QualName → Bool) (name : ℕ → QualName) (s : List ℕ) → list_any is (map name s) ≡ list_any (λ m. is (name m)) s
any_named is name [] = refl
any_named is name (n ∷ s) = ap (λ b. is (name n) || b) (any_named is name s)
