-- What a clone around a node leaves.
use Rattle.std.proofs.Common.{◌≡◌, ◌+◌, ◌==◌, ℕ, Bool, true, false, cond, List, [], ◌∷◌, ◌++◌, length, length-append, map, reverse, Some, None, Result, Ok, Err, OnOk, inl, inr, refl, ap, sym, subst, ◌∙◌, arith}
use Rattle.std.proofs.lemmas.Bool.{eq-eqb, eqb-false, eqb-true, ne_eqb}
use Rattle.h5_token.specs.TokenText.{TagText}
use Rattle.h5_interface.specs.Seen.{changed}
use Rattle.h5_interface.specs.SinkChoices.{SinkChoices}
use Rattle.h5_interface.specs.declared.sink.TreeSink.{Ghosts}
use Rattle.h5_builder_spec.specs.formatting.FormattingList.{ElementEntry, Entry, MarkerEntry, nodes_of}
use Rattle.h5_builder_spec.specs.stack.Order.{IsIn, is_in}
use Rattle.h5_builder_spec.specs.formatting.AdoptionAgency.{IsLoose, Nest, tag_in, wrapped, KeepsKinds}
use Rattle.h5_builder_spec.specs.World.{World}
use Rattle.h5_builder_spec.specs.Sound.{AllStand}
use Rattle.h5_builder_spec.proofs.adoption.AdoptionForest.{wrapped_all, wrapped_kinds, wrapped_loose}
use Rattle.h5_builder_state.specs.Steps.{IsSound, world_of}
use Rattle.h5_builder_state.specs.View.{listed_node, world}
use Rattle.h5_builder_state.specs.Listed.{entry_of}
use Rattle.h5_builder_state.specs.declared.state.State.{State}
use Rattle.h5_builder_actions.specs.Hanging.{IsLooseOver, with_clone, with_clone_by}
use Rattle.h5_builder_actions.specs.FormattingPlaces.{IsEntryAt}
use Rattle.h5_builder_actions.specs.View.{list_under}
use Rattle.h5_builder_actions.proofs.EntryLaws.{list_cut}
use Rattle.h5_builder_actions.proofs.HangLaws.{seen_after}
use Rattle.h5_builder_actions.proofs.ViewLaws.{sound_rehung}

module _ {S H O : Type 0} (law : Ghosts S H O) (old new : S) (state : State H) (tag : TagText) (n : ℕ)
    (k : IsSound law old state) (may : IsLooseOver (world_of law old state) n) (made : law.sees new ≡ changed (wrapped law.choices (Some tag) n) (law.sees old)) where
  pub cloned_kinds : KeepsKinds (law.sees old).forest (law.sees new).forest
  unfolding world
  cloned_kinds =
      seen_after (law.sees old) (law.sees new) (wrapped law.choices (Some tag) n) (KeepsKinds (law.sees old).forest) made
      (wrapped_kinds law.choices tag (law.sees old).forest (world_of law old state).stack may.block n k.sound.stands.is_forest may.loose)

  pub cloned_sound : IsSound law new state
  unfolding world
  cloned_sound =
      let w = world_of law old state in
      sound_rehung law old new state k
      (seen_after (law.sees old) (law.sees new) (wrapped law.choices (Some tag) n) (λ f. AllStand f w.stack w.formatting w.head w.form w.context) made
      (wrapped_all law.choices tag (law.sees old).forest w.stack may.block n may.older may.under k.sound may.loose))
      cloned_kinds

  -- the clone is as loose as what it is around
  pub cloned_loose : (m block : ℕ) → m ≡ law.choices.fresh (law.sees old).forest → IsLoose (law.sees old).forest (world_of law old state).stack block n → IsLoose (law.sees new).forest (world_of law old state).stack block m
  unfolding world
  cloned_loose m block e loose =
      let w = world_of law old state in
      seen_after (law.sees old) (law.sees new) (wrapped law.choices (Some tag) n) (λ f. IsLoose f w.stack block m) made
      (subst (IsLoose (wrapped law.choices (Some tag) n (law.sees old).forest) w.stack block) (sym e)
      (wrapped_loose law.choices tag (law.sees old).forest w.stack block n k.sound.stands loose))

-- lists that end alike in as many members
pub same_tail : {A : Type 0} (p q s t : List A) → p ++ s ≡ q ++ t → length s ≡ length t → s ≡ t
same_tail [] [] s t e h = e
same_tail [] (y ∷ q) s t e h = absurd (omega (arith, h, ap length e, length-append q t))
same_tail (x ∷ p) [] s t e h = absurd (omega (arith, h, ap length e, length-append p s))
same_tail (x ∷ p) (y ∷ q) s t e h = let tail : p ++ s ≡ q ++ t = cc in same_tail p q s t tail h

-- the tag of an element by its newest entry
tag_at : (n : ℕ) (t : TagText) (newer older : List Entry) → ¬ (IsIn n (nodes_of newer)) → tag_in (newer ++ ElementEntry n t ∷ older) n ≡ Some t
tag_at n t [] older none = ap (λ b. cond b (Some t) (tag_in older n)) (eq-eqb n n refl)
tag_at n t (MarkerEntry ∷ newer) older none = tag_at n t newer older none
tag_at n t (ElementEntry m u ∷ newer) older none =
    ap (λ b. cond b (Some u) (tag_in (newer ++ ElementEntry n t ∷ older) n)) (ne_eqb m n (λ e. none (inl (sym e)))) ∙ tag_at n t newer older (λ h. none (inr h))

pub tag_none : (n : ℕ) (l : List Entry) → is_in n (nodes_of l) ≡ false → tag_in l n ≡ None
tag_none n [] h = refl
tag_none n (MarkerEntry ∷ l) h = tag_none n l h
tag_none n (ElementEntry m t ∷ l) h = at (n == m) refl h (tag_none n l)
  where
    at : (b : Bool) → (n == m) ≡ b → cond b true (is_in n (nodes_of l)) ≡ false → (is_in n (nodes_of l) ≡ false → tag_in l n ≡ None) → cond (m == n) (Some t) (tag_in l n) ≡ None
    at true e k later = absurd (cc)
    at false e k later = ap (λ b. cond b (Some t) (tag_in l n)) (ne_eqb m n (λ i. eqb-false n m e (sym i))) ∙ later k

pub tag_some : (n : ℕ) (l : List Entry) → is_in n (nodes_of l) ≡ true → tag_in l n ≡ None → ⊥
tag_some n [] h e = absurd (cc)
tag_some n (MarkerEntry ∷ l) h e = tag_some n l h e
tag_some n (ElementEntry m t ∷ l) h e = at (n == m) refl h (m == n) refl e (tag_some n l)
  where
    at : (b : Bool) → (n == m) ≡ b → cond b true (is_in n (nodes_of l)) ≡ true → (c : Bool) → (m == n) ≡ c → cond c (Some t) (tag_in l n) ≡ None
        → (is_in n (nodes_of l) ≡ true → tag_in l n ≡ None → ⊥) → ⊥
    at b i k true j z later = absurd (let w : Some t ≡ None = z in cc)
    at true i k false j z later = eqb-false m n j (sym (eqb-true n m i))
    at false i k false j z later = later k z

-- the entry at the place of an element's entry, and the tag by it
pub record EntryIs (n : ℕ) (e : Entry) (l : List Entry) : Type 0 where
  pub tag : TagText
  pub entry : ElementEntry n tag ≡ e
  pub listed : tag_in l n ≡ Some tag

pub entry_here : {H : Type 0} (node : H → ℕ) (state : State H) (place : ℕ) (e x : Entry) (newer older : List Entry) → reverse (map (entry_of (listed_node node)) state.active_formatting) ≡ newer ++ x ∷ older → place ≡ length older
    → list_under node state (place + 1) ≡ e ∷ list_under node state place → length (list_under node state place) ≡ place → x ≡ e
entry_here node state place e x newer older cut here step count =
    let split = list_cut node state (place + 1) in
    let tails : x ∷ older ≡ e ∷ list_under node state place =
    same_tail newer split.newer (x ∷ older) (e ∷ list_under node state place) (sym cut ∙ split.cut ∙ ap (λ l. split.newer ++ l) step) (omega (arith, here, count)) in
    first_same x e older (list_under node state place) tails
  where
    first_same : (x e : Entry) (r q : List Entry) → x ∷ r ≡ e ∷ q → x ≡ e
    first_same x e r q h = cc

pub entry_is : {H : Type 0} (node : H → ℕ) (state : State H) (n place : ℕ) (e : Entry) (w : World) → w.formatting ≡ reverse (map (entry_of (listed_node node)) state.active_formatting) → IsEntryAt n place w
    → list_under node state (place + 1) ≡ e ∷ list_under node state place → length (list_under node state place) ≡ place → EntryIs n e w.formatting
entry_is node state n place e w same k step count =
    record {
      tag = k.tag;
      entry = entry_here node state place e (ElementEntry n k.tag) k.newer k.older (sym same ∙ k.cut) k.here step count;
      listed = ap (λ l. tag_in l n) k.cut ∙ tag_at n k.tag k.newer k.older k.first;
    }

-- the newest of two stacks that are one
pub newest_same : (n m : ℕ) (s r q : List ℕ) → s ≡ n ∷ r → s ≡ m ∷ q → n ≡ m
newest_same n m s r q e h = cc

-- the tag by an entry that is a marker, or an element's
pub entry_no_marker : (n : ℕ) (l : List Entry) → ¬ (EntryIs n MarkerEntry l)
entry_no_marker n l k = let e : ElementEntry n k.tag ≡ MarkerEntry = k.entry in cc

pub entry_tag : (n m : ℕ) (t : TagText) (l : List Entry) → EntryIs n (ElementEntry m t) l → tag_in l n ≡ Some t
entry_tag n m t l k = let same : k.tag ≡ t = same_tag n m k.tag t k.entry in k.listed ∙ ap Some same
  where
    same_tag : (n m : ℕ) (t u : TagText) → ElementEntry n t ≡ ElementEntry m u → t ≡ u
    same_tag n m t u e = cc

-- a clone by the tag of the element that a stack begins with
pub clone_told : {T E : Type 0} (r : Result T E) (choices : SinkChoices) (l : List Entry) (m : ℕ) (t : TagText) (s q : List ℕ) (a b : Nest) → OnOk r (a ≡ with_clone choices t b) → tag_in l m ≡ Some t → s ≡ m ∷ q
    → OnOk r ((n : ℕ) (older : List ℕ) → s ≡ n ∷ older → a ≡ with_clone_by choices (tag_in l n) b)
clone_told (Err x) choices l m t s q a b made listed first = tt
clone_told (Ok x) choices l m t s q a b made listed first = λ n older e.
    made ∙ ap (λ o. with_clone_by choices o b) (sym listed ∙ ap (tag_in l) (newest_same m n s q older first e))
