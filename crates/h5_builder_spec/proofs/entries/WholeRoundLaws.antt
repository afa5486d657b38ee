-- A round of the adoption agency keeps the laws of the stack and the list.
use Rattle.std.proofs.Common.{◌≡◌, ◌⊎◌, inl, inr, ℕ, Bool, true, false, cond, List, [], ◌∷◌, ◌++◌, append_assoc, length, take, filter, Option, Some, None, refl, ap, sym, subst, ◌∙◌, arith}
use Rattle.std.proofs.lemmas.Bool.{eq-eqb}
use Rattle.h5_token.specs.TokenText.{TagText}
use Rattle.h5_builder_spec.specs.formatting.Adoption.{entry_as, inserted_after, replaced, replaced_by, round_list, round_stack, to_clone}
use Rattle.h5_builder_spec.specs.formatting.FormattingList.{ElementEntry, Entry, MarkerEntry, nodes_of, without_entry}
use Rattle.h5_builder_spec.specs.formatting.Fresh.{AreFresh}
use Rattle.h5_builder_spec.specs.inner.Lists.{Agrees, FewAlike, Lists}
use Rattle.h5_builder_spec.specs.stack.Order.{Before, Distinct, IsIn, first_or, is_in}
use Rattle.h5_builder_spec.specs.formatting.Places.{NoMarker}
use Rattle.h5_builder_spec.proofs.entries.EntryLaws.{nodes_of-append}
use Rattle.h5_builder_spec.proofs.entries.KeptListsLaws.{agrees_dropped}
use Rattle.h5_builder_spec.proofs.entries.PairLaws.{in_left, in_right, in_split, before_across, before_left, before_right, not_beside, older, distinct_apart, is_in_true}
use Rattle.h5_builder_spec.proofs.entries.ReplaceLaws.{GiveApart, agrees_replaced, few_replaced, node_as, nodes_replaced, now_in, replaced-append, replaced_distinct, replaced_kept, replaced_nodes, replaced_nodes-append, was_in}
use Rattle.h5_builder_spec.proofs.entries.RoundLaws.{Spot, agrees_clone_inserted, without_entry_at, inserted_after_at, few_moved, part_to_clone, part_in, part_replaced, spot_clone, spot_f, replaced_by_apart, replaced_by_kept, replaced_by_result}

-- the parts of a stack of which the middle is replaced
parts_replaced : (w : ℕ → Option ℕ) (a m z ys : List ℕ) (b : ℕ) → ((n : ℕ) → IsIn n a → w n ≡ Some n) → w b ≡ Some b → replaced_nodes w m ≡ ys → ((n : ℕ) → IsIn n z → w n ≡ Some n)
    → replaced_nodes w (a ++ b ∷ (m ++ z)) ≡ a ++ b ∷ (ys ++ z)
parts_replaced w a m z ys b ka kb em kz =
    replaced_nodes-append w a (b ∷ (m ++ z))
    ∙ ap (λ x. x ++ node_as (w b) (replaced_nodes w (m ++ z))) (replaced_kept w a ka)
    ∙ ap (λ o. a ++ node_as o (replaced_nodes w (m ++ z))) kb
    ∙ ap (λ x. a ++ b ∷ x) (replaced_nodes-append w m z ∙ ap (λ x. x ++ replaced_nodes w z) em ∙ ap (λ x. ys ++ x) (replaced_kept w z kz))

to_clone_listed : (n k : ℕ) (l : List Entry) (s : List ℕ) → IsIn n (filter (λ m. is_in m (nodes_of l)) (take k s)) → IsIn n (nodes_of l)
to_clone_listed n k l s h = passed (take k s) h
  where
    passed : (s : List ℕ) → IsIn n (filter (λ m. is_in m (nodes_of l)) s) → IsIn n (nodes_of l)
    passed [] i = absurd i
    passed (x ∷ s) i = at (is_in x (nodes_of l)) refl i (passed s)
      where
        at : (b : Bool) → is_in x (nodes_of l) ≡ b → IsIn n (cond b (x ∷ filter (λ m. is_in m (nodes_of l)) s) (filter (λ m. is_in m (nodes_of l)) s)) → (IsIn n (filter (λ m. is_in m (nodes_of l)) s) → IsIn n (nodes_of l)) → IsIn n (nodes_of l)
        at true e (inl v) go = subst (λ z. IsIn z (nodes_of l)) (sym v) (is_in_true x (nodes_of l) e)
        at true e (inr v) go = go v
        at false e v go = go v

no_marker_replaced : (w : ℕ → Option ℕ) (p : List Entry) → NoMarker p → NoMarker (replaced w p)
no_marker_replaced w [] h = tt
no_marker_replaced w (MarkerEntry ∷ p) h = absurd h
no_marker_replaced w (ElementEntry n t ∷ p) h = at (w n) (no_marker_replaced w p h)
  where
    at : (o : Option ℕ) → NoMarker (replaced w p) → NoMarker (entry_as o t (replaced w p))
    at None k = k
    at (Some m) k = k

no_marker_front : (p q : List Entry) → NoMarker (p ++ q) → NoMarker p
no_marker_front [] q h = tt
no_marker_front (MarkerEntry ∷ p) q h = absurd h
no_marker_front (ElementEntry n t ∷ p) q h = no_marker_front p q h

pub no_marker_back : (p q : List Entry) → NoMarker (p ++ q) → NoMarker q
no_marker_back [] q h = h
no_marker_back (MarkerEntry ∷ p) q h = absurd h
no_marker_back (ElementEntry n t ∷ p) q h = no_marker_back p q h

-- The second half: where the elements between were replaced by their clones, the clone of f is put in, and f
-- leaves. The list is seen as `front ++ middle ++ f's entry ∷ r`
second_half : (newer_s older_s clones : List ℕ) (b f c : ℕ) (t : TagText) (p r : List Entry)
    → Distinct (newer_s ++ b ∷ (clones ++ f ∷ older_s)) → ¬ (IsIn c (nodes_of (p ++ ElementEntry f t ∷ r))) → ¬ (IsIn b (nodes_of (p ++ ElementEntry f t ∷ r))) → ¬ (IsIn f (nodes_of p)) → ¬ (c ≡ f) → NoMarker p
    → Spot (first_or f clones) f t p r
    → Lists (newer_s ++ b ∷ (clones ++ f ∷ older_s)) (p ++ ElementEntry f t ∷ r)
    → Lists (round_stack newer_s c b clones older_s) (without_entry f (inserted_after (first_or f clones) (ElementEntry c t) (p ++ ElementEntry f t ∷ r)))
second_half newer_s older_s clones b f c t p r d cnew unlisted ffirst cf nm spot k = record { agrees = agrees; alike = alike }
  where
    seen : p ++ ElementEntry f t ∷ r ≡ spot.front ++ ElementEntry (first_or f clones) spot.tag ∷ spot.rest
    seen = ap (λ z. z ++ ElementEntry f t ∷ r) spot.cut ∙ append_assoc spot.front spot.middle (ElementEntry f t ∷ r) ∙ ap (λ z. spot.front ++ z) spot.here

    put : inserted_after (first_or f clones) (ElementEntry c t) (p ++ ElementEntry f t ∷ r) ≡ spot.front ++ (ElementEntry c t ∷ ElementEntry (first_or f clones) spot.tag ∷ spot.rest)
    put = ap (inserted_after (first_or f clones) (ElementEntry c t)) seen ∙ inserted_after_at (first_or f clones) (ElementEntry c t) spot.tag spot.front spot.rest spot.first

    -- what stands under the newest of the clones, or under f
    under : List ℕ → List ℕ
    under [] = older_s
    under (y ∷ ys) = ys ++ f ∷ older_s

    next : (ys : List ℕ) → ys ++ f ∷ older_s ≡ first_or f ys ∷ under ys
    next [] = refl
    next (y ∷ ys) = refl

    stack : newer_s ++ b ∷ (clones ++ f ∷ older_s) ≡ newer_s ++ b ∷ first_or f clones ∷ under clones
    stack = ap (λ z. newer_s ++ b ∷ z) (next clones)

    inserted : Agrees (newer_s ++ c ∷ b ∷ first_or f clones ∷ under clones) (spot.front ++ (ElementEntry c t ∷ ElementEntry (first_or f clones) spot.tag ∷ spot.rest))
    inserted =
        agrees_clone_inserted newer_s (under clones) (first_or f clones) b c spot.tag t spot.front spot.rest (subst Distinct stack d)
        (λ i. cnew (subst (λ z. IsIn c (nodes_of z)) (sym seen) i))
        (λ i. unlisted (subst (λ z. IsIn b (nodes_of z)) (sym seen) i))
        (subst (λ z. Agrees z (spot.front ++ ElementEntry (first_or f clones) spot.tag ∷ spot.rest)) stack (subst (Agrees (newer_s ++ b ∷ (clones ++ f ∷ older_s))) seen k.agrees))

    both : Agrees ((newer_s ++ c ∷ b ∷ clones) ++ f ∷ older_s) (inserted_after (first_or f clones) (ElementEntry c t) (p ++ ElementEntry f t ∷ r))
    both =
        subst (Agrees ((newer_s ++ c ∷ b ∷ clones) ++ f ∷ older_s)) (sym put)
        (subst (λ z. Agrees z (spot.front ++ (ElementEntry c t ∷ ElementEntry (first_or f clones) spot.tag ∷ spot.rest)))
        (ap (λ z. newer_s ++ c ∷ b ∷ z) (sym (next clones)) ∙ sym (append_assoc newer_s (c ∷ b ∷ clones) (f ∷ older_s))) inserted)

    agrees : Agrees (round_stack newer_s c b clones older_s) (without_entry f (inserted_after (first_or f clones) (ElementEntry c t) (p ++ ElementEntry f t ∷ r)))
    agrees =
        subst (λ z. Agrees z (without_entry f (inserted_after (first_or f clones) (ElementEntry c t) (p ++ ElementEntry f t ∷ r)))) (append_assoc newer_s (c ∷ b ∷ clones) older_s)
        (agrees_dropped (newer_s ++ c ∷ b ∷ clones) older_s f (inserted_after (first_or f clones) (ElementEntry c t) (p ++ ElementEntry f t ∷ r)) both)

    -- f's entry is removed from where it stands
    in_p : (x : ℕ) → IsIn x (nodes_of spot.front ++ nodes_of spot.middle) → IsIn x (nodes_of p)
    in_p x i = subst (λ z. IsIn x (nodes_of z)) (sym spot.cut) (subst (IsIn x) (sym (nodes_of-append spot.front spot.middle)) i)

    no_f : ¬ (IsIn f (nodes_of (spot.front ++ ElementEntry c t ∷ spot.middle)))
    no_f i = elim (in_split f (nodes_of spot.front) (c ∷ nodes_of spot.middle) (subst (IsIn f) (nodes_of-append spot.front (ElementEntry c t ∷ spot.middle)) i)) [
      | inl j ↦ ffirst (in_p f (in_left f (nodes_of spot.front) (nodes_of spot.middle) j))
      | inr j ↦ elim j [ inl e ↦ cf (sym e) | inr m ↦ ffirst (in_p f (in_right f (nodes_of spot.front) (nodes_of spot.middle) m)) ]
    ]

    list : without_entry f (inserted_after (first_or f clones) (ElementEntry c t) (p ++ ElementEntry f t ∷ r)) ≡ spot.front ++ (ElementEntry c t ∷ (spot.middle ++ r))
    list =
        ap (without_entry f) (put ∙ ap (λ z. spot.front ++ ElementEntry c t ∷ z) (sym spot.here) ∙ sym (append_assoc spot.front (ElementEntry c t ∷ spot.middle) (ElementEntry f t ∷ r)))
        ∙ without_entry_at f t (spot.front ++ ElementEntry c t ∷ spot.middle) r no_f
        ∙ append_assoc spot.front (ElementEntry c t ∷ spot.middle) r

    alike : (u : TagText) → FewAlike u (without_entry f (inserted_after (first_or f clones) (ElementEntry c t) (p ++ ElementEntry f t ∷ r)))
    alike u =
        subst (FewAlike u) (sym list)
        (few_moved u t c f spot.front spot.middle r (no_marker_front spot.front spot.middle (subst NoMarker spot.cut nm)) (no_marker_back spot.front spot.middle (subst NoMarker spot.cut nm))
        (subst (FewAlike u) (ap (λ z. z ++ ElementEntry f t ∷ r) spot.cut ∙ append_assoc spot.front spot.middle (ElementEntry f t ∷ r)) (k.alike u)))

-- what a round asks for
pub record MayRound (newer_s : List ℕ) (b : ℕ) (between : List ℕ) (f : ℕ) (older_s clones : List ℕ) (c : ℕ) (t : TagText) (p r : List Entry) : Type 0 where
  pub distinct : Distinct (newer_s ++ b ∷ (between ++ f ∷ older_s))
  pub unlisted : ¬ (IsIn b (nodes_of (p ++ ElementEntry f t ∷ r)))
  pub unmarked : NoMarker p
  pub as_many : length clones ≡ length (to_clone (p ++ ElementEntry f t ∷ r) between)
  pub fresh : AreFresh (c ∷ clones) (newer_s ++ b ∷ (between ++ f ∷ older_s)) (p ++ ElementEntry f t ∷ r)

-- a round
module _ (newer_s : List ℕ) (b : ℕ) (between : List ℕ) (f : ℕ) (older_s clones : List ℕ) (c : ℕ) (t : TagText) (p r : List Entry) where
  abbrev stack_of : List ℕ
  stack_of = newer_s ++ b ∷ (between ++ f ∷ older_s)

  abbrev list_of : List Entry
  list_of = p ++ ElementEntry f t ∷ r

  abbrev gives : ℕ → Option ℕ
  gives = replaced_by between (to_clone list_of between) clones

  abbrev middle_stack : List ℕ
  middle_stack = newer_s ++ b ∷ (clones ++ f ∷ older_s)

  module _ (may : MayRound newer_s b between f older_s clones c t p r) (k : Lists stack_of list_of) where
    f_open : IsIn f stack_of
    f_open = in_right f newer_s (b ∷ (between ++ f ∷ older_s)) (inr (in_right f between (f ∷ older_s) (inl refl)))

    lower : Distinct (between ++ f ∷ older_s)
    lower x h = may.distinct x (before_right x x newer_s (b ∷ (between ++ f ∷ older_s)) (inr h))

    keeps : (n : ℕ) → ¬ (IsIn n between) → gives n ≡ Some n
    keeps n out = replaced_by_kept between (to_clone list_of between) clones n out (λ i. out (part_in n (to_clone list_of between) between (part_to_clone (λ m. is_in m (nodes_of list_of)) 3 between) i))

    apart : GiveApart gives stack_of (nodes_of list_of)
    apart n m z i j e v = replaced_by_apart between (to_clone list_of between) clones n m z (λ x h. may.fresh.distinct x (inr h)) (old n i) (old m j) e v
      where
        old : (x : ℕ) → (IsIn x stack_of ⊎ IsIn x (nodes_of list_of)) → ¬ (IsIn x clones)
        old x (inl i) h = may.fresh.unopened x (inr h) i
        old x (inr i) h = may.fresh.unlisted x (inr h) i

    stack_is : replaced_nodes gives stack_of ≡ middle_stack
    stack_is =
        parts_replaced gives newer_s between (f ∷ older_s) clones b
        (λ n i. keeps n (λ h. distinct_apart n newer_s (b ∷ (between ++ f ∷ older_s)) may.distinct i (inr (in_left n between (f ∷ older_s) h))))
        (keeps b (λ h. not_beside newer_s (between ++ f ∷ older_s) b may.distinct (in_right b newer_s (between ++ f ∷ older_s) (in_left b between (f ∷ older_s) h))))
        (part_replaced between (to_clone list_of between) between clones (part_to_clone (λ m. is_in m (nodes_of list_of)) 3 between) may.as_many
        (λ x h. between_distinct x h) (λ n i. i))
        (λ n i. keeps n (λ h. distinct_apart n between (f ∷ older_s) lower h i))
      where
        between_distinct : (x : ℕ) → Before between x x → ⊥
        between_distinct x h = lower x (before_left x x between (f ∷ older_s) h)

    keeps_f : gives f ≡ Some f
    keeps_f = keeps f (λ h. distinct_apart f between (f ∷ older_s) lower h (inl refl))

    list_is : replaced gives list_of ≡ replaced gives p ++ ElementEntry f t ∷ replaced gives r
    list_is = replaced-append gives p (ElementEntry f t ∷ r) ∙ ap (λ o. replaced gives p ++ entry_as o t (replaced gives r)) keeps_f

    gave : Agrees middle_stack (replaced gives list_of)
    gave = subst (λ z. Agrees z (replaced gives list_of)) stack_is (agrees_replaced gives stack_of list_of apart k.agrees)

    middle_distinct : Distinct middle_stack
    middle_distinct = subst Distinct stack_is (replaced_distinct gives stack_of (nodes_of list_of) apart may.distinct)

    -- what is listed then was listed, or is a clone
    was_listed : (x : ℕ) → IsIn x (nodes_of (replaced gives list_of)) → IsIn x (nodes_of list_of) ⊎ IsIn x clones
    was_listed x i =
        let v = was_in gives (nodes_of list_of) x (subst (IsIn x) (nodes_replaced gives list_of) i) in
        elim (replaced_by_result between (to_clone list_of between) clones v.node x v.gives) [
          | inl e ↦ inl (subst (λ z. IsIn z (nodes_of list_of)) (sym e) v.here)
          | inr j ↦ inr j
        ]

    c_new : ¬ (IsIn c (nodes_of (replaced gives list_of)))
    c_new i = elim (was_listed c i) [ inl j ↦ may.fresh.unlisted c (inl refl) j | inr j ↦ may.fresh.distinct c (inl (refl, j)) ]

    b_new : ¬ (IsIn b (nodes_of (replaced gives list_of)))
    b_new i = elim (was_listed b i) [ inl j ↦ may.unlisted j | inr j ↦ may.fresh.unopened b (inr j) (in_right b newer_s (b ∷ (between ++ f ∷ older_s)) (inl refl)) ]

    f_first : ¬ (IsIn f (nodes_of (replaced gives p)))
    f_first i = gave.once f (subst (λ z. Before (nodes_of z) f f) (sym list_is) (subst (λ z. Before z f f) (sym (nodes_of-append (replaced gives p) (ElementEntry f t ∷ replaced gives r))) (before_across f f (nodes_of (replaced gives p)) (f ∷ nodes_of (replaced gives r)) i (inl refl))))

    -- a listed element between has its entry before that of f
    listed_before : (x : ℕ) → IsIn x between → IsIn x (nodes_of list_of) → IsIn x (nodes_of p)
    listed_before x i h = elim (in_split x (nodes_of p) (f ∷ nodes_of r) (subst (IsIn x) (nodes_of-append p (ElementEntry f t ∷ r)) h)) [
      | inl j ↦ j
      | inr j ↦ elim j [
        | inl e ↦ absurd (distinct_apart x between (f ∷ older_s) lower i (inl e))
        | inr m ↦
            let x_open = in_right x newer_s (b ∷ (between ++ f ∷ older_s)) (inr (in_left x between (f ∷ older_s) i)) in
            let w = k.agrees.order f x f_open x_open (subst (λ z. Before z f x) (sym (nodes_of-append p (ElementEntry f t ∷ r))) (before_right f x (nodes_of p) (f ∷ nodes_of r) (inl (refl, m)))) in
            absurd (distinct_apart x between (f ∷ older_s) lower i (inr (behind_f x w)))
      ]
    ]
      where
        assoc : (newer_s ++ b ∷ between) ++ f ∷ older_s ≡ stack_of
        assoc = append_assoc newer_s (b ∷ between) (f ∷ older_s)

        behind_f : (x : ℕ) → Before stack_of f x → IsIn x older_s
        behind_f x w = older (newer_s ++ b ∷ between) older_s f x (subst Distinct (sym assoc) may.distinct) (subst (λ z. Before z f x) (sym assoc) w)

    spot : (ys xs : List ℕ) → clones ≡ ys → to_clone list_of between ≡ xs → length ys ≡ length xs → Spot (first_or f ys) f t (replaced gives p) (replaced gives r)
    spot [] xs e v same = spot_f f t (replaced gives p) (replaced gives r) f_first
    spot (y ∷ ys) [] e v same = absurd (omega arith)
    spot (y ∷ ys) (x ∷ xs) e v same =
        let here : IsIn x (to_clone list_of between) = subst (IsIn x) (sym v) (inl refl) in
        let in_between = part_in x (to_clone list_of between) between (part_to_clone (λ m. is_in m (nodes_of list_of)) 3 between) here in
        let in_p = listed_before x in_between (to_clone_listed x 3 list_of between here) in
        spot_clone y f t (replaced gives p) (replaced gives r) (subst (IsIn y) (sym (nodes_replaced gives p)) (now_in gives (nodes_of p) x y in_p is_y))
      where
        is_y : gives x ≡ Some y
        is_y = ap (λ z. replaced_by between z clones x) v ∙ ap (λ z. replaced_by between (x ∷ xs) z x) e ∙ first
          where
            first : replaced_by between (x ∷ xs) (y ∷ ys) x ≡ Some y
            first = rw (eq-eqb x x refl) refl

    pub lists_round : Lists (round_stack newer_s c b clones older_s) (round_list f t between clones c list_of)
    lists_round =
        subst (λ z. Lists (round_stack newer_s c b clones older_s) (without_entry f (inserted_after (first_or f clones) (ElementEntry c t) z))) (sym list_is)
        (second_half newer_s older_s clones b f c t (replaced gives p) (replaced gives r) middle_distinct
        (λ i. c_new (subst (λ z. IsIn c (nodes_of z)) (sym list_is) i))
        (λ i. b_new (subst (λ z. IsIn b (nodes_of z)) (sym list_is) i))
        f_first
        (λ e. may.fresh.unopened c (inl refl) (subst (λ z. IsIn z stack_of) (sym e) f_open))
        (no_marker_replaced gives p may.unmarked)
        (spot clones (to_clone list_of between) refl refl may.as_many)
        (record { agrees = subst (Agrees middle_stack) list_is gave; alike = λ u. subst (FewAlike u) list_is (few_replaced u gives list_of (k.alike u)) }))
