-- A text gets the next number.
use Rattle.std.proofs.Common.{◌≡◌, ◌+◌, ◌<◌, ◌≤◌, ◌⊎◌, ℕ, cond, List, Option, None, Some, Result, Ok, Err, IfOk, OnErr, OnOk, IfSome, String, is_some, string_bytes, string_cmp, length, subst, refl, ap, sym, ◌∙◌, inl, inr, arith}
use Rattle.std.specs.BTreeMap.{BTreeMap, UpdatesBy, btree_map_len, get_by_text, is_at}
use Rattle.std.specs.Cmp.Lexicographic.{slice_cmp}
use Rattle.std.specs.Map.{lookup, update}
use Rattle.std.specs.Ordering.{nat_cmp}
use Rattle.std.specs.Str.{bytes_eq}
use Rattle.std.proofs.lemmas.Bool.{cases_Bool}
use Rattle.std.proofs.lemmas.Map.Text.{btree_map_updates_text}
use Rattle.std.proofs.lemmas.Option.{same_Some}
use Rattle.std.proofs.lemmas.Slice.Eq.{bytes_eq-Decides}
use Rattle.h5_builder_state.specs.Numberings.{IsNumbering}

-- a text got this number, and all others keep theirs
pub record Sets {Y : Type 0} (old new : BTreeMap (String Y) ℕ) (text : List ℕ) (number : ℕ) : Type 0 where
  pub sets : (one : List ℕ) → get_by_text new one ≡ update bytes_eq (get_by_text old) text (Some number) one

pub record At {Y : Type 0} (new : BTreeMap (String Y) ℕ) (text : List ℕ) (number : ℕ) (one : List ℕ) : Type 0 where
  pub is : one ≡ text
  pub has : get_by_text new one ≡ Some number

cases_set : {Y : Type 0} (old new : BTreeMap (String Y) ℕ) (text : List ℕ) (number : ℕ) → Sets old new text number → (one : List ℕ) → At new text number one ⊎ (get_by_text new one ≡ get_by_text old one)
cases_set old new text number s one = elim (cases_Bool (bytes_eq text one)) [
  | inl y ↦ inl (record { is = sym ((bytes_eq-Decides text one).0 y); has = s.sets one ∙ ap (λ b. cond b (Some number) (get_by_text old one)) y })
  | inr n ↦ inr (s.sets one ∙ ap (λ b. cond b (Some number) (get_by_text old one)) n)
]

pub set_here : {Y : Type 0} (old new : BTreeMap (String Y) ℕ) (text : List ℕ) (number : ℕ) → Sets old new text number → get_by_text new text ≡ Some number
set_here old new text number s = s.sets text ∙ ap (λ b. cond b (Some number) (get_by_text old text)) ((bytes_eq-Decides text text).1 refl)

pub set_other : {Y : Type 0} (old new : BTreeMap (String Y) ℕ) (text : List ℕ) (number : ℕ) → Sets old new text number → (one : List ℕ) → (one ≡ text → ⊥) → get_by_text new one ≡ get_by_text old one
set_other old new text number s one d = elim (cases_set old new text number s one) [ inl a ↦ absurd (d a.is) | inr e ↦ e ]

pub set_stays : {Y : Type 0} (old new : BTreeMap (String Y) ℕ) (text : List ℕ) (number : ℕ) → get_by_text old text ≡ None → Sets old new text number → (one : List ℕ) (n : ℕ) → get_by_text old one ≡ Some n → get_by_text new one ≡ Some n
set_stays old new text number none s one n h = elim (cases_set old new text number s one) [
  | inl a ↦ (let o = ap (λ t. get_by_text old t) a.is in absurd (cc))
  | inr e ↦ e ∙ h
]

module _ {Y : Type 0} (old new : BTreeMap (String Y) ℕ) (base : ℕ) (text : List ℕ) (number : ℕ) (next : number ≡ base + btree_map_len old) (count : btree_map_len new ≡ btree_map_len old + 1) (s : Sets old new text number) (k : IsNumbering old base) where
  apart : (one other : List ℕ) (n : ℕ) → get_by_text new one ≡ Some n → get_by_text new other ≡ Some n → one ≡ other
  apart one other n h i = elim (cases_set old new text number s one) [
    | inl a ↦ (elim (cases_set old new text number s other) [
      | inl b ↦ a.is ∙ sym b.is
      | inr e ↦ (let same = same_Some number n (sym a.has ∙ h) in let low = (k.known other n (sym e ∙ i)).1 in absurd (omega (arith, same, low, next)))
    ])
    | inr d ↦ (elim (cases_set old new text number s other) [
      | inl b ↦ (let same = same_Some number n (sym b.has ∙ i) in let low = (k.known one n (sym d ∙ h)).1 in absurd (omega (arith, same, low, next)))
      | inr e ↦ k.apart one other n (sym d ∙ h) (sym e ∙ i)
    ])
  ]

  known : (one : List ℕ) (n : ℕ) → get_by_text new one ≡ Some n → (base ≤ n) × (n < base + btree_map_len new)
  known one n h = elim (cases_set old new text number s one) [
    | inl a ↦ (let same = same_Some number n (sym a.has ∙ h) in (omega (arith, same, next), omega (arith, same, next, count)))
    | inr d ↦ (let low = k.known one n (sym d ∙ h) in (low.0, omega (arith, low.1, count)))
  ]

  pub numbered_more : IsNumbering new base
  numbered_more = record { known = known; apart = apart }

-- a map that has nothing
pub numbered_none : {Y : Type 0} (m : BTreeMap (String Y) ℕ) (base : ℕ) → ((one : List ℕ) → get_by_text m one ≡ None) → IsNumbering m base
numbered_none m base none = record {
  known = λ one n h. (let e = none one in absurd (cc));
  apart = λ one other n h i. (let e = none one in absurd (cc));
}

-- a map that says the same
pub numbered_same : {Y : Type 0} (m n : BTreeMap (String Y) ℕ) (base : ℕ) → ((one : List ℕ) → get_by_text n one ≡ get_by_text m one) → btree_map_len n ≡ btree_map_len m → IsNumbering m base → IsNumbering n base
numbered_same m n base e l k = record {
  known = λ one number h. (let low = k.known one number (sym (e one) ∙ h) in (low.0, omega (arith, low.1, l)));
  apart = λ one other number h i. k.apart one other number (sym (e one) ∙ h) (sym (e other) ∙ i);
}

-- what an insert does, that is refused or not
pub set_of : {Y : Type 0} (old new : BTreeMap (String Y) ℕ) (text : List ℕ) (number : ℕ) (key : String Y) → string_bytes key ≡ text
    → UpdatesBy string_cmp (λ k. slice_cmp nat_cmp (string_bytes key) (string_bytes k)) old new (Some number) → Sets old new text number
set_of old new text number key e u =
    record { sets = λ one. subst (λ bs. get_by_text new one ≡ update bytes_eq (get_by_text old) bs (Some number) one) e (btree_map_updates_text (string_bytes key) old new (Some number) u one) }

pub after_insert : {Y E : Type 0} (r : Result (Option ℕ) E) (old new : BTreeMap (String Y) ℕ) (base : ℕ) (text bytes : List ℕ) (number : ℕ) → bytes ≡ text → get_by_text old text ≡ None → number ≡ base + btree_map_len old
    → OnOk r (Sets old new text number) → IfOk r (λ o. o ≡ get_by_text old bytes) → IfOk r (λ o. btree_map_len new ≡ btree_map_len old + cond (is_some o) 0 1) → OnErr r (new.entries ≡ old.entries)
    → IsNumbering old base → IsNumbering new base
after_insert (Ok o) old new base text bytes number same none next s was len e k =
    let absent : o ≡ None = was ∙ ap (λ t. get_by_text old t) same ∙ none in
    let more : btree_map_len new ≡ btree_map_len old + 1 = len ∙ ap (λ z. btree_map_len old + cond (is_some z) 0 1) absent in
    numbered_more old new base text number next more s k
after_insert (Err x) old new base text bytes number same none next s was len e k =
    numbered_same old new base (λ one. ap (λ es. lookup (is_at (λ q. slice_cmp nat_cmp one (string_bytes q))) es) e) (ap (λ es. length es) e) k

-- and the number that comes next is one more, or the same where it is refused
pub one_more : {Y : Type 0} (o : Option ℕ) (old new : BTreeMap (String Y) ℕ) (base : ℕ) (text bytes : List ℕ) → bytes ≡ text → get_by_text old text ≡ None → o ≡ get_by_text old bytes
    → btree_map_len new ≡ btree_map_len old + cond (is_some o) 0 1 → base + btree_map_len new ≡ base + btree_map_len old + 1
one_more o old new base text bytes same none was len =
    let absent : o ≡ None = was ∙ ap (λ t. get_by_text old t) same ∙ none in
    let more : btree_map_len new ≡ btree_map_len old + 1 = len ∙ ap (λ z. btree_map_len old + cond (is_some z) 0 1) absent in
    omega (arith, more)

-- a number that is found
pub found_above : {Y : Type 0} (o : Option ℕ) (m : BTreeMap (String Y) ℕ) (base : ℕ) (text : List ℕ) → o ≡ get_by_text m text → IsNumbering m base → IfSome o (λ n. base ≤ n)
found_above None m base text e k = tt
found_above (Some n) m base text e k = (k.known text n (sym e)).0

pub found_below : {Y : Type 0} (o : Option ℕ) (m : BTreeMap (String Y) ℕ) (base : ℕ) (text : List ℕ) → o ≡ get_by_text m text → IsNumbering m base → IfSome o (λ n. n < base + btree_map_len m)
found_below None m base text e k = tt
found_below (Some n) m base text e k = (k.known text n (sym e)).1
