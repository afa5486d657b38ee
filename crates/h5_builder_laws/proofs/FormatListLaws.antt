-- The list of active formatting elements as a formatting element is opened and closed.
use Rattle.std.proofs.Common.{◌≡◌, ℕ, ◌==◌, Bool, true, false, ◌||◌, nat_le, cond, List, [], ◌∷◌, None, Some, codes, refl, sym, subst}
use Rattle.std.proofs.lemmas.Bool.{eqb-true}
use Rattle.h5_names.specs.AttributeText.{AttributeText, is_same_text}
use Rattle.h5_token.specs.TokenText.{TagText}
use Rattle.h5_builder_spec.specs.formatting.Adoption.{newest_named}
use Rattle.h5_builder_spec.specs.formatting.FormattingList.{ElementEntry, Entry, MarkerEntry, count_alike, is_alike, nodes_of, push_formatting, without_earliest}
use Rattle.h5_builder_spec.specs.stack.Order.{is_in}
use Rattle.h5_builder_laws.proofs.ListedLaws.{AtMarker, Bottom, Entries, Fewer, IsBase, Kept, Lost, NoEntry, Passed, OpenFormat, Formats, has_link}
use Rattle.h5_builder_laws.proofs.RuleLaws.{start}
use Rattle.h5_builder_spec.proofs.BoolLaws.{neither_of}

both_not : (b c : Bool) → b ≡ false → c ≡ false → cond b true c ≡ false
both_not true c e f = absurd (cc)
both_not false c e f = f

-- where the earliest alike entry is removed, no element is listed that was not
pub dropped_fewer : (t : TagText) (l : List Entry) → Fewer (without_earliest t l) l
dropped_fewer t [] n h = h
dropped_fewer t (MarkerEntry ∷ l) n h = h
dropped_fewer t (ElementEntry m u ∷ l) n h = at (dropped_fewer t l) (count_alike t l == 0) (is_alike t u)
  where
    at : Fewer (without_earliest t l) l → (b a : Bool)
        → is_in n (nodes_of (cond b (cond a l (ElementEntry m u ∷ l)) (ElementEntry m u ∷ without_earliest t l))) ≡ false
    at rest true true = (neither_of (n == m) (is_in n (nodes_of l)) h).1
    at rest true false = h
    at rest false a =
        let x = neither_of (n == m) (is_in n (nodes_of l)) h in
        both_not (n == m) (is_in n (nodes_of (without_earliest t l))) x.0 (rest n x.1)

-- and the entries are still those of the open formatting elements
pub entries_dropped : {base : List Entry} {path : List OpenFormat} {l : List Entry} (t : TagText) → IsBase base → Entries base path l → Entries base path (without_earliest t l)
entries_dropped t NoEntry Bottom = Bottom
entries_dropped t AtMarker Bottom = Bottom
entries_dropped t k (Passed r) = Passed (entries_dropped t k r)
entries_dropped t k (Lost {n} {name} {path} {l} o r) = Lost (dropped_fewer t l n o) (entries_dropped t k r)
entries_dropped {base} t k (Kept {n} {name} {attrs} {path} {l} o r) = at (entries_dropped t k r) (count_alike t l == 0) (is_alike t (start name attrs))
  where
    at : Entries base path (without_earliest t l) → (b a : Bool)
        → Entries base (Formats n name ∷ path) (cond b (cond a l (ElementEntry n (start name attrs) ∷ l)) (ElementEntry n (start name attrs) ∷ without_earliest t l))
    at rest true true = Lost o r
    at rest true false = Kept o r
    at rest false a = Kept (dropped_fewer t l n o) rest

-- a new one is listed, and the earliest of three alike may go
pub entries_pushed : {base : List Entry} {path : List OpenFormat} {l : List Entry} (n : ℕ) (name : List ℕ) (attrs : List AttributeText) → IsBase base → is_in n (nodes_of l) ≡ false → Entries base path l
    → Entries base (Formats n name ∷ path) (push_formatting n (start name attrs) l)
entries_pushed {base} {path} {l} n name attrs k o r = at (nat_le 3 (count_alike (start name attrs) l))
  where
    at : (b : Bool) → Entries base (Formats n name ∷ path) (ElementEntry n (start name attrs) ∷ cond b (without_earliest (start name attrs) l) l)
    at true = Kept (dropped_fewer (start name attrs) l n o) (entries_dropped (start name attrs) k r)
    at false = Kept o r

-- so besides it no element is listed that was not
pub pushed_fewer : (n : ℕ) (t : TagText) (l : List Entry) (m : ℕ) → is_in m (nodes_of l) ≡ false → (m == n) ≡ false → is_in m (nodes_of (push_formatting n t l)) ≡ false
pushed_fewer n t l m h other = at (nat_le 3 (count_alike t l))
  where
    at : (b : Bool) → is_in m (n ∷ nodes_of (cond b (without_earliest t l) l)) ≡ false
    at true = both_not (m == n) (is_in m (nodes_of (without_earliest t l))) other (dropped_fewer t l m h)
    at false = both_not (m == n) (is_in m (nodes_of l)) other h

-- and once it is listed no more, none is
pub closed_fewer : (n : ℕ) (t : TagText) (l k : List Entry) → is_in n (nodes_of k) ≡ false → Fewer k (push_formatting n t l) → Fewer k l
closed_fewer n t l k o f m h = at (m == n) refl
  where
    at : (b : Bool) → (m == n) ≡ b → is_in m (nodes_of k) ≡ false
    at true e = subst (λ x. is_in x (nodes_of k) ≡ false) (sym (eqb-true m n e)) o
    at false e = f m (pushed_fewer n t l m h e)

-- the rest of a list has no more elements
pub rest_fewer : (n : ℕ) (t : TagText) (l m : List Entry) → Fewer (ElementEntry n t ∷ l) m → Fewer l m
rest_fewer n t l m f x h = (neither_of (x == n) (is_in x (nodes_of l)) (f x h)).1

-- outside of a link none is listed after the last marker
pub no_link_listed : {base : List Entry} {path : List OpenFormat} {l : List Entry} → IsBase base → Entries base path l → has_link path ≡ false → newest_named (codes "a") l ≡ None
no_link_listed NoEntry Bottom h = refl
no_link_listed AtMarker Bottom h = refl
no_link_listed k (Passed r) h = no_link_listed k r h
no_link_listed k (Lost {n} {name} {path} {l} o r) h = at (no_link_listed k r) (is_same_text name (codes "a")) h
  where
    at : (has_link path ≡ false → newest_named (codes "a") l ≡ None) → (b : Bool) → (b || has_link path) ≡ false → newest_named (codes "a") l ≡ None
    at rest true e = absurd (cc)
    at rest false e = rest e
no_link_listed k (Kept {n} {name} {attrs} {path} {l} o r) h = at (no_link_listed k r) (is_same_text name (codes "a")) h
  where
    at : (has_link path ≡ false → newest_named (codes "a") l ≡ None) → (b : Bool) → (b || has_link path) ≡ false
        → cond b (Some (record { node = n; tag = start name attrs })) (newest_named (codes "a") l) ≡ None
    at rest true e = absurd (cc)
    at rest false e = rest e
