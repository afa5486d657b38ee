-- What holds for each entry, after a change.
use Rattle.std.proofs.Common.{◌≡◌, ℕ, Bool, true, false, cond, List, [], ◌∷◌, ◌++◌, Option, Some, None, refl, subst}
use Rattle.std.specs.Prelude.{◌==◌, nat_le}
use Rattle.h5_token.specs.TokenText.{TagText}
use Rattle.h5_builder_spec.specs.formatting.Adoption.{entry_as, inserted_after, replaced, replaced_by, round_list, to_clone}
use Rattle.h5_builder_spec.specs.formatting.FormattingList.{EachEntry, ElementEntry, Entry, MarkerEntry, clear_to_marker, closed_front, count_alike, is_alike, made_anew, open_rest, push_formatting, reconstructed, without_earliest, without_entry}
use Rattle.h5_builder_spec.specs.stack.Order.{first_or, is_in}

pub each_append : (P : ℕ → TagText → Type 0) (a b : List Entry) → EachEntry P a → EachEntry P b → EachEntry P (a ++ b)
each_append P [] b h k = k
each_append P (MarkerEntry ∷ a) b h k = each_append P a b h k
each_append P (ElementEntry n t ∷ a) b h k = (h.0, each_append P a b h.1 k)

pub each_more : (P Q : ℕ → TagText → Type 0) (l : List Entry) → ((n : ℕ) (t : TagText) → P n t → Q n t) → EachEntry P l → EachEntry Q l
each_more P Q [] f h = tt
each_more P Q (MarkerEntry ∷ l) f h = each_more P Q l f h
each_more P Q (ElementEntry n t ∷ l) f h = (f n t h.0, each_more P Q l f h.1)

pub each_cleared : (P : ℕ → TagText → Type 0) (l : List Entry) → EachEntry P l → EachEntry P (clear_to_marker l)
each_cleared P [] h = h
each_cleared P (MarkerEntry ∷ l) h = h
each_cleared P (ElementEntry n t ∷ l) h = each_cleared P l h.1

pub each_without_entry : (P : ℕ → TagText → Type 0) (m : ℕ) (l : List Entry) → EachEntry P l → EachEntry P (without_entry m l)
each_without_entry P m [] h = h
each_without_entry P m (MarkerEntry ∷ l) h = each_without_entry P m l h
each_without_entry P m (ElementEntry n t ∷ l) h = at (n == m) (each_without_entry P m l h.1)
  where
    at : (b : Bool) → EachEntry P (without_entry m l) → EachEntry P (cond b l (ElementEntry n t ∷ without_entry m l))
    at true k = h.1
    at false k = (h.0, k)

each_earliest : (P : ℕ → TagText → Type 0) (u : TagText) (l : List Entry) → EachEntry P l → EachEntry P (without_earliest u l)
each_earliest P u [] h = h
each_earliest P u (MarkerEntry ∷ l) h = h
each_earliest P u (ElementEntry n t ∷ l) h = at (count_alike u l == 0) (is_alike u t) (each_earliest P u l h.1)
  where
    at : (a b : Bool) → EachEntry P (without_earliest u l) → EachEntry P (cond a (cond b l (ElementEntry n t ∷ l)) (ElementEntry n t ∷ without_earliest u l))
    at true true k = h.1
    at true false k = h
    at false b k = (h.0, k)

pub each_push_formatting : (P : ℕ → TagText → Type 0) (n : ℕ) (t : TagText) (l : List Entry) → P n t → EachEntry P l → EachEntry P (push_formatting n t l)
each_push_formatting P n t l p h = (p, at (nat_le 3 (count_alike t l)))
  where
    at : (b : Bool) → EachEntry P (cond b (without_earliest t l) l)
    at true = each_earliest P t l h
    at false = h

each_rest : (P : ℕ → TagText → Type 0) (s : List ℕ) (l : List Entry) → EachEntry P l → EachEntry P (open_rest s l)
each_rest P s [] h = h
each_rest P s (MarkerEntry ∷ l) h = h
each_rest P s (ElementEntry n t ∷ l) h = at (is_in n s) (each_rest P s l h.1)
  where
    at : (b : Bool) → EachEntry P (open_rest s l) → EachEntry P (cond b (ElementEntry n t ∷ l) (open_rest s l))
    at true k = h
    at false k = k

pub each_reconstructed : (P : ℕ → TagText → Type 0) (fresh s : List ℕ) (l : List Entry) → EachEntry P (made_anew fresh (closed_front s l)) → EachEntry P l → EachEntry P (reconstructed fresh s l)
each_reconstructed P fresh s l new h = each_append P (made_anew fresh (closed_front s l)) (open_rest s l) new (each_rest P s l h)

pub each_replaced : (P Q : ℕ → TagText → Type 0) (w : ℕ → Option ℕ) (l : List Entry) → ((n m : ℕ) (t : TagText) → P n t → w n ≡ Some m → Q m t) → EachEntry P l → EachEntry Q (replaced w l)
each_replaced P Q w [] f h = tt
each_replaced P Q w (MarkerEntry ∷ l) f h = each_replaced P Q w l f h
each_replaced P Q w (ElementEntry n t ∷ l) f h = at (w n) refl (each_replaced P Q w l f h.1)
  where
    at : (o : Option ℕ) → w n ≡ o → EachEntry Q (replaced w l) → EachEntry Q (entry_as o t (replaced w l))
    at None e k = k
    at (Some m) e k = (f n m t h.0 e, k)

pub each_inserted_after : (P : ℕ → TagText → Type 0) (a c : ℕ) (u : TagText) (l : List Entry) → P c u → EachEntry P l → EachEntry P (inserted_after a (ElementEntry c u) l)
each_inserted_after P a c u [] p h = h
each_inserted_after P a c u (MarkerEntry ∷ l) p h = each_inserted_after P a c u l p h
each_inserted_after P a c u (ElementEntry n t ∷ l) p h = at (n == a) (each_inserted_after P a c u l p h.1)
  where
    at : (b : Bool) → EachEntry P (inserted_after a (ElementEntry c u) l) → EachEntry P (cond b (ElementEntry c u ∷ ElementEntry n t ∷ l) (ElementEntry n t ∷ inserted_after a (ElementEntry c u) l))
    at true k = (p, h)
    at false k = (h.0, k)

-- after a round something holds for each entry, if it does of each that stays, of each clone with the tag of its
-- original, and of the clone of f
pub each_round : (P Q : ℕ → TagText → Type 0) (f : ℕ) (u : TagText) (between clones : List ℕ) (c : ℕ) (l : List Entry)
    → ((n m : ℕ) (t : TagText) → P n t → replaced_by between (to_clone l between) clones n ≡ Some m → Q m t) → Q c u → EachEntry P l → EachEntry Q (round_list f u between clones c l)
each_round P Q f u between clones c l gives p h =
    each_without_entry Q f (inserted_after (first_or f clones) (ElementEntry c u) (replaced (replaced_by between (to_clone l between) clones) l))
    (each_inserted_after Q (first_or f clones) c u (replaced (replaced_by between (to_clone l between) clones) l) p (each_replaced P Q (replaced_by between (to_clone l between) clones) l gives h))

-- what holds for the tags alone
pub each_tag_anew : (Q : TagText → Type 0) (s ms : List ℕ) (l : List Entry) → EachEntry (λ n t. Q t) l → EachEntry (λ n t. Q t) (made_anew ms (closed_front s l))
each_tag_anew Q s ms l h = anew ms (closed_front s l) (front l h)
  where
    anew : (ms : List ℕ) (e : List Entry) → EachEntry (λ n t. Q t) e → EachEntry (λ n t. Q t) (made_anew ms e)
    anew [] e h = tt
    anew (m ∷ ms) [] h = tt
    anew (m ∷ ms) (MarkerEntry ∷ e) h = tt
    anew (m ∷ ms) (ElementEntry n t ∷ e) h = (h.0, anew ms e h.1)

    front : (l : List Entry) → EachEntry (λ n t. Q t) l → EachEntry (λ n t. Q t) (closed_front s l)
    front [] h = h
    front (MarkerEntry ∷ l) h = tt
    front (ElementEntry n t ∷ l) h = at (is_in n s) (front l h.1)
      where
        at : (b : Bool) → EachEntry (λ n t. Q t) (closed_front s l) → EachEntry (λ n t. Q t) (cond b [] (ElementEntry n t ∷ closed_front s l))
        at true k = tt
        at false k = (h.0, k)

pub each_tag_reconstructed : (Q : TagText → Type 0) (fresh s : List ℕ) (l : List Entry) → EachEntry (λ n t. Q t) l → EachEntry (λ n t. Q t) (reconstructed fresh s l)
each_tag_reconstructed Q fresh s l h = each_reconstructed (λ n t. Q t) fresh s l (each_tag_anew Q s fresh l h) h

-- of a listed element it holds, with the tag of its entry
each_back : (P : ℕ → TagText → Type 0) (p r : List Entry) → EachEntry P (p ++ r) → EachEntry P r
each_back P [] r h = h
each_back P (MarkerEntry ∷ p) r h = each_back P p r h
each_back P (ElementEntry n t ∷ p) r h = each_back P p r h.1

pub each_at : (P : ℕ → TagText → Type 0) (p r l : List Entry) (n : ℕ) (t : TagText) → l ≡ p ++ ElementEntry n t ∷ r → EachEntry P l → P n t
each_at P p r l n t e h = (each_back P p (ElementEntry n t ∷ r) (subst (EachEntry P) e h)).0
