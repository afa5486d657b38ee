-- What is left of attributes.
use Rattle.std.proofs.Common.{◌≡◌, ℕ, ◌&&◌, ◌||◌, Bool, true, false, not, List, [], ◌∷◌, ◌++◌, None, Some, is_some, codes, if◌then◌else◌, string_bytes, refl, sym, ap, ap₂, ◌∙◌, subst, append_assoc, append-nil}
use Rattle.std.proofs.lemmas.Bool.{and_from, and_left, and_parts, and_right, cond_both, cond-false, cond-true, false≢true, not-true, or_from, or_left, or_parts}
use Rattle.std.proofs.lemmas.Cmp.{nat_list_eq_equiv}
use Rattle.std.proofs.lemmas.List.{map-append}
use Rattle.std.proofs.lemmas.List.Folds.{list_any-append}
use Rattle.std.specs.List.{list_all, starts_with}
use Rattle.std.specs.Option.{option_eq}
use Rattle.std.specs.Prelude.{Option, nat_eq}
use Rattle.std.specs.Str.{is_utf8}
use Rattle.h5_names.specs.AttributeText.{AttributeText, attribute_text, attribute_texts, is_same_name, is_same_text}
use Rattle.h5_names.specs.declared.qualified.Attribute.{Attribute}
use Rattle.h5_names.specs.declared.qualified.QualName.{QualName}
use Rattle.h5_interface.specs.Changes.{has_attribute}
use Rattle.h5_tables.specs.TagSets.{is_one_of}
use Rattle.h5_builder_laws.specs.Plain.{ArePlain}
use Rattle.h5_clean.specs.Policies.{ArePrefixed, MayStay, Rules, RunNoScripts, acting_names, as_left, attributes_left, bare, id_list_names, id_names, is_name, is_refused, keeps, left_behind, may_act, may_stay, named_behind, prefix_of, refused_names, rel_of, sets, stays, value_left}
use Rattle.h5_round_trip.specs.Readable.{AreNameBytes, AreReadable, IsName, IsReadable, is_name_byte}
use Rattle.h5_clean.specs.AllowLists.{LeadWell, Table, holds_url, is_listed, has_classes, keeps_listed, leads_well, table_rules}
use Rattle.h5_clean.specs.Texts.{readable}
use Rattle.h5_clean.specs.Urls.{is_script, is_url_name, scheme_of, url_names}
use Rattle.h5_clean.proofs.PrefixLaws.{value_begins, value_named, value_reads, value_same}
use Rattle.h5_clean.proofs.TextLaws.{readable_reads, reads_utf8}

-- ---- one attribute more

-- it stays by these tests
pub stays_by : (r : Rules) (e : List ℕ) (before : List AttributeText) (a : AttributeText) → is_same_text a.name.ns [] ≡ true → may_stay r a.name.local ≡ true → is_utf8 (value_left r a.name.local a.value) ≡ true
    → keeps r e a.name.local (value_left r a.name.local a.value) ≡ true → sets r e a.name.local ≡ false → has_attribute (bare a.name.local) before ≡ false → stays r e before a ≡ true
stays_by r e before a space named utf8 kept unset none =
    and_from _ _ space (and_from _ _ named (and_from _ _ utf8 (and_from _ _ kept (and_from _ _ (ap not unset) (ap not none)))))

pub put_last : (xs ys : List Attribute) (x : Attribute) (name : QualName) (value : List ℕ) → ys ≡ xs ++ x ∷ [] → x.name ≡ name → string_bytes x.value ≡ value
    → attribute_texts ys ≡ attribute_texts xs ++ record { name = name; value = value } ∷ []
put_last xs ys x name value e n v =
    ap attribute_texts e ∙ map-append attribute_text xs (x ∷ [])
    ∙ ap₂ (λ (m : QualName) (w : List ℕ). attribute_texts xs ++ record { name = m; value = w } ∷ []) n v

-- ---- names

same_text : (x y : List ℕ) → is_same_text x y ≡ is_same_text y x
same_text = nat_list_eq_equiv.symm

same_prefix : (p q : Option (List ℕ)) → option_eq is_same_text p q ≡ option_eq is_same_text q p
same_prefix None None = refl
same_prefix None (Some y) = refl
same_prefix (Some x) None = refl
same_prefix (Some x) (Some y) = same_text x y

-- names are alike either way
same_name : (x y : QualName) → is_same_name x y ≡ is_same_name y x
same_name x y = ap₂ (λ a b. a && b) (same_prefix x.prefix y.prefix) (ap₂ (λ a b. a && b) (same_text x.ns y.ns) (same_text x.local y.local))

name_bytes : (name : List ℕ) → list_all is_name_byte name ≡ true → AreNameBytes name
name_bytes [] h = tt
name_bytes (x ∷ xs) h = let p = and_parts (is_name_byte x) _ h in (p.0, name_bytes xs p.1)

is_name_so : (name : List ℕ) → is_name name ≡ true → IsName name
is_name_so [] h = absurd (false≢true h)
is_name_so (x ∷ xs) h = name_bytes (x ∷ xs) h

-- ---- attributes as they are left

-- one that stays as it is, if none before it has its name
record Kept (r : Rules) (e : List ℕ) (a : AttributeText) : Type 0 where
  bare_name : a.name ≡ bare a.name.local
  may : may_stay r a.name.local ≡ true
  reads : IsReadable a.value
  behind : named_behind (prefix_of r.prefix) r.classes a.name.local a.value ≡ a.value
  begins : is_one_of id_names a.name.local ≡ true → starts_with nat_eq a.value (prefix_of r.prefix) ≡ true
  stays_kept : keeps r e a.name.local a.value ≡ true
  unset : sets r e a.name.local ≡ false

abbrev AreKept : Rules → List ℕ → List AttributeText → Type 0
AreKept r e [] = Unit {0}
AreKept r e (a ∷ attrs) = Kept r e a × AreKept r e attrs

-- what stands before others
record Left (r : Rules) (e : List ℕ) (before : List AttributeText) : Type 0 where
  kept : AreKept r e before
  plain : ArePlain before

kept_more : (r : Rules) (e : List ℕ) (before : List AttributeText) (a : AttributeText) → AreKept r e before → Kept r e a → AreKept r e (before ++ a ∷ [])
kept_more r e [] a k one = (one, tt)
kept_more r e (b ∷ before) a k one = (k.0, kept_more r e before a k.1 one)

plain_more : (before : List AttributeText) (a : AttributeText) → ArePlain before → a.name.prefix ≡ None → a.name.ns ≡ [] → has_attribute a.name before ≡ false → ArePlain (before ++ a ∷ [])
plain_more [] a p q w n = (q, (w, (refl, tt)))
plain_more (b ∷ before) a p q w n =
    let parts = or_parts (is_same_name b.name a.name) (has_attribute a.name before) n in
    let none : has_attribute b.name (before ++ a ∷ []) ≡ false =
    list_any-append (λ (x : AttributeText). is_same_name x.name b.name) before (a ∷ [])
    ∙ or_from _ _ p.1.1.0 (or_from _ _ (same_name a.name b.name ∙ parts.0) refl) in
    (p.0, (p.1.0, (none, plain_more before a p.1.1.1 q w parts.1)))

one_more : (r : Rules) (e : List ℕ) (before : List AttributeText) (a : AttributeText) → Left r e before → stays r e before a ≡ true → Left r e (before ++ as_left r a ∷ [])
one_more r e before a l h =
    let space = and_parts (is_same_text a.name.ns []) _ h in
    let name = and_parts (may_stay r a.name.local) _ space.1 in
    let utf8 = and_parts (is_utf8 (value_left r a.name.local a.value)) _ name.1 in
    let kept = and_parts (keeps r e a.name.local (value_left r a.name.local a.value)) _ utf8.1 in
    let unset = and_parts (not (sets r e a.name.local)) _ kept.1 in
    record {
      kept = kept_more r e before (as_left r a) l.kept
          (record {
            bare_name = refl;
            may = name.0;
            reads = value_reads r a.name.local a.value utf8.0;
            behind = value_named r a.name.local a.value;
            begins = value_begins r a.name.local a.value;
            stays_kept = kept.0;
            unset = not-true _ unset.0;
          });
      plain = plain_more before (as_left r a) l.plain refl refl (not-true _ unset.1);
    }

stand : (r : Rules) (e : List ℕ) (before attrs : List AttributeText) → Left r e before → Left r e (left_behind r e before attrs)
stand r e before [] l = l
stand r e before (a ∷ attrs) l =
    stand r e (if stays r e before a then before ++ as_left r a ∷ [] else before) attrs
    (cond_both (stays r e before a) (before ++ as_left r a ∷ []) before (λ b. Left r e b) (λ h. one_more r e before a l h) (λ h. l))

-- ---- the `rel` that is set

abbrev rel : List ℕ → AttributeText
rel value = record { name = bare (codes "rel"); value = readable value }

-- none that is left has its name
no_rel : (r : Rules) (e value : List ℕ) (before : List AttributeText) → is_same_text e (codes "a") ≡ true → r.rel ≡ Some value → AreKept r e before → has_attribute (bare (codes "rel")) before ≡ false
no_rel r e value [] h s k = refl
no_rel r e value (b ∷ before) h s k =
    or_from _ _ (by (is_same_text b.name.local (codes "rel")) refl) (no_rel r e value before h s k.1)
  where
    by : (v : Bool) → is_same_text b.name.local (codes "rel") ≡ v → is_same_name b.name (bare (codes "rel")) ≡ false
    by true t = absurd (false≢true (sym k.0.unset ∙ and_from _ _ h (and_from _ _ t (ap is_some s))))
    by false t = and_right _ _ (and_right _ _ t)

-- what holds without it, and with it, holds for all that is left
ending : (r : Rules) (e : List ℕ) (front : List AttributeText) (P : List AttributeText → Type 0) → P front
    → ((value : List ℕ) → is_same_text e (codes "a") ≡ true → r.rel ≡ Some value → is_utf8 value ≡ true → P (front ++ rel value ∷ []))
    → P (front ++ (if is_same_text e (codes "a") then rel_of r.rel else []))
ending r e front P none some = by (is_same_text e (codes "a")) refl r.rel refl
  where
    same : P (front ++ [])
    same = subst P (sym (append-nil front)) none

    by : (a : Bool) → is_same_text e (codes "a") ≡ a → (o : Option (List ℕ)) → r.rel ≡ o → P (front ++ (if a then rel_of o else []))
    by false t o s = same
    by true t None s = same
    by true t (Some value) s = cond_both (is_utf8 value) (rel value ∷ []) [] (λ end. P (front ++ end)) (some value t s) (λ u. same)

-- ---- all that is left

front : (r : Rules) (e : List ℕ) (attrs : List AttributeText) → Left r e (left_behind r e [] attrs)
front r e attrs = stand r e [] attrs (record { kept = tt; plain = tt })

pub left_plain : (r : Rules) (e : List ℕ) (attrs : List AttributeText) → ArePlain (attributes_left r e attrs)
left_plain r e attrs =
    let l = front r e attrs in
    ending r e (left_behind r e [] attrs) ArePlain l.plain
    (λ value h s u. plain_more (left_behind r e [] attrs) (rel value) l.plain refl refl (no_rel r e value _ h s l.kept))

readable_with : (r : Rules) (e : List ℕ) (before more : List AttributeText) → AreKept r e before → AreReadable more → AreReadable (before ++ more)
readable_with r e [] more k m = m
readable_with r e (a ∷ before) more k m = (is_name_so a.name.local (and_parts (is_name a.name.local) _ k.0.may).0, (k.0.reads, readable_with r e before more k.1 m))

pub left_readable : (r : Rules) (e : List ℕ) (attrs : List AttributeText) → AreReadable (attributes_left r e attrs)
left_readable r e attrs =
    let l = front r e attrs in
    ending r e (left_behind r e [] attrs) AreReadable
    (subst AreReadable (append-nil (left_behind r e [] attrs)) (readable_with r e (left_behind r e [] attrs) [] l.kept tt))
    (λ value h s u. readable_with r e (left_behind r e [] attrs) (rel value ∷ []) l.kept (is_name_so (codes "rel") refl, (readable_reads value u, tt)))

-- the attribute that is set has no id, refers to none, and may stay
rel_is_none : is_one_of id_names (codes "rel") ≡ false
unfolding id_names
rel_is_none = refl

rel_is_as_it_is : (p : List ℕ) (o : Option (List (List ℕ))) (value : List ℕ) → named_behind p o (codes "rel") value ≡ value
unfolding id_names id_list_names
rel_is_as_it_is p o value = refl

rel_may_act : (p : List ℕ) → may_act p (codes "rel") ≡ true
unfolding acting_names
rel_may_act [] = refl
rel_may_act (b ∷ p) = refl

rel_is_let : is_refused (codes "rel") ≡ false
unfolding refused_names
rel_is_let = refl

rel_may_stay : (r : Rules) → may_stay r (codes "rel") ≡ true
rel_may_stay r = and_from _ _ refl (and_from _ _ (ap not rel_is_let) (rel_may_act (prefix_of r.prefix)))

prefixed_with : (r : Rules) (e : List ℕ) (before more : List AttributeText) → AreKept r e before → ArePrefixed r more → ArePrefixed r (before ++ more)
prefixed_with r e [] more k m = m
prefixed_with r e (a ∷ before) more k m = (k.0.begins, (k.0.behind, prefixed_with r e before more k.1 m))

pub left_prefixed : (r : Rules) (e : List ℕ) (attrs : List AttributeText) → ArePrefixed r (attributes_left r e attrs)
left_prefixed r e attrs =
    let l = front r e attrs in
    ending r e (left_behind r e [] attrs) (ArePrefixed r)
    (subst (ArePrefixed r) (append-nil (left_behind r e [] attrs)) (prefixed_with r e (left_behind r e [] attrs) [] l.kept tt))
    (λ value h s u. prefixed_with r e (left_behind r e [] attrs) (rel value ∷ []) l.kept ((λ i. absurd (false≢true (sym rel_is_none ∙ i))), (rel_is_as_it_is (prefix_of r.prefix) r.classes (readable value), tt)))

may_with : (r : Rules) (e : List ℕ) (before more : List AttributeText) → AreKept r e before → MayStay r more → MayStay r (before ++ more)
may_with r e [] more k m = m
may_with r e (a ∷ before) more k m = (k.0.may, may_with r e before more k.1 m)

pub left_may : (r : Rules) (e : List ℕ) (attrs : List AttributeText) → MayStay r (attributes_left r e attrs)
left_may r e attrs =
    let l = front r e attrs in
    ending r e (left_behind r e [] attrs) (MayStay r)
    (subst (MayStay r) (append-nil (left_behind r e [] attrs)) (may_with r e (left_behind r e [] attrs) [] l.kept tt))
    (λ value h s u. may_with r e (left_behind r e [] attrs) (rel value ∷ []) l.kept (rel_may_stay r, tt))

-- ---- URLs

rel_holds_none : is_url_name (codes "rel") ≡ false
unfolding url_names
rel_holds_none = refl

no_script_with : (r : Rules) (e : List ℕ) (before more : List AttributeText) → AreKept r e before → RunNoScripts more → RunNoScripts (before ++ more)
no_script_with r e [] more k m = m
no_script_with r e (a ∷ before) more k m =
    (not-true _ (and_parts (not (is_url_name a.name.local && is_script (scheme_of a.value))) _ k.0.stays_kept).0, no_script_with r e before more k.1 m)

pub left_no_script : (r : Rules) (e : List ℕ) (attrs : List AttributeText) → RunNoScripts (attributes_left r e attrs)
left_no_script r e attrs =
    let l = front r e attrs in
    ending r e (left_behind r e [] attrs) RunNoScripts
    (subst RunNoScripts (append-nil (left_behind r e [] attrs)) (no_script_with r e (left_behind r e [] attrs) [] l.kept tt))
    (λ value h s u. no_script_with r e (left_behind r e [] attrs) (rel value ∷ []) l.kept (and_left _ _ rel_holds_none, tt))

-- by a table, each leads where the table says
one_leads : (t : Table) (e local value : List ℕ) → keeps_listed t e local value ≡ true → is_url_name local ≡ true → leads_well t.relative t.schemes value ≡ true
one_leads t e local value k u = by (holds_url t local) (or_left _ _ u) (and_parts (has_classes t local value) _ (and_parts (is_listed t e local) _ k).1).1
  where
    by : (holds : Bool) → holds ≡ true → (not holds || leads_well t.relative t.schemes value) ≡ true → leads_well t.relative t.schemes value ≡ true
    by true h g = g
    by false h g = absurd (false≢true h)

leads_with : (t : Table) (e : List ℕ) (before more : List AttributeText) → AreKept (table_rules t) e before → LeadWell t more → LeadWell t (before ++ more)
leads_with t e [] more k m = m
leads_with t e (a ∷ before) more k m =
    ((λ u. one_leads t e a.name.local a.value (and_parts (not (is_url_name a.name.local && is_script (scheme_of a.value))) _ k.0.stays_kept).1 u), leads_with t e before more k.1 m)

pub left_leads : (t : Table) (e : List ℕ) (attrs : List AttributeText) → LeadWell t (attributes_left (table_rules t) e attrs)
left_leads t e attrs =
    let r = table_rules t in
    let l = front r e attrs in
    ending r e (left_behind r e [] attrs) (LeadWell t)
    (subst (LeadWell t) (append-nil (left_behind r e [] attrs)) (leads_with t e (left_behind r e [] attrs) [] l.kept tt))
    (λ value h s u. leads_with t e (left_behind r e [] attrs) (rel value ∷ []) l.kept ((λ i. absurd (false≢true (sym rel_holds_none ∙ i))), tt))

-- ---- what was left is left again

pub left_append : (r : Rules) (e : List ℕ) (before attrs more : List AttributeText) → left_behind r e before (attrs ++ more) ≡ left_behind r e (left_behind r e before attrs) more
left_append r e before [] more = refl
left_append r e before (a ∷ attrs) more = left_append r e (if stays r e before a then before ++ as_left r a ∷ [] else before) attrs more

kept_value : (r : Rules) (e : List ℕ) (a : AttributeText) → Kept r e a → value_left r a.name.local a.value ≡ a.value
kept_value r e a k = value_same r a.name.local a.value k.reads k.behind

as_it_is : (r : Rules) (e : List ℕ) (a : AttributeText) → Kept r e a → as_left r a ≡ a
as_it_is r e a k = ap₂ (λ (n : QualName) (v : List ℕ). record { name = n; value = v }) (sym k.bare_name) (kept_value r e a k)

none_before : (before : List AttributeText) (a : AttributeText) (attrs : List AttributeText) → ArePlain (before ++ a ∷ attrs) → has_attribute a.name before ≡ false
none_before [] a attrs p = refl
none_before (b ∷ before) a attrs p =
    let apart = or_parts _ _ (sym (list_any-append (λ (x : AttributeText). is_same_name x.name b.name) before (a ∷ attrs)) ∙ p.1.1.0) in
    or_from _ _ (same_name b.name a.name ∙ (or_parts (is_same_name a.name b.name) _ apart.1).0) (none_before before a attrs p.1.1.1)

stays_again : (r : Rules) (e : List ℕ) (before : List AttributeText) (a : AttributeText) → Kept r e a → has_attribute a.name before ≡ false → stays r e before a ≡ true
stays_again r e before a k none =
    stays_by r e before a (ap (λ (n : QualName). is_same_text n.ns []) k.bare_name) k.may (ap is_utf8 (kept_value r e a k) ∙ reads_utf8 a.value k.reads)
    (ap (keeps r e a.name.local) (kept_value r e a k) ∙ k.stays_kept) k.unset (ap (λ n. has_attribute n before) (sym k.bare_name) ∙ none)

all_again : (r : Rules) (e : List ℕ) (before attrs : List AttributeText) → AreKept r e attrs → ArePlain (before ++ attrs) → left_behind r e before attrs ≡ before ++ attrs
all_again r e before [] k p = sym (append-nil before)
all_again r e before (a ∷ attrs) k p =
    ap (λ b. left_behind r e b attrs)
    (cond-true (stays r e before a) (before ++ as_left r a ∷ []) before (stays_again r e before a k.0 (none_before before a attrs p))
    ∙ ap (λ x. before ++ x ∷ []) (as_it_is r e a k.0))
    ∙ all_again r e (before ++ a ∷ []) attrs k.1 (subst ArePlain (sym (append_assoc before (a ∷ []) attrs)) p)
    ∙ append_assoc before (a ∷ []) attrs

-- the `rel` that is set doesn't stay: it is set again
rel_goes : (r : Rules) (e value : List ℕ) (before : List AttributeText) → is_same_text e (codes "a") ≡ true → r.rel ≡ Some value → left_behind r e before (rel value ∷ []) ≡ before
rel_goes r e value before h s =
    let goes : stays r e before (rel value) ≡ false =
    and_right (may_stay r (codes "rel")) _ (and_right (is_utf8 (value_left r (codes "rel") (readable value))) _ (and_right (keeps r e (codes "rel") (value_left r (codes "rel") (readable value))) _ (and_left _ _ (ap not (and_from _ _ h (ap is_some s)))))) in
    cond-false (stays r e before (rel value)) (before ++ as_left r (rel value) ∷ []) before goes

pub left_again : (r : Rules) (e : List ℕ) (attrs : List AttributeText) → attributes_left r e (attributes_left r e attrs) ≡ attributes_left r e attrs
left_again r e attrs =
    ap (λ l. l ++ (if is_same_text e (codes "a") then rel_of r.rel else []))
    (ending r e first (λ l. left_behind r e [] l ≡ first) again
    (λ value h s u. left_append r e [] first (rel value ∷ []) ∙ ap (λ b. left_behind r e b (rel value ∷ [])) again ∙ rel_goes r e value first h s))
  where
    first : List AttributeText
    first = left_behind r e [] attrs

    l : Left r e first
    l = front r e attrs

    again : left_behind r e [] first ≡ first
    again = all_again r e [] first l.kept l.plain
