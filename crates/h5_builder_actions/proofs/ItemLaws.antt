-- Items of lists.
use Rattle.std.proofs.Common.{◌≡◌, ◌+◌, ◌≤◌, arith, length, length-append, sym, ℕ, Bool, true, false, cond, not, ◌&&◌, ◌||◌, Some, None, List, [], ◌∷◌, ◌++◌, refl, ap, ◌∙◌}
use Rattle.h5_names.specs.AttributeText.{is_same_text}
use Rattle.h5_names.specs.declared.qualified.QualName.{QualName}
use Rattle.h5_tables.specs.TagSets.{html_namespace, is_foreign_special, is_one_of, is_special, special_names}
use Rattle.h5_builder_spec.specs.stack.Closing.{ends_item_search, is_html_among, newest_item, passed_names}
use Rattle.h5_builder_spec.specs.modes.InBody.{description_names, list_item_names}
use Rattle.std.specs.List.{list_any}
use Rattle.std.proofs.lemmas.Slice.Eq.{bytes_eq-Decides}
use Rattle.h5_builder_state.specs.Newest.{newest_where}
use Rattle.h5_builder_state.proofs.NewestLaws.{newest_le}
use Rattle.h5_builder_actions.specs.Items.{item_names}
use Rattle.h5_builder_actions.specs.declared.list_items.ItemKind.{ItemKind}
use Rattle.h5_builder_actions.specs.declared.list_items.ItemKind.TheVariants as kinds

-- where all of some names are among others, what is none of those is none of these
none_within : (set other : List (List ℕ)) (l : List ℕ) → list_any (λ s. not (is_one_of other s)) set ≡ false → is_one_of other l ≡ false → is_one_of set l ≡ false
none_within [] other l h e = refl
none_within (s ∷ set) other l h e = at (is_one_of other s) refl (is_same_text s l) refl h (none_within set other l)
  where
    at : (a : Bool) → is_one_of other s ≡ a → (b : Bool) → is_same_text s l ≡ b → (not a || list_any (λ t. not (is_one_of other t)) set) ≡ false
        → (list_any (λ t. not (is_one_of other t)) set ≡ false → is_one_of other l ≡ false → is_one_of set l ≡ false) → (b || is_one_of set l) ≡ false
    at false i b j k f = absurd (cc)
    at true i true j k f = absurd (let same = (bytes_eq-Decides s l).0 j in let out = ap (is_one_of other) same in cc)
    at true i false j k f = f k e

-- items are special elements
special_items : (kind : ItemKind) → list_any (λ s. not (is_one_of special_names s)) (item_names kind) ≡ false
unfolding list_item_names description_names special_names
special_items kinds.ListItem = refl
special_items kinds.Description = refl

-- if none of some names is among others, what is one of those is none of these
none_apart : (set other : List (List ℕ)) (l : List ℕ) → list_any (λ s. is_one_of other s) set ≡ false → is_one_of other l ≡ true → is_one_of set l ≡ false
none_apart [] other l h e = refl
none_apart (s ∷ set) other l h e = at (is_one_of other s) refl (is_same_text s l) refl h (none_apart set other l)
  where
    at : (a : Bool) → is_one_of other s ≡ a → (b : Bool) → is_same_text s l ≡ b → (a || list_any (λ t. is_one_of other t) set) ≡ false
        → (list_any (λ t. is_one_of other t) set ≡ false → is_one_of other l ≡ true → is_one_of set l ≡ false) → (b || is_one_of set l) ≡ false
    at true i b j k f = absurd (cc)
    at false i true j k f = absurd (let same = (bytes_eq-Decides s l).0 j in let out = ap (is_one_of other) same in cc)
    at false i false j k f = f k e

apart_items : (kind : ItemKind) → list_any (λ s. is_one_of passed_names s) (item_names kind) ≡ false
unfolding list_item_names description_names passed_names
apart_items kinds.ListItem = refl
apart_items kinds.Description = refl

-- an item ends the search for one
pub other_passed : (kind : ItemKind) (n : QualName) → ends_item_search n ≡ false → is_html_among (item_names kind) n ≡ false
unfolding is_special
other_passed kind n h = at (is_same_text n.ns html_namespace) (is_one_of special_names n.local) refl (is_foreign_special n) (is_one_of passed_names n.local) refl h
  where
    at : (a b : Bool) → is_one_of special_names n.local ≡ b → (c d : Bool) → is_one_of passed_names n.local ≡ d → (((a && b) || c) && not (a && d)) ≡ false → (a && is_one_of (item_names kind) n.local) ≡ false
    at false b e c d f k = refl
    at true false e c d f k = none_within (item_names kind) special_names n.local (special_items kind) e
    at true true e c true f k = none_apart (item_names kind) passed_names n.local (apart_items kind) f
    at true true e c false f k = absurd (cc)

later_item : (kind : ItemKind) (n : QualName) (ns : List QualName) → ends_item_search n ≡ false → is_html_among (item_names kind) n ≡ false → newest_item (item_names kind) (n ∷ ns) ≡ newest_item (item_names kind) ns
later_item kind n ns e h =
    ap (λ b. cond b (Some n.local) (cond (ends_item_search n) None (newest_item (item_names kind) ns))) h ∙ ap (λ b. cond b None (newest_item (item_names kind) ns)) e

-- so the search finds one exactly if it ends at one
pub item_none : (kind : ItemKind) (names : List QualName) → newest_where ends_item_search names ≡ 0 → newest_item (item_names kind) names ≡ None
item_none kind [] h = refl
item_none kind (n ∷ ns) h = at (ends_item_search n) refl h (other_passed kind n) (item_none kind ns)
  where
    at : (b : Bool) → ends_item_search n ≡ b → cond b (length ns + 1) (newest_where ends_item_search ns) ≡ 0 → (ends_item_search n ≡ false → is_html_among (item_names kind) n ≡ false)
        → (newest_where ends_item_search ns ≡ 0 → newest_item (item_names kind) ns ≡ None) → newest_item (item_names kind) (n ∷ ns) ≡ None
    at true e k out f = absurd (omega (arith, k))
    at false e k out f = later_item kind n ns e (out e) ∙ f k

pub item_some : (kind : ItemKind) (names newer older : List QualName) (n : QualName) → names ≡ newer ++ n ∷ older → newest_where ends_item_search names ≡ length older + 1
    → newest_item (item_names kind) names ≡ cond (is_html_among (item_names kind) n) (Some n.local) None
item_some kind [] newer older n e h = absurd (omega (arith, h))
item_some kind (m ∷ ns) [] older n e h =
    let here : m ≡ n = cc in
    let rest : ns ≡ older = cc in
    at (ends_item_search m) refl (h ∙ ap (λ (z : List QualName). length z + 1) (sym rest)) here
  where
    at : (b : Bool) → ends_item_search m ≡ b → cond b (length ns + 1) (newest_where ends_item_search ns) ≡ length ns + 1 → m ≡ n → newest_item (item_names kind) (m ∷ ns) ≡ cond (is_html_among (item_names kind) n) (Some n.local) None
    at true i k same = ap (λ b. cond (is_html_among (item_names kind) m) (Some m.local) (cond b None (newest_item (item_names kind) ns))) i ∙ ap (λ z. cond (is_html_among (item_names kind) z) (Some z.local) None) same
    at false i k same = absurd (omega (arith, k, newest_le ends_item_search ns))
item_some kind (m ∷ ns) (j ∷ newer) older n e h =
    let rest : ns ≡ newer ++ n ∷ older = cc in
    at (ends_item_search m) refl h (omega (arith, ap (λ (z : List QualName). length z) rest, length-append newer (n ∷ older))) (other_passed kind m) (item_some kind ns newer older n rest)
  where
    at : (b : Bool) → ends_item_search m ≡ b → cond b (length ns + 1) (newest_where ends_item_search ns) ≡ length older + 1 → length older + 1 ≤ length ns → (ends_item_search m ≡ false → is_html_among (item_names kind) m ≡ false)
        → (newest_where ends_item_search ns ≡ length older + 1 → newest_item (item_names kind) ns ≡ cond (is_html_among (item_names kind) n) (Some n.local) None)
        → newest_item (item_names kind) (m ∷ ns) ≡ cond (is_html_among (item_names kind) n) (Some n.local) None
    at true i k le out f = absurd (omega (arith, k, le))
    at false i k le out f = later_item kind m ns i (out i) ∙ f k
