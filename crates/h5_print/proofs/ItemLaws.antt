-- Items, from the last on.
use Rattle.std.proofs.Common.{◌≡◌, ℕ, ◌+◌, ◌<◌, true, false, ◌||◌, length, drop, get_or, List, [], ◌∷◌, ◌++◌, Option, Some, None, Result, Ok, Err, Vec, subst, refl, sym, ap, ◌∙◌}
use Rattle.std.specs.List.{list_any}
use Rattle.std.specs.Option.{option_map}
use Rattle.std.specs.Result.{IsErrAnd}
use Rattle.std.specs.declared.alloc.Global.{Global}
use Rattle.std.proofs.Math.Seq.{drop-length}
use Rattle.std.proofs.lemmas.List.{drop_more}
use Rattle.h5_names.specs.AttributeText.{AttributeText, attribute_text, attribute_texts, is_same_name}
use Rattle.h5_names.specs.declared.qualified.Attribute.{Attribute}
use Rattle.h5_names.specs.declared.qualified.QualName.{QualName}
use Rattle.h5_token.specs.TokenText.{TagText}
use Rattle.h5_print.specs.declared.items.Item.{Item}
use Rattle.h5_print.specs.declared.fault.LineFault.{LineFault}
use Rattle.h5_print.specs.declared.fault.LineFault.TheVariants.{Bad, Memory}
use Rattle.h5_print.specs.Parts.{PartText, AttributeIs, tag_with}
use Rattle.h5_print.specs.Items.{ItemText, item_text, item_texts, item_with, with_last, go_on, items_read, items_from, Reads, Takes}

pub attributes_push : (xs : List Attribute) (x : Attribute) → attribute_texts (xs ++ x ∷ []) ≡ attribute_texts xs ++ attribute_text x ∷ []
attributes_push [] x = refl
attributes_push (y ∷ xs) x = ap (λ l. attribute_text y ∷ l) (attributes_push xs x)

pub any_named : (name : QualName) (xs : List Attribute) → list_any (λ a. is_same_name a.name name) (attribute_texts xs) ≡ list_any (λ a. is_same_name a.name name) xs
any_named name [] = refl
any_named name (x ∷ xs) = ap (λ b. is_same_name x.name name || b) (any_named name xs)

pub items_push : (xs : List Item) (x : Item) → item_texts (xs ++ x ∷ []) ≡ item_texts xs ++ item_text x ∷ []
items_push [] x = refl
items_push (y ∷ xs) x = ap (λ l. item_text y ∷ l) (items_push xs x)

two_maps : (x : ItemText) (xs : List ItemText) (o : Option ItemText) → option_map (λ ys. x ∷ ys) (option_map (λ y. xs ++ y ∷ []) o) ≡ option_map (λ y. (x ∷ xs) ++ y ∷ []) o
two_maps x xs None = refl
two_maps x xs (Some y) = refl

-- a change of the last
pub with_last-push : (change : ItemText → Option ItemText) (xs : List ItemText) (x : ItemText) → with_last change (xs ++ x ∷ []) ≡ option_map (λ y. xs ++ y ∷ []) (change x)
with_last-push change [] x = refl
with_last-push change (y ∷ []) x = two_maps y [] (change x)
with_last-push change (y ∷ z ∷ xs) x = ap (option_map (λ ys. y ∷ ys)) (with_last-push change (z ∷ xs) x) ∙ two_maps y (z ∷ xs) (change x)

-- an attribute for a tag that has one of its name, and for one that hasn't
pub tag_there : (tag : TagText) (p : PartText) (attribute : AttributeText) → p ≡ AttributeIs attribute → list_any (λ a. is_same_name a.name attribute.name) tag.attrs ≡ true → None ≡ tag_with tag p
tag_there tag p attribute e h = sym (ap (tag_with tag) e ∙ rw h refl)

pub tag_new : (tag : TagText) (p : PartText) (attribute : AttributeText) (attrs : List AttributeText) → p ≡ AttributeIs attribute → list_any (λ a. is_same_name a.name attribute.name) tag.attrs ≡ false → attrs ≡ tag.attrs ++ attribute ∷ [] → Some (record tag { attrs = attrs }) ≡ tag_with tag p
tag_new tag p attribute attrs e h f = ap (λ l. Some (record tag { attrs = l })) f ∙ sym (ap (tag_with tag) e ∙ rw h refl)

-- the last item with a part
pub part_put : (p : PartText) (old rest : List Item) (last : Item) (made : Option Item) → old ≡ rest ++ last ∷ [] → option_map item_text made ≡ item_with p (item_text last) → with_last (item_with p) (item_texts old) ≡ option_map (λ y. item_texts rest ++ y ∷ []) (option_map item_text made)
part_put p old rest last made e h =
    ap (λ l. with_last (item_with p) (item_texts l)) e
    ∙ ap (with_last (item_with p)) (items_push rest last)
    ∙ with_last-push (item_with p) (item_texts rest) (item_text last)
    ∙ ap (option_map (λ y. item_texts rest ++ y ∷ [])) (sym h)

pub part_is_put : (p : PartText) (old rest new : List Item) (last item : Item) (made : Option Item) → old ≡ rest ++ last ∷ [] → option_map item_text made ≡ item_with p (item_text last) → made ≡ Some item → new ≡ rest ++ item ∷ [] → with_last (item_with p) (item_texts old) ≡ Some (item_texts new)
part_is_put p old rest new last item made e h some f =
    part_put p old rest last made e h
    ∙ ap (λ o. option_map (λ y. item_texts rest ++ y ∷ []) (option_map item_text o)) some
    ∙ ap Some (sym (ap item_texts f ∙ items_push rest item))

pub part_is_refused : (p : PartText) (old rest : List Item) (last : Item) (made : Option Item) → old ≡ rest ++ last ∷ [] → option_map item_text made ≡ item_with p (item_text last) → made ≡ None → with_last (item_with p) (item_texts old) ≡ None
part_is_refused p old rest last made e h none =
    part_put p old rest last made e h ∙ ap (λ o. option_map (λ y. item_texts rest ++ y ∷ []) (option_map item_text o)) none

-- ---- line by line

at_drop : (pieces : List (List ℕ)) (k : ℕ) (line : List ℕ) → k < length pieces → line ≡ get_or pieces k line → drop k pieces ≡ line ∷ drop (k + 1) pieces
at_drop pieces k line lt e = drop_more pieces k line lt ∙ ap (λ l. l ∷ drop (k + 1) pieces) (sym e)

-- one more line was read, or is bad
pub one_more : (n : ℕ) (items made : List ItemText) (pieces : List (List ℕ)) (k : ℕ) (line : List ℕ) → k < length pieces → line ≡ get_or pieces k line → items_read items n line ≡ Some made → items_from n items (drop k pieces) ≡ items_from (n + 1) made (drop (k + 1) pieces)
one_more n items made pieces k line lt e h =
    ap (items_from n items) (at_drop pieces k line lt e) ∙ ap (go_on (λ more. items_from (n + 1) more (drop (k + 1) pieces)) n) h

pub bad_line : (n : ℕ) (items : List ItemText) (pieces : List (List ℕ)) (k : ℕ) (line : List ℕ) → k < length pieces → line ≡ get_or pieces k line → items_read items n line ≡ None → items_from n items (drop k pieces) ≡ Err n
bad_line n items pieces k line lt e h =
    ap (items_from n items) (at_drop pieces k line lt e) ∙ ap (go_on (λ more. items_from (n + 1) more (drop (k + 1) pieces)) n) h

-- the error of a line is that of the text
pub same_fault : (expected : Result (List ItemText) ℕ) (taken : Option (List ItemText)) (n : ℕ) (made : List ItemText) (fault : LineFault) → Takes taken n made (Err fault) → (taken ≡ None → expected ≡ Err n) → Reads expected (Err fault)
same_fault expected taken n made (Bad line) h none = none h.0 ∙ ap Err (sym h.1)
same_fault expected taken n made Memory h none = tt

pub fault_passed : (expected : Result (List ItemText) ℕ) (r : Result (Vec Item Global) LineFault) (fault : LineFault) → IsErrAnd r (λ e. e ≡ fault) → Reads expected (Err fault) → Reads expected r
fault_passed expected (Ok items) fault h done = absurd h
fault_passed expected (Err e) fault h done = subst (λ (f : LineFault). Reads expected (Err f)) (sym h) done

-- no line is left
pub no_more : (n k : ℕ) (items : List ItemText) (pieces : List (List ℕ)) → k ≡ length pieces → items_from n items (drop k pieces) ≡ Ok items
no_more n k items pieces e = ap (items_from n items) (ap (λ j. drop j pieces) e ∙ drop-length pieces)
