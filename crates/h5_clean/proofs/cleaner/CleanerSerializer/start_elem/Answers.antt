use Rattle.std.proofs.Common.{◌≡◌, ◌∷◌, ◌∙◌, true, List, ap, inl, map, rules, subst, sym}
use Rattle.std.specs.Slice.Iter.{iter_rest}
use Rattle.h5_names.specs.AttributeText.{AttributeText, attribute_texts}
use Rattle.h5_serialize.specs.Call.{StartOf}
use Rattle.h5_clean.specs.Calls.{State, front_inside, place_of}
use Rattle.h5_clean.specs.Kinds.{kind_of}
use Rattle.h5_clean.specs.Pass.{is_let}
use Rattle.h5_clean.specs.Places.{inside}
use Rattle.h5_clean.specs.Policies.{attributes_left}
use Rattle.h5_clean.specs.declared.cleaner.Front.{Front}
use Rattle.h5_clean.specs.declared.elements.OpenElement.{OpenElement}
use Rattle.h5_clean.proofs.HandedLaws.{Cleans, Writes, start_written}
use Rattle.h5_clean.proofs.cleaner.CleanerSerializer.start_elem.Goals as goal

pub returns : goal.returns
returns g c =
    let name = c.args.name in
    let old = c.args.self.now in
    let s : State = record { rules = g.P.Policy.rules old.policy.now; elements = old.elements; front = old.front; standing = old.html.standing } in
    let left = c.in_ok-left.ensures in
    let new = c.start_elem.new.self in
    let lets : is_let s.rules (place_of s) name ≡ true = search rules in
    let elements : c.push-2.new.self ≡ record { is_written = true; place = inside (kind_of name.local) (place_of s) } ∷ s.elements = search rules in
    let front : c.front_inside-self.result ≡ front_inside (kind_of name.local) = search rules in
    let attrs : attribute_texts (iter_rest c.iter.result) ≡ attributes_left s.rules name.local (map g.T.AttrRef.attribute left.0) = ap attribute_texts (c.iter.ensures.rest ∙ c.deref.ensures.value) ∙ left.2 ∙ ap (λ e. attributes_left s.rules e (map g.T.AttrRef.attribute left.0)) c.as_str-2.ensures in
    let made = c.starts_have_the_attributes_of_their_slice.ensures.start_elem c.iter.result name _ _ _ _ _ c.start_elem.ensures in
    let P : List AttributeText → Type 0 = λ l. Writes (StartOf name l) s.standing old.html.contents c.start_elem.result new.standing new.contents in
    let Q : List OpenElement → Type 0 = λ es. Cleans (StartOf name (map g.T.AttrRef.attribute left.0)) s old.html.contents c.start_elem.result (record s { elements = es; front = front_inside (kind_of name.local); standing = new.standing }) new.contents in
    let R : Front → Type 0 = λ f. Cleans (StartOf name (map g.T.AttrRef.attribute left.0)) s old.html.contents c.start_elem.result (record s { elements = c.push-2.new.self; front = f; standing = new.standing }) new.contents in
    inl (left.0, left.1, subst R (sym front) (subst Q (sym elements) (start_written s name (map g.T.AttrRef.attribute left.0) new.standing old.html.contents new.contents c.start_elem.result lets (subst P attrs made))))
