-- What holds for each rule that a tag's name may choose holds for the one that it does choose.
use Rattle.std.proofs.Common.{Bool, List, [], ap, false, refl, subst, sym, true, ℕ, ◌&&◌, ◌||◌, ◌∙◌, ◌∷◌, ◌≡◌}
use Rattle.std.proofs.lemmas.Slice.Eq.{bytes_eq-Decides}
use Rattle.h5_names.specs.AttributeText.{is_same_text}
use Rattle.h5_names.specs.KnownNames.{name_text}
use Rattle.h5_names.specs.declared.known_name.KnownName.{KnownName}
use Rattle.h5_token.specs.TokenText.{TagText}
use Rattle.h5_tables.specs.TagSets.{is_one_of}
use Rattle.h5_builder_spec.specs.ByName.{NonePasses, Rules, by_name, is_among, named}
use Rattle.h5_builder_spec.specs.Rows.{Row, choose}
use Rattle.h5_builder_spec.specs.World.{World}
use Rattle.h5_builder_spec.proofs.BoolLaws.{and_both}

-- of the one of two rows that is chosen
pub holds_chosen : (P : Row → Type 0) (b : Bool) (r s : Row) → (b ≡ true → P r) → (b ≡ false → P s) → P (choose b r s)
holds_chosen P true r s x y = x refl
holds_chosen P false r s x y = y refl

-- one fact and another, if there are many
infixr 30 ◌&◌
pub ◌&◌ : {A B : Type 0} → A → B → A × B
a & b = (a, b)

-- of each rule whose names the tag's name is among
abbrev pub HoldsOfEach : (Row → Type 0) → TagText → World → Rules → Type 0
HoldsOfEach P tag w [] = Unit {0}
HoldsOfEach P tag w (x ∷ xs) = (is_among x.0 tag.name ≡ true → P (x.1 tag w)) × HoldsOfEach P tag w xs

-- and of the last one, where it is among none
pub holds_by_name : (P : Row → Type 0) (xs : Rules) (other : TagText → World → Row) (tag : TagText) (w : World) → HoldsOfEach P tag w xs → (NonePasses xs tag.name → P (other tag w)) → P (by_name xs other tag w)
holds_by_name P [] other tag w k o = o tt
holds_by_name P (x ∷ xs) other tag w k o = holds_chosen P (is_among x.0 tag.name) (x.1 tag w) (by_name xs other tag w) k.0 (λ e. holds_by_name P xs other tag w k.1 (λ n. o (e, n)))

-- some rule is for a name, and for each of some names
abbrev pub is_ruled : Rules → List ℕ → Bool
is_ruled [] name = false
is_ruled (x ∷ xs) name = is_among x.0 name || is_ruled xs name

abbrev pub are_ruled : Rules → List (List ℕ) → Bool
are_ruled rules [] = true
are_ruled rules (t ∷ ts) = is_ruled rules t && are_ruled rules ts

none_unruled : (rules : Rules) (l : List ℕ) → NonePasses rules l → is_ruled rules l ≡ false
none_unruled [] l n = refl
none_unruled (x ∷ xs) l n = ap (λ b. b || is_ruled xs l) n.0 ∙ none_unruled xs l n.1

-- such a name isn't one that none passes
pub ruled : (rules : Rules) (t l : List ℕ) → is_ruled rules t ≡ true → l ≡ t → NonePasses rules l → ⊥
ruled rules t l some e n = let clash : true ≡ false = sym some ∙ ap (is_ruled rules) (sym e) ∙ none_unruled rules l n in cc

pub all_ruled : (rules : Rules) (names : List (List ℕ)) (l : List ℕ) → are_ruled rules names ≡ true → is_one_of names l ≡ true → NonePasses rules l → ⊥
all_ruled rules [] l h e n = absurd (cc)
all_ruled rules (t ∷ ts) l h e n = at (is_same_text t l) refl e (all_ruled rules ts l both.1)
  where
    both : (is_ruled rules t ≡ true) × (are_ruled rules ts ≡ true)
    both = and_both (is_ruled rules t) (are_ruled rules ts) h

    at : (b : Bool) → is_same_text t l ≡ b → (b || is_one_of ts l) ≡ true → (is_one_of ts l ≡ true → NonePasses rules l → ⊥) → ⊥
    at true k o f = ruled rules t l both.0 (sym ((bytes_eq-Decides t l).0 k)) n
    at false k o f = f o n

pub not_ruled : (rules : Rules) (known : KnownName) (l : List ℕ) → is_ruled rules (name_text known) ≡ true → NonePasses rules l → named known l ≡ false
not_ruled rules known l some n = at (named known l) refl
  where
    at : (b : Bool) → named known l ≡ b → b ≡ false
    at false e = refl
    at true e = absurd (ruled rules (name_text known) l some ((bytes_eq-Decides l (name_text known)).0 e) n)

-- what holds for a known name holds for a name that is it
pub of_named : (P : List ℕ → Type 0) (known : KnownName) (l : List ℕ) → P (name_text known) → named known l ≡ true → P l
of_named P known l a h = subst P (sym ((bytes_eq-Decides l (name_text known)).0 h)) a

-- what holds for each name of a list holds for a name that is among them
abbrev pub HoldsOfAll : (List ℕ → Type 0) → List (List ℕ) → Type 0
HoldsOfAll P [] = Unit {0}
HoldsOfAll P (x ∷ xs) = P x × HoldsOfAll P xs

pub of_one : (P : List ℕ → Type 0) (names : List (List ℕ)) (l : List ℕ) → HoldsOfAll P names → is_one_of names l ≡ true → P l
of_one P [] l h e = absurd (cc)
of_one P (x ∷ xs) l h e = at (is_same_text x l) refl e (of_one P xs l h.1)
  where
    at : (b : Bool) → is_same_text x l ≡ b → (b || is_one_of xs l) ≡ true → (is_one_of xs l ≡ true → P l) → P l
    at true k o f = subst P ((bytes_eq-Decides x l).0 k) h.0
    at false k o f = f o
