-- A tag whose known name is none of those that rules are for goes by what comes after the rules.
use Rattle.std.proofs.Common.{◌≡◌, ◌≢◌, ◌∙◌, Bool, true, false, ◌||◌, List, [], ◌∷◌, ap, map, refl, sym}
use Rattle.std.proofs.lemmas.Slice.Eq.{bytes_eq-Decides}
use Rattle.h5_names.specs.AttributeText.{is_same_text}
use Rattle.h5_names.specs.KnownNames.{known_name_of, name_text}
use Rattle.h5_names.specs.declared.known_name.KnownName.{KnownName}
use Rattle.h5_names.proofs.KnownNameLemmas.{known_of_text}
use Rattle.h5_token.specs.TokenText.{TagText}
use Rattle.h5_tables.specs.TagSets.{is_one_of}
use Rattle.h5_builder_spec.specs.ByName.{NonePasses, Rules, by_known, named}
use Rattle.h5_builder_spec.specs.Rows.{Row}
use Rattle.h5_builder_spec.specs.World.{World}
use Rattle.h5_builder_spec.proofs.rows.KnownRuleLaws.{goes_on}

-- different known names have different texts
texts_apart : (one other : KnownName) → one ≢ other → is_same_text (name_text one) (name_text other) ≡ false
texts_apart one other apart = at (is_same_text (name_text one) (name_text other)) refl
  where
    at : (b : Bool) → is_same_text (name_text one) (name_text other) ≡ b → is_same_text (name_text one) (name_text other) ≡ false
    at true e = absurd (apart (sym (known_of_text one) ∙ (ap known_name_of ((bytes_eq-Decides (name_text one) (name_text other)).0 e) ∙ known_of_text other)))
    at false e = e

pub only_apart : (known other : KnownName) → known ≢ other → named other (name_text known) ≡ false
only_apart known other apart = texts_apart known other apart

-- a known name is none of these
abbrev pub AreApart : KnownName → List KnownName → Type 0
AreApart known [] = Unit {0}
AreApart known (other ∷ others) = (known ≢ other) × AreApart known others

pub any_apart : (known : KnownName) (others : List KnownName) → AreApart known others → is_one_of (map name_text others) (name_text known) ≡ false
any_apart known [] apart = refl
any_apart known (other ∷ others) apart =
    ap (λ b. b || is_one_of (map name_text others) (name_text known)) (texts_apart other known (λ e. apart.0 (sym e)))
    ∙ any_apart known others apart.1

pub default_of : (rules : Rules) (other : TagText → World → Row) (tag : TagText) (known : KnownName) → known ≡ known_name_of tag.name → NonePasses rules (name_text known) → by_known rules other tag ≡ other tag
default_of rules other tag known e none = ap (λ rule. rule tag) (goes_on rules other tag.name known e none)
