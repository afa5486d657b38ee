-- A tag whose known name is one of those of an arm goes by the rule of the first of them.
use Rattle.std.proofs.Common.{◌≡◌, ◌∙◌, ◌⊎◌, ℕ, true, List, [], ◌∷◌, ap, inl, inr, sym}
use Rattle.h5_names.specs.KnownNames.{known_name_of, name_text}
use Rattle.h5_names.specs.declared.known_name.KnownName.{KnownName}
use Rattle.h5_token.specs.TokenText.{TagText}
use Rattle.h5_tables.specs.TagSets.{is_one_of}
use Rattle.h5_builder_spec.specs.ByName.{Rules, by_known, rule_of}
use Rattle.h5_builder_spec.specs.Rows.{Row}
use Rattle.h5_builder_spec.specs.World.{World}

-- a known name is one of these
abbrev pub IsAmong : KnownName → List KnownName → Type 0
IsAmong known [] = Unit {0}
IsAmong known (one ∷ []) = known ≡ one
IsAmong known (one ∷ other ∷ others) = (known ≡ one) ⊎ IsAmong known (other ∷ others)

-- the rule of each of these is that of a name
abbrev pub LeadAlike : Rules → KnownName → List KnownName → Type 0
LeadAlike rules first [] = Unit {0}
LeadAlike rules first (one ∷ others) = ((other : TagText → World → Row) → rule_of rules other (name_text one) ≡ rule_of rules other (name_text first)) × LeadAlike rules first others

-- each of these is in a list of names
abbrev pub AllIn : List (List ℕ) → List KnownName → Type 0
AllIn names [] = Unit {0}
AllIn names (one ∷ others) = (is_one_of names (name_text one) ≡ true) × AllIn names others

pub arm_of : (rules : Rules) (other : TagText → World → Row) (tag : TagText) (known : KnownName) → known ≡ known_name_of tag.name → (first one : KnownName) (others : List KnownName) → IsAmong known (one ∷ others) → LeadAlike rules first (one ∷ others)
    → by_known rules other tag ≡ rule_of rules other (name_text first) tag
arm_of rules other tag known e first one others among alike = ap (λ k. rule_of rules other (name_text k) tag) (sym e) ∙ ap (λ rule. rule tag) (lead one others among alike)
  where
    lead : (one : KnownName) (others : List KnownName) → IsAmong known (one ∷ others) → LeadAlike rules first (one ∷ others) → rule_of rules other (name_text known) ≡ rule_of rules other (name_text first)
    lead one [] is alike = ap (λ k. rule_of rules other (name_text k)) is ∙ alike.0 other
    lead one (next ∷ others) (inl is) alike = ap (λ k. rule_of rules other (name_text k)) is ∙ alike.0 other
    lead one (next ∷ others) (inr among) alike = lead next others among alike.1

pub among_of : (names : List (List ℕ)) (known one : KnownName) (others : List KnownName) → IsAmong known (one ∷ others) → AllIn names (one ∷ others) → is_one_of names (name_text known) ≡ true
among_of names known one [] is all = ap (λ k. is_one_of names (name_text k)) is ∙ all.0
among_of names known one (next ∷ others) (inl is) all = ap (λ k. is_one_of names (name_text k)) is ∙ all.0
among_of names known one (next ∷ others) (inr among) all = among_of names known next others among all.1
