-- Rules by the name of a tag (HTML standard, section 13.2.6.4: "a start tag whose tag name is one of ..").
use Rattle.std.specs.Prelude.{◌≡◌, ℕ, Bool, false, if◌then◌else◌, List, [], ◌∷◌, codes}
use Rattle.h5_names.specs.AttributeText.{is_same_text}
use Rattle.h5_names.specs.KnownNames.{known_name_of, name_text}
use Rattle.h5_names.specs.declared.known_name.KnownName.{KnownName}
use Rattle.h5_token.specs.TokenText.{TagText}
use Rattle.h5_token.specs.declared.tag.TagKind.{TagKind}
use Rattle.h5_token.specs.declared.tag.TagKind.TheVariants.{StartTag, EndTag}
use Rattle.h5_tables.specs.TagSets.{is_one_of}
use Rattle.h5_tables.specs.TurnText.{TagTurn, TurnText}
use Rattle.h5_builder_spec.specs.Rows.{Row, ignored}
use Rattle.h5_builder_spec.specs.World.{World}

-- a name is this known name
abbrev pub named : KnownName → List ℕ → Bool
named known name = is_same_text name (name_text known)

-- the names of the end tags that act as "anything else" before the body
unfoldable pub outer_names : List (List ℕ)
outer_names = codes "head" ∷ codes "body" ∷ codes "html" ∷ codes "br" ∷ []

-- the names that a rule is for: a single known name, or any name of a list
pub data Names : Type 0 where
  Only : (known : KnownName) → Names
  AnyOf : (names : List (List ℕ)) → Names

abbrev pub is_among : Names → List ℕ → Bool
is_among (Only known) name = named known name
is_among (AnyOf names) name = is_one_of names name

-- an ordered list of rules, each with the names that it is for; the first one that has a tag's name is the tag's rule
abbrev pub Rules : Type 0
Rules = List (Names × (TagText → World → Row))

-- the row of a tag by these rules; if none has its name, by `other`
abbrev pub by_name : Rules → (TagText → World → Row) → TagText → World → Row
by_name [] other tag w = other tag w
by_name (x ∷ xs) other tag w = if is_among x.0 tag.name then x.1 tag w else by_name xs other tag w

-- the rule for a name
abbrev pub rule_of : Rules → (TagText → World → Row) → List ℕ → TagText → World → Row
rule_of [] other name = other
rule_of (x ∷ xs) other name = if is_among x.0 name then x.1 else rule_of xs other name

-- as `by_name`, but the name is replaced by the known name that it is, if it is one
abbrev pub by_known : Rules → (TagText → World → Row) → TagText → World → Row
by_known rules other tag w = rule_of rules other (name_text (known_name_of tag.name)) tag w

-- no rule is for this name
abbrev pub NonePasses : Rules → List ℕ → Type 0
NonePasses [] name = Unit {0}
NonePasses (x ∷ xs) name = (is_among x.0 name ≡ false) × NonePasses xs name

-- a rule for any token, applied to a tag
abbrev pub of_tag : (TurnText → World → Row) → TagText → World → Row
of_tag rule tag w = rule (TagTurn tag) w

abbrev pub ignored_tag : TagText → World → Row
ignored_tag tag w = ignored

-- one of two rows, by the kind of the tag
abbrev pub by_kind : TagKind → Row → Row → Row
by_kind StartTag start end = start
by_kind EndTag start end = end
