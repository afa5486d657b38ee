-- The conditions of the parts of a selector: types and combinators (Selectors Level 4, section 17, "Grammar").
use Rattle.std.specs.Prelude.{ℕ, ◌==◌, ◌&&◌, ◌||◌, Bool, drop, if◌then◌else◌, List, [], ◌∷◌, map, not, Option, None, Some, string_bytes, unwrap_or}
use Rattle.std.specs.Str.{str_to_ascii_lowercase}
use Rattle.h5_selectors.specs.Attributes.{TestText, test_text}
use Rattle.h5_selectors.specs.Fault.{◌>>=◌, Found, Outcome, wrong_at}
use Rattle.h5_selectors.specs.Tokens.{Reading, begins, begins_with, behind_blanks, behind_comments, in_utf8, is_at_name, is_spaced, name_at, reading, unqualified_at}
use Rattle.h5_selectors.specs.declared.fault.SelectorProblem.TheVariants.{Name as NoName}
use Rattle.h5_selectors.specs.declared.formula.AnPlusB.{AnPlusB}
use Rattle.h5_selectors.specs.declared.formula.Formula.{Formula, Any, Name, Id, Class, Attr, Root, Scope, Empty, Link, Html, Lang, NthOfType, Nth', Not', And', Or', Leads'}
use Rattle.h5_selectors.specs.declared.formula.Side.{Side}
use Rattle.h5_selectors.specs.declared.formula.Way.{Way}
use Rattle.h5_selectors.specs.declared.formula.Way.TheVariants.{Ancestor, Below, Child as ToChild, Earlier, Later, Next, Parent, Previous}
use Rattle.h5_selectors.specs.declared.combinators.Combinator.{Combinator}
use Rattle.h5_selectors.specs.declared.combinators.Combinator.TheVariants as combinator

-- a condition on an element, independent of where it is in memory
pub data Asked : Type 0 where
  AskAny : Asked
  AskName : (exact lower : List ℕ) → Asked
  AskId : (text : List ℕ) → Asked
  AskClass : (text : List ℕ) → Asked
  AskAttr : (test : TestText) → Asked
  AskRoot : Asked
  AskScope : Asked
  AskEmpty : Asked
  AskLink : Asked
  AskHtml : Asked
  AskLang : (ranges : List (List ℕ)) → Asked
  AskNthOfType : (indices : AnPlusB) → (side : Side) → Asked
  AskNth : (indices : AnPlusB) → (side : Side) → (of : Asked) → Asked
  AskNot : (inner : Asked) → Asked
  AskAnd : (one other : Asked) → Asked
  AskOr : (one other : Asked) → Asked
  AskLeads : (way : Way) → (inner : Asked) → Asked

abbrev pub asked : Formula → Asked
asked Any = AskAny
asked (Name written) = AskName written.exact written.lower
asked (Id text) = AskId (string_bytes text)
asked (Class text) = AskClass (string_bytes text)
asked (Attr test) = AskAttr (test_text test)
asked Root = AskRoot
asked Scope = AskScope
asked Empty = AskEmpty
asked Link = AskLink
asked Html = AskHtml
asked (Lang ranges) = AskLang (map string_bytes ranges.items)
asked (NthOfType indices side) = AskNthOfType indices side
asked (Nth' indices side p of) = AskNth indices side (asked of)
asked (Not' p inner) = AskNot (asked inner)
asked (And' p one q other) = AskAnd (asked one) (asked other)
asked (Or' p one q other) = AskOr (asked one) (asked other)
asked (Leads' way p inner) = AskLeads way (asked inner)

-- both conditions; one that always holds is left out
abbrev pub both : Asked → Asked → Asked
both AskAny other = other
both one other = AskAnd one other

-- `>`, `+` or `~`, and whitespace after it
abbrev pub sign_at : List ℕ → Option (Reading Combinator)
sign_at [] = None
sign_at (c ∷ text) =
    if c == 62 then Some (reading combinator.Child (behind_blanks text))
    else (if c == 43 then Some (reading combinator.NextSibling (behind_blanks text))
    else (if c == 126 then Some (reading combinator.SubsequentSibling (behind_blanks text)) else None))

-- whitespace is a combinator if a compound selector can follow it
abbrev pub descendant_at : (spaced : Bool) → List ℕ → Option (Reading Combinator)
descendant_at spaced text = if spaced && begins (λ c. not (c == 44 || c == 41)) text then Some (reading combinator.Descendant text) else None

abbrev pub sign_or : Option (Reading Combinator) → Option (Reading Combinator) → Option (Reading Combinator)
sign_or None other = other
sign_or (Some sign) other = Some sign

unfoldable pub combinator_at : List ℕ → Option (Reading Combinator)
combinator_at text = sign_or (sign_at (behind_blanks text)) (descendant_at (is_spaced text) (behind_blanks text))

-- the combinator of a relative selector; the descendant combinator if there is none
unfoldable pub leading_at : List ℕ → Reading Combinator
leading_at text = unwrap_or (sign_at (behind_blanks text)) (reading combinator.Descendant (behind_blanks text))

-- the relation from the element after a combinator, and the one from the element before it
abbrev pub back : Combinator → Way
back combinator.Descendant = Ancestor
back combinator.Child = Parent
back combinator.NextSibling = Previous
back combinator.SubsequentSibling = Earlier

abbrev pub forth : Combinator → Way
forth combinator.Descendant = Below
forth combinator.Child = ToChild
forth combinator.NextSibling = Next
forth combinator.SubsequentSibling = Later

-- `*|`, the prefix of any namespace, and the text after it; no other prefix is known
abbrev pub has_any_namespace : List ℕ → Bool
has_any_namespace text = begins_with 42 text && begins_with 124 (behind_comments (drop 1 text))

abbrev pub behind_any_namespace : List ℕ → List ℕ
behind_any_namespace text = behind_comments (drop 1 (behind_comments (drop 1 text)))

-- a type selector or `*`
abbrev pub type_of : Reading (List ℕ) → Outcome (Reading (Option Asked))
type_of name = do
  plain ← unqualified_at name.rest
  Found (reading (Some (AskName name.value (str_to_ascii_lowercase name.value))) plain.rest)

abbrev pub star_or : Outcome (Reading (Option Asked)) → List ℕ → Outcome (Reading (Option Asked))
star_or other text = if begins_with 42 text then Found (reading (Some AskAny) (drop 1 text)) else other

-- required after a prefix, and optional without one
unfoldable pub prefixed_type_at : List ℕ → Outcome (Reading (Option Asked))
prefixed_type_at text = if is_at_name text then type_of (in_utf8 (name_at text)) else star_or (wrong_at NoName text) text

unfoldable pub unprefixed_type_at : List ℕ → Outcome (Reading (Option Asked))
unprefixed_type_at text =
    if is_at_name text then type_of (in_utf8 (name_at text))
    else unqualified_at text >>= (λ plain. star_or (Found (reading None text)) text)

unfoldable pub type_at : List ℕ → Outcome (Reading (Option Asked))
type_at text = if has_any_namespace text then prefixed_type_at (behind_any_namespace text) else unprefixed_type_at text
