-- The grammar of selectors (Selectors Level 4, section 17, "Grammar"). Each definition parses the start of a text. If the text doesn't match,
-- the outcome has the problem, and its place: the first one, from left to right.
use Rattle.std.specs.Prelude.{ℕ, ◌==◌, ◌||◌, Bool, true, false, bytes_eq, codes, drop, if◌then◌else◌, List, [], ◌∷◌, ◌++◌, length, Option, None, Some}
use Prim.Native.Nat.{zero, suc}
use Rattle.std.specs.Option.{option_to_list}
use Rattle.std.specs.Str.{str_to_ascii_lowercase}
use Rattle.h5_selectors.specs.Asking.{Asked, AskAny, AskAttr, AskClass, AskId, AskLang, AskLeads, AskNot, AskNth, AskNthOfType, AskOr, asked, back, both, combinator_at, forth, leading_at, type_at}
use Rattle.h5_selectors.specs.Attributes.{attribute_at, value_at}
use Rattle.h5_selectors.specs.Counting.{Taken, part, partless, seen_as, taken}
use Rattle.h5_selectors.specs.Fault.{◌>>=◌, Found, Outcome, Wrong, wrong_at}
use Rattle.h5_selectors.specs.Indices.{indices_at, lower_name_at}
use Rattle.h5_selectors.specs.PseudoClasses.{function_of, plain_of, problem_of}
use Rattle.h5_selectors.specs.Tokens.{Reading, begins, begins_with, behind_blanks, behind_comments, behind_values, closed_at, ends, is_at_name, named_at, reading}
use Rattle.h5_selectors.specs.declared.fault.SelectorProblem.{SelectorProblem}
use Rattle.h5_selectors.specs.declared.fault.SelectorProblem.TheVariants as problem
use Rattle.h5_selectors.specs.declared.formula.Side.{Side}
use Rattle.h5_selectors.specs.declared.combinators.Combinator.{Combinator}
use Rattle.h5_selectors.specs.declared.parser.Function.{Function}
use Rattle.h5_selectors.specs.declared.combinators.Link.{Link}
use Rattle.h5_selectors.specs.declared.parser.Function.TheVariants as function

-- a parser of something that has parts: it takes the number of parts allowed, and returns the number left
abbrev pub Reader : Type 0 → Type 0
Reader A = (parts : ℕ) → List ℕ → Outcome (Taken A)

-- a parser of the arguments of a pseudo-class; from its `:` to the end of the text there is this number of characters
abbrev pub ArgumentsReader : Type 0
ArgumentsReader = Function → (begin : ℕ) → Reader Asked

-- a combinator, and the condition of the compound selector after it
pub record Linked : Type 0 where
  pub combinator : Combinator
  pub compound : Asked

abbrev pub linked : Combinator → Asked → Linked
linked combinator compound = record { combinator = combinator; compound = compound }

abbrev pub link_asked : Link → Linked
link_asked link = linked link.combinator (asked link.compound)

-- all of some conditions
abbrev pub all_of : List Asked → Asked
all_of [] = AskAny
all_of (one ∷ []) = one
all_of (one ∷ next ∷ more) = both one (all_of (next ∷ more))

-- one of some conditions; without one, nothing is matched
abbrev pub any_of : List Asked → Asked
any_of [] = AskNot AskAny
any_of (one ∷ []) = one
any_of (one ∷ next ∷ more) = AskOr one (any_of (next ∷ more))

-- a condition, and another one if there is one
abbrev pub both_if : Asked → Option Asked → Asked
both_if one None = one
both_if one (Some other) = both one other

-- the condition of a selector: on its last element, and from there backwards
abbrev pub backwards : Asked → List Linked → Asked
backwards first [] = first
backwards first (link ∷ links) = backwards (both link.compound (AskLeads (back link.combinator) first)) links

-- the condition of a relative selector: from the first element on
abbrev pub forwards : List Linked → Option Asked → Option Asked
forwards [] further = further
forwards (link ∷ links) further = Some (AskLeads (forth link.combinator) (both_if link.compound (forwards links further)))

-- a step of a repetition: the end, or one more, joined with the result so far
pub data Next (A : Type 0) : Type 0 where
  Ends : (parts : ℕ) → (rest : List ℕ) → Next A
  Goes : (all : A) → (parts : ℕ) → (rest : List ℕ) → Next A

abbrev pub going_on : {A : Type 0} → (A → Reader A) → A → Next A → Outcome (Taken A)
going_on behind all (Ends parts rest) = Found (taken all parts rest)
going_on behind all (Goes next parts rest) = behind next parts rest

-- a parser of a step, given the result so far
abbrev pub NextReader : Type 0 → Type 0
NextReader A = A → (parts : ℕ) → List ℕ → Outcome (Next A)

-- a repetition, as often as possible: there are no more steps than characters
unfoldable pub repeated : {A : Type 0} → NextReader A → ℕ → A → Reader A
repeated next zero all parts text = Found (taken all parts text)
repeated next (suc n) all parts text = next all parts text >>= going_on (repeated next n) all

-- items after a first one, each after a comma
abbrev pub comma_next : {A : Type 0} → (item : Reader (List A)) → NextReader (List A)
comma_next item all parts text =
    if begins_with 44 text then item parts (drop 1 text) >>= (λ one. Found (Goes (all ++ one.value) one.parts one.rest)) else Found (Ends parts text)

abbrev pub commas_at : {A : Type 0} → (item : Reader (List A)) → List A → Reader (List A)
commas_at item all parts text = repeated (comma_next item) (length text) all parts text

-- as a list of one
abbrev pub alone : {A : Type 0} → Reader A → Reader (List A)
alone item parts text = seen_as (λ one. one ∷ []) (item parts text)

-- a language range, a string or a name, and the whitespace after it
unfoldable pub range_at : List ℕ → Outcome (Reading (List ℕ))
range_at text = value_at text >>= (λ range. Found (reading range.value (behind_blanks range.rest)))

abbrev pub range_item : Reader (List ℕ)
range_item parts text = partless (λ range. range) parts (range_at text)

-- the ranges of `:lang()`, separated by commas
unfoldable pub languages_at : Reader Asked
languages_at parts text = do
  first ← alone range_item parts text
  all ← commas_at (alone range_item) first.value first.parts first.rest
  Found (taken (AskLang all.value) all.parts all.rest)

-- true for the problems that aren't forgiven: those of a selector that is too large
abbrev pub is_limit : SelectorProblem → Bool
is_limit problem.TooLong = true
is_limit problem.TooDeep = true
is_limit _ = false

-- true at the end of a selector in a list of arguments
abbrev pub is_selector_end : List ℕ → Bool
is_selector_end text = ends 44 text || ends 41 text

-- a pseudo-class without arguments
abbrev pub plain_by : (name : List ℕ) → (begin : ℕ) → Option Asked → Outcome Asked
plain_by name begin None = Wrong (problem_of name) begin
plain_by name begin (Some found) = Found found

-- a selector of a forgiving list that is invalid is left out, with its parts
abbrev pub left_out : Reader (List Asked)
left_out parts text = Found (taken [] parts (behind_values text))

abbrev pub forgiven : (parts : ℕ) → List ℕ → Outcome (Taken Asked) → Outcome (Taken (List Asked))
forgiven parts text (Found one) = if is_selector_end one.rest then Found (taken (one.value ∷ []) one.parts one.rest) else left_out parts text
forgiven parts text (Wrong why left) = if is_limit why then Wrong why left else left_out parts text

module _ (arguments : ArgumentsReader) where
  -- a pseudo-class, from after its `:`
  abbrev pub function_by : Option Function → (begin parts : ℕ) → List ℕ → Outcome (Taken Asked)
  function_by None begin parts text = Wrong problem.PseudoClass begin
  function_by (Some which) begin parts text = do
    inner ← arguments which begin parts text
    end ← closed_at 41 problem.Rest inner.rest
    Found (taken inner.value inner.parts end.rest)

  unfoldable pub function_at : (name : List ℕ) → (begin : ℕ) → Reader Asked
  function_at name begin parts text = function_by (function_of name) begin parts text

  abbrev pub pseudo_class_by : (begin parts : ℕ) → Reading (List ℕ) → Outcome (Taken Asked)
  pseudo_class_by begin parts name =
      if begins_with 40 name.rest then function_at (str_to_ascii_lowercase name.value) begin parts (drop 1 name.rest)
      else plain_by (str_to_ascii_lowercase name.value) begin (plain_of (str_to_ascii_lowercase name.value)) >>= (λ found. Found (taken found parts name.rest))

  unfoldable pub pseudo_class_at : (begin : ℕ) → Reader Asked
  pseudo_class_at begin parts text =
      if begins_with 58 text then Wrong problem.PseudoElement begin else named_at text >>= pseudo_class_by begin parts

  -- an id, a class, an attribute or a pseudo-class, by its first character, if there is one; it is a part
  abbrev pub begins_simple : ℕ → Bool
  begins_simple c = c == 35 || (c == 46 || (c == 91 || c == 58))

  abbrev pub simple_of : (c : ℕ) → List ℕ → (begin parts : ℕ) → Outcome (Taken (Option Asked))
  simple_of c text begin parts =
      if c == 35 then partless (λ name. Some (AskId name)) parts (named_at text)
      else (if c == 46 then partless (λ name. Some (AskClass name)) parts (named_at (behind_comments text))
      else (if c == 91 then partless (λ test. Some (AskAttr test)) parts (attribute_at text)
      else seen_as Some (pseudo_class_at begin parts (behind_comments text))))

  unfoldable pub simple_at : Reader (Option Asked)
  simple_at parts [] = Found (taken None parts [])
  simple_at parts (c ∷ text) = if begins_simple c then part (simple_of c text (length (c ∷ text))) parts (c ∷ text) else Found (taken None parts (c ∷ text))

  -- one more, maybe after comments
  abbrev pub simple_joined : List Asked → Taken (Option Asked) → Outcome (Next (List Asked))
  simple_joined all one =
      elim one.value [
        | None ↦ Found (Ends one.parts one.rest)
        | Some found ↦ Found (Goes (all ++ found ∷ []) one.parts one.rest)
      ]

  abbrev pub simple_next : NextReader (List Asked)
  simple_next all parts text = simple_at parts (behind_comments text) >>= simple_joined all

  abbrev pub simples_at : List Asked → Reader (List Asked)
  simples_at all parts text = repeated simple_next (length text) all parts text

  -- a compound selector: a type, other simple selectors, or both; it is a part as well
  abbrev pub compound_by : List Asked → (parts : ℕ) → List ℕ → Outcome (Taken Asked)
  compound_by [] parts rest = wrong_at problem.Selector rest
  compound_by (one ∷ more) parts rest = Found (taken (all_of (one ∷ more)) parts rest)

  abbrev pub compound_of : List ℕ → (parts : ℕ) → Outcome (Taken Asked)
  compound_of text parts = do
    type ← type_at text
    all ← simples_at (option_to_list type.value) parts type.rest
    compound_by all.value all.parts all.rest

  unfoldable pub compound_at : Reader Asked
  compound_at parts text = part (compound_of text) parts text

  -- a further combinator, and a compound selector after it
  abbrev pub link_joined : List Linked → (parts : ℕ) → List ℕ → Option (Reading Combinator) → Outcome (Next (List Linked))
  link_joined links parts rest None = Found (Ends parts rest)
  link_joined links parts rest (Some sign) = compound_at parts sign.rest >>= (λ one. Found (Goes (links ++ linked sign.value one.value ∷ []) one.parts one.rest))

  abbrev pub link_next : NextReader (List Linked)
  link_next links parts text = link_joined links parts (behind_blanks text) (combinator_at text)

  abbrev pub links_at : Reader (List Linked)
  links_at parts text = repeated link_next (length text) [] parts text

  -- a complex selector
  unfoldable pub complex_at : Reader Asked
  complex_at parts text = do
    first ← compound_at parts (behind_blanks text)
    links ← links_at first.parts first.rest
    Found (taken (backwards first.value links.value) links.parts links.rest)

  -- a relative selector
  unfoldable pub relative_at : Reader Asked
  relative_at parts text = do
    first ← compound_at parts (leading_at text).rest
    links ← links_at first.parts first.rest
    Found (taken (AskLeads (forth (leading_at text).value) (both_if first.value (forwards links.value None))) links.parts links.rest)

  -- one selector of a list; a list, separated by commas
  abbrev pub selector_at : (is_relative : Bool) → Reader Asked
  selector_at is_relative parts text = if is_relative then relative_at parts text else complex_at parts text

  abbrev pub item_at : (is_relative : Bool) → Reader (List Asked)
  item_at is_relative = alone (selector_at is_relative)

  unfoldable pub list_at : (is_relative : Bool) → Reader Asked
  list_at is_relative parts text = do
    first ← item_at is_relative parts text
    all ← commas_at (item_at is_relative) first.value first.parts first.rest
    Found (taken (any_of all.value) all.parts all.rest)

  -- a selector of a forgiving list
  unfoldable pub forgiven_at : Reader (List Asked)
  forgiven_at parts text = forgiven parts text (complex_at parts text)

  -- a forgiving list, which may be empty
  unfoldable pub forgiving_list_at : Reader Asked
  forgiving_list_at parts text = do
    first ← forgiven_at parts text
    all ← commas_at forgiven_at first.value first.parts first.rest
    Found (taken (any_of all.value) all.parts all.rest)

  -- after `an+b`: `of` and selectors, or nothing
  abbrev pub of_by : (parts : ℕ) → List ℕ → Reading (List ℕ) → Outcome (Taken Asked)
  of_by parts text name = if bytes_eq name.value (codes "of") then list_at false parts name.rest else wrong_at problem.AnPlusB text

  unfoldable pub of_at : Reader Asked
  of_at parts text =
      if is_at_name (behind_blanks text) then of_by parts (behind_blanks text) (lower_name_at (behind_blanks text))
      else Found (taken AskAny parts (behind_blanks text))

  unfoldable pub nth_child_at : Side → Reader Asked
  nth_child_at side parts text = do
    indices ← indices_at text
    of ← of_at parts indices.rest
    Found (taken (AskNth indices.value side of.value) of.parts of.rest)

-- the arguments of each pseudo-class, given the parsers of nested selectors and of those in `:has()`, which can't be nested
unfoldable pub arguments_by : (nested in_has : ArgumentsReader) → (is_in_has : Bool) → ArgumentsReader
arguments_by nested in_has is_in_has function.Not begin parts text = seen_as AskNot (list_at nested false parts text)
arguments_by nested in_has is_in_has function.Is begin parts text = forgiving_list_at nested parts text
arguments_by nested in_has is_in_has function.Has begin parts text = if is_in_has then Wrong problem.NestedHas begin else list_at in_has true parts text
arguments_by nested in_has is_in_has (function.NthChild side) begin parts text = nth_child_at nested side parts text
arguments_by nested in_has is_in_has (function.NthOfType side) begin parts text = partless (λ indices. AskNthOfType indices side) parts (indices_at text)
arguments_by nested in_has is_in_has function.Lang begin parts text = languages_at parts text

-- pseudo-classes with arguments, in each other at most this number of levels deep
unfoldable pub arguments_within : (depth : ℕ) → (is_in_has : Bool) → ArgumentsReader
arguments_within zero is_in_has which begin parts text = Wrong problem.TooDeep begin
arguments_within (suc depth) is_in_has which begin parts text = arguments_by (arguments_within depth is_in_has) (arguments_within depth true) is_in_has which begin parts text

-- the greatest number of parts of a selector, including nested selectors, and of levels of nesting
abbrev pub most_parts : ℕ
most_parts = 1000

abbrev pub most_levels : ℕ
most_levels = 32

-- the selectors of a whole text; each has its own number of parts
abbrev pub top_at : Reader (List Asked)
top_at parts text = alone (complex_at (arguments_within most_levels false)) most_parts text

abbrev pub whole_of : Taken (List Asked) → Outcome (List Asked)
whole_of read = if begins (λ _. true) read.rest then wrong_at problem.Rest read.rest else Found read.value

unfoldable pub selectors_of : List ℕ → Outcome (List Asked)
selectors_of text = do
  first ← top_at most_parts text
  all ← commas_at top_at first.value first.parts first.rest
  whole_of all
