-- The text of an attribute selector (Selectors Level 4, section 6, "Attribute selectors").
use Rattle.std.specs.Prelude.{ℕ, ◌==◌, ◌||◌, Bool, true, false, bytes_eq, codes, drop, if◌then◌else◌, List, [], ◌∷◌, Option, None, Some, unwrap_or, string_bytes}
use Rattle.std.specs.List.{list_any}
use Rattle.std.specs.Str.{str_to_ascii_lowercase}
use Rattle.h5_selectors.specs.Fault.{◌>>=◌, Found, Outcome, wrong_at}
use Rattle.h5_selectors.specs.Tokens.{Reading, begins_with, behind_blanks, closed_at, ends, in_utf8, is_at_name, name_at, named_at, named_or, reading, string_at, unqualified_at}
use Rattle.h5_selectors.specs.declared.fault.SelectorProblem.TheVariants.{Flag, Operator as NoOperator, Value}
use Rattle.h5_selectors.specs.declared.formula.AttrTest.{AttrTest}
use Rattle.h5_selectors.specs.declared.formula.Operator.{Operator}
use Rattle.h5_selectors.specs.declared.formula.Operator.TheVariants.{Begins, Contains, Dash, Ends, Equals, Exists, Includes}

-- an operator, by the character before its `=`
abbrev pub operator_by : ℕ → (rest : List ℕ) → Option (Reading Operator)
operator_by c rest =
    if c == 126 then Some (reading Includes rest)
    else (if c == 124 then Some (reading Dash rest)
    else (if c == 94 then Some (reading Begins rest)
    else (if c == 36 then Some (reading Ends rest)
    else (if c == 42 then Some (reading Contains rest) else None))))

unfoldable pub operator_at : List ℕ → Option (Reading Operator)
operator_at [] = None
operator_at (c ∷ text) =
    if c == 61 then Some (reading Equals text)
    else (if begins_with 61 text then operator_by c (drop 1 text) else None)

unfoldable pub required_operator_at : List ℕ → Outcome (Reading Operator)
required_operator_at text = elim (operator_at text) [ None ↦ wrong_at NoOperator text | Some found ↦ Found found ]

-- a string or a name
abbrev pub quoted_or_named_at : List ℕ → Outcome (Reading (List ℕ))
quoted_or_named_at [] = named_or Value []
quoted_or_named_at (c ∷ text) = if c == 34 || c == 39 then string_at c text else named_or Value (c ∷ text)

unfoldable pub value_at : List ℕ → Outcome (Reading (List ℕ))
value_at text = quoted_or_named_at (behind_blanks text)

-- `i` or `s`, by the name at the start of a text: true to ignore case
abbrev pub flag_of : (text : List ℕ) → Reading (List ℕ) → Outcome (Reading (Option Bool))
flag_of text name =
    if bytes_eq name.value (codes "i") || bytes_eq name.value (codes "I") then Found (reading (Some true) name.rest)
    else (if bytes_eq name.value (codes "s") || bytes_eq name.value (codes "S") then Found (reading (Some false) name.rest)
    else wrong_at Flag text)

unfoldable pub flag_at : List ℕ → Outcome (Reading (Option Bool))
flag_at text =
    if is_at_name (behind_blanks text) then flag_of (behind_blanks text) (in_utf8 (name_at (behind_blanks text)))
    else Found (reading None (behind_blanks text))

-- the comparison of a value: operator, text and flag
pub record Comparison : Type 0 where
  pub operator : Operator
  pub text : List ℕ
  pub flag : Option Bool

abbrev pub comparison : Operator → List ℕ → Option Bool → Comparison
comparison operator text flag = record { operator = operator; text = text; flag = flag }

-- without a comparison, `]` or the end follows
unfoldable pub comparison_at : List ℕ → Outcome (Reading Comparison)
comparison_at text =
    if ends 93 text then Found (reading (comparison Exists [] None) text)
    else do
      operator ← required_operator_at text
      value ← value_at operator.rest
      flag ← flag_at value.rest
      Found (reading (comparison operator.value value.value flag.value) flag.rest)

-- the attributes whose values HTML compares ASCII case-insensitively (HTML standard, section 4.16.2, "Case-sensitivity of selectors")
abbrev pub caseless_names : List (List ℕ)
caseless_names =
    codes "accept" ∷ codes "accept-charset" ∷ codes "align" ∷ codes "alink" ∷ codes "axis" ∷ codes "bgcolor" ∷ codes "charset" ∷
    codes "checked" ∷ codes "clear" ∷ codes "codetype" ∷ codes "color" ∷ codes "compact" ∷ codes "declare" ∷ codes "defer" ∷
    codes "dir" ∷ codes "direction" ∷ codes "disabled" ∷ codes "enctype" ∷ codes "face" ∷ codes "frame" ∷ codes "hreflang" ∷
    codes "http-equiv" ∷ codes "lang" ∷ codes "language" ∷ codes "link" ∷ codes "media" ∷ codes "method" ∷ codes "multiple" ∷
    codes "nohref" ∷ codes "noresize" ∷ codes "noshade" ∷ codes "nowrap" ∷ codes "readonly" ∷ codes "rel" ∷ codes "rev" ∷
    codes "rules" ∷ codes "scope" ∷ codes "scrolling" ∷ codes "selected" ∷ codes "shape" ∷ codes "target" ∷ codes "text" ∷
    codes "type" ∷ codes "valign" ∷ codes "valuetype" ∷ codes "vlink" ∷ []

unfoldable pub is_caseless : List ℕ → Bool
is_caseless name = list_any (λ caseless. bytes_eq caseless name) caseless_names

-- a test, independent of where its texts are in memory
pub record TestText : Type 0 where
  pub exact : List ℕ
  pub lower : List ℕ
  pub operator : Operator
  pub text : List ℕ
  pub ignores_case : Bool
  pub ignores_case_in_html : Bool

abbrev pub test_text : AttrTest → TestText
test_text test =
    record {
      exact = test.name.exact;
      lower = test.name.lower;
      operator = test.operator;
      text = string_bytes test.text;
      ignores_case = test.ignores_case;
      ignores_case_in_html = test.ignores_case_in_html;
    }

-- without a flag, case is ignored only in HTML, for the attributes above
abbrev pub test_by : (exact lower : List ℕ) → Comparison → TestText
test_by exact lower compared =
    record {
      exact = exact;
      lower = lower;
      operator = compared.operator;
      text = compared.text;
      ignores_case = unwrap_or compared.flag false;
      ignores_case_in_html = unwrap_or compared.flag (is_caseless lower);
    }

abbrev pub test_of : (name : List ℕ) → Comparison → TestText
test_of name = test_by name (str_to_ascii_lowercase name)

-- an attribute selector, from after `[` to after `]`
unfoldable pub attribute_at : List ℕ → Outcome (Reading TestText)
attribute_at text = do
  start ← unqualified_at (behind_blanks text)
  name ← named_at start.rest
  plain ← unqualified_at name.rest
  compared ← comparison_at (behind_blanks plain.rest)
  end ← closed_at 93 Flag compared.rest
  Found (reading (test_of name.value compared.value) end.rest)
