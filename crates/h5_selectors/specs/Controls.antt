-- The conditions of the pseudo-classes `:checked`, `:disabled` and `:enabled` (HTML standard, section 4.16.3, "Pseudo-classes"). In a static
-- tree the attributes decide.
use Rattle.std.specs.Prelude.{ℕ, true, codes, List, [], None, Some}
use Rattle.std.specs.Str.{str_to_ascii_lowercase}
use Rattle.h5_selectors.specs.Asking.{Asked, AskAnd, AskAttr, AskHtml, AskLeads, AskName, AskNot, AskOr}
use Rattle.h5_selectors.specs.Attributes.{comparison, test_of}
use Rattle.h5_selectors.specs.declared.formula.Operator.TheVariants.{Equals, Exists}
use Rattle.h5_selectors.specs.declared.formula.Way.TheVariants.{Ancestor, Earlier, Parent}

-- an element with this name; an HTML element
abbrev pub typed : (name : List ℕ) → Asked
typed name = AskName name (str_to_ascii_lowercase name)

abbrev pub html : Asked → Asked
html condition = AskAnd AskHtml condition

-- an attribute; an attribute with this value, compared ASCII case-insensitively
abbrev pub has : (name : List ℕ) → Asked
has name = AskAttr (test_of name (comparison Exists [] None))

abbrev pub has_value : (name value : List ℕ) → Asked
has_value name value = AskAttr (test_of name (comparison Equals value (Some true)))

-- a checkbox or a radio button that is checked, or an option that is selected
abbrev pub checked_input : Asked
checked_input = AskAnd (typed (codes "input")) (AskAnd (has (codes "checked")) (AskOr (has_value (codes "type") (codes "checkbox")) (has_value (codes "type") (codes "radio"))))

abbrev pub selected_option : Asked
selected_option = AskAnd (typed (codes "option")) (has (codes "selected"))

unfoldable pub checked : Asked
checked = html (AskOr checked_input selected_option)

-- a disabled element with this name, by its own attribute
abbrev pub disabled_self : (name : List ℕ) → Asked
disabled_self name = html (AskAnd (typed name) (has (codes "disabled")))

-- the first `legend` child of an element
abbrev pub legend : Asked
legend = html (typed (codes "legend"))

abbrev pub first_legend : Asked
first_legend = AskAnd legend (AskNot (AskLeads Earlier legend))

-- below a `fieldset` with `disabled`, but not below its first `legend` child: the element, or an ancestor of it, is another child
abbrev pub disabled_child : Asked
disabled_child = AskAnd (AskLeads Parent (disabled_self (codes "fieldset"))) (AskNot first_legend)

unfoldable pub in_disabled_fieldset : Asked
in_disabled_fieldset = AskOr disabled_child (AskLeads Ancestor disabled_child)

-- the elements that a `fieldset` disables (sections 4.10.15, "The fieldset element", and 4.10.19.5, "Enabling and disabling form controls")
unfoldable pub control : Asked
control =
    AskOr (typed (codes "button")) (AskOr (typed (codes "input")) (AskOr (typed (codes "select")) (AskOr (typed (codes "textarea")) (typed (codes "fieldset")))))

unfoldable pub disabled_control : Asked
disabled_control = AskAnd control (AskOr (has (codes "disabled")) in_disabled_fieldset)

-- an `optgroup` with `disabled`; an `option` with `disabled`, or whose parent is such an `optgroup` (section 4.10.10, "The option element")
abbrev pub disabled_group : Asked
disabled_group = AskAnd (typed (codes "optgroup")) (has (codes "disabled"))

abbrev pub disabled_option : Asked
disabled_option = AskAnd (typed (codes "option")) (AskOr (has (codes "disabled")) (AskLeads Parent (disabled_self (codes "optgroup"))))

unfoldable pub disabled : Asked
disabled = html (AskOr disabled_control (AskOr disabled_group disabled_option))

-- one of these elements that isn't disabled
unfoldable pub enabled : Asked
enabled = html (AskAnd (AskOr control (AskOr (typed (codes "optgroup")) (typed (codes "option")))) (AskNot disabled))
