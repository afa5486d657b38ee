-- The names of pseudo-classes (Selectors Level 4, section 17, "Grammar"; HTML standard, section 4.16.3, "Pseudo-classes").
use Rattle.std.specs.Prelude.{ℕ, ◌||◌, bytes_eq, codes, false, if◌then◌else◌, List, Option, None, Some}
use Rattle.h5_selectors.specs.Asking.{Asked, AskAnd, AskAny, AskEmpty, AskLink, AskNth, AskNthOfType, AskRoot, AskScope}
use Rattle.h5_selectors.specs.Controls.{checked, disabled, enabled}
use Rattle.h5_selectors.specs.Indices.{indices}
use Rattle.h5_selectors.specs.declared.fault.SelectorProblem.{SelectorProblem}
use Rattle.h5_selectors.specs.declared.fault.SelectorProblem.TheVariants.{PseudoClass, PseudoElement}
use Rattle.h5_selectors.specs.declared.formula.AnPlusB.{AnPlusB}
use Rattle.h5_selectors.specs.declared.formula.Side.{Side}
use Rattle.h5_selectors.specs.declared.formula.Side.TheVariants.{First, Last}
use Rattle.h5_selectors.specs.declared.parser.Function.{Function}
use Rattle.h5_selectors.specs.declared.parser.Function.TheVariants as function

-- the first or the last child
abbrev pub first : AnPlusB
first = indices 0 false 1 false

abbrev pub end_child : Side → Asked
end_child side = AskNth first side AskAny

-- a pseudo-class without arguments, by its name in lower case
unfoldable pub plain_of : List ℕ → Option Asked
plain_of name =
    if bytes_eq name (codes "root") then Some AskRoot
    else (if bytes_eq name (codes "scope") then Some AskScope
    else (if bytes_eq name (codes "empty") then Some AskEmpty
    else (if bytes_eq name (codes "any-link") then Some AskLink
    else (if bytes_eq name (codes "link") then Some AskLink
    else (if bytes_eq name (codes "checked") then Some checked
    else (if bytes_eq name (codes "disabled") then Some disabled
    else (if bytes_eq name (codes "enabled") then Some enabled
    else (if bytes_eq name (codes "first-child") then Some (end_child First)
    else (if bytes_eq name (codes "last-child") then Some (end_child Last)
    else (if bytes_eq name (codes "only-child") then Some (AskAnd (end_child First) (end_child Last))
    else (if bytes_eq name (codes "first-of-type") then Some (AskNthOfType first First)
    else (if bytes_eq name (codes "last-of-type") then Some (AskNthOfType first Last)
    else (if bytes_eq name (codes "only-of-type") then Some (AskAnd (AskNthOfType first First) (AskNthOfType first Last)) else None)))))))))))))

-- the problem of another name in lower case
abbrev pub problem_of : List ℕ → SelectorProblem
problem_of name =
    if bytes_eq name (codes "before") || bytes_eq name (codes "after") || bytes_eq name (codes "first-line") || bytes_eq name (codes "first-letter")
    then PseudoElement else PseudoClass

-- a pseudo-class with arguments, by its name in lower case
unfoldable pub function_of : List ℕ → Option Function
function_of name =
    if bytes_eq name (codes "not") then Some function.Not
    else (if bytes_eq name (codes "is") then Some function.Is
    else (if bytes_eq name (codes "where") then Some function.Is
    else (if bytes_eq name (codes "has") then Some function.Has
    else (if bytes_eq name (codes "nth-child") then Some (function.NthChild First)
    else (if bytes_eq name (codes "nth-last-child") then Some (function.NthChild Last)
    else (if bytes_eq name (codes "nth-of-type") then Some (function.NthOfType First)
    else (if bytes_eq name (codes "nth-last-of-type") then Some (function.NthOfType Last)
    else (if bytes_eq name (codes "lang") then Some function.Lang else None))))))))
