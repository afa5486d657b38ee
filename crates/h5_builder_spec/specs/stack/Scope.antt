-- Tests of the open elements, and ways to close them, by their names, with the current node's first (HTML standard,
-- section 13.2.4.2, "The stack of open elements").
use Rattle.std.specs.Prelude.{ℕ, ◌==◌, Bool, true, false, not, ◌&&◌, if◌then◌else◌, List, [], ◌∷◌, Option, None, Some, codes}
use Rattle.std.specs.List.{list_any}
use Rattle.h5_names.specs.declared.qualified.QualName.{QualName}
use Rattle.h5_interface.specs.NewElement.{is_html_template}
use Rattle.h5_tables.specs.TagSets.{is_body_end_ok, is_button_scope, is_default_scope, is_html_named, is_implied, is_special}
use Rattle.h5_builder_spec.specs.stack.Order.{but_first}

-- one of these comes before, or is, the first that ends the scope ("have a particular element in scope")
abbrev pub in_scope : (QualName → Bool) → (QualName → Bool) → List QualName → Bool
in_scope is ends [] = false
in_scope is ends (n ∷ ns) = if is n then true else (if ends n then false else in_scope is ends ns)

-- this open element comes before, or is, the first that ends the scope
abbrev pub node_in_scope : ℕ → (QualName → Bool) → List QualName → List ℕ → Bool
node_in_scope x ends [] s = false
node_in_scope x ends (n ∷ ns) [] = false
node_in_scope x ends (n ∷ ns) (m ∷ s) = if x == m then true else (if ends n then false else node_in_scope x ends ns s)

-- the open element that passes and is the nearest to the root
abbrev pub oldest_of : Option ℕ → Option ℕ → Option ℕ
oldest_of None newer = newer
oldest_of (Some older) newer = Some older

abbrev pub oldest_passing : (QualName → Bool) → List QualName → List ℕ → Option ℕ
oldest_passing is [] s = None
oldest_passing is (n ∷ ns) [] = None
oldest_passing is (n ∷ ns) (m ∷ s) = oldest_of (oldest_passing is ns s) (if is n then Some m else None)

-- some open element is an HTML `template`
abbrev pub has_template : List QualName → Bool
has_template = list_any is_html_template

-- an element is open that may not be when the body ends
abbrev pub has_unclosed : List QualName → Bool
has_unclosed = list_any (λ n. not (is_body_end_ok n))

-- an HTML `body` is in scope
abbrev pub has_body_in_scope : List QualName → Bool
has_body_in_scope = in_scope (is_html_named (codes "body")) is_default_scope

-- an HTML `p` is in button scope ("have a particular element in button scope")
abbrev pub has_p_in_button_scope : List QualName → Bool
has_p_in_button_scope = in_scope (is_html_named (codes "p")) is_button_scope

-- an HTML element of this name comes before any special one
abbrev pub comes_before_special : List ℕ → List QualName → Bool
comes_before_special local = in_scope (is_html_named local) is_special

-- the second open element from the root on is an HTML element of this name
abbrev pub second_is : List ℕ → List QualName → Bool
second_is local [] = false
second_is local (n ∷ []) = false
second_is local (n ∷ m ∷ []) = is_html_named local n
second_is local (n ∷ m ∷ k ∷ ns) = second_is local (m ∷ k ∷ ns)

-- the first name, if there is one, passes
abbrev pub first_passes : (QualName → Bool) → List QualName → Bool
first_passes p [] = false
first_passes p (n ∷ ns) = p n

-- an implied end tag, except an HTML element of this name
abbrev pub is_implied_but : List ℕ → QualName → Bool
is_implied_but local n = is_implied n && not (is_html_named local n)

-- all names except the current node's
abbrev pub later_names : List QualName → List QualName
later_names [] = []
later_names (n ∷ ns) = ns

-- the names that remain after open elements are popped while they pass
abbrev pub drop_while : (QualName → Bool) → List QualName → List QualName
drop_while p [] = []
drop_while p (n ∷ ns) = if p n then drop_while p ns else n ∷ ns

-- "up to and including": the names after the first one that passes; none if no name passes
abbrev pub cut_names : (QualName → Bool) → List QualName → List QualName
cut_names is [] = []
cut_names is (n ∷ ns) = if is n then ns else cut_names is ns

-- the elements that remain then, by the names of all
abbrev pub cut_through : (QualName → Bool) → List QualName → List ℕ → List ℕ
cut_through is [] s = s
cut_through is (n ∷ ns) s = if is n then but_first s else cut_through is ns (but_first s)

-- "down to": the names from the first one that passes on
abbrev pub down_names : (QualName → Bool) → List QualName → List QualName
down_names is [] = []
down_names is (n ∷ ns) = if is n then n ∷ ns else down_names is ns

-- the elements that remain then, by the names of all
abbrev pub cut_above : (QualName → Bool) → List QualName → List ℕ → List ℕ
cut_above is [] s = s
cut_above is (n ∷ ns) s = if is n then s else cut_above is ns (but_first s)
