-- If the adjusted current node is an element of HTML, or no element is open, no token is foreign.
use Rattle.std.proofs.Common.{◌≡◌, ◌∙◌, ℕ, false, true, List, [], ◌∷◌, map, Option, None, Some, ap, refl, subst, sym}
use Rattle.h5_names.specs.declared.qualified.QualName.{QualName}
use Rattle.h5_interface.specs.Forest.{ElementNode, Forest, IsNode, kind_of}
use Rattle.h5_interface.proofs.ForestLaws.{node_of_kind}
use Rattle.h5_builder_spec.specs.reset.Roles.{role_of, is_html_element}
use Rattle.h5_builder_spec.specs.Sound.{role_at}
use Rattle.h5_interface.specs.SinkChoices.{SinkChoices}
use Rattle.h5_tables.specs.TagSets.{html_namespace}
use Rattle.h5_tables.specs.TurnText.{TurnText}
use Rattle.h5_builder_spec.specs.formatting.FormattingNames.{html_name}
use Rattle.h5_builder_spec.specs.stack.Order.{first_or}
use Rattle.h5_builder_spec.specs.stack.Scope.{first_passes}
use Rattle.h5_builder_spec.specs.insertion.Foreign.{adjusted_current_node, adjusted_of, is_foreign}
use Rattle.h5_builder_spec.specs.Run.{taken}
use Rattle.h5_builder_spec.specs.World.{World, current, name_in, name_of_found, names_of}
use Rattle.h5_builder_laws.proofs.modes.ForeignModeLaws.{IsHtmlAt, html_not_foreign}

abbrev pub AtHtml : World → Type 0
AtHtml w = IsHtmlAt w (adjusted_current_node w)

-- the newline flag plays no part
taken_at : (w : World) (o : Option ℕ) → IsHtmlAt w o → IsHtmlAt (taken w) o
taken_at w None h = tt
taken_at w (Some n) h = h

pub taken_html : (choices : SinkChoices) (t : TurnText) (w : World) → AtHtml w → is_foreign choices t (taken w) ≡ false
taken_html choices t w h = html_not_foreign choices t (taken w) (taken_at w (adjusted_current_node w) h)

-- none is open
pub at_none : (w : World) → w.stack ≡ [] → AtHtml w
at_none w e = subst (λ s. IsHtmlAt w (adjusted_of w.context s)) (sym e) tt

-- the context, where a fragment is parsed, is an element of HTML
abbrev pub IsHtmlContext : Forest → Option ℕ → Type 0
IsHtmlContext f None = Unit {0}
IsHtmlContext f (Some n) = (name : QualName) × ((kind_of f n ≡ Some (ElementNode name)) × (is_html_element name ≡ true))

-- it stays one where kinds are kept, of the same role
pub context_kept : (f g : Forest) (o : Option ℕ) → ((n : ℕ) → IsNode f n → kind_of g n ≡ kind_of f n) → IsHtmlContext f o → IsHtmlContext g o
context_kept f g None k h = tt
context_kept f g (Some n) k h = (h.0, (k n (node_of_kind f n (ElementNode h.0) h.1.0) ∙ h.1.0, h.1.1))

pub role_kept : (f g : Forest) (o : Option ℕ) → ((n : ℕ) → IsNode f n → kind_of g n ≡ kind_of f n) → IsHtmlContext f o → role_at g o ≡ role_at f o
role_kept f g None k h = refl
role_kept f g (Some n) k h = ap (λ x. Some (role_of (name_of_found x))) (k n (node_of_kind f n (ElementNode h.0) h.1.0))

-- then no current node of HTML is foreign
pub at_current_in : (w : World) → IsHtmlContext w.forest w.context → is_html_element (name_in w.forest (current w)) ≡ true → AtHtml w
at_current_in w c h = at w.context c w.stack h
  where
    at : (o : Option ℕ) → IsHtmlContext w.forest o → (s : List ℕ) → is_html_element (name_in w.forest (first_or w.forest.document s)) ≡ true → IsHtmlAt w (adjusted_of o s)
    at None x [] k = tt
    at None x (n ∷ []) k = k
    at None x (n ∷ m ∷ s) k = k
    at (Some y) x [] k = tt
    at (Some y) x (n ∷ []) k = ap (λ z. is_html_element (name_of_found z)) x.1.0 ∙ x.1.1
    at (Some y) x (n ∷ m ∷ s) k = k

-- without a context, the adjusted current node is the current node
pub at_current : (w : World) → w.context ≡ None → is_html_element (name_in w.forest (current w)) ≡ true → AtHtml w
at_current w none h = at w.context none w.stack h
  where
    at : (o : Option ℕ) → o ≡ None → (s : List ℕ) → is_html_element (name_in w.forest (first_or w.forest.document s)) ≡ true → IsHtmlAt w (adjusted_of o s)
    at None e [] k = tt
    at None e (n ∷ []) k = k
    at None e (n ∷ m ∷ s) k = k
    at (Some c) e s k = absurd (cc)

-- an element of HTML, by its name
pub html_is : (local : List ℕ) → is_html_element (html_name local) ≡ true
unfolding html_namespace
html_is local = refl

pub at_element : (w : World) (n : ℕ) (local : List ℕ) → w.context ≡ None → current w ≡ n → kind_of w.forest n ≡ Some (ElementNode (html_name local)) → AtHtml w
at_element w n local none e k =
    at_current w none (ap (λ x. is_html_element (name_in w.forest x)) e ∙ ap (λ o. is_html_element (name_of_found o)) k ∙ html_is local)

pub at_named : (w : World) (local : List ℕ) (names : List QualName) → w.context ≡ None → names_of w ≡ html_name local ∷ names → AtHtml w
unfolding names_of
at_named w local names none e = at_current w none (at w.stack e)
  where
    at : (s : List ℕ) → map (name_in w.forest) s ≡ html_name local ∷ names → is_html_element (name_in w.forest (first_or w.forest.document s)) ≡ true
    at [] h = absurd (cc)
    at (n ∷ s) h = ap (first_passes is_html_element) h ∙ html_is local

pub at_named_in : (w : World) (local : List ℕ) (names : List QualName) → IsHtmlContext w.forest w.context → names_of w ≡ html_name local ∷ names → AtHtml w
unfolding names_of
at_named_in w local names c e = at_current_in w c (at w.stack e)
  where
    at : (s : List ℕ) → map (name_in w.forest) s ≡ html_name local ∷ names → is_html_element (name_in w.forest (first_or w.forest.document s)) ≡ true
    at [] h = absurd (cc)
    at (n ∷ s) h = ap (first_passes is_html_element) h ∙ html_is local
