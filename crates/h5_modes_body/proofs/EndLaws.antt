-- Open elements that are closed by their handles, or copied after that.
use Rattle.std.proofs.Common.{◌≡◌, ◌≢◌, ℕ, true, false, ◌==◌, List, [], ◌∷◌, map, codes, MatchOption, None, Option, Some, refl, ap, sym, subst, ◌∙◌}
use Rattle.h5_names.specs.declared.qualified.QualName.{QualName}
use Rattle.h5_interface.specs.Forest.{ElementNode, Forest, IsElement, kind_of}
use Rattle.h5_interface.specs.SinkChoices.{SinkChoices}
use Rattle.h5_tables.specs.TagSets.{html_namespace, implied_names, is_default_scope, is_html_named, is_implied, is_one_of}
use Rattle.h5_builder_spec.specs.formatting.FormattingNames.{html_name}
use Rattle.h5_builder_spec.specs.stack.Order.{first_or, last_or}
use Rattle.h5_builder_spec.specs.stack.Scope.{is_implied_but, node_in_scope}
use Rattle.h5_builder_spec.specs.stack.Expected.{first_is, is_expected_node}
use Rattle.h5_builder_spec.specs.stack.Root.{IsRootOpen}
use Rattle.h5_builder_spec.proofs.fitting.OpenLaws.{open_while}
use Rattle.h5_builder_spec.specs.Changes.{clear_form, generate_implied_end_except, pop, pop_until_named}
use Rattle.h5_builder_spec.specs.stack.Closing.{generate_implied_end_tags}
use Rattle.h5_builder_spec.specs.modes.InBody.{close_the_form, form_in_scope}
use Rattle.h5_builder_spec.specs.Rows.{ClearForm, GenerateImpliedEnd, IsDone, RemoveFromStack, Row, choose, errs, row_if}
use Rattle.h5_builder_spec.specs.Sound.{Sound}
use Rattle.h5_builder_spec.specs.World.{World, current, name_in, name_of_found, names_of, root}
use Rattle.h5_builder_spec.proofs.changes.ClosingLaws.{named_not_implied, names-all_implied, while_holds}
use Rattle.h5_builder_spec.proofs.changes.ExpectedLaws.{first_implied}
use Rattle.h5_builder_spec.proofs.changes.PlaceLaws.{marked_kind}
use Rattle.h5_builder_spec.proofs.modes.CloseInLaws.{node_in_stack}
use Rattle.h5_builder_spec.proofs.roles.SetLaws.{implied_not_html}

-- neither a button nor a form has an implied end tag
pub button_not_implied : (local : List ℕ) → local ≡ codes "button" → (n : QualName) → is_implied n ≡ true → is_html_named local n ≡ false
unfolding implied_names
button_not_implied local e n h = named_not_implied (codes "button" ∷ []) local n refl (ap (is_one_of (codes "button" ∷ [])) e) h

pub form_not_implied : (local : List ℕ) → local ≡ codes "form" → (n : QualName) → is_implied n ≡ true → is_html_named local n ≡ false
unfolding implied_names
form_not_implied local e n h = named_not_implied (codes "form" ∷ []) local n refl (ap (is_one_of (codes "form" ∷ [])) e) h

-- nodes stay what they are, while elements are popped
pop_kind : (choices : SinkChoices) (w : World) (n : ℕ) → kind_of (pop choices w).forest n ≡ kind_of w.forest n
unfolding pop
pop_kind choices w n = marked_kind (Some (λ f. choices.marks_after_pop f (current w))) w.forest n

pub implied_kind : (choices : SinkChoices) (w : World) (n : ℕ) → kind_of (generate_implied_end_tags choices w).forest n ≡ kind_of w.forest n
unfolding generate_implied_end_tags
implied_kind choices w n = while_holds (λ v. kind_of v.forest n ≡ kind_of w.forest n) choices is_implied (λ v e. pop_kind choices v n ∙ e) (names_of w) w refl

pub implied_except_kind : (choices : SinkChoices) (local : List ℕ) (w : World) (n : ℕ) → kind_of (generate_implied_end_except choices local w).forest n ≡ kind_of w.forest n
unfolding generate_implied_end_except
implied_except_kind choices local w n = while_holds (λ v. kind_of v.forest n ≡ kind_of w.forest n) choices (is_implied_but local) (λ v e. pop_kind choices v n ∙ e) (names_of w) w refl

pub closed_element : (choices : SinkChoices) (local : List ℕ) (w : World) (n : ℕ) → IsElement w.forest n → IsElement (pop_until_named local (generate_implied_end_except choices local w)).forest n
unfolding pop_until_named
closed_element choices local w n e = (e.0, implied_except_kind choices local w n ∙ e.1)

pub element_stays : {H : Type 0} (node : H → ℕ) (o : Option H) (choices : SinkChoices) (local : List ℕ) (w v : World) → v ≡ pop_until_named local (generate_implied_end_except choices local w)
    → MatchOption o (Unit {0}) (λ h. IsElement w.forest (node h)) → MatchOption o (Unit {0}) (λ h. IsElement v.forest (node h))
element_stays node None choices local w v e there = tt
element_stays node (Some h) choices local w v e there = subst (λ (x : World). IsElement x.forest (node h)) (sym e) (closed_element choices local w (node h) there)

root_named : (named : ℕ → QualName) (d : ℕ) (s : List ℕ) → IsRootOpen (map named s) → is_html_named (codes "html") (named (last_or d s)) ≡ true
root_named named d [] h = absurd h
root_named named d (n ∷ []) h = h
root_named named d (n ∷ m ∷ s) h = root_named named n (m ∷ s) h

-- the form element, which is in scope, isn't the root, nor does it become it
pub form_not_root : (choices : SinkChoices) (w : World) (n : ℕ) → Sound w → IsRootOpen (names_of w) → w.form ≡ Some n → node_in_scope n is_default_scope (names_of w) w.stack ≡ true → n ≢ root (generate_implied_end_tags choices (clear_form w))
unfolding names_of is_html_named html_namespace
form_not_root choices w n k root_open is_form scope e =
    let v = generate_implied_end_tags choices (clear_form w) in
    let kind : kind_of v.forest n ≡ Some (ElementNode (html_name (codes "form"))) = implied_kind choices (clear_form w) n ∙ k.form_name n is_form (node_in_stack n is_default_scope (names_of w) w.stack scope) in
    let still : IsRootOpen (names_of v) = subst IsRootOpen (sym (names-all_implied choices (clear_form w))) (open_while is_implied (names_of w) implied_not_html root_open) in
    let html : is_html_named (codes "html") (name_in v.forest n) ≡ true = ap (λ m. is_html_named (codes "html") (name_in v.forest m)) e ∙ root_named (name_in v.forest) v.forest.document v.stack still in
    let other : is_html_named (codes "html") (name_in v.forest n) ≡ false = ap (λ x. is_html_named (codes "html") (name_of_found x)) kind in
    let clash : true ≡ false = sym html ∙ other in
    cc

-- it stays an element
pub form_stays_element : (choices : SinkChoices) (w : World) (n : ℕ) → Sound w → w.form ≡ Some n → IsElement (generate_implied_end_tags choices (clear_form w)).forest n
form_stays_element choices w n k is_form = let e = k.form_node n is_form in (e.0, implied_kind choices (clear_form w) n ∙ e.1)

-- whether it is the current node then
pub form_expected : (choices : SinkChoices) (w v : World) (n : ℕ) → IsRootOpen (names_of w) → v ≡ generate_implied_end_tags choices (clear_form w) → (current v == n) ≡ is_expected_node n (names_of w) w.stack
unfolding names_of
form_expected choices w v n root_open e =
    let u = generate_implied_end_tags choices (clear_form w) in
    let still : IsRootOpen (names_of u) = subst IsRootOpen (sym (names-all_implied choices (clear_form w))) (open_while is_implied (names_of w) implied_not_html root_open) in
    ap (λ (x : World). current x == n) e ∙ at u.forest u.stack still ∙ first_implied choices n (clear_form w)
  where
    at : (f : Forest) (s : List ℕ) → IsRootOpen (map (name_in f) s) → (first_or f.document s == n) ≡ first_is n s
    at f [] h = absurd h
    at f (m ∷ s) h = refl

-- the row of the end tag, if there is a form element
abbrev pub scoped_row : ℕ → World → Row
scoped_row form w = row_if (is_expected_node form (names_of w) w.stack) (ClearForm ∷ GenerateImpliedEnd ∷ RemoveFromStack form ∷ []) IsDone

pub closes_scoped : (form : ℕ) (w : World) → w.form ≡ Some form → form_in_scope form w ≡ true → close_the_form w.form w ≡ scoped_row form w
unfolding close_the_form
closes_scoped form w e scope = ap (λ o. close_the_form o w) e ∙ ap (λ b. choose b (scoped_row form w) (errs (ClearForm ∷ []) IsDone)) scope

pub closes_unscoped : (form : ℕ) (w : World) → w.form ≡ Some form → form_in_scope form w ≡ false → close_the_form w.form w ≡ errs (ClearForm ∷ []) IsDone
unfolding close_the_form
closes_unscoped form w e scope = ap (λ o. close_the_form o w) e ∙ ap (λ b. choose b (scoped_row form w) (errs (ClearForm ∷ []) IsDone)) scope
