-- What a text leaves of the current node's name, whatever the forest.
use Rattle.std.proofs.Common.{◌≡◌, ℕ, ◌==◌, Bool, true, false, List, [], ◌∷◌, ◌++◌, map, Option, Some, None, IsTrue, refl, ap, sym, ◌∙◌}
use Rattle.h5_names.specs.AttributeText.{AttributeText}
use Rattle.h5_names.specs.declared.qualified.QualName.{QualName}
use Rattle.h5_token.specs.TokenText.{TagText}
use Rattle.h5_interface.specs.Changes.{edit_children, insert_before, insert_node_below, set_parents}
use Rattle.h5_interface.specs.Forest.{ChildNode, ChildText, Forest, Node, kind_of, parent_of}
use Rattle.h5_interface.specs.NewElement.{flags_of, is_html_template}
use Rattle.h5_interface.specs.Seen.{element, make, make_element, with_child_by, with_contents}
use Rattle.h5_interface.specs.SinkChoices.{SinkChoices}
use Rattle.h5_interface.proofs.MakingLaws.{new_kind}
use Rattle.h5_tables.specs.TagSets.{formatting_names, html_namespace, is_html_named, is_one_of, is_table_outer, table_outer_names}
use Rattle.h5_builder_spec.specs.formatting.FormattingList.{ElementEntry, Entry, MarkerEntry, closed_front}
use Rattle.h5_builder_spec.specs.formatting.FormattingNames.{AllFormatting, html_name}
use Rattle.h5_builder_spec.specs.stack.Scope.{first_passes}
use Rattle.h5_builder_spec.specs.reset.Roles.{PlainRole, Role, RowRole, SectionRole, TableRole, is_template, role_of, role_of_local}
use Rattle.h5_builder_spec.proofs.roles.PlainNameLaws.{formatting_local_plain}
use Rattle.h5_builder_spec.proofs.roles.RoleLaws.{role_made}
use Rattle.h5_builder_spec.proofs.roles.RoleSetLaws.{set_passes}
use Rattle.h5_builder_spec.proofs.roles.SetLaws.{template_test}
use Rattle.h5_builder_spec.specs.insertion.FormOwner.{Marking, marked_by}
use Rattle.h5_builder_spec.specs.Changes.{owned, append_text, insert_element, new_element, set_foster, set_frameset_ok_by_text}
use Rattle.h5_builder_spec.specs.formatting.Formatting.{insert_anew, insert_for, reconstruct_active_formatting_elements}
use Rattle.h5_builder_spec.specs.modes.InTable.{keeps_text}
use Rattle.h5_builder_spec.specs.insertion.Place.{LastChild, Place, TableFosterParenting, place, put}
use Rattle.h5_builder_spec.specs.Text.{fostered_text, text_in_body}
use Rattle.h5_builder_spec.specs.World.{World, name_in, name_of_found, names_of}
use Rattle.h5_builder_spec.proofs.changes.PlaceLaws.{marked_kind}
use Rattle.h5_builder_laws.proofs.cuts.TextForestLaws.{edit_kind, text_same}
use Rattle.h5_builder_spec.proofs.modes.ReadyInLaws.{front_formatting}

-- a child that is put changes no kinds
parents_kind : (chosen : ℕ → Bool) (o : Option ℕ) (f : Forest) (n : ℕ) → kind_of (set_parents chosen o f) n ≡ kind_of f n
parents_kind chosen o f n = at (f.node n) refl
  where
    at : (x : Option Node) → f.node n ≡ x → kind_of (set_parents chosen o f) n ≡ kind_of f n
    at None e = rw e refl
    at (Some d) e = rw e refl

last_kind : (p c n : ℕ) (f : Forest) → kind_of (put (LastChild p) (ChildNode c) f) n ≡ kind_of f n
last_kind p c n f =
    parents_kind (λ m. m == c) (Some p) (edit_children p (λ cs. cs ++ ChildNode c ∷ []) f) n
    ∙ edit_kind p n (λ cs. cs ++ ChildNode c ∷ []) f

below_kind : (o : Option ℕ) (s c n : ℕ) (f : Forest) → kind_of (insert_node_below o s c f) n ≡ kind_of f n
below_kind None s c n f = refl
below_kind (Some p) s c n f =
    parents_kind (λ m. m == c) (Some p) (edit_children p (insert_before s (ChildNode c)) f) n
    ∙ edit_kind p n (insert_before s (ChildNode c)) f

beside_kind : (o : Option ℕ) (table prev c n : ℕ) (f : Forest) → kind_of (with_child_by o table prev (ChildNode c) f) n ≡ kind_of f n
beside_kind None table prev c n f = last_kind prev c n f
beside_kind (Some p) table prev c n f = below_kind (parent_of f table) table c n f

put_kind : (p : Place) (c n : ℕ) (f : Forest) → kind_of (put p (ChildNode c) f) n ≡ kind_of f n
put_kind (LastChild p) c n f = last_kind p c n f
put_kind (TableFosterParenting table prev) c n f = beside_kind (parent_of f table) table prev c n f

-- a new element has its name, if that isn't a template's
fresh_name : (choices : SinkChoices) (p : Place) (name : QualName) (attrs : List AttributeText) (duplicates : Bool) (marks : Marking) (f : Forest) → is_html_template name ≡ false
    → name_in (new_element choices p name attrs duplicates marks f) (choices.fresh f) ≡ name
fresh_name choices p name attrs duplicates marks f h =
    let n = choices.fresh f in
    let flags = flags_of name attrs duplicates in
    let d : Node = element name attrs flags in
    ap name_of_found (put_kind p n n (marked_by marks (make_element choices name attrs flags f))
    ∙ marked_kind marks (make_element choices name attrs flags f) n
    ∙ ap (λ b. kind_of (with_contents b choices n (make choices d f)) n) h
    ∙ new_kind f n d)

-- names of formatting elements aren't parts of tables, nor a template's
abbrev keeps_role : Role → Bool
keeps_role TableRole = true
keeps_role SectionRole = true
keeps_role RowRole = true
keeps_role _ = false

plain_keeps_none : (n : QualName) → role_of n ≡ PlainRole → is_table_outer n ≡ false
unfolding is_table_outer table_outer_names role_of_local
plain_keeps_none n e = at (is_table_outer n) refl
  where
    at : (b : Bool) → is_table_outer n ≡ b → b ≡ false
    at false h = refl
    at true h = absurd (let k : keeps_role PlainRole ≡ true = ap keeps_role (sym e) ∙ set_passes keeps_role table_outer_names n (refl, (refl, (refl, (refl, (refl, tt))))) h in cc)

plain_no_template : (n : QualName) → role_of n ≡ PlainRole → is_html_template n ≡ false
unfolding is_html_named html_namespace
plain_no_template n e = template_test n ∙ ap is_template e

pub formatting_role : (local : List ℕ) → IsTrue (is_one_of formatting_names local) → role_of (html_name local) ≡ PlainRole
formatting_role local h = role_made local ∙ formatting_local_plain local h

-- so no new element for an entry buffers text
keeps_insert : (choices : SinkChoices) (tag : TagText) (w : World) → IsTrue (is_one_of formatting_names tag.name) → keeps_text (insert_for choices tag w) ≡ false
unfolding names_of insert_element
keeps_insert choices tag w h =
    let r = formatting_role tag.name h in
    ap is_table_outer (fresh_name choices (place w) (html_name tag.name) tag.attrs tag.had_duplicate_attributes (owned choices tag.name tag.attrs w) w.forest (plain_no_template (html_name tag.name) r))
    ∙ plain_keeps_none (html_name tag.name) r

keeps_anew : (choices : SinkChoices) (l : List Entry) (w : World) → AllFormatting l → keeps_text w ≡ false → keeps_text (insert_anew choices l w) ≡ false
keeps_anew choices [] w k h = h
keeps_anew choices (MarkerEntry ∷ l) w k h = keeps_anew choices l w k h
keeps_anew choices (ElementEntry n tag ∷ l) w k h = keeps_insert choices tag (insert_anew choices l w) k.0

keeps_reconstruct : (choices : SinkChoices) (w : World) → AllFormatting w.formatting → keeps_text w ≡ false → keeps_text (reconstruct_active_formatting_elements choices w) ≡ false
unfolding names_of reconstruct_active_formatting_elements
keeps_reconstruct choices w k h = keeps_anew choices (closed_front w.stack w.formatting) w (front_formatting w.stack w.formatting k) h

-- a text leaves the current node and its name
pub current_name_kept : (p : QualName → Bool) (t : List ℕ) (w : World) → first_passes p (names_of (append_text t w)) ≡ first_passes p (names_of w)
unfolding names_of append_text
current_name_kept p t w = at w.stack
  where
    at : (s : List ℕ) → first_passes p (map (name_in (put (place w) (ChildText t) w.forest)) s) ≡ first_passes p (map (name_in w.forest) s)
    at [] = refl
    at (n ∷ s) = ap (λ k. p (name_of_found k)) ((text_same (place w) t w.forest).kinds n)

-- what is fostered leaves a current node that keeps no text back
pub fostered_keeps : (choices : SinkChoices) (t : List ℕ) (w : World) → AllFormatting w.formatting → keeps_text w ≡ false → keeps_text (fostered_text choices t w) ≡ false
unfolding names_of text_in_body set_frameset_ok_by_text append_text
fostered_keeps choices t w k h =
    let v = set_frameset_ok_by_text t (reconstruct_active_formatting_elements choices (set_foster true w)) in
    current_name_kept is_table_outer t v ∙ keeps_reconstruct choices (set_foster true w) k h
