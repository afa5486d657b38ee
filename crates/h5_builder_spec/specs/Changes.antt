-- The changes of a world that rules are made of.
use Rattle.std.specs.Prelude.{ℕ, Bool, true, false, ◌&&◌, if◌then◌else◌, List, [], ◌∷◌, codes, Option, Some, None, option_map, ◌++◌}
use Rattle.h5_names.specs.declared.qualified.QualName.{QualName}
use Rattle.h5_names.specs.AttributeText.{AttributeText}
use Rattle.h5_interface.specs.Changes.{add_missing_attributes, detach, mark}
use Rattle.h5_interface.specs.Forest.{ChildNode, ChildText, CommentNode, Forest}
use Rattle.h5_interface.specs.NewElement.{flags_of}
use Rattle.h5_interface.specs.Seen.{append_doctype, make, make_element, plain}
use Rattle.h5_interface.specs.SinkChoices.{SinkChoices}
use Rattle.h5_interface.specs.declared.marks.QuirksMode.{QuirksMode}
use Rattle.h5_tables.specs.TagSets.{is_html_named}
use Rattle.h5_tables.specs.declared.modes.InsertionMode.{InsertionMode}
use Rattle.h5_builder_spec.specs.Blanks.{all_blank}
use Rattle.h5_builder_spec.specs.stack.Scope.{cut_above, cut_through, has_template, is_implied_but}
use Rattle.h5_builder_spec.specs.insertion.FormOwner.{Marking, associates, form_owner, marked_by}
use Rattle.h5_builder_spec.specs.insertion.Place.{LastChild, Place, place, put}
use Rattle.h5_builder_spec.specs.World.{World, current, names_of, root}
use Rattle.h5_builder_spec.specs.formatting.FormattingNames.{html_name}
use Rattle.h5_builder_spec.specs.stack.Order.{but_first, second_from_last}

abbrev pub set_mode : InsertionMode → World → World
set_mode m w = record w { mode = m }

abbrev pub with_forest : Forest → World → World
with_forest f w = record w { forest = f }

-- the frameset-ok flag is set to "not ok"
abbrev pub set_frameset_not_ok : World → World
set_frameset_not_ok w = record w { frameset_ok = false }

-- the frameset-ok flag is set to "not ok" if the text has a character that isn't ASCII whitespace
unfoldable pub set_frameset_ok_by_text : List ℕ → World → World
set_frameset_ok_by_text t w = record w { frameset_ok = w.frameset_ok && all_blank t }

-- builder and sink get a quirks mode
unfoldable pub set_quirks_mode : QuirksMode → World → World
set_quirks_mode q w = record w { quirks = q; seen_quirks = q }

-- a new element at a place, after what is done to it before it is put there
abbrev pub new_element : SinkChoices → Place → QualName → List AttributeText → Bool → Marking → Forest → Forest
new_element choices p name attrs duplicates marks f =
    put p (ChildNode (choices.fresh f)) (marked_by marks (make_element choices name attrs (flags_of name attrs duplicates) f))

-- a new HTML element at a place, pushed
abbrev pub push_new : SinkChoices → Place → List ℕ → List AttributeText → Bool → Marking → World → World
push_new choices p local attrs duplicates marks w = record w {
  forest = new_element choices p (html_name local) attrs duplicates marks w.forest;
  stack = choices.fresh w.forest ∷ w.stack;
}

-- a new HTML element is associated with its form owner, if it has one
abbrev pub owned : SinkChoices → List ℕ → List AttributeText → World → Marking
owned choices local attrs w = associates choices (choices.fresh w.forest) (place w) (form_owner local attrs w)

-- an HTML element at the place of insertion, pushed (HTML standard, section 13.2.6.1, insert an HTML
-- element)
unfoldable pub insert_element : SinkChoices → List ℕ → List AttributeText → Bool → World → World
insert_element choices local attrs duplicates w = push_new choices (place w) local attrs duplicates (owned choices local attrs w) w

-- an HTML element at the place of insertion, not pushed
unfoldable pub insert_and_pop_element : SinkChoices → List ℕ → List AttributeText → Bool → World → World
insert_and_pop_element choices local attrs duplicates w = with_forest (new_element choices (place w) (html_name local) attrs duplicates (owned choices local attrs w) w.forest) w

-- the root, as the document's last child, pushed
unfoldable pub create_root : SinkChoices → List AttributeText → World → World
create_root choices attrs w = push_new choices (LastChild w.forest.document) (codes "html") attrs false None w

-- the head at the place of insertion, pushed and stored as the head element
unfoldable pub insert_head : SinkChoices → List AttributeText → Bool → World → World
insert_head choices attrs duplicates w =
    let v = insert_element choices (codes "head") attrs duplicates w in record v { head = Some (current v) }

-- a comment at a place (HTML standard, section 13.2.6.1, insert a comment)
abbrev pub new_comment : SinkChoices → Place → List ℕ → Forest → Forest
new_comment choices p t f = put p (ChildNode (choices.fresh f)) (make choices (plain (CommentNode t)) f)

unfoldable pub append_comment : SinkChoices → List ℕ → World → World
append_comment choices t w = with_forest (new_comment choices (place w) t w.forest) w

unfoldable pub append_comment_to_doc : SinkChoices → List ℕ → World → World
append_comment_to_doc choices t w = with_forest (new_comment choices (LastChild w.forest.document) t w.forest) w

unfoldable pub append_comment_to_html : SinkChoices → List ℕ → World → World
append_comment_to_html choices t w = with_forest (new_comment choices (LastChild (root w)) t w.forest) w

-- a text at the place of insertion (HTML standard, section 13.2.6.1, insert a character)
unfoldable pub append_text : List ℕ → World → World
append_text t w = with_forest (put (place w) (ChildText t) w.forest) w

-- a doctype as the document's last child
unfoldable pub insert_doctype : SinkChoices → (name public_id system_id : List ℕ) → World → World
insert_doctype choices name public_id system_id w = with_forest (append_doctype choices name public_id system_id w.forest) w

-- the current node is popped, and the sink is notified
unfoldable pub pop : SinkChoices → World → World
pop choices w = record w { forest = mark (choices.marks_after_pop w.forest (current w)) w.forest; stack = but_first w.stack }

-- an element gets the attributes that it doesn't have yet
unfoldable pub add_attrs_to_html : List AttributeText → World → World
add_attrs_to_html attrs w = with_forest (add_missing_attributes (root w) attrs w.forest) w

abbrev pub add_attrs_at : Option ℕ → List AttributeText → World → World
add_attrs_at None attrs w = w
add_attrs_at (Some n) attrs w = with_forest (add_missing_attributes n attrs w.forest) w

unfoldable pub add_attrs_to_second : List AttributeText → World → World
add_attrs_to_second attrs w = add_attrs_at (second_from_last w.stack) attrs w

-- pop while the current node is one of these
abbrev pub pop_while : SinkChoices → (QualName → Bool) → List QualName → World → World
pop_while choices is [] w = w
pop_while choices is (n ∷ ns) w = if is n then pop_while choices is ns (pop choices w) else w

-- "generate implied end tags", except for HTML elements of this name (HTML standard, section 13.2.6.3)
unfoldable pub generate_implied_end_except : SinkChoices → List ℕ → World → World
generate_implied_end_except choices local w = pop_while choices (is_implied_but local) (names_of w) w

-- pops without notifying the sink, up to and including the newest HTML element of this name
unfoldable pub pop_until_named : List ℕ → World → World
pop_until_named local w = record w { stack = cut_through (is_html_named local) (names_of w) w.stack }

-- an HTML `form` at the place of insertion, not pushed; it becomes the form element
unfoldable pub insert_and_pop_form : SinkChoices → List AttributeText → Bool → World → World
insert_and_pop_form choices attrs duplicates w =
    let n = choices.fresh w.forest in record (insert_and_pop_element choices (codes "form") attrs duplicates w) { form = Some n }

-- "clear the stack back to" a context: pops all that is newer than the newest of these elements, without notifying the
-- sink
unfoldable pub pop_until_current : (QualName → Bool) → World → World
pop_until_current is w = record w { stack = cut_above is (names_of w) w.stack }

-- foster parenting is turned on or off
abbrev pub set_foster : Bool → World → World
set_foster on w = record w { foster = on }

-- the mode is saved as the one to return to
abbrev pub save_mode : World → World
save_mode w = record w { saved_mode = Some w.mode }

-- a text of a table is appended to the pending text; and all of the pending text is taken
unfoldable pub append_pending_text : List ℕ → World → World
append_pending_text t w = record w { pending = w.pending ++ t }

abbrev pub take_pending_text : World → World
take_pending_text w = record w { pending = [] }

-- the next token, if it is a text, loses a newline at its start
abbrev pub set_ignore_lf : World → World
set_ignore_lf w = record w { ignore_lf = true }

-- an HTML `form` at the place of insertion, pushed; unless a template is open, it becomes the form element
unfoldable pub insert_form : SinkChoices → List AttributeText → Bool → World → World
insert_form choices attrs duplicates w =
    let n = choices.fresh w.forest in
    record (insert_element choices (codes "form") attrs duplicates w) { form = if has_template (names_of w) then w.form else Some n }

-- there is no form element any more
abbrev pub clear_form : World → World
clear_form w = record w { form = None }

-- an HTML `script` at the place of insertion, pushed; in a fragment it is marked as started before it is inserted
abbrev pub starts_marked : SinkChoices → World → Marking
starts_marked choices w = option_map (λ context f. choices.marks_after_started f (choices.fresh w.forest)) w.context

unfoldable pub insert_script : SinkChoices → List AttributeText → Bool → World → World
insert_script choices attrs duplicates w = push_new choices (place w) (codes "script") attrs duplicates (starts_marked choices w) w

-- the body, which is the second element on the stack, leaves its parent, and only the root stays open; the sink isn't
-- notified (section 13.2.6.4.7, a start tag whose tag name is "frameset")
abbrev pub detach_known : Option ℕ → Forest → Forest
detach_known None f = f
detach_known (Some n) f = detach n f

abbrev pub only_last : List ℕ → List ℕ
only_last [] = []
only_last (n ∷ []) = n ∷ []
only_last (n ∷ m ∷ s) = only_last (m ∷ s)

unfoldable pub remove_body : World → World
remove_body w = record w { forest = detach_known (second_from_last w.stack) w.forest; stack = only_last w.stack }

-- the current node is marked as a script that started
unfoldable pub mark_started : SinkChoices → World → World
mark_started choices w = with_forest (mark (choices.marks_after_started w.forest (current w)) w.forest) w

-- the head element is pushed again, as the current node
abbrev pub with_known : Option ℕ → List ℕ → List ℕ
with_known None s = s
with_known (Some n) s = n ∷ s

abbrev pub push_head : World → World
push_head w = record w { stack = with_known w.head w.stack }
