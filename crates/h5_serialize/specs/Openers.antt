-- The openers of a call, innermost first: the start tags that are not yet closed, and the base entry.
use Rattle.std.specs.Prelude.{Bool, true, false, ◌&&◌, List, [], ◌∷◌, Some, None, if◌then◌else◌}
use Rattle.std.specs.List.{list_any}
use Rattle.h5_names.specs.declared.qualified.QualName.{QualName}
use Rattle.h5_serialize.specs.declared.openers.Opener.{Opener}
use Rattle.h5_serialize.specs.declared.options.TraversalScope.{TraversalScope}
use Rattle.h5_serialize.specs.declared.options.TraversalScope.TheVariants.{IncludeNode, ChildrenOnly}
use Rattle.h5_serialize.specs.Call.{Call, StartOf, EndOf, TextOf, CommentOf, DoctypeOf, InstructionOf}
use Rattle.h5_serialize.specs.Names.{is_void, is_html, is_raw_name}

-- an opener without flags
abbrev pub plain : Opener
plain = record { is_void = false; is_raw = false }

-- the base entry of a scope: if only the children of a node are written, it counts as an HTML element with the node's local name, but never
-- as a void element
abbrev pub base_of : (scripting_enabled : Bool) → TraversalScope → Opener
base_of scripting_enabled IncludeNode = plain
base_of scripting_enabled (ChildrenOnly None) = plain
base_of scripting_enabled (ChildrenOnly (Some name)) = record { is_void = false; is_raw = is_raw_name scripting_enabled name.local }

-- the start tag of an element with this name
abbrev pub start_of : (scripting_enabled : Bool) → QualName → Opener
start_of scripting_enabled name = record { is_void = is_void name; is_raw = is_html name && is_raw_name scripting_enabled name.local }

-- tags are omitted if some opener is a void element
abbrev pub are_hidden : List Opener → Bool
are_hidden openers = list_any (λ o. o.is_void) openers

-- true if text is written unescaped: the innermost opener decides
abbrev pub is_raw : List Opener → Bool
is_raw [] = false
is_raw (opener ∷ openers) = opener.is_raw

-- a call that needs a parent
abbrev pub needs_parent : Call → Bool
needs_parent (StartOf name attrs) = true
needs_parent (EndOf name) = true
needs_parent (TextOf text) = true
needs_parent (CommentOf text) = false
needs_parent (DoctypeOf name) = false
needs_parent (InstructionOf target content) = false

-- openers; if there are none, one without flags is made
abbrev pub with_parent : List Opener → List Opener
with_parent [] = plain ∷ []
with_parent (opener ∷ openers) = opener ∷ openers

-- the openers of a call: if it needs one and there is none, one is made if the option allows it
abbrev pub openers_of : (create_missing_parent : Bool) → Call → List Opener → List Opener
openers_of create call openers = if create && needs_parent call then with_parent openers else openers

-- a call that needs an opener and has none
abbrev pub lacks_parent : (create_missing_parent : Bool) → Call → List Opener → Bool
lacks_parent create call (opener ∷ openers) = false
lacks_parent false call [] = needs_parent call
lacks_parent true call [] = false

-- the openers without the innermost
abbrev pub without_last : List Opener → List Opener
without_last [] = []
without_last (opener ∷ openers) = openers

-- the openers after a call: a start tag adds one, an end tag removes the innermost
abbrev pub openers_left : (scripting_enabled : Bool) → Call → List Opener → List Opener
openers_left scripting_enabled (StartOf name attrs) openers = start_of scripting_enabled name ∷ openers
openers_left scripting_enabled (EndOf name) openers = without_last openers
openers_left scripting_enabled (TextOf text) openers = openers
openers_left scripting_enabled (CommentOf text) openers = openers
openers_left scripting_enabled (DoctypeOf name) openers = openers
openers_left scripting_enabled (InstructionOf target content) openers = openers
