-- A node as HTML (HTML standard, section 13.3, "Serializing HTML fragments").
use Rattle.std.specs.Prelude.{ℕ, Bool, false, List}
use Rattle.std.specs.Option.{option_and_then}
use Rattle.h5_names.specs.declared.qualified.QualName.{QualName}
use Rattle.h5_interface.specs.Forest.{Forest, kind_of}
use Rattle.h5_serialize.specs.Standing.{new_standing, walk_text}
use Rattle.h5_serialize.specs.declared.options.SerializeOpts.{SerializeOpts}
use Rattle.h5_serialize.specs.declared.options.TraversalScope.{TraversalScope}
use Rattle.h5_serialize.specs.declared.options.TraversalScope.TheVariants.{ChildrenOnly, IncludeNode}
use Rattle.h5_arena.specs.ArenaModel.{name_of_kind}
use Rattle.h5_arena.specs.NodeCalls.{walk_of}

-- the options for a tree that was parsed with or without scripting, with this scope
abbrev pub opts_for : TraversalScope → (scripting_enabled : Bool) → SerializeOpts
opts_for scope scripting_enabled = record { scripting_enabled = scripting_enabled; traversal_scope = scope; create_missing_parent = false }

-- the HTML of a node with this scope
abbrev pub html_of : Forest → ℕ → TraversalScope → (scripting_enabled : Bool) → List ℕ
html_of f n scope scripting_enabled = walk_text (new_standing (opts_for scope scripting_enabled)) (walk_of f n scope)

-- the HTML of a node with its content
abbrev pub outer_html : Forest → ℕ → (scripting_enabled : Bool) → List ℕ
outer_html f n = html_of f n IncludeNode

-- the HTML of the content of a node, as it is written inside the node
abbrev pub inner_html : Forest → ℕ → (scripting_enabled : Bool) → List ℕ
inner_html f n = html_of f n (ChildrenOnly (option_and_then name_of_kind (kind_of f n)))
