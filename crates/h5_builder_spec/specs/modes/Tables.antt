-- Rules that the modes of tables share (HTML standard, sections 13.2.6.4.9 to 13.2.6.4.15).
use Rattle.std.specs.Prelude.{Bool, true, false, List, [], ◌∷◌, ◌++◌, ℕ, codes}
use Rattle.h5_names.specs.declared.qualified.QualName.{QualName}
use Rattle.h5_tables.specs.TurnText.{TurnText}
use Rattle.h5_tables.specs.TagSets.{is_html_named, is_table_scope}
use Rattle.h5_builder_spec.specs.stack.Scope.{in_scope}
use Rattle.h5_builder_spec.specs.Changes.{set_foster}
use Rattle.h5_builder_spec.specs.Rows.{Row, SetFoster, errs}
use Rattle.h5_builder_spec.specs.World.{World, names_of}

-- a row group
unfoldable pub table_section_names : List (List ℕ)
table_section_names = codes "tbody" ∷ codes "tfoot" ∷ codes "thead" ∷ []

-- an element that passes is in table scope
abbrev pub in_table_scope : (QualName → Bool) → World → Bool
in_table_scope is w = in_scope is is_table_scope (names_of w)

-- an HTML element of this name is in table scope
abbrev pub named_in_table_scope : List ℕ → World → Bool
named_in_table_scope local w = in_table_scope (is_html_named local) w

-- a rule that handles a token with foster parenting on, which is a parse error; after it the flag is off again
abbrev pub foster : (TurnText → World → Row) → TurnText → World → Row
foster rule t w =
    let r = rule t (set_foster true w) in
    errs (SetFoster true ∷ (r.changes ++ SetFoster false ∷ [])) r.ending
