-- The modes that a row leads to.
use Rattle.std.proofs.Common.{Bool, List, [], codes, false, refl, true, ℕ, ◌++◌, ◌||◌, ◌∷◌, ◌≡◌}
use Rattle.h5_names.specs.KnownNames.{name_text}
use Rattle.h5_names.specs.declared.known_name.KnownName.TheVariants.{Col, Table}
use Rattle.h5_names.specs.declared.known_name.KnownName.{KnownName}
use Rattle.h5_tables.specs.TagSets.{is_one_of}
use Rattle.h5_tables.specs.declared.modes.InsertionMode.TheVariants.{InColumnGroup, InTable, InTableText, Text}
use Rattle.h5_tables.specs.declared.modes.InsertionMode.{InsertionMode}
use Rattle.h5_builder_spec.specs.ByName.{named}
use Rattle.h5_builder_spec.specs.Rows.{Again, AgainBy, ClearActiveFormattingToMarker, Pop, PopTemplateMode, PopUntilNamed, ResetMode, Row, TakePendingText}
use Rattle.h5_builder_spec.specs.World.{World, names_of}
use Rattle.h5_builder_spec.specs.inner.Fits.{is_table_mode}
use Rattle.h5_builder_spec.specs.reset.Reset.{reset_mode}
use Rattle.h5_builder_spec.specs.modes.InTableText.{pending_text, saved_mode}
use Rattle.h5_builder_spec.specs.modes.Shared.{current_is}
use Rattle.h5_builder_spec.specs.modes.Tables.{named_in_table_scope}
use Rattle.h5_builder_spec.specs.modes.TextMode.{marks_script}
use Rattle.h5_builder_spec.specs.stack.Scope.{has_template}
use Rattle.h5_builder_spec.proofs.rows.ByNameLaws.{of_named}
use Rattle.h5_builder_spec.proofs.rows.EndingLaws.{RowStops}
use Rattle.h5_builder_laws.proofs.turns.AgainLaws.{Leads, kind_of_end, part_end_names, stops_leads}
use Rattle.h5_builder_laws.proofs.turns.RankWeightLaws.{closes_templates, is_text}
use Rattle.h5_builder_laws.proofs.turns.Ranks.{EndPartTurns, EofTurns, StartTableTurns, TurnKind}
use Rattle.h5_builder_laws.proofs.turns.Ranks as edges

-- a name that is in no set isn't any of its names
pub not_named : (known : KnownName) (set : List (List ℕ)) (l : List ℕ) → is_one_of set (name_text known) ≡ true → is_one_of set l ≡ false → named known l ≡ false
not_named known set l a h = at (named known l) refl
  where
    at : (b : Bool) → named known l ≡ b → b ≡ false
    at false e = refl
    at true e = absurd (let k = of_named (λ n. is_one_of set n ≡ true) known l a e in cc)

-- where a row leads: by an edge, or not: it closes a table, or a column group for a start tag `table`, or takes the
-- buffered text, or closes a template, or the element of a text, at the end of the file
pub data RowLeads (c : TurnKind) (m : InsertionMode) (w : World) (r : Row) : Type 0 where
  ByEdge : Leads c m r.ending → RowLeads c m w r
  ClosesTable : is_table_mode m ≡ true → c ≡ StartTableTurns → named_in_table_scope (codes "table") w ≡ true → r.changes ≡ PopUntilNamed (codes "table") ∷ [] → r.ending ≡ AgainBy reset_mode → RowLeads c m w r
  ClosesColumnGroup : m ≡ InColumnGroup → c ≡ StartTableTurns → current_is (codes "colgroup") w ≡ true → r.changes ≡ Pop ∷ [] → r.ending ≡ Again InTable → RowLeads c m w r
  TakesPending : m ≡ InTableText → is_text c ≡ false → r.changes ≡ TakePendingText ∷ (pending_text w.pending w).changes → r.ending ≡ AgainBy saved_mode → RowLeads c m w r
  ClosesTemplate : closes_templates m ≡ true → c ≡ EofTurns → has_template (names_of w) ≡ true → r.changes ≡ PopUntilNamed (codes "template") ∷ ClearActiveFormattingToMarker ∷ PopTemplateMode ∷ ResetMode ∷ [] → r.ending ≡ AgainBy reset_mode → RowLeads c m w r
  EndsText : m ≡ Text → c ≡ EofTurns → r.changes ≡ marks_script w ++ Pop ∷ [] → r.ending ≡ AgainBy saved_mode → RowLeads c m w r

pub stops : (c : TurnKind) (m : InsertionMode) (w : World) (r : Row) → RowStops r → RowLeads c m w r
stops c m w r h = ByEdge (stops_leads c m r.ending h)

-- an end tag "table"
pub end_table : (m k : InsertionMode) (name : List ℕ) → edges.Again EndPartTurns m k → named Table name ≡ true → edges.Again (kind_of_end name) m k
unfolding kind_of_end part_end_names
end_table m k name e h = of_named (λ n. edges.Again (kind_of_end n) m k) Table name e h

-- what is in no set of start tags that a row group or a row takes isn't one of a table's
pub no_col : (set : List (List ℕ)) (A : Type 0) (name : List ℕ) → is_one_of set (name_text Col) ≡ true → is_one_of set name ≡ false → named Col name ≡ true → A
no_col set A name a n h = absurd (let k = not_named Col set name a n in cc)

-- of two tests one
pub either_of : (a b : Bool) → (a || b) ≡ true → a ≡ false → b ≡ false → ⊥
either_of true b h e f = absurd (cc)
either_of false b h e f = absurd (cc)
