-- The tables that the code reads, as tables of texts.
use Rattle.std.specs.Prelude.{ℕ, List, map, Option, option_map}
use Rattle.std.specs.Borrow.{Bor}
use Rattle.h5_names.specs.declared.qualified.QualName.{QualName}
use Rattle.h5_tables.specs.declared.place.Place.{Place}
use Rattle.h5_tables.specs.AdjustedNames.{Table, name_at}

abbrev pub by_text : {A : Type 0} → List (Bor (List ℕ) × A) → Table A
by_text = map (λ row. (row.0.now, row.1))

-- a table with changed values
abbrev pub table_map : {A B : Type 0} → (A → B) → Table A → Table B
table_map f = map (λ row. (row.0, f row.1))

abbrev pub name_of : Place × Bor (List ℕ) → QualName
name_of new = name_at new.0 new.1.now

abbrev pub names_in : List (Bor (List ℕ) × (Place × Bor (List ℕ))) → Table QualName
names_in rows = table_map name_of (by_text rows)

abbrev pub texts : List (Bor (List ℕ)) → List (List ℕ)
texts = map (λ text. text.now)

abbrev pub part_text : Option (Bor (List ℕ)) → Option (List ℕ)
part_text = option_map (λ text. text.now)

abbrev pub pair_texts : List (Option (Bor (List ℕ)) × Option (Bor (List ℕ))) → List (Option (List ℕ) × Option (List ℕ))
pair_texts = map (λ pair. (part_text pair.0, part_text pair.1))
