-- A search in a table of the code is a search in the standard's table.
use Rattle.std.proofs.Common.{◌≡◌, ◌∙◌, ℕ, Bool, true, false, List, [], ◌∷◌, cond, map, refl, sym, ap}
use Rattle.std.specs.Prelude.{Option, Some, option_map, unwrap_or}
use Rattle.h5_names.specs.AttributeText.{is_same_text}
use Rattle.h5_names.specs.KnownNames.{name_text}
use Rattle.h5_names.specs.declared.known_name.KnownName.{KnownName}
use Rattle.h5_tables.specs.declared.svg_tags.TheConstants.{SVG_TAGS}
use Rattle.h5_tables.specs.AdjustedNames.{Table, adjusted_svg_tag, found_at, svg_tags}
use Rattle.h5_tables.specs.Tables.{table_map}

-- at the row, or after it
at_row : {A B : Type 0} (b : Bool) (f : A → B) (x : A) (later : Option A) (mapped : Option B) → mapped ≡ option_map f later
    → cond b (Some (f x)) mapped ≡ option_map f (cond b (Some x) later)
at_row true f x later mapped e = refl
at_row false f x later mapped e = e

found_mapped : {A B : Type 0} (f : A → B) (table : Table A) (l : List ℕ) → found_at (table_map f table) l ≡ option_map f (found_at table l)
found_mapped f [] l = refl
found_mapped f (row ∷ rows) l = at_row (is_same_text l row.0) f row.1 (found_at rows l) (found_at (table_map f rows) l) (found_mapped f rows l)

-- the value that a search finds for a text, or a default, is the same with a changed table and with a changed result
pub same_found : {A B : Type 0} (f : A → B) (table : Table A) (found : Option A) (l m : List ℕ) (or : B) → found ≡ found_at table m → m ≡ l
    → unwrap_or (option_map f found) or ≡ unwrap_or (found_at (table_map f table) l) or
same_found f table found l m or e same =
    ap (λ o. unwrap_or (option_map f o) or) (e ∙ ap (found_at table) same)
    ∙ ap (λ o. unwrap_or o or) (sym (found_mapped f table l))

-- the table of SVG tags
abbrev pub tag_rows : Table KnownName
tag_rows = map (λ row. (row.0.now, row.1)) SVG_TAGS

same_tags : table_map name_text tag_rows ≡ svg_tags
unfolding svg_tags
same_tags = refl

pub adjusted_by_row : (found : Option KnownName) (l m : List ℕ) → found ≡ found_at tag_rows m → m ≡ l → unwrap_or (option_map name_text found) l ≡ adjusted_svg_tag l
adjusted_by_row found l m e same = same_found name_text tag_rows found l m l e same ∙ ap (λ table. unwrap_or (found_at table l) l) same_tags
