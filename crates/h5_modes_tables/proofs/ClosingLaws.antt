-- Captions and cells have no implied end tags, so they stay open when implied end tags are generated.
use Rattle.std.proofs.Common.{◌≡◌, ℕ, Bool, true, false, List, [], ◌∷◌, codes, refl}
use Rattle.h5_names.specs.declared.qualified.QualName.{QualName}
use Rattle.h5_tables.specs.TagSets.{cell_names, implied_names, is_cell, is_html_named, is_implied, is_one_of}
use Rattle.h5_builder_spec.proofs.changes.ClosingLaws.{named_not_implied, sets_apart}

-- none of these elements is an implied end
abbrev pub IsApart : (QualName → Bool) → Type 0
IsApart is = (n : QualName) → is_implied n ≡ true → is n ≡ false

pub caption_not_implied : IsApart (is_html_named (codes "caption"))
unfolding implied_names
caption_not_implied n h = named_not_implied (codes "caption" ∷ []) (codes "caption") n refl refl h

pub cell_named_not_implied : (local : List ℕ) → is_one_of cell_names local ≡ true → IsApart (is_html_named local)
unfolding implied_names cell_names
cell_named_not_implied local cell n h = named_not_implied cell_names local n refl cell h
