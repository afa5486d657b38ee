-- The root of the open elements by its name.
use Rattle.std.specs.Prelude.{List, [], ◌∷◌, IsTrue, codes}
use Rattle.h5_names.specs.declared.qualified.QualName.{QualName}
use Rattle.h5_tables.specs.TagSets.{is_html_named}

-- the root, once made, is an HTML `html`
abbrev pub RootIsHtml : List QualName → Type 0
RootIsHtml [] = Unit {0}
RootIsHtml (n ∷ []) = IsTrue (is_html_named (codes "html") n)
RootIsHtml (n ∷ m ∷ ns) = RootIsHtml (m ∷ ns)

-- some element is open, and the root is an HTML `html`
abbrev pub IsRootOpen : List QualName → Type 0
IsRootOpen [] = ⊥
IsRootOpen (n ∷ []) = IsTrue (is_html_named (codes "html") n)
IsRootOpen (n ∷ m ∷ ns) = IsRootOpen (m ∷ ns)
