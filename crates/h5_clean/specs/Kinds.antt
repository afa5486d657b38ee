-- The kind of an element's name. An element whose name has no kind is never allowed.
use Rattle.std.specs.Prelude.{ℕ, Bool, true, false, List, [], ◌∷◌, ◌++◌, codes, if◌then◌else◌}
use Rattle.h5_tables.specs.TagSets.{cell_names, heading_names, is_one_of}
use Rattle.h5_builder_laws.specs.Plain.{barrier_names, inline_names, mark_names, open_block_names, part_names, phrase_names, ruby_text_names, term_names}
use Rattle.h5_clean.specs.declared.kind.Kind.{Kind}
use Rattle.h5_clean.specs.declared.kind.Kind.TheVariants as kind

-- the long sets, each as two lists
unfoldable pub early_phrase_names : List (List ℕ)
early_phrase_names = codes "abbr" ∷ codes "bdi" ∷ codes "bdo" ∷ codes "cite" ∷ codes "data" ∷ codes "del" ∷ codes "dfn" ∷ codes "ins" ∷ codes "kbd" ∷ codes "label" ∷ []

unfoldable pub late_phrase_names : List (List ℕ)
late_phrase_names = codes "mark" ∷ codes "meter" ∷ codes "output" ∷ codes "progress" ∷ codes "q" ∷ codes "samp" ∷ codes "span" ∷ codes "sub" ∷ codes "sup" ∷ codes "time" ∷ codes "var" ∷ []

unfoldable pub early_barrier_names : List (List ℕ)
early_barrier_names = codes "article" ∷ codes "aside" ∷ codes "blockquote" ∷ codes "center" ∷ codes "details" ∷ codes "dir" ∷ codes "dl" ∷ codes "fieldset" ∷ codes "figcaption" ∷ codes "figure" ∷ []

unfoldable pub late_barrier_names : List (List ℕ)
late_barrier_names = codes "footer" ∷ codes "header" ∷ codes "hgroup" ∷ codes "main" ∷ codes "menu" ∷ codes "nav" ∷ codes "ol" ∷ codes "section" ∷ codes "summary" ∷ codes "ul" ∷ []

-- names and their kind
pub record Row : Type 0 where
  pub names : List (List ℕ)
  pub kind : Kind

abbrev pub row : List (List ℕ) → Kind → Row
row names kind = record { names = names; kind = kind }

abbrev pub alone : List ℕ → Kind → Row
alone name kind = row (name ∷ []) kind

-- sets of names, and single names
unfoldable pub set_rows : List Row
set_rows =
    row phrase_names kind.Phrase ∷ row inline_names kind.Formatted ∷ row open_block_names kind.Division ∷ row barrier_names kind.Barrier ∷
    row mark_names kind.Break ∷ row cell_names kind.Cell ∷ row heading_names kind.Heading ∷ row term_names kind.Describing ∷
    row part_names kind.Section ∷ row ruby_text_names kind.RubyText ∷ []

unfoldable pub lone_rows : List Row
lone_rows =
    alone (codes "a") kind.Link ∷ alone (codes "p") kind.Paragraph ∷ alone (codes "li") kind.Item ∷ alone (codes "tr") kind.TableRow ∷
    alone (codes "pre") kind.Preformatted ∷ alone (codes "hr") kind.Ruled ∷ alone (codes "table") kind.Table ∷
    alone (codes "caption") kind.Caption ∷ alone (codes "colgroup") kind.ColumnGroup ∷ alone (codes "col") kind.Column ∷
    alone (codes "ruby") kind.Ruby ∷ []

abbrev pub kind_in : List Row → List ℕ → Kind
kind_in [] name = kind.Unknown
kind_in (r ∷ rs) name = if is_one_of r.names name then r.kind else kind_in rs name

abbrev pub kind_of : List ℕ → Kind
kind_of name = kind_in (set_rows ++ lone_rows) name

abbrev pub is_known : Kind → Bool
is_known kind.Unknown = false
is_known _ = true
