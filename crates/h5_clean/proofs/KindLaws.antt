-- An element's kind and its name.
use Rattle.std.proofs.Common.{◌≡◌, ◌∙◌, ◌||◌, ℕ, Bool, true, false, if◌then◌else◌, List, [], ◌∷◌, ◌++◌, codes, refl, sym, ap, subst}
use Rattle.std.proofs.lemmas.Slice.Eq.{bytes_eq-Decides}
use Rattle.h5_names.specs.AttributeText.{is_same_text}
use Rattle.h5_tables.specs.TagSets.{cell_names, heading_names, is_one_of}
use Rattle.h5_builder_spec.proofs.rows.ByNameLaws.{HoldsOfAll, of_one}
use Rattle.h5_builder_laws.specs.Plain.{barrier_names, inline_names, mark_names, open_block_names, part_names, phrase_names, ruby_text_names, term_names}
use Rattle.h5_clean.specs.Kinds.{Row, kind_in, kind_of, lone_rows, set_rows}
use Rattle.h5_clean.specs.declared.kind.Kind.{Kind}
use Rattle.h5_clean.specs.declared.kind.Kind.TheVariants as kind
use Rattle.h5_clean.proofs.NameLaws.{AreOthers, isnt_among}

-- the names of a kind
abbrev pub HasKind : Kind → List ℕ → Type 0
HasKind kind.Phrase name = is_one_of phrase_names name ≡ true
HasKind kind.Formatted name = is_one_of inline_names name ≡ true
HasKind kind.Division name = is_one_of open_block_names name ≡ true
HasKind kind.Barrier name = is_one_of barrier_names name ≡ true
HasKind kind.Break name = is_one_of mark_names name ≡ true
HasKind kind.Cell name = is_one_of cell_names name ≡ true
HasKind kind.Heading name = is_one_of heading_names name ≡ true
HasKind kind.Describing name = is_one_of term_names name ≡ true
HasKind kind.Section name = is_one_of part_names name ≡ true
HasKind kind.RubyText name = is_one_of ruby_text_names name ≡ true
HasKind kind.Link name = name ≡ codes "a"
HasKind kind.Paragraph name = name ≡ codes "p"
HasKind kind.Item name = name ≡ codes "li"
HasKind kind.TableRow name = name ≡ codes "tr"
HasKind kind.Preformatted name = name ≡ codes "pre"
HasKind kind.Ruled name = name ≡ codes "hr"
HasKind kind.Table name = name ≡ codes "table"
HasKind kind.Caption name = name ≡ codes "caption"
HasKind kind.ColumnGroup name = name ≡ codes "colgroup"
HasKind kind.Column name = name ≡ codes "col"
HasKind kind.Ruby name = name ≡ codes "ruby"
HasKind kind.Unknown name = Unit {0}

-- each row has names of its kind
abbrev AreRight : List Row → Type 0
AreRight [] = Unit {0}
AreRight (r ∷ rs) = ((name : List ℕ) → is_one_of r.names name ≡ true → HasKind r.kind name) × AreRight rs

in_rows : (rs : List Row) → AreRight rs → (name : List ℕ) → HasKind (kind_in rs name) name
in_rows [] h name = tt
in_rows (r ∷ rs) h name = at (in_rows rs h.1 name) (is_one_of r.names name) refl
  where
    at : HasKind (kind_in rs name) name → (b : Bool) → is_one_of r.names name ≡ b → HasKind (if b then r.kind else kind_in rs name) name
    at others true e = h.0 name e
    at others false e = others

one_name : (n name : List ℕ) → is_one_of (n ∷ []) name ≡ true → name ≡ n
one_name n name h = at (is_same_text n name) refl h
  where
    at : (b : Bool) → is_same_text n name ≡ b → (b || false) ≡ true → name ≡ n
    at true e k = sym ((bytes_eq-Decides n name).0 e)
    at false e k = absurd (cc)

are_right : AreRight (set_rows ++ lone_rows)
unfolding set_rows lone_rows
are_right = (λ name h. h, (λ name h. h, (λ name h. h, (λ name h. h, (λ name h. h, (λ name h. h, (λ name h. h, (λ name h. h, (λ name h. h, (λ name h. h, (one_name (codes "a"), (one_name (codes "p"), (one_name (codes "li"), (one_name (codes "tr"), (one_name (codes "pre"), (one_name (codes "hr"), (one_name (codes "table"), (one_name (codes "caption"), (one_name (codes "colgroup"), (one_name (codes "col"), (one_name (codes "ruby"), tt)))))))))))))))))))))

pub has_kind : (name : List ℕ) → HasKind (kind_of name) name
has_kind name = in_rows (set_rows ++ lone_rows) are_right name

-- a name that is in no row has no kind
abbrev pub IsOutside : List ℕ → List Row → Type 0
IsOutside name [] = Unit {0}
IsOutside name (r ∷ rs) = AreOthers name r.names × IsOutside name rs

pub kind_outside : (name : List ℕ) (rs : List Row) → IsOutside name rs → kind_in rs name ≡ kind.Unknown
kind_outside name [] h = refl
kind_outside name (r ∷ rs) h = ap (λ b. if b then r.kind else kind_in rs name) (isnt_among name r.names h.0) ∙ kind_outside name rs h.1

-- a name of a kind has it
all_phrase : HoldsOfAll (λ n. kind_of n ≡ kind.Phrase) phrase_names
unfolding set_rows lone_rows phrase_names inline_names open_block_names barrier_names mark_names cell_names heading_names term_names part_names ruby_text_names
all_phrase = (refl, (refl, (refl, (refl, (refl, (refl, (refl, (refl, (refl, (refl, (refl, (refl, (refl, (refl, (refl, (refl, (refl, (refl, (refl, (refl, (refl, tt)))))))))))))))))))))

all_formatted : HoldsOfAll (λ n. kind_of n ≡ kind.Formatted) inline_names
unfolding set_rows lone_rows phrase_names inline_names open_block_names barrier_names mark_names cell_names heading_names term_names part_names ruby_text_names
all_formatted = (refl, (refl, (refl, (refl, (refl, (refl, (refl, (refl, (refl, (refl, (refl, (refl, tt))))))))))))

all_division : HoldsOfAll (λ n. kind_of n ≡ kind.Division) open_block_names
unfolding set_rows lone_rows phrase_names inline_names open_block_names barrier_names mark_names cell_names heading_names term_names part_names ruby_text_names
all_division = (refl, (refl, (refl, tt)))

all_barrier : HoldsOfAll (λ n. kind_of n ≡ kind.Barrier) barrier_names
unfolding set_rows lone_rows phrase_names inline_names open_block_names barrier_names mark_names cell_names heading_names term_names part_names ruby_text_names
all_barrier = (refl, (refl, (refl, (refl, (refl, (refl, (refl, (refl, (refl, (refl, (refl, (refl, (refl, (refl, (refl, (refl, (refl, (refl, (refl, (refl, tt))))))))))))))))))))

all_break : HoldsOfAll (λ n. kind_of n ≡ kind.Break) mark_names
unfolding set_rows lone_rows phrase_names inline_names open_block_names barrier_names mark_names cell_names heading_names term_names part_names ruby_text_names
all_break = (refl, (refl, (refl, tt)))

all_cell : HoldsOfAll (λ n. kind_of n ≡ kind.Cell) cell_names
unfolding set_rows lone_rows phrase_names inline_names open_block_names barrier_names mark_names cell_names heading_names term_names part_names ruby_text_names
all_cell = (refl, (refl, tt))

all_heading : HoldsOfAll (λ n. kind_of n ≡ kind.Heading) heading_names
unfolding set_rows lone_rows phrase_names inline_names open_block_names barrier_names mark_names cell_names heading_names term_names part_names ruby_text_names
all_heading = (refl, (refl, (refl, (refl, (refl, (refl, tt))))))

all_describing : HoldsOfAll (λ n. kind_of n ≡ kind.Describing) term_names
unfolding set_rows lone_rows phrase_names inline_names open_block_names barrier_names mark_names cell_names heading_names term_names part_names ruby_text_names
all_describing = (refl, (refl, tt))

all_section : HoldsOfAll (λ n. kind_of n ≡ kind.Section) part_names
unfolding set_rows lone_rows phrase_names inline_names open_block_names barrier_names mark_names cell_names heading_names term_names part_names ruby_text_names
all_section = (refl, (refl, (refl, tt)))

all_ruby_text : HoldsOfAll (λ n. kind_of n ≡ kind.RubyText) ruby_text_names
unfolding set_rows lone_rows phrase_names inline_names open_block_names barrier_names mark_names cell_names heading_names term_names part_names ruby_text_names
all_ruby_text = (refl, (refl, tt))

pub phrase_kind : (name : List ℕ) → is_one_of phrase_names name ≡ true → kind_of name ≡ kind.Phrase
phrase_kind name h = of_one (λ n. kind_of n ≡ kind.Phrase) phrase_names name all_phrase h

pub formatted_kind : (name : List ℕ) → is_one_of inline_names name ≡ true → kind_of name ≡ kind.Formatted
formatted_kind name h = of_one (λ n. kind_of n ≡ kind.Formatted) inline_names name all_formatted h

pub division_kind : (name : List ℕ) → is_one_of open_block_names name ≡ true → kind_of name ≡ kind.Division
division_kind name h = of_one (λ n. kind_of n ≡ kind.Division) open_block_names name all_division h

pub barrier_kind : (name : List ℕ) → is_one_of barrier_names name ≡ true → kind_of name ≡ kind.Barrier
barrier_kind name h = of_one (λ n. kind_of n ≡ kind.Barrier) barrier_names name all_barrier h

pub break_kind : (name : List ℕ) → is_one_of mark_names name ≡ true → kind_of name ≡ kind.Break
break_kind name h = of_one (λ n. kind_of n ≡ kind.Break) mark_names name all_break h

pub cell_kind : (name : List ℕ) → is_one_of cell_names name ≡ true → kind_of name ≡ kind.Cell
cell_kind name h = of_one (λ n. kind_of n ≡ kind.Cell) cell_names name all_cell h

pub heading_kind : (name : List ℕ) → is_one_of heading_names name ≡ true → kind_of name ≡ kind.Heading
heading_kind name h = of_one (λ n. kind_of n ≡ kind.Heading) heading_names name all_heading h

pub describing_kind : (name : List ℕ) → is_one_of term_names name ≡ true → kind_of name ≡ kind.Describing
describing_kind name h = of_one (λ n. kind_of n ≡ kind.Describing) term_names name all_describing h

pub section_kind : (name : List ℕ) → is_one_of part_names name ≡ true → kind_of name ≡ kind.Section
section_kind name h = of_one (λ n. kind_of n ≡ kind.Section) part_names name all_section h

pub ruby_text_kind : (name : List ℕ) → is_one_of ruby_text_names name ≡ true → kind_of name ≡ kind.RubyText
ruby_text_kind name h = of_one (λ n. kind_of n ≡ kind.RubyText) ruby_text_names name all_ruby_text h

pub link_kind : kind_of (codes "a") ≡ kind.Link
unfolding set_rows lone_rows phrase_names inline_names open_block_names barrier_names mark_names cell_names heading_names term_names part_names ruby_text_names
link_kind = refl

pub paragraph_kind : kind_of (codes "p") ≡ kind.Paragraph
unfolding set_rows lone_rows phrase_names inline_names open_block_names barrier_names mark_names cell_names heading_names term_names part_names ruby_text_names
paragraph_kind = refl

pub item_kind : kind_of (codes "li") ≡ kind.Item
unfolding set_rows lone_rows phrase_names inline_names open_block_names barrier_names mark_names cell_names heading_names term_names part_names ruby_text_names
item_kind = refl

pub row_kind : kind_of (codes "tr") ≡ kind.TableRow
unfolding set_rows lone_rows phrase_names inline_names open_block_names barrier_names mark_names cell_names heading_names term_names part_names ruby_text_names
row_kind = refl

pub pre_kind : kind_of (codes "pre") ≡ kind.Preformatted
unfolding set_rows lone_rows phrase_names inline_names open_block_names barrier_names mark_names cell_names heading_names term_names part_names ruby_text_names
pre_kind = refl

pub ruled_kind : kind_of (codes "hr") ≡ kind.Ruled
unfolding set_rows lone_rows phrase_names inline_names open_block_names barrier_names mark_names cell_names heading_names term_names part_names ruby_text_names
ruled_kind = refl

pub table_kind : kind_of (codes "table") ≡ kind.Table
unfolding set_rows lone_rows phrase_names inline_names open_block_names barrier_names mark_names cell_names heading_names term_names part_names ruby_text_names
table_kind = refl

pub caption_kind : kind_of (codes "caption") ≡ kind.Caption
unfolding set_rows lone_rows phrase_names inline_names open_block_names barrier_names mark_names cell_names heading_names term_names part_names ruby_text_names
caption_kind = refl

pub group_kind : kind_of (codes "colgroup") ≡ kind.ColumnGroup
unfolding set_rows lone_rows phrase_names inline_names open_block_names barrier_names mark_names cell_names heading_names term_names part_names ruby_text_names
group_kind = refl

pub column_kind : kind_of (codes "col") ≡ kind.Column
unfolding set_rows lone_rows phrase_names inline_names open_block_names barrier_names mark_names cell_names heading_names term_names part_names ruby_text_names
column_kind = refl

pub ruby_kind : kind_of (codes "ruby") ≡ kind.Ruby
unfolding set_rows lone_rows phrase_names inline_names open_block_names barrier_names mark_names cell_names heading_names term_names part_names ruby_text_names
ruby_kind = refl

-- a `pre` alone is preformatted
abbrev pub is_pre_kind : Kind → Bool
is_pre_kind kind.Preformatted = true
is_pre_kind _ = false

pre_alone : (k : Kind) → is_pre_kind k ≡ true → k ≡ kind.Preformatted
pre_alone kind.Preformatted e = refl
pre_alone _ e = absurd (cc)

pub pre_named : (name : List ℕ) → is_same_text name (codes "pre") ≡ is_pre_kind (kind_of name)
pre_named name = by (is_same_text name (codes "pre")) (is_pre_kind (kind_of name)) refl refl
  where
    by : (b c : Bool) → is_same_text name (codes "pre") ≡ b → is_pre_kind (kind_of name) ≡ c → b ≡ c
    by true c e f = sym (ap (λ n. is_pre_kind (kind_of n)) ((bytes_eq-Decides name (codes "pre")).0 e) ∙ ap is_pre_kind pre_kind) ∙ f
    by false true e f =
        let named : name ≡ codes "pre" = subst (λ k. HasKind k name) (pre_alone (kind_of name) f) (has_kind name) in
        sym e ∙ ap (λ n. is_same_text n (codes "pre")) named
    by false false e f = refl
