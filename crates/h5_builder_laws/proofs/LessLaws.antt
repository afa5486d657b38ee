-- Nodes that are plain while more is open are plain while less is open.
use Rattle.std.proofs.Common.{◌≡◌, ◌∙◌, Bool, true, false, refl, sym}
use Rattle.h5_builder_laws.specs.Plain.{Around, Barrier, Blank, Break, Caption, Cell, Column, ColumnBlank, ColumnGroup, Columns, Describing, Division, Flow, Formatted, Heading, IsPlain, Item, Link, Nodes, Nothing, Paragraph, Part, Phrase, Preformatted, Ruby, RubyText, Ruled, Section, Sort, Table, TablePart, TableRow, Words, behind, nothing_open, within}

-- where this isn't open, that isn't
abbrev pub If : Bool → Bool → Type 0
If less more = more ≡ false → less ≡ false

-- no more is open, and the parent is a `ruby` if it was
pub record Less (u o : Around) : Type 0 where
  pub p : If u.in_p o.in_p
  pub heading : If u.in_heading o.in_heading
  pub item : If u.in_item o.in_item
  pub description : If u.in_description o.in_description
  pub link : If u.in_link o.in_link
  pub ruby : o.in_ruby ≡ true → u.in_ruby ≡ true

-- of two sorts alike
pub data Looser : Sort → Sort → Type 0 where
  InFlow : {a : Bool} {u o : Around} → Less u o → Looser (Flow a u) (Flow a o)
  InPart : {a : Bool} {part : TablePart} → Looser (Part a part) (Part a part)
  InColumns : {a : Bool} → Looser (Columns a) (Columns a)

less_within : {u o : Around} → Less u o → Less (within u) (within o)
less_within l = record { p = l.p; heading = λ e. refl; item = l.item; description = l.description; link = l.link; ruby = λ e. e }

less_behind : {u o : Around} → Less u o → Less (behind u) (behind o)
less_behind l = record { p = l.p; heading = λ e. refl; item = λ e. refl; description = λ e. refl; link = l.link; ruby = λ e. e }

pub less_nothing : (o : Around) → o.in_ruby ≡ false → Less nothing_open o
less_nothing o h = record { p = λ e. refl; heading = λ e. refl; item = λ e. refl; description = λ e. refl; link = λ e. refl; ruby = λ e. sym h ∙ e }

pub looser : {blanks : Bool} {s t : Sort} {nodes : Nodes} → Looser s t → IsPlain blanks t nodes → IsPlain blanks s nodes
looser k Nothing = Nothing
looser (InFlow l) (Words n r) = Words n (looser (InFlow l) r)
looser InPart (Blank b h n r) = Blank b h n (looser InPart r)
looser InColumns (ColumnBlank b h n r) = ColumnBlank b h n (looser InColumns r)
looser (InFlow l) (Division m h a i r) = Division m (l.p h) a (looser (InFlow (less_within l)) i) (looser (InFlow l) r)
looser (InFlow l) (Barrier m h a i r) = Barrier m (l.p h) a (looser (InFlow (less_behind l)) i) (looser (InFlow l) r)
looser (InFlow l) (Preformatted h a i r) = Preformatted (l.p h) a (looser (InFlow (less_behind l)) i) (looser (InFlow l) r)
looser (InFlow l) (Paragraph h a i r) =
    let w = less_within l in
    Paragraph (l.p h) a (looser (InFlow (record { p = λ e. e; heading = w.heading; item = w.item; description = w.description; link = w.link; ruby = w.ruby })) i) (looser (InFlow l) r)
looser (InFlow l) (Heading m h g a i r) =
    let w = less_behind l in
    Heading m (l.p h) (l.heading g) a (looser (InFlow (record { p = w.p; heading = λ e. e; item = w.item; description = w.description; link = w.link; ruby = w.ruby })) i) (looser (InFlow l) r)
looser (InFlow l) (Item h g a i r) =
    let w = less_behind l in
    Item (l.p h) (l.item g) a (looser (InFlow (record { p = w.p; heading = w.heading; item = λ e. e; description = w.description; link = w.link; ruby = w.ruby })) i) (looser (InFlow l) r)
looser (InFlow l) (Describing m h g a i r) =
    let w = less_behind l in
    Describing m (l.p h) (l.description g) a (looser (InFlow (record { p = w.p; heading = w.heading; item = w.item; description = λ e. e; link = w.link; ruby = w.ruby })) i) (looser (InFlow l) r)
looser (InFlow l) (Ruled h a r) = Ruled (l.p h) a (looser (InFlow l) r)
looser (InFlow l) (Break m a r) = Break m a (looser (InFlow l) r)
looser (InFlow l) (Formatted m a i r) = Formatted m a (looser (InFlow (less_within l)) i) (looser (InFlow l) r)
looser (InFlow l) (Phrase m a i r) = Phrase m a (looser (InFlow (less_within l)) i) (looser (InFlow l) r)
looser (InFlow l) (Ruby a i r) =
    let w = less_within l in
    Ruby a (looser (InFlow (record { p = w.p; heading = w.heading; item = w.item; description = w.description; link = w.link; ruby = λ e. e })) i) (looser (InFlow l) r)
looser (InFlow l) (RubyText m h a i r) = RubyText m (l.ruby h) a (looser (InFlow (less_within l)) i) (looser (InFlow l) r)
looser (InFlow l) (Link h a i r) =
    let w = less_within l in
    Link (l.link h) a (looser (InFlow (record { p = w.p; heading = w.heading; item = w.item; description = w.description; link = λ e. e; ruby = w.ruby })) i) (looser (InFlow l) r)
looser (InFlow l) (Table h a i r) = Table (l.p h) a (looser InPart i) (looser (InFlow l) r)
looser InPart (Caption a i r) = Caption a i (looser InPart r)
looser InPart (ColumnGroup a i r) = ColumnGroup a i (looser InPart r)
looser InColumns (Column a r) = Column a (looser InColumns r)
looser InPart (Section m a i r) = Section m a i (looser InPart r)
looser InPart (TableRow a i r) = TableRow a i (looser InPart r)
looser InPart (Cell m a i r) = Cell m a i (looser InPart r)

-- so what is plain in any flow, but not right in a `ruby`, is plain if nothing is open
pub plain_alone : {blanks a : Bool} {o : Around} (nodes : Nodes) → o.in_ruby ≡ false → IsPlain blanks (Flow a o) nodes → IsPlain blanks (Flow a nothing_open) nodes
plain_alone {o = o} nodes h plain = looser (InFlow (less_nothing o h)) plain
