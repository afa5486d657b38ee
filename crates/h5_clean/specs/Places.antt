-- Places for nodes: what is open there, and how much deeper elements may be nested.
use Rattle.std.specs.Prelude.{◌-◌, ◌&&◌, Bool, true, false, not, nat_lt}
use Rattle.h5_builder_laws.specs.Plain.{Around, Cells, Columns, Flow, Part, Rows, Sections, Sort}
use Rattle.h5_clean.specs.declared.kind.Kind.{Kind}
use Rattle.h5_clean.specs.declared.kind.Kind.TheVariants as kind
use Rattle.h5_clean.specs.declared.place.Place.{Place}
use Rattle.h5_clean.specs.declared.place.Spot.{Spot}
use Rattle.h5_clean.specs.declared.place.Spot.TheVariants as spot

-- an element of this kind fits in flow
abbrev pub fits_in_flow : Kind → Place → Bool
fits_in_flow kind.Division x = not x.in_p
fits_in_flow kind.Barrier x = not x.in_p
fits_in_flow kind.Preformatted x = not x.in_p
fits_in_flow kind.Paragraph x = not x.in_p
fits_in_flow kind.Heading x = not x.in_p && not x.in_heading
fits_in_flow kind.Item x = not x.in_p && not x.in_item
fits_in_flow kind.Describing x = not x.in_p && not x.in_description
fits_in_flow kind.Ruled x = not x.in_p
fits_in_flow kind.Break x = true
fits_in_flow kind.Formatted x = true
fits_in_flow kind.Phrase x = true
fits_in_flow kind.Ruby x = true
fits_in_flow kind.RubyText x = x.in_ruby
fits_in_flow kind.Link x = not x.in_link
fits_in_flow kind.Table x = not x.in_p
fits_in_flow _ x = false

-- captions, column groups and sections fit in a table, rows in a section, cells in a row, columns in a column group,
-- and nothing nowhere
abbrev pub fits_at : Spot → Kind → Place → Bool
fits_at spot.InFlow k x = fits_in_flow k x
fits_at spot.InTable kind.Caption x = true
fits_at spot.InTable kind.ColumnGroup x = true
fits_at spot.InTable kind.Section x = true
fits_at spot.InColumns kind.Column x = true
fits_at spot.InSection kind.TableRow x = true
fits_at spot.InRow kind.Cell x = true
fits_at _ k x = false

-- an element of this kind fits at a place, and isn't too deep
abbrev pub fits : Kind → Place → Bool
fits k x = nat_lt 0 x.room && fits_at x.spot k x

-- one element deeper, at this spot
abbrev pub directly : Spot → Place → Place
directly s x = record x { spot = s; room = x.room - 1 }

-- in flow, where nothing counts as open
abbrev pub alone : Place → Place
alone x = record { spot = spot.InFlow; in_p = false; in_heading = false; in_item = false; in_description = false; in_link = false; in_ruby = false; room = x.room - 1 }

-- inside an element that doesn't end the search for a list item, and inside one that ends it
abbrev pub within : Place → Place
within x = record (directly spot.InFlow x) { in_heading = false; in_ruby = false }

abbrev pub behind : Place → Place
behind x = record (within x) { in_item = false; in_description = false }

-- a place for nothing
abbrev pub nowhere : Place → Place
nowhere x = directly spot.Nowhere x

-- the place of the content of an element of this kind
abbrev pub inside : Kind → Place → Place
inside kind.Division x = within x
inside kind.Barrier x = behind x
inside kind.Preformatted x = behind x
inside kind.Paragraph x = record (within x) { in_p = true }
inside kind.Heading x = record (behind x) { in_heading = true }
inside kind.Item x = record (behind x) { in_item = true }
inside kind.Describing x = record (behind x) { in_description = true }
inside kind.Formatted x = within x
inside kind.Phrase x = within x
inside kind.Ruby x = record (within x) { in_ruby = true }
inside kind.RubyText x = within x
inside kind.Link x = record (within x) { in_link = true }
inside kind.Table x = directly spot.InTable x
inside kind.Caption x = alone x
inside kind.ColumnGroup x = directly spot.InColumns x
inside kind.Section x = directly spot.InSection x
inside kind.TableRow x = directly spot.InRow x
inside kind.Cell x = alone x
inside kind.Ruled x = nowhere x
inside kind.Break x = nowhere x
inside kind.Column x = nowhere x
inside kind.Unknown x = nowhere x

-- what is open at a place, and the sort of a list of nodes there
abbrev pub around : Place → Around
around x = record { in_p = x.in_p; in_heading = x.in_heading; in_item = x.in_item; in_description = x.in_description; in_link = x.in_link; in_ruby = x.in_ruby }

abbrev pub sort_at : (after_text : Bool) → Spot → Around → Sort
sort_at a spot.InFlow o = Flow a o
sort_at a spot.InTable o = Part a Sections
sort_at a spot.InSection o = Part a Rows
sort_at a spot.InRow o = Part a Cells
sort_at a spot.InColumns o = Columns a
sort_at a spot.Nowhere o = Flow a o

abbrev pub sort_of : (after_text : Bool) → Place → Sort
sort_of a x = sort_at a x.spot (around x)
