-- The elements that may directly precede the parts of tables on the stack, and the contexts that the stack is cleared
-- back to (HTML standard, sections 13.2.6.4.9, 13.2.6.4.13 and 13.2.6.4.14).
use Rattle.std.specs.Prelude.{◌≡◌, ◌∷◌, [], Bool, true, false, cond, List}
use Rattle.h5_builder_spec.specs.reset.Roles.{CaptionRole, CellRole, ColgroupRole, HtmlRole, Role, RowRole, SectionRole, TableRole, TemplateRole, is_cell_role, is_table, role_in_scope}

-- the table context, the table body context and the table row context; `LeastContext` is what they have in common
pub data StackContext : Type 0 where
  LeastContext : StackContext
  TableContext : StackContext
  TableBodyContext : StackContext
  TableRowContext : StackContext

-- the roles at which a context ends
abbrev pub ends : StackContext → Role → Bool
ends c TemplateRole = true
ends c HtmlRole = true
ends TableContext TableRole = true
ends TableBodyContext SectionRole = true
ends TableRowContext RowRole = true
ends c _ = false

-- an element of the first role may come directly after one of the second on the stack
abbrev pub stands_on : Role → Role → Bool
stands_on CaptionRole m = ends TableContext m
stands_on ColgroupRole m = ends TableContext m
stands_on SectionRole m = ends TableContext m
stands_on RowRole m = ends TableBodyContext m
stands_on CellRole m = ends TableRowContext m
stands_on n m = true

abbrev pub stands : Role → List Role → Bool
stands n [] = true
stands n (m ∷ ms) = stands_on n m

-- each open element comes directly after one that it may come after
abbrev pub Under : List Role → Type 0
Under [] = Unit {0}
Under (n ∷ ns) = (stands n ns ≡ true) × Under ns

-- the stack cleared back to a context
abbrev pub down_to : StackContext → List Role → List Role
down_to c [] = []
down_to c (n ∷ ns) = cond (ends c n) (n ∷ ns) (down_to c ns)

-- the context in which a part of a table is inserted
abbrev pub context_of : Role → StackContext
context_of CaptionRole = TableContext
context_of ColgroupRole = TableContext
context_of SectionRole = TableContext
context_of RowRole = TableBodyContext
context_of CellRole = TableRowContext
context_of _ = LeastContext

-- nothing is open, or the current node ends the context
abbrev pub starts : StackContext → List Role → Bool
starts c [] = true
starts c (n ∷ ns) = ends c n

-- an element that ends the context comes before any table
abbrev pub Over : StackContext → List Role → Type 0
Over c ns = role_in_scope is_table (ends c) ns ≡ false

-- the table context; for the others, no table comes before the element that ends the context
abbrev pub Clear : StackContext → List Role → Type 0
Clear TableContext ns = Unit {0}
Clear c ns = Over c ns

-- a cell is in table scope
abbrev pub cell_in_scope : List Role → Bool
cell_in_scope = role_in_scope is_cell_role (ends TableContext)
