-- What an insertion mode says about the open elements (HTML standard, section 13.2.4.1).
use Rattle.std.specs.Prelude.{◌≡◌, ◌<◌, ◌+◌, ℕ, ◌∷◌, [], Bool, true, false, List, length, Option, Some, None}
use Rattle.h5_tables.specs.declared.modes.InsertionMode.{InsertionMode}
use Rattle.h5_tables.specs.declared.modes.InsertionMode.TheVariants.{Initial, BeforeHtml, BeforeHead, InHead, InHeadNoscript, AfterHead, InBody, Text, InTable, InTableText, InCaption, InColumnGroup, InTableBody, InRow, InCell, InTemplate, AfterBody, InFrameset, AfterFrameset, AfterAfterBody, AfterAfterFrameset}
use Rattle.h5_builder_spec.specs.inner.Contexts.{LeastContext, Over, TableBodyContext, TableRowContext, Under, cell_in_scope}
use Rattle.h5_builder_spec.specs.inner.Floors.{Grounded, HasBase, RootIs}
use Rattle.h5_builder_spec.specs.reset.Roles.{HeadRole, HtmlRole, PlainRole, Role, TemplateRole, count_roles, has_role, is_head, is_template}
use Rattle.h5_builder_spec.specs.reset.Situation.{Situation}

-- a document, or a fragment whose context element is an `html`
abbrev pub is_whole : Option Role → Bool
is_whole None = true
is_whole (Some HtmlRole) = true
is_whole (Some _) = false

-- the number of templates that the context element is
abbrev pub context_templates : Option Role → ℕ
context_templates None = 0
context_templates (Some TemplateRole) = 1
context_templates (Some _) = 0

-- the modes that may be on the stack of template insertion modes
abbrev pub is_template_mode : InsertionMode → Bool
is_template_mode InTemplate = true
is_template_mode InTable = true
is_template_mode InColumnGroup = true
is_template_mode InTableBody = true
is_template_mode InRow = true
is_template_mode InBody = true
is_template_mode _ = false

abbrev pub AllKinds : List InsertionMode → Type 0
AllKinds [] = Unit {0}
AllKinds (m ∷ ms) = (is_template_mode m ≡ true) × AllKinds ms

-- there are as many template insertion modes as templates
abbrev pub Counted : Situation → List Role → Type 0
Counted s ns = length s.template_modes ≡ count_roles is_template ns + context_templates s.context

-- the condition of a mode that may be left for a text, on the open elements; w: this is a whole document
abbrev pub Placed : Bool → Situation → InsertionMode → List Role → Type 0
Placed w s BeforeHead ns = (w ≡ true) × (ns ≡ HtmlRole ∷ [])
Placed w s InHead ns = (w ≡ true) × (ns ≡ HeadRole ∷ HtmlRole ∷ [])
Placed w s InHeadNoscript ns = (w ≡ true) × (ns ≡ PlainRole ∷ HeadRole ∷ HtmlRole ∷ [])
Placed w s AfterHead ns = (w ≡ true) × ((ns ≡ HtmlRole ∷ []) × (s.has_head ≡ true))
Placed w s InBody ns = Grounded w ns
Placed w s AfterBody ns = Grounded w ns
Placed w s AfterAfterBody ns = Grounded w ns
Placed w s InTable ns = Grounded w ns × HasBase w ns
Placed w s InCaption ns = Grounded w ns × HasBase w ns
Placed w s InColumnGroup ns = Grounded w ns × HasBase w ns
Placed w s InTableBody ns = Grounded w ns × (HasBase w ns × Over TableBodyContext ns)
Placed w s InRow ns = Grounded w ns × (HasBase w ns × Over TableRowContext ns)
Placed w s InCell ns = Grounded w ns × (HasBase w ns × (cell_in_scope ns ≡ true))
Placed w s InTemplate ns = Grounded w ns × ((0 < length s.template_modes) × Over LeastContext ns)
Placed w s InFrameset ns = (0 < length ns) × (has_role is_template ns ≡ false)
Placed w s AfterFrameset ns = 0 < length ns
Placed w s AfterAfterFrameset ns = 0 < length ns
Placed w s _ ns = ⊥

-- the condition of that mode on the elements that are older than the one of the text
abbrev pub PlacedBelow : Bool → Situation → InsertionMode → List Role → Type 0
PlacedBelow w s m [] = ⊥
PlacedBelow w s m (n ∷ []) = ⊥
PlacedBelow w s m (n ∷ k ∷ ns) = (n ≡ PlainRole) × Placed w s m (k ∷ ns)

-- the modes that may be left for a text in a table
abbrev pub is_table_mode : InsertionMode → Bool
is_table_mode InTable = true
is_table_mode InTableBody = true
is_table_mode InRow = true
is_table_mode _ = false

-- the condition of each mode
abbrev pub Place : Situation → InsertionMode → List Role → Type 0
Place s Initial ns = (ns ≡ []) × ((s.template_modes ≡ []) × (s.context ≡ None))
Place s BeforeHtml ns = (ns ≡ []) × ((s.template_modes ≡ []) × (s.context ≡ None))
Place s Text ns = (m : InsertionMode) × ((s.saved_mode ≡ Some m) × PlacedBelow (is_whole s.context) s m ns)
Place s InTableText ns = (m : InsertionMode) × ((s.saved_mode ≡ Some m) × ((is_table_mode m ≡ true) × Placed (is_whole s.context) s m ns))
Place s m ns = Placed (is_whole s.context) s m ns

-- what holds in every mode: the root is an `html`; there are as many template modes as templates, and they are modes of
-- that kind; an open head is the known one; no frameset may follow while a template is open; and each part of a table
-- comes directly after an element that it may come after
pub record Known (s : Situation) (ns : List Role) : Type 0 where
  pub root : RootIs ns
  pub modes : Counted s ns
  pub kinds : AllKinds s.template_modes
  pub opened : has_role is_head ns ≡ true → s.has_head ≡ true
  pub ok : s.frameset_ok ≡ true → has_role is_template ns ≡ false
  pub under : Under ns

-- the open elements fit the mode; holds at every turn and between tokens
pub record Fits (s : Situation) (m : InsertionMode) (ns : List Role) : Type 0 where
  pub known : Known s ns
  pub place : Place s m ns

-- the modes in which some tokens are handled "using the rules for the in body insertion mode"
abbrev pub goes_by_body : InsertionMode → Bool
goes_by_body InBody = true
goes_by_body InTable = true
goes_by_body InCaption = true
goes_by_body InColumnGroup = true
goes_by_body InTableBody = true
goes_by_body InRow = true
goes_by_body InCell = true
goes_by_body InTemplate = true
goes_by_body AfterBody = true
goes_by_body AfterAfterBody = true
goes_by_body _ = false

-- the modes before the root is created
abbrev pub is_before_root : InsertionMode → Bool
is_before_root Initial = true
is_before_root BeforeHtml = true
is_before_root _ = false

-- a mode that may be left for a text
abbrev pub may_be_left : InsertionMode → Bool
may_be_left Initial = false
may_be_left BeforeHtml = false
may_be_left Text = false
may_be_left InTableText = false
may_be_left _ = true

-- the modes in which a template may be inserted
abbrev pub takes_template : InsertionMode → Bool
takes_template InHead = true
takes_template AfterHead = true
takes_template m = goes_by_body m
