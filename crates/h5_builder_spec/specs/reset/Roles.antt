-- The names of open elements, as far as a reset of the insertion mode distinguishes them (HTML standard, section
-- 13.2.4.1), with the current node's name first.
use Rattle.h5_names.specs.AttributeText.{is_same_text}
use Rattle.std.specs.Prelude.{ℕ, ◌∷◌, [], suc, Bool, true, false, cond, List, map, codes, if◌then◌else◌}
use Rattle.h5_names.specs.declared.qualified.QualName.{QualName}
use Rattle.h5_tables.specs.TagSets.{html_namespace}

-- what a name is for a reset of the mode: plain, or one that decides; a section is a `tbody`, `tfoot` or `thead`, a
-- cell a `td` or `th`
pub data Role : Type 0 where
  PlainRole : Role
  HtmlRole : Role
  HeadRole : Role
  BodyRole : Role
  FramesetRole : Role
  TableRole : Role
  TemplateRole : Role
  CaptionRole : Role
  ColgroupRole : Role
  SectionRole : Role
  RowRole : Role
  CellRole : Role

-- an element of HTML
abbrev pub is_html_element : QualName → Bool
is_html_element n = is_same_text n.ns html_namespace

-- the role of an HTML element by its local name
unfoldable pub role_of_local : List ℕ → Role
role_of_local l =
    if is_same_text l (codes "html") then HtmlRole
    else (if is_same_text l (codes "head") then HeadRole
    else (if is_same_text l (codes "body") then BodyRole
    else (if is_same_text l (codes "frameset") then FramesetRole
    else (if is_same_text l (codes "table") then TableRole
    else (if is_same_text l (codes "template") then TemplateRole
    else (if is_same_text l (codes "caption") then CaptionRole
    else (if is_same_text l (codes "colgroup") then ColgroupRole
    else (if is_same_text l (codes "tbody") then SectionRole
    else (if is_same_text l (codes "tfoot") then SectionRole
    else (if is_same_text l (codes "thead") then SectionRole
    else (if is_same_text l (codes "tr") then RowRole
    else (if is_same_text l (codes "td") then CellRole
    else (if is_same_text l (codes "th") then CellRole
    else PlainRole)))))))))))))

-- a foreign element is plain
unfoldable pub role_of : QualName → Role
role_of n = if is_same_text n.ns html_namespace then role_of_local n.local else PlainRole

abbrev pub roles : List QualName → List Role
roles = map role_of

abbrev pub is_plain : Role → Bool
is_plain PlainRole = true
is_plain _ = false

abbrev pub is_html : Role → Bool
is_html HtmlRole = true
is_html _ = false

abbrev pub is_head : Role → Bool
is_head HeadRole = true
is_head _ = false

abbrev pub is_body : Role → Bool
is_body BodyRole = true
is_body _ = false

abbrev pub is_table : Role → Bool
is_table TableRole = true
is_table _ = false

abbrev pub is_template : Role → Bool
is_template TemplateRole = true
is_template _ = false

abbrev pub is_cell_role : Role → Bool
is_cell_role CellRole = true
is_cell_role _ = false

abbrev pub is_row : Role → Bool
is_row RowRole = true
is_row _ = false

abbrev pub is_section : Role → Bool
is_section SectionRole = true
is_section _ = false

-- the roles that are only in the floor
abbrev pub is_base : Role → Bool
is_base HtmlRole = true
is_base HeadRole = true
is_base BodyRole = true
is_base FramesetRole = true
is_base _ = false

-- a table or a template, which the parts of a table come after in the end
abbrev pub is_ground : Role → Bool
is_ground TableRole = true
is_ground TemplateRole = true
is_ground _ = false

-- a part of a table, which must come directly after certain roles
abbrev pub is_table_part : Role → Bool
is_table_part CaptionRole = true
is_table_part ColgroupRole = true
is_table_part SectionRole = true
is_table_part RowRole = true
is_table_part CellRole = true
is_table_part _ = false

-- the names that floors are made of
abbrev pub is_floor_name : Role → Bool
is_floor_name HtmlRole = true
is_floor_name HeadRole = true
is_floor_name BodyRole = true
is_floor_name TemplateRole = true
is_floor_name _ = false

-- a role of the list passes
abbrev pub has_role : (Role → Bool) → List Role → Bool
has_role p [] = false
has_role p (n ∷ ns) = cond (p n) true (has_role p ns)

-- the number of roles that pass
abbrev pub count_roles : (Role → Bool) → List Role → ℕ
count_roles p [] = 0
count_roles p (n ∷ ns) = cond (p n) (suc (count_roles p ns)) (count_roles p ns)

-- a role that passes comes before, or is, the first one that ends the scope (section 13.2.4.2)
abbrev pub role_in_scope : (Role → Bool) → (Role → Bool) → List Role → Bool
role_in_scope is stop [] = false
role_in_scope is stop (n ∷ ns) = cond (is n) true (cond (stop n) false (role_in_scope is stop ns))

-- all roles except the current node's
abbrev pub later_roles : List Role → List Role
later_roles [] = []
later_roles (n ∷ ns) = ns
