-- Changes of the open elements by their roles, and what they preserve.
use Rattle.std.specs.Prelude.{◌≡◌, [], ◌∷◌, Bool, true, false, List}
use Rattle.h5_builder_spec.specs.inner.Contexts.{Over, StackContext, Under, cell_in_scope}
use Rattle.h5_builder_spec.specs.inner.Floors.{Grounded, RootIs}
use Rattle.h5_builder_spec.specs.reset.Roles.{HtmlRole, PlainRole, Role, TableRole, TemplateRole, count_roles, has_role, is_ground, is_head, is_template}

-- a change of the open elements that preserves what modes say about them
pub record Frame (old new : List Role) : Type 0 where
  pub grounded : (w : Bool) → Grounded w old → Under old → Grounded w new
  pub under : Under old → Under new
  pub root : RootIs old → RootIs new
  pub templates : count_roles is_template new ≡ count_roles is_template old
  pub base : has_role is_ground old ≡ true → has_role is_ground new ≡ true
  pub over : (c : StackContext) → Under old → Over c old → Over c new
  pub cell : Under old → cell_in_scope old ≡ true → cell_in_scope new ≡ true
  pub head : has_role is_head new ≡ true → has_role is_head old ≡ true

-- plain names are removed anywhere, and others are inserted right after plain ones
pub data Edited : List Role → List Role → Type 0 where
  same : {ns : List Role} → Edited ns ns
  keep : {ns ms : List Role} (n : Role) → Edited ns ms → Edited (n ∷ ns) (n ∷ ms)
  take_out : {ns ms : List Role} → Edited ns ms → Edited (PlainRole ∷ ns) ms
  put_on : {ns ms : List Role} → Edited ns ms → Edited (PlainRole ∷ ns) (PlainRole ∷ PlainRole ∷ ms)

-- the names are some that pass, then x, and then the remainder
pub data Cut (passes : Role → Bool) (x : Role) : List Role → List Role → Type 0 where
  here : {rest : List Role} → Cut passes x (x ∷ rest) rest
  there : {ns rest : List Role} (n : Role) → passes n ≡ true → Cut passes x ns rest → Cut passes x (n ∷ ns) rest

-- the roles that may be newer than a name that is in table scope
abbrev pub passes_table_scope : Role → Bool
passes_table_scope HtmlRole = false
passes_table_scope TableRole = false
passes_table_scope TemplateRole = false
passes_table_scope _ = true

-- the roles that may be newer than the newest template
abbrev pub passes_to_template : Role → Bool
passes_to_template TemplateRole = false
passes_to_template _ = true

-- only plain names
abbrev pub AllPlain : List Role → Type 0
AllPlain [] = Unit {0}
AllPlain (n ∷ ns) = (n ≡ PlainRole) × AllPlain ns
