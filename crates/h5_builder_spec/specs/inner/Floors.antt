-- The oldest open elements, from the root on.
use Rattle.std.specs.Prelude.{◌≡◌, ◌∷◌, [], Bool, true, false, List}
use Rattle.h5_builder_spec.specs.reset.Roles.{BodyRole, HeadRole, HtmlRole, Role, TemplateRole, has_role, is_base, is_ground, is_html}

-- the root, once created, is an `html`
abbrev pub RootIs : List Role → Type 0
RootIs [] = Unit {0}
RootIs (n ∷ []) = is_html n ≡ true
RootIs (n ∷ m ∷ ns) = RootIs (m ∷ ns)

-- the floor, and after it no name that only floors have. The floor of a fragment (false) is the root; that of a whole
-- document (true) also has the body, or a template in the place of the body or in the head
pub data Grounded : Bool → List Role → Type 0 where
  on_root : Grounded false (HtmlRole ∷ [])
  on_body : Grounded true (BodyRole ∷ HtmlRole ∷ [])
  on_template : Grounded true (TemplateRole ∷ HtmlRole ∷ [])
  in_head : Grounded true (TemplateRole ∷ HeadRole ∷ HtmlRole ∷ [])
  above : {w : Bool} {ns : List Role} (n : Role) → is_base n ≡ false → Grounded w ns → Grounded w (n ∷ ns)

-- clearing back to a table context leaves the floor: in a whole document a table or a template is open
abbrev pub HasBase : Bool → List Role → Type 0
HasBase true ns = has_role is_ground ns ≡ true
HasBase false ns = Unit {0}

-- the open elements after a template is closed: a floor as above, or only the root, or the root and the head
pub data Left : Bool → List Role → Type 0 where
  grounded_left : {w : Bool} {ns : List Role} → Grounded w ns → Left w ns
  root_left : Left true (HtmlRole ∷ [])
  head_left : Left true (HeadRole ∷ HtmlRole ∷ [])
