-- The adjusted current node, and what it takes as HTML.
use Rattle.std.proofs.Common.{◌≡◌, ◌<◌, ℕ, Bool, true, false, not, ◌&&◌, ◌||◌, List, [], ◌∷◌, Option, Some, None, inl, length, refl, ap, sym, ◌∙◌, arith}
use Rattle.h5_names.specs.declared.qualified.QualName.{QualName}
use Rattle.h5_token.specs.TokenText.{TagText}
use Rattle.h5_token.specs.declared.tag.TagKind.TheVariants.{EndTag}
use Rattle.h5_interface.specs.Forest.{ElementNode, Forest, IsElement, kind_of}
use Rattle.h5_interface.specs.NewElement.{is_annotation_xml}
use Rattle.h5_interface.specs.SinkChoices.{SinkChoices}
use Rattle.h5_tables.specs.TagSets.{is_mathml_text_point, is_svg_html_point}
use Rattle.h5_tables.specs.TurnText.{CommentTurn, TagTurn, TurnText}
use Rattle.h5_builder_spec.specs.reset.Roles.{is_html_element}
use Rattle.h5_builder_spec.specs.stack.Order.{IsIn}
use Rattle.h5_builder_spec.specs.insertion.Foreign.{adjusted_current_node, adjusted_of, is_foreign_at, is_taken_in}
use Rattle.h5_builder_spec.specs.Sound.{Sound}
use Rattle.h5_builder_spec.specs.World.{World, name_in}
use Rattle.h5_builder_state.proofs.StackLaws.{named}

-- the adjusted current node is an element
pub adjusted_is_element : (w : World) (n : ℕ) → Sound w → Some n ≡ adjusted_current_node w → IsElement w.forest n
adjusted_is_element w n k e = at w.context w.stack k.context_node k.stands.elements e
  where
    at : (context : Option ℕ) (s : List ℕ) → ((m : ℕ) → context ≡ Some m → IsElement w.forest m) → ((m : ℕ) → IsIn m s → IsElement w.forest m)
        → Some n ≡ adjusted_of context s → IsElement w.forest n
    at context [] is_context is_open h = absurd (cc)
    at None (m ∷ []) is_context is_open h = is_open n (inl (cc))
    at (Some m) (k ∷ []) is_context is_open h = is_context n (sym h)
    at context (m ∷ k ∷ s) is_context is_open h = is_open n (inl (cc))

-- the current node is the adjusted one, unless the root alone is open, in a fragment
pub newest_alone : (n : ℕ) (s : List ℕ) → adjusted_of None (n ∷ s) ≡ Some n
newest_alone n [] = refl
newest_alone n (m ∷ s) = refl

pub newest_above : (context : Option ℕ) (n : ℕ) (s : List ℕ) → 0 < length s → adjusted_of context (n ∷ s) ≡ Some n
newest_above context n [] h = absurd (omega arith)
newest_above context n (m ∷ s) h = refl

-- an element of HTML takes any token
pub html_takes : (choices : SinkChoices) (t : TurnText) (f : Forest) (n : ℕ) → is_html_element (name_in f n) ≡ true → is_foreign_at choices t f (Some n) ≡ false
html_takes choices t f n h = at (is_html_element (name_in f n)) h _
  where
    at : (b : Bool) → b ≡ true → (x : Bool) → not (b || x) ≡ false
    at true e x = refl
    at false e x = absurd (cc)

-- where the adjusted current node is one, no token is foreign
pub known_takes : (choices : SinkChoices) (t : TurnText) (f : Forest) (context : Option ℕ) (stack : List ℕ) (n : ℕ) → adjusted_of context stack ≡ Some n → is_html_element (name_in f n) ≡ true
    → is_foreign_at choices t f (adjusted_of context stack) ≡ false
known_takes choices t f context stack n e h = ap (is_foreign_at choices t f) e ∙ html_takes choices t f n h

-- of others only an element of HTML takes any
never : (html text point other : Bool) → (html || ((text && false) || ((point && false) || (other && false)))) ≡ html
never true text point other = refl
never false true true true = refl
never false true true false = refl
never false true false true = refl
never false true false false = refl
never false false true true = refl
never false false true false = refl
never false false false true = refl
never false false false false = refl

pub comment_taken : (choices : SinkChoices) (f : Forest) (n : ℕ) (name : QualName) (text : List ℕ) → kind_of f n ≡ Some (ElementNode name)
    → is_taken_in choices (CommentTurn text) f n ≡ is_html_element name
comment_taken choices f n name text e =
    never (is_html_element (name_in f n)) (is_mathml_text_point (name_in f n)) (is_svg_html_point (name_in f n)) (is_annotation_xml (name_in f n))
    ∙ ap is_html_element (named f n name e)

pub end_taken : (choices : SinkChoices) (f : Forest) (n : ℕ) (name : QualName) (tag : TagText) → kind_of f n ≡ Some (ElementNode name) → tag.kind ≡ EndTag
    → is_taken_in choices (TagTurn tag) f n ≡ is_html_element name
end_taken choices f n name tag e k =
    ap (λ kind. is_taken_in choices (TagTurn (record tag { kind = kind })) f n) k ∙ comment_taken choices f n name [] e
