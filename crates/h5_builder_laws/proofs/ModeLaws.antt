-- The modes that use the rules of the body, and the mode that a reset of it finds.
use Rattle.std.proofs.Common.{◌≡◌, ◌∙◌, ℕ, Bool, true, false, List, [], ◌∷◌, Option, refl, ap}
use Rattle.h5_names.specs.AttributeText.{AttributeText}
use Rattle.h5_names.specs.declared.qualified.QualName.{QualName}
use Rattle.h5_interface.specs.SinkChoices.{SinkChoices}
use Rattle.h5_builder_spec.specs.reset.Situation.{Situation}
use Rattle.h5_builder_spec.specs.reset.ResetByRoles.{decide, reset}
use Rattle.h5_builder_spec.specs.reset.Roles.{CaptionRole, CellRole, PlainRole, Role, role_of, roles}
use Rattle.h5_tables.specs.TagSets.{cell_names, is_one_of}
use Rattle.h5_tables.specs.TurnText.{TagTurn}
use Rattle.h5_tables.specs.declared.modes.InsertionMode.{InsertionMode}
use Rattle.h5_tables.specs.declared.modes.InsertionMode.TheVariants.{InBody, InCaption, InCell}
use Rattle.h5_names.specs.declared.known_name.KnownName.TheVariants.{Caption, Table}
use Rattle.h5_builder_spec.specs.ByName.{named}
use Rattle.h5_builder_spec.specs.modes.InCaption.{in_caption_close, in_caption_end, in_caption_end_caption, in_caption_ignored_ends, in_caption_start, in_caption_tag}
use Rattle.h5_builder_spec.specs.stack.Scope.{first_passes}
use Rattle.h5_builder_spec.specs.modes.InCell.{in_cell_closing_ends, in_cell_end, in_cell_end_cell, in_cell_end_structure, in_cell_ignored_ends, in_cell_start, in_cell_start_structure, in_cell_tag}
use Rattle.h5_builder_spec.specs.modes.InBody.{in_body}
use Rattle.h5_builder_spec.specs.modes.Modes.{rule}
use Rattle.h5_builder_spec.specs.reset.Reset.{reset_mode}
use Rattle.h5_builder_spec.specs.Rows.{choose, ignored}
use Rattle.h5_builder_spec.specs.Sound.{role_at, situation_of}
use Rattle.h5_builder_spec.specs.modes.Shared.{table_structure_names}
use Rattle.h5_builder_spec.specs.Text.{is_quiet_text, text_in, text_in_body}
use Rattle.h5_builder_spec.specs.World.{World, names_of}
use Rattle.h5_builder_laws.proofs.RuleLaws.{end, start}

-- the body, and a cell, which uses the rules of the body for most tags and for texts
pub data GoesByBody : InsertionMode → Type 0 where
  TheBody : GoesByBody InBody
  TheCell : GoesByBody InCell
  TheCaption : GoesByBody InCaption

-- a text is handled as in the body, and isn't a parse error
pub text_by_body : (choices : SinkChoices) (t : List ℕ) (w : World) {m : InsertionMode} → GoesByBody m → text_in m choices t w ≡ text_in_body choices t w
text_by_body choices t w TheBody = refl
text_by_body choices t w TheCell = refl
text_by_body choices t w TheCaption = refl

pub quiet_by_body : {m : InsertionMode} → GoesByBody m → is_quiet_text m ≡ true
quiet_by_body TheBody = refl
quiet_by_body TheCell = refl
quiet_by_body TheCaption = refl

-- a name that a cell leaves to the body, in start tags and in end tags
pub record IsOutside (name : List ℕ) : Type 0 where
  pub no_structure : is_one_of table_structure_names name ≡ false
  pub no_cell : is_one_of cell_names name ≡ false
  pub closes_none : is_one_of in_cell_closing_ends name ≡ false
  pub not_ignored : is_one_of in_cell_ignored_ends name ≡ false
  pub no_caption : named Caption name ≡ false
  pub no_end_of_table : named Table name ≡ false
  pub kept_in_caption : is_one_of in_caption_ignored_ends name ≡ false

-- such tags follow the body's rules
pub start_by_body : {m : InsertionMode} → GoesByBody m → (name : List ℕ) (a : List AttributeText) (w : World) → is_one_of table_structure_names name ≡ false → rule m (TagTurn (start name a)) w ≡ rule InBody (TagTurn (start name a)) w
unfolding in_cell_tag in_cell_start in_caption_tag in_caption_start
start_by_body TheBody name a w o = refl
start_by_body TheCell name a w o = ap (λ b. choose b (in_cell_start_structure (start name a) w) (in_body (TagTurn (start name a)) w)) o
start_by_body TheCaption name a w o = ap (λ b. choose b (in_caption_close (start name a) w) (in_body (TagTurn (start name a)) w)) o

pub end_by_body : {m : InsertionMode} → GoesByBody m → (name : List ℕ) (w : World) → IsOutside name → rule m (TagTurn (end name)) w ≡ rule InBody (TagTurn (end name)) w
unfolding in_cell_tag in_cell_end in_caption_tag in_caption_end
end_by_body TheBody name w o = refl
end_by_body TheCell name w o =
    let last = in_body (TagTurn (end name)) w in
    let closing = in_cell_end_structure (end name) w in
    ap (λ b. choose b (in_cell_end_cell (end name) w) (choose (is_one_of in_cell_closing_ends name) closing (choose (is_one_of in_cell_ignored_ends name) ignored last))) o.no_cell
    ∙ ap (λ b. choose b closing (choose (is_one_of in_cell_ignored_ends name) ignored last)) o.closes_none
    ∙ ap (λ b. choose b ignored last) o.not_ignored
end_by_body TheCaption name w o =
    let last = in_body (TagTurn (end name)) w in
    ap (λ b. choose b (in_caption_end_caption (end name) w) (choose (named Table name) (in_caption_close (end name) w) (choose (is_one_of in_caption_ignored_ends name) ignored last))) o.no_caption
    ∙ ap (λ b. choose b (in_caption_close (end name) w) (choose (is_one_of in_caption_ignored_ends name) ignored last)) o.no_end_of_table
    ∙ ap (λ b. choose b ignored last) o.kept_in_caption

-- with these open elements a reset leads to this mode
-- (in a fragment the context decides in place of the root)
abbrev pub ResetsTo : Option Role → List QualName → InsertionMode → Type 0
ResetsTo o [] m = ⊥
ResetsTo o (n ∷ ns) m = (s : Situation) → s.context ≡ o → reset s (roles (n ∷ ns)) ≡ m

pub resets_in : (w : World) {o : Option Role} {m : InsertionMode} (names : List QualName) → names_of w ≡ names → role_at w.forest w.context ≡ o → ResetsTo o names m → reset_mode w ≡ m
unfolding reset_mode
resets_in w [] e h r = absurd (r)
resets_in w (n ∷ ns) e h r = ap (λ ms. reset (situation_of w) (roles ms)) e ∙ r (situation_of w) h

-- also with a plain one above them
pub resets_below : (name : QualName) {o : Option Role} {m : InsertionMode} (names : List QualName) → role_of name ≡ PlainRole → ResetsTo o names m → ResetsTo o (name ∷ names) m
resets_below name [] e r = absurd (r)
resets_below name (n ∷ ns) e r = λ s q. ap (λ x. decide s x (reset s (roles (n ∷ ns)))) e ∙ r s q

-- and to a caption's with a caption above others
pub resets_to_caption : (o : Option Role) (name : QualName) (is : QualName → Bool) (names : List QualName) → role_of name ≡ CaptionRole → first_passes is names ≡ true → ResetsTo o (name ∷ names) InCaption
resets_to_caption o name is [] e h = absurd (cc)
resets_to_caption o name is (n ∷ ns) e h = λ s q. ap (λ x. decide s x (reset s (roles (n ∷ ns)))) e

-- and to a cell's with a cell above others
pub resets_to_cell : (o : Option Role) (name : QualName) (is : QualName → Bool) (names : List QualName) → role_of name ≡ CellRole → first_passes is names ≡ true → ResetsTo o (name ∷ names) InCell
resets_to_cell o name is [] e h = absurd (cc)
resets_to_cell o name is (n ∷ ns) e h = λ s q. ap (λ x. decide s x (reset s (roles (n ∷ ns)))) e
