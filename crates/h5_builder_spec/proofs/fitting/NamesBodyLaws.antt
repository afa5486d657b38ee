-- What modes that use the rules of "in body" say by names: the modes of the body fit where they do, and tags that no
-- rule names.
use Rattle.std.proofs.Common.{Bool, List, [], ap, codes, false, inl, inr, refl, subst, sym, true, ℕ, ◌∙◌, ◌∷◌, ◌≡◌}
use Rattle.std.proofs.lemmas.Slice.Eq.{bytes_eq-Decides}
use Rattle.h5_names.specs.KnownNames.{name_text}
use Rattle.h5_names.specs.declared.known_name.KnownName.{KnownName}
use Rattle.h5_names.specs.declared.qualified.QualName.{QualName}
use Rattle.h5_tables.specs.TagSets.{is_html_named, is_one_of, is_special}
use Rattle.h5_tables.specs.declared.modes.InsertionMode.TheVariants.{AfterAfterBody, AfterBody, InBody, InRow, InTable, InTableBody}
use Rattle.h5_tables.specs.declared.modes.InsertionMode.{InsertionMode}
use Rattle.h5_builder_spec.specs.ByName.{NonePasses, Rules, named}
use Rattle.h5_builder_spec.specs.reset.Situation.{Situation}
use Rattle.h5_builder_spec.specs.inner.Fits.{goes_by_body, is_table_mode}
use Rattle.h5_builder_spec.specs.inner.Floors.{Grounded, above, in_head, on_body, on_root, on_template}
use Rattle.h5_builder_spec.specs.inner.Frames.{Cut, here, there}
use Rattle.h5_builder_spec.specs.inner.NamesFit.{NamesFit}
use Rattle.h5_builder_spec.specs.reset.Roles.{BodyRole, CaptionRole, CellRole, ColgroupRole, FramesetRole, HeadRole, HtmlRole, PlainRole, Role, RowRole, SectionRole, TableRole, TemplateRole, is_base, is_floor_name, is_plain, is_table_part, role_of, role_of_local, roles}
use Rattle.h5_builder_spec.specs.stack.Scope.{comes_before_special, cut_names, drop_while, is_implied_but}
use Rattle.h5_builder_spec.proofs.fitting.NamesFitLaws.{names_ended, names_fit, names_frame}
use Rattle.h5_builder_spec.proofs.fitting.PlacedNameLaws.{fits_grounded}
use Rattle.h5_builder_spec.proofs.roles.EndTagLaws.{frame_other_end}
use Rattle.h5_builder_spec.proofs.roles.RoleLaws.{Origin, origin, role_named}
use Rattle.h5_builder_spec.proofs.roles.RoleNameLaws.{cut_roles}
use Rattle.h5_builder_spec.proofs.roles.SetLaws.{ordinary_plain}
use Rattle.h5_builder_spec.proofs.rows.ByNameLaws.{all_ruled, are_ruled}

module _ (s : Situation) (ns : List QualName) where
  -- what fits a mode that uses the rules of the body fits the body, and what comes after it
  pub names_in_body : (m : InsertionMode) → goes_by_body m ≡ true → NamesFit s m ns → NamesFit s InBody ns
  names_in_body m h f = names_fit s InBody ns refl (record { known = f.fits.known; place = fits_grounded s m (roles ns) h f.fits })

  pub names_after_body : NamesFit s InBody ns → NamesFit s AfterBody ns
  names_after_body f = names_fit s AfterBody ns refl (record { known = f.fits.known; place = f.fits.place })

  pub names_after_after_body : NamesFit s InBody ns → NamesFit s AfterAfterBody ns
  names_after_after_body f = names_fit s AfterAfterBody ns refl (record { known = f.fits.known; place = f.fits.place })

  -- what fits a section or a row fits their table
  pub names_in_table : (m : InsertionMode) → is_table_mode m ≡ true → NamesFit s m ns → NamesFit s InTable ns
  names_in_table InTable h f = f
  names_in_table InTableBody h f = names_fit s InTable ns refl (record { known = f.fits.known; place = (f.fits.place.0, f.fits.place.1.0) })
  names_in_table InRow h f = names_fit s InTable ns refl (record { known = f.fits.known; place = (f.fits.place.0, f.fits.place.1.0) })
  names_in_table _ h f = absurd (cc)

pub table_goes : (m : InsertionMode) → is_table_mode m ≡ true → goes_by_body m ≡ true
table_goes InTable h = refl
table_goes InTableBody h = refl
table_goes InRow h = refl
table_goes _ h = absurd (cc)

-- a head, or a frameset, stands under plain names alone nowhere in the body
abbrev pub is_covered : Role → Bool
is_covered HeadRole = true
is_covered FramesetRole = true
is_covered _ = false

covered_base : (x : Role) → is_covered x ≡ true → is_base x ≡ true
covered_base HeadRole h = refl
covered_base FramesetRole h = refl
covered_base _ h = absurd (cc)

covered : {w : Bool} {x : Role} {ns rest : List Role} → is_covered x ≡ true → Cut is_plain x ns rest → Grounded w ns → ⊥
covered h here (above n b g) = absurd (let k = covered_base n h in cc)
covered h here on_root = absurd (cc)
covered h here on_body = absurd (cc)
covered h here on_template = absurd (cc)
covered h here in_head = absurd (cc)
covered h (there n k c) (above _ b g) = covered h c g
covered h (there n k c) on_root = absurd (cc)
covered h (there n k c) on_body = absurd (cc)
covered h (there n k c) on_template = absurd (cc)
covered h (there n k c) in_head = absurd (cc)

-- tables and their parts, which the modes of tables name in end tags themselves
abbrev pub is_of_table : Role → Bool
is_of_table TableRole = true
is_of_table n = is_table_part n

-- where some rule is for each name of a table and its parts, a name that no rule is for is none of them
abbrev of_table_names : List (List ℕ)
of_table_names = codes "table" ∷ codes "caption" ∷ codes "colgroup" ∷ codes "tbody" ∷ codes "tfoot" ∷ codes "thead" ∷ codes "tr" ∷ codes "td" ∷ codes "th" ∷ []

pub no_part_where_ruled : (rules : Rules) (l : List ℕ) → are_ruled rules of_table_names ≡ true → NonePasses rules l → is_of_table (role_of_local l) ≡ false
no_part_where_ruled rules l h n = at (role_of_local l) (origin l)
  where
    never : {A : Type 0} (t : List ℕ) → is_one_of of_table_names t ≡ true → l ≡ t → A
    never t i e = absurd (all_ruled rules of_table_names l h (subst (λ s. is_one_of of_table_names s ≡ true) (sym e) i) n)

    at : (x : Role) → Origin x l → is_of_table x ≡ false
    at TableRole o = never (codes "table") refl o
    at CaptionRole o = never (codes "caption") refl o
    at ColgroupRole o = never (codes "colgroup") refl o
    at SectionRole (inl o) = never (codes "tbody") refl o
    at SectionRole (inr (inl o)) = never (codes "tfoot") refl o
    at SectionRole (inr (inr o)) = never (codes "thead") refl o
    at RowRole o = never (codes "tr") refl o
    at CellRole (inl o) = never (codes "td") refl o
    at CellRole (inr o) = never (codes "th") refl o
    at _ o = refl

-- and where one is for each other name that has a role of its own, it is plain
abbrev frame_names : List (List ℕ)
frame_names = codes "html" ∷ codes "head" ∷ codes "body" ∷ codes "frameset" ∷ codes "template" ∷ []

pub plain_where_ruled : (rules : Rules) (l : List ℕ) → are_ruled rules of_table_names ≡ true → are_ruled rules frame_names ≡ true → NonePasses rules l → role_of_local l ≡ PlainRole
plain_where_ruled rules l parts frame n = at (role_of_local l) (origin l) (no_part_where_ruled rules l parts n)
  where
    never : {A : Type 0} (t : List ℕ) → is_one_of frame_names t ≡ true → l ≡ t → A
    never t i e = absurd (all_ruled rules frame_names l frame (subst (λ s. is_one_of frame_names s ≡ true) (sym e) i) n)

    at : (x : Role) → Origin x l → is_of_table x ≡ false → x ≡ PlainRole
    at PlainRole o p = refl
    at HtmlRole o p = never (codes "html") refl o
    at HeadRole o p = never (codes "head") refl o
    at BodyRole o p = never (codes "body") refl o
    at FramesetRole o p = never (codes "frameset") refl o
    at TemplateRole o p = never (codes "template") refl o
    at _ o p = absurd (cc)

-- what an end tag that no rule names may name, by its role: parts of tables in the body alone, since the other modes
-- name them
abbrev pub MayEnd : InsertionMode → Role → Type 0
MayEnd m PlainRole = Unit {0}
MayEnd m HeadRole = Unit {0}
MayEnd m FramesetRole = Unit {0}
MayEnd m HtmlRole = ⊥
MayEnd m BodyRole = ⊥
MayEnd m TemplateRole = ⊥
MayEnd m _ = m ≡ InBody

-- any other end tag, in every mode that uses the rules of the body
pub names_other_end : (s : Situation) (m : InsertionMode) (local : List ℕ) (ns : List QualName) → goes_by_body m ≡ true → MayEnd m (role_of_local local) → comes_before_special local ns ≡ true → NamesFit s m ns
    → NamesFit s m (cut_names (is_html_named local) (drop_while (is_implied_but local) ns))
names_other_end s m local ns goes may h f = at (role_of_local local) refl may
  where
    After : InsertionMode → Type 0
    After k = NamesFit s k (cut_names (is_html_named local) (drop_while (is_implied_but local) ns))

    plain_test : (n : QualName) → is_special n ≡ false → is_plain (role_of n) ≡ true
    plain_test n e = subst (λ x. is_plain x ≡ true) (sym (ordinary_plain n e)) refl

    never : (x : Role) → role_of_local local ≡ x → is_covered x ≡ true → After m
    never x e c = absurd (covered c (cut_roles (is_html_named local) is_special is_plain x (λ n k. role_named local n k ∙ e) (λ n k l. plain_test n l) ns h) (fits_grounded s m (roles ns) goes f.fits))

    in_body : (x : Role) → role_of_local local ≡ x → is_floor_name x ≡ false → m ≡ InBody → After m
    in_body x e o k = subst After (sym k) (names_ended s local ns (ap is_floor_name e ∙ o) h (subst (λ j. NamesFit s j ns) k f))

    at : (x : Role) → role_of_local local ≡ x → MayEnd m x → After m
    at PlainRole e k = names_frame s m ns (cut_names (is_html_named local) (drop_while (is_implied_but local) ns)) goes (frame_other_end local ns e h) f
    at HeadRole e k = never HeadRole e refl
    at FramesetRole e k = never FramesetRole e refl
    at HtmlRole e k = absurd k
    at BodyRole e k = absurd k
    at TemplateRole e k = absurd k
    at x e k = in_body x e refl k

-- a known name's role
pub role_known : (known : KnownName) (name : List ℕ) → named known name ≡ true → role_of_local name ≡ role_of_local (name_text known)
role_known known name h = ap role_of_local ((bytes_eq-Decides name (name_text known)).0 h)
