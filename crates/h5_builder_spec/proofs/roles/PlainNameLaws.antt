-- Sets of plain names.
use Rattle.std.proofs.Common.{◌≡◌, ℕ, Bool, true, false, not, ◌||◌, List, [], ◌∷◌, refl, ap, sym, ◌∙◌}
use Rattle.std.specs.List.{list_any}
use Rattle.std.proofs.lemmas.Slice.Eq.{bytes_eq-Decides}
use Rattle.h5_names.specs.AttributeText.{is_same_text}
use Rattle.h5_names.specs.KnownNames.{name_text}
use Rattle.h5_names.specs.declared.known_name.KnownName.{KnownName}
use Rattle.h5_names.specs.declared.qualified.QualName.{QualName}
use Rattle.h5_tables.specs.TagSets.{block_end_names, block_start_names, formatting_names, heading_names, implied_names, is_heading, is_html_named, is_implied, is_one_of}
use Rattle.h5_builder_spec.specs.ByName.{named}
use Rattle.h5_builder_spec.specs.stack.Scope.{drop_while, is_implied_but}
use Rattle.h5_builder_spec.specs.inner.Frames.{Frame}
use Rattle.h5_builder_spec.specs.reset.Roles.{PlainRole, Role, is_plain, role_of, role_of_local, roles}
use Rattle.h5_builder_spec.proofs.BoolLaws.{and_not, or_neither}
use Rattle.h5_builder_spec.proofs.roles.RoleNameLaws.{frame_while}
use Rattle.h5_builder_spec.proofs.roles.RoleSetLaws.{all_pass, set_passes}
use Rattle.h5_builder_spec.proofs.rows.ByNameLaws.{of_named}

pub plain_only : (x : Role) → is_plain x ≡ true → x ≡ PlainRole
plain_only PlainRole h = refl
plain_only _ h = absurd (cc)

-- of a set of plain names each is plain
pub set_plain : (set : List (List ℕ)) (l : List ℕ) → list_any (λ t. not (is_plain (role_of_local t))) set ≡ false → is_one_of set l ≡ true → role_of_local l ≡ PlainRole
set_plain [] l a h = absurd (cc)
set_plain (t ∷ set) l a h = at (is_same_text t l) refl h (set_plain set l both.1)
  where
    both : (not (is_plain (role_of_local t)) ≡ false) × (list_any (λ u. not (is_plain (role_of_local u))) set ≡ false)
    both = or_neither (not (is_plain (role_of_local t))) (list_any (λ u. not (is_plain (role_of_local u))) set) a

    not_not : (b : Bool) → not b ≡ false → b ≡ true
    not_not true e = refl
    not_not false e = absurd (cc)

    at : (b : Bool) → is_same_text t l ≡ b → (b || is_one_of set l) ≡ true → (is_one_of set l ≡ true → role_of_local l ≡ PlainRole) → role_of_local l ≡ PlainRole
    at true e k f = ap role_of_local (sym ((bytes_eq-Decides t l).0 e)) ∙ plain_only (role_of_local t) (not_not (is_plain (role_of_local t)) both.0)
    at false e k f = f k

-- a known name that is plain
pub known_plain : (known : KnownName) (l : List ℕ) → role_of_local (name_text known) ≡ PlainRole → named known l ≡ true → role_of_local l ≡ PlainRole
known_plain known l e h = of_named (λ n. role_of_local n ≡ PlainRole) known l e h

pub block_start_plain : (local : List ℕ) → is_one_of block_start_names local ≡ true → role_of_local local ≡ PlainRole
unfolding role_of_local block_start_names
block_start_plain local h = set_plain block_start_names local refl h

pub block_end_plain : (local : List ℕ) → is_one_of block_end_names local ≡ true → role_of_local local ≡ PlainRole
unfolding role_of_local block_end_names
block_end_plain local h = set_plain block_end_names local refl h

pub heading_local_plain : (local : List ℕ) → is_one_of heading_names local ≡ true → role_of_local local ≡ PlainRole
unfolding role_of_local heading_names
heading_local_plain local h = set_plain heading_names local refl h

pub implied_plain : (n : QualName) → is_implied n ≡ true → role_of n ≡ PlainRole
unfolding role_of_local implied_names is_implied
implied_plain n h = plain_only (role_of n) (set_passes is_plain implied_names n (refl, (refl, (refl, (refl, (refl, (refl, (refl, (refl, (refl, (refl, tt)))))))))) h)

pub heading_plain : (n : QualName) → is_heading n ≡ true → role_of n ≡ PlainRole
unfolding role_of_local heading_names is_heading
heading_plain n h = plain_only (role_of n) (set_passes is_plain heading_names n (refl, (refl, (refl, (refl, (refl, (refl, tt)))))) h)

-- the local name of a formatting element
pub formatting_local_plain : (local : List ℕ) → is_one_of formatting_names local ≡ true → role_of_local local ≡ PlainRole
unfolding role_of_local formatting_names
formatting_local_plain local h =
    plain_only (role_of_local local) (all_pass is_plain formatting_names local (refl, (refl, (refl, (refl, (refl, (refl, (refl, (refl, (refl, (refl, (refl, (refl, (refl, (refl, tt)))))))))))))) h)

-- implied ends are a frame
pub frame_implied : (local : List ℕ) (ns : List QualName) → Frame (roles ns) (roles (drop_while (is_implied_but local) ns))
frame_implied local ns = frame_while (is_implied_but local) (λ n h. implied_plain n (and_not (is_implied n) (is_html_named local n) h).0) ns
