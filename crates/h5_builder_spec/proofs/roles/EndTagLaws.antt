-- Any other end tag in the body (HTML standard, section 13.2.6.4.7), if no special element comes before what it
-- names: implied end tags, then up to and including that.
use Rattle.std.proofs.Common.{◌≡◌, ℕ, Bool, true, false, cond, List, [], ◌∷◌, refl}
use Rattle.h5_names.specs.declared.qualified.QualName.{QualName}
use Rattle.h5_tables.specs.TagSets.{is_html_named, is_implied, is_special}
use Rattle.h5_builder_spec.specs.stack.Scope.{comes_before_special, cut_names, drop_while, is_implied_but}
use Rattle.h5_builder_spec.specs.inner.Frames.{Frame}
use Rattle.h5_builder_spec.specs.reset.Roles.{PlainRole, role_of_local, roles}
use Rattle.h5_builder_spec.proofs.fitting.FrameLaws.{frame_trans}
use Rattle.h5_builder_spec.proofs.roles.PlainNameLaws.{frame_implied}
use Rattle.h5_builder_spec.proofs.roles.TestLaws.{frame_ended}
use Rattle.h5_builder_spec.proofs.BoolLaws.{and_not}

-- what is popped as an implied end is passed by the test
pub still_comes : (local : List ℕ) (ns : List QualName) → comes_before_special local ns ≡ true → comes_before_special local (drop_while (is_implied_but local) ns) ≡ true
still_comes local [] h = h
still_comes local (n ∷ ns) h = at (is_implied_but local n) refl (still_comes local ns)
  where
    past : (b s : Bool) → b ≡ false → cond b true (cond s false (comes_before_special local ns)) ≡ true → comes_before_special local ns ≡ true
    past true s e k = absurd (cc)
    past false true e k = absurd (cc)
    past false false e k = k

    at : (b : Bool) → is_implied_but local n ≡ b → (comes_before_special local ns ≡ true → comes_before_special local (drop_while (is_implied_but local) ns) ≡ true)
        → comes_before_special local (cond b (drop_while (is_implied_but local) ns) (n ∷ ns)) ≡ true
    at false e f = h
    at true e f = f (past (is_html_named local n) (is_special n) (and_not (is_implied n) (is_html_named local n) e).1 h)

pub frame_other_end : (local : List ℕ) (ns : List QualName) → role_of_local local ≡ PlainRole → comes_before_special local ns ≡ true
    → Frame (roles ns) (roles (cut_names (is_html_named local) (drop_while (is_implied_but local) ns)))
frame_other_end local ns e h =
    let low = drop_while (is_implied_but local) ns in
    frame_trans (roles ns) (roles low) (roles (cut_names (is_html_named local) low)) (frame_implied local ns) (frame_ended local low e (still_comes local ns h))
