-- A round of the adoption agency by names.
use Rattle.std.proofs.Common.{◌≡◌, ◌≤◌, Bool, false, List, [], ◌∷◌, ◌++◌, length, ap, sym, subst, ◌∙◌, arith}
use Rattle.std.specs.List.{list_any}
use Rattle.std.proofs.lemmas.List.{map-append}
use Rattle.h5_names.specs.declared.qualified.QualName.{QualName}
use Rattle.h5_tables.specs.TagSets.{is_default_scope, is_special}
use Rattle.h5_builder_spec.specs.inner.Contexts.{Under}
use Rattle.h5_builder_spec.specs.inner.Floors.{Grounded}
use Rattle.h5_builder_spec.specs.inner.Frames.{AllPlain, Frame}
use Rattle.h5_builder_spec.specs.reset.Roles.{PlainRole, role_of, roles}
use Rattle.h5_builder_spec.proofs.adoption.AdoptionLaws.{block_plain, frame_round}
use Rattle.h5_builder_spec.proofs.BoolLaws.{or_neither}
use Rattle.h5_builder_spec.proofs.fitting.NamesFitLaws.{roles_length}
use Rattle.h5_builder_spec.proofs.roles.SetLaws.{default_passes, ordinary_plain}

ordinary_all : (ms : List QualName) → list_any is_special ms ≡ false → AllPlain (roles ms)
ordinary_all [] h = tt
ordinary_all (m ∷ ms) h = let p = or_neither (is_special m) (list_any is_special ms) h in (ordinary_plain m p.0, ordinary_all ms p.1)

-- the stack before, and after
roles_before : (ts ms rest : List QualName) (b f : QualName) → role_of f ≡ PlainRole → roles (ts ++ b ∷ (ms ++ f ∷ rest)) ≡ roles ts ++ role_of b ∷ (roles ms ++ PlainRole ∷ roles rest)
roles_before ts ms rest b f e =
    map-append role_of ts (b ∷ (ms ++ f ∷ rest))
    ∙ ap (λ l. roles ts ++ role_of b ∷ l) (map-append role_of ms (f ∷ rest))
    ∙ ap (λ x. roles ts ++ role_of b ∷ (roles ms ++ x ∷ roles rest)) e

roles_after : (ts ks rest : List QualName) (b c : QualName) → role_of c ≡ PlainRole → role_of b ≡ PlainRole → roles (ts ++ c ∷ b ∷ (ks ++ rest)) ≡ roles ts ++ PlainRole ∷ PlainRole ∷ (roles ks ++ roles rest)
roles_after ts ks rest b c e k =
    map-append role_of ts (c ∷ b ∷ (ks ++ rest))
    ∙ ap (λ l. roles ts ++ role_of c ∷ role_of b ∷ l) (map-append role_of ks rest)
    ∙ ap (λ x. roles ts ++ x ∷ role_of b ∷ (roles ks ++ roles rest)) e
    ∙ ap (λ x. roles ts ++ PlainRole ∷ x ∷ (roles ks ++ roles rest)) k

-- the furthest block b is in default scope's reach of the formatting element f, and those between aren't special
pub frame_adopted : (w : Bool) (ts ms ks rest : List QualName) (b f c : QualName) → role_of f ≡ PlainRole → role_of c ≡ PlainRole → is_default_scope b ≡ false → list_any is_special ms ≡ false → AllPlain (roles ks) → length ks ≤ length ms
    → Grounded w (roles (ts ++ b ∷ (ms ++ f ∷ rest))) → Under (roles (ts ++ b ∷ (ms ++ f ∷ rest))) → Frame (roles (ts ++ b ∷ (ms ++ f ∷ rest))) (roles (ts ++ c ∷ b ∷ (ks ++ rest)))
frame_adopted w ts ms ks rest b f c e d p m k l g u =
    let plain = ordinary_all ms m in
    let before = roles_before ts ms rest b f e in
    let block = block_plain w (role_of b) (roles ts) (roles ms) (roles rest) (default_passes b p) plain (subst (Grounded w) before g) (subst Under before u) in
    let x = roles_length ks in
    let y = roles_length ms in
    let round = frame_round (roles ts) (roles ms) (roles ks) (roles rest) plain k (omega (arith, l, x, y)) in
    subst (λ n. Frame n (roles (ts ++ c ∷ b ∷ (ks ++ rest)))) (sym (before ∙ ap (λ r. roles ts ++ r ∷ (roles ms ++ PlainRole ∷ roles rest)) block))
    (subst (λ n. Frame (roles ts ++ PlainRole ∷ (roles ms ++ PlainRole ∷ roles rest)) n) (sym (roles_after ts ks rest b c d block)) round)
