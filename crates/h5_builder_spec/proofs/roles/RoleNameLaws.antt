-- From names to roles: what rules test and do by names.
use Rattle.std.proofs.Common.{◌≡◌, Bool, true, false, cond, List, [], ◌∷◌, ◌++◌, refl, ap, sym, subst, ◌∙◌}
use Rattle.h5_names.specs.declared.qualified.QualName.{QualName}
use Rattle.h5_builder_spec.specs.stack.Scope.{cut_names, down_names, drop_while, in_scope}
use Rattle.h5_builder_spec.specs.inner.Contexts.{StackContext, down_to, ends}
use Rattle.h5_builder_spec.specs.inner.Frames.{Cut, Edited, Frame, here, keep, put_on, same, take_out, there}
use Rattle.h5_builder_spec.specs.reset.Roles.{PlainRole, Role, role_in_scope, role_of, roles}
use Rattle.h5_builder_spec.proofs.fitting.FrameLaws.{frame_edited, frame_push}

-- a name that a scope has, and what it stops at: what lies above passes
pub cut_roles : (is stop : QualName → Bool) (passes : Role → Bool) (x : Role) → ((n : QualName) → is n ≡ true → role_of n ≡ x) → ((n : QualName) → is n ≡ false → stop n ≡ false → passes (role_of n) ≡ true)
    → (ns : List QualName) → in_scope is stop ns ≡ true → Cut passes x (roles ns) (roles (cut_names is ns))
cut_roles is stop passes x f g [] h = absurd (cc)
cut_roles is stop passes x f g (n ∷ ns) h = at (is n) (stop n) refl refl h (cut_roles is stop passes x f g ns)
  where
    at : (a b : Bool) → is n ≡ a → stop n ≡ b → cond a true (cond b false (in_scope is stop ns)) ≡ true → (in_scope is stop ns ≡ true → Cut passes x (roles ns) (roles (cut_names is ns)))
        → Cut passes x (role_of n ∷ roles ns) (roles (cond a ns (cut_names is ns)))
    at true b e k l rest = subst (λ y. Cut passes x (y ∷ roles ns) (roles ns)) (sym (f n e)) here
    at false true e k l rest = absurd (cc)
    at false false e k l rest = there (role_of n) (g n e k) (rest l)

-- a plain name is pushed, where some are open
pub frame_pushed : (n x : QualName) (ns : List QualName) → role_of n ≡ PlainRole → Frame (roles (x ∷ ns)) (roles (n ∷ x ∷ ns))
frame_pushed n x ns e = subst (λ y. Frame (roles (x ∷ ns)) (y ∷ roles (x ∷ ns))) (sym e) (frame_push (role_of x) (roles ns))

-- plain names are popped while they pass
edited_while : (p : QualName → Bool) → ((n : QualName) → p n ≡ true → role_of n ≡ PlainRole) → (ns : List QualName) → Edited (roles ns) (roles (drop_while p ns))
edited_while p f [] = same
edited_while p f (n ∷ ns) = at (p n) refl (edited_while p f ns)
  where
    at : (b : Bool) → p n ≡ b → Edited (roles ns) (roles (drop_while p ns)) → Edited (role_of n ∷ roles ns) (roles (cond b (drop_while p ns) (n ∷ ns)))
    at true e k = subst (λ y. Edited (y ∷ roles ns) (roles (drop_while p ns))) (sym (f n e)) (take_out k)
    at false e k = same

pub frame_while : (p : QualName → Bool) → ((n : QualName) → p n ≡ true → role_of n ≡ PlainRole) → (ns : List QualName) → Frame (roles ns) (roles (drop_while p ns))
frame_while p f ns = frame_edited (edited_while p f ns)

-- a plain name is taken out
edited_without : (ls rs : List QualName) (x : QualName) → role_of x ≡ PlainRole → Edited (roles (ls ++ x ∷ rs)) (roles (ls ++ rs))
edited_without [] rs x e = subst (λ y. Edited (y ∷ roles rs) (roles rs)) (sym e) (take_out same)
edited_without (l ∷ ls) rs x e = keep (role_of l) (edited_without ls rs x e)

pub frame_without : (ls rs : List QualName) (x : QualName) → role_of x ≡ PlainRole → Frame (roles (ls ++ x ∷ rs)) (roles (ls ++ rs))
frame_without ls rs x e = frame_edited (edited_without ls rs x e)

-- a plain name is put on a plain one
edited_on : (ls rs : List QualName) (c y : QualName) → role_of c ≡ PlainRole → role_of y ≡ PlainRole → Edited (roles (ls ++ y ∷ rs)) (roles (ls ++ c ∷ y ∷ rs))
edited_on [] rs c y e k = subst (λ u. Edited (role_of y ∷ roles rs) (u ∷ role_of y ∷ roles rs)) (sym e) (subst (λ v. Edited (v ∷ roles rs) (PlainRole ∷ v ∷ roles rs)) (sym k) (put_on same))
edited_on (l ∷ ls) rs c y e k = keep (role_of l) (edited_on ls rs c y e k)

pub frame_on : (ls rs : List QualName) (c y : QualName) → role_of c ≡ PlainRole → role_of y ≡ PlainRole → Frame (roles (ls ++ y ∷ rs)) (roles (ls ++ c ∷ y ∷ rs))
frame_on ls rs c y e k = frame_edited (edited_on ls rs c y e k)

-- the stack cleared back to a context, and tests in scopes
pub down_roles : (c : StackContext) (is : QualName → Bool) → ((n : QualName) → is n ≡ ends c (role_of n)) → (ns : List QualName) → roles (down_names is ns) ≡ down_to c (roles ns)
down_roles c is f [] = refl
down_roles c is f (n ∷ ns) = at (is n) (ends c (role_of n)) (f n) (down_roles c is f ns)
  where
    at : (a b : Bool) → a ≡ b → roles (down_names is ns) ≡ down_to c (roles ns) → roles (cond a (n ∷ ns) (down_names is ns)) ≡ cond b (roles (n ∷ ns)) (down_to c (roles ns))
    at true true e k = refl
    at false false e k = k
    at true false e k = absurd (cc)
    at false true e k = absurd (cc)

pub scope_roles : (is stop : QualName → Bool) (p q : Role → Bool) → ((n : QualName) → is n ≡ p (role_of n)) → ((n : QualName) → stop n ≡ q (role_of n)) → (ns : List QualName) → in_scope is stop ns ≡ role_in_scope p q (roles ns)
scope_roles is stop p q f g [] = refl
scope_roles is stop p q f g (n ∷ ns) =
    ap (λ b. cond b true (cond (stop n) false (in_scope is stop ns))) (f n)
    ∙ ap (λ b. cond (p (role_of n)) true (cond b false (in_scope is stop ns))) (g n)
    ∙ ap (λ b. cond (p (role_of n)) true (cond (q (role_of n)) false b)) (scope_roles is stop p q f g ns)
