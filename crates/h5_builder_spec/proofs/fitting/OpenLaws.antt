-- The root stays open: what changes of open elements leave of it, by names.
use Rattle.std.proofs.Common.{◌≡◌, ◌<◌, ℕ, Bool, true, false, cond, List, [], ◌∷◌, length, codes, refl, sym, ◌∙◌, arith}
use Rattle.std.proofs.lemmas.Slice.Eq.{bytes_eq-Decides}
use Rattle.h5_names.specs.AttributeText.{is_same_text}
use Rattle.h5_names.specs.declared.qualified.QualName.{QualName}
use Rattle.h5_tables.specs.TagSets.{is_html_named, is_implied, is_special}
use Rattle.h5_tables.specs.declared.modes.InsertionMode.{InsertionMode}
use Rattle.h5_tables.specs.declared.modes.InsertionMode.TheVariants.{BeforeHtml, InTableText, Initial, Text}
use Rattle.h5_builder_spec.specs.stack.Scope.{comes_before_special, cut_names, drop_while, in_scope, is_implied_but}
use Rattle.h5_builder_spec.specs.reset.Situation.{Situation}
use Rattle.h5_builder_spec.specs.inner.Fits.{goes_by_body, is_before_root, may_be_left}
use Rattle.h5_builder_spec.specs.inner.NamesFit.{NamesFit}
use Rattle.h5_builder_spec.specs.stack.Root.{IsRootOpen, RootIsHtml}
use Rattle.h5_builder_spec.proofs.roles.EndTagLaws.{still_comes}
use Rattle.h5_builder_spec.proofs.fitting.NamesFitLaws.{names_open, names_root}
use Rattle.h5_builder_spec.proofs.roles.RoleLaws.{named_local}
use Rattle.h5_builder_spec.proofs.roles.SetLaws.{implied_not_html}
use Rattle.h5_builder_spec.proofs.BoolLaws.{and_not}

-- the root of some elements is open
pub root_open : (n : QualName) (ns : List QualName) → RootIsHtml (n ∷ ns) → IsRootOpen (n ∷ ns)
root_open n [] h = h
root_open n (m ∷ ns) h = root_open m ns h

pub open_some : (ns : List QualName) → IsRootOpen ns → 0 < length ns
open_some [] h = elim h [ ]
open_some (n ∷ ns) h = omega arith

pub open_push : (n : QualName) (ns : List QualName) → IsRootOpen ns → IsRootOpen (n ∷ ns)
open_push n [] h = elim h [ ]
open_push n (m ∷ ns) h = h

pub open_pop : (n : QualName) (ns : List QualName) → is_html_named (codes "html") n ≡ false → IsRootOpen (n ∷ ns) → IsRootOpen ns
open_pop n [] e h = absurd (cc)
open_pop n (m ∷ ns) e h = h

-- names that aren't `html` are popped while they pass
pub open_while : (p : QualName → Bool) (ns : List QualName) → ((n : QualName) → p n ≡ true → is_html_named (codes "html") n ≡ false) → IsRootOpen ns → IsRootOpen (drop_while p ns)
open_while p [] f h = elim h [ ]
open_while p (n ∷ ns) f h = at (p n) refl (open_while p ns f)
  where
    at : (b : Bool) → p n ≡ b → (IsRootOpen ns → IsRootOpen (drop_while p ns)) → IsRootOpen (cond b (drop_while p ns) (n ∷ ns))
    at true e r = r (open_pop n ns (f n e) h)
    at false e r = h

-- up to and including one that isn't `html`, where a scope has one
pub open_cut : (is stop : QualName → Bool) (ns : List QualName) → ((n : QualName) → is n ≡ true → is_html_named (codes "html") n ≡ false) → in_scope is stop ns ≡ true → IsRootOpen ns → IsRootOpen (cut_names is ns)
open_cut is stop [] f c h = elim h [ ]
open_cut is stop (n ∷ ns) f c h = at (is n) (stop n) refl c (open_cut is stop ns f)
  where
    pop_more : (ns : List QualName) → in_scope is stop ns ≡ true → IsRootOpen (n ∷ ns) → IsRootOpen ns
    pop_more [] k r = absurd (cc)
    pop_more (m ∷ ms) k r = r

    at : (b s : Bool) → is n ≡ b → cond b true (cond s false (in_scope is stop ns)) ≡ true → (in_scope is stop ns ≡ true → IsRootOpen ns → IsRootOpen (cut_names is ns)) → IsRootOpen (cond b ns (cut_names is ns))
    at true s e k r = open_pop n ns (f n e) h
    at false true e k r = absurd (cc)
    at false false e k r = r k (pop_more ns k h)

-- an element of another name isn't `html`
pub not_html : (local : List ℕ) → is_same_text local (codes "html") ≡ false → (n : QualName) → is_html_named local n ≡ true → is_html_named (codes "html") n ≡ false
not_html local e n h = at (is_html_named (codes "html") n) refl
  where
    at : (b : Bool) → is_html_named (codes "html") n ≡ b → b ≡ false
    at false k = refl
    at true k = absurd (let same = (bytes_eq-Decides local (codes "html")).1 (sym (named_local local n h) ∙ named_local (codes "html") n k) in cc)

pub open_implied : (local : List ℕ) (ns : List QualName) → IsRootOpen ns → IsRootOpen (drop_while (is_implied_but local) ns)
open_implied local ns h = open_while (is_implied_but local) ns (λ n k. implied_not_html n (and_not (is_implied n) (is_html_named local n) k).0) h

-- an end tag but `html`, if nothing special comes before what it names
pub open_ended : (local : List ℕ) (ns : List QualName) → is_same_text local (codes "html") ≡ false → comes_before_special local ns ≡ true → IsRootOpen ns
    → IsRootOpen (cut_names (is_html_named local) (drop_while (is_implied_but local) ns))
open_ended local ns e c h =
    let low = drop_while (is_implied_but local) ns in
    open_cut (is_html_named local) is_special low (not_html local e) (still_comes local ns c) (open_implied local ns h)

-- where a mode fits that comes after the root was made, the root is open
pub names_root_open : (s : Situation) (m : InsertionMode) (ns : List QualName) → is_before_root m ≡ false → NamesFit s m ns → IsRootOpen ns
names_root_open s m ns h f = at ns (names_open s m ns h f) (names_root s m ns f)
  where
    at : (ns : List QualName) → 0 < length ns → RootIsHtml ns → IsRootOpen ns
    at [] o r = absurd (omega (arith, o))
    at (n ∷ ns) o r = root_open n ns r

-- a mode that may be left for a text comes so, and those that use the rules of the body are some
pub left_after_root : (m : InsertionMode) → may_be_left m ≡ true → is_before_root m ≡ false
left_after_root Initial h = absurd (cc)
left_after_root BeforeHtml h = absurd (cc)
left_after_root _ h = refl

pub body_left : (m : InsertionMode) → goes_by_body m ≡ true → may_be_left m ≡ true
body_left Initial h = absurd (cc)
body_left BeforeHtml h = absurd (cc)
body_left Text h = absurd (cc)
body_left InTableText h = absurd (cc)
body_left _ h = refl
