-- What modes say in a later situation, in which the frameset-ok flag may be off and a head may be known.
use Rattle.std.proofs.Common.{◌≡◌, ◌<◌, ◌+◌, Bool, true, List, [], ◌∷◌, length, ap, sym, subst, ◌∙◌}
use Rattle.h5_names.specs.declared.qualified.QualName.{QualName}
use Rattle.h5_tables.specs.declared.modes.InsertionMode.{InsertionMode}
use Rattle.h5_tables.specs.declared.modes.InsertionMode.TheVariants.{AfterHead, BeforeHtml, InTableText, InTemplate, Initial, Text}
use Rattle.h5_builder_spec.specs.inner.Fits.{AllKinds, Known, Place, Placed, PlacedBelow, context_templates, is_whole}
use Rattle.h5_builder_spec.specs.reset.Situation.{Situation}
use Rattle.h5_builder_spec.specs.inner.NamesFit.{AreNamed, NamesFit}
use Rattle.h5_builder_spec.specs.reset.Roles.{Role, count_roles, is_template, roles}

-- t comes after s: nothing that modes see changes, but the flag may go off, and a head become known
pub record Later (s t : Situation) : Type 0 where
  pub modes : t.template_modes ≡ s.template_modes
  pub saved : t.saved_mode ≡ s.saved_mode
  pub context : t.context ≡ s.context
  pub head : s.has_head ≡ true → t.has_head ≡ true
  pub ok : t.frameset_ok ≡ true → s.frameset_ok ≡ true

module _ (s t : Situation) (l : Later s t) where
  later_known : (ns : List Role) → Known s ns → Known t ns
  later_known ns k = record {
    root = k.root;
    modes = ap length l.modes ∙ k.modes ∙ ap (λ c. count_roles is_template ns + context_templates c) (sym l.context);
    kinds = subst AllKinds (sym l.modes) k.kinds;
    opened = λ h. l.head (k.opened h);
    ok = λ h. k.ok (l.ok h);
    under = k.under;
  }

  later_placed : (w : Bool) (m : InsertionMode) (ns : List Role) → Placed w s m ns → Placed w t m ns
  later_placed w AfterHead ns p = (p.0, (p.1.0, l.head p.1.1))
  later_placed w InTemplate ns p = (p.0, (subst (λ ms. 0 < length ms) (sym l.modes) p.1.0, p.1.1))
  later_placed w _ ns p = p

  later_below : (w : Bool) (m : InsertionMode) (ns : List Role) → PlacedBelow w s m ns → PlacedBelow w t m ns
  later_below w m [] p = p
  later_below w m (n ∷ []) p = p
  later_below w m (n ∷ k ∷ ns) p = (p.0, later_placed w m (k ∷ ns) p.1)

  same_whole : is_whole s.context ≡ is_whole t.context
  same_whole = ap is_whole (sym l.context)

  later_place : (m : InsertionMode) (ns : List Role) → Place s m ns → Place t m ns
  later_place Initial ns p = (p.0, (l.modes ∙ p.1.0, l.context ∙ p.1.1))
  later_place BeforeHtml ns p = (p.0, (l.modes ∙ p.1.0, l.context ∙ p.1.1))
  later_place Text ns p = (p.0, (l.saved ∙ p.1.0, subst (λ w. PlacedBelow w t p.0 ns) same_whole (later_below (is_whole s.context) p.0 ns p.1.1)))
  later_place InTableText ns p = (p.0, (l.saved ∙ p.1.0, (p.1.1.0, subst (λ w. Placed w t p.0 ns) same_whole (later_placed (is_whole s.context) p.0 ns p.1.1.1))))
  later_place m ns p = subst (λ w. Placed w t m ns) same_whole (later_placed (is_whole s.context) m ns p)

  later_named : (m : InsertionMode) (ns : List QualName) → AreNamed s m ns → AreNamed t m ns
  later_named Text ns k = (k.0, λ m e. k.1 m (sym l.saved ∙ e))
  later_named _ ns k = k

  -- open elements that fit a mode still fit it
  pub names_later : (m : InsertionMode) (ns : List QualName) → NamesFit s m ns → NamesFit t m ns
  names_later m ns f = record {
    fits = record { known = later_known (roles ns) f.fits.known; place = later_place m (roles ns) f.fits.place };
    named = later_named m ns f.named;
  }
