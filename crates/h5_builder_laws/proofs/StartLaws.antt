-- A builder that took nothing yet has what a builder keeps between tokens.
use Rattle.std.proofs.Common.{◌≡◌, ◌∙◌, ◌+◌, [], length, map, None, ap, refl, subst, sym}
use Rattle.h5_interface.specs.Forest.{Forest, IsForest}
use Rattle.h5_builder_spec.specs.inner.Lists.{Lists}
use Rattle.h5_tables.specs.declared.modes.InsertionMode.TheVariants.{Initial}
use Rattle.h5_builder_spec.specs.inner.Fits.{AllKinds, context_templates}
use Rattle.h5_builder_spec.specs.inner.NamesFit.{NamesFit}
use Rattle.h5_builder_spec.specs.Sound.{AllStand, Stands, role_at, situation_of}
use Rattle.h5_builder_spec.specs.inner.Kept.{Fitting}
use Rattle.h5_builder_spec.specs.World.{World, name_in, names_of}
use Rattle.h5_builder_laws.specs.Rebuilding.{IsStart}

-- if nothing is open, listed or pointed at, the world is sound
pub stands_none : (f : Forest) → IsForest f → Stands f []
stands_none f k = record {
  is_forest = k;
  elements = λ n h. absurd h;
  ordered = record { newer = λ x y h. absurd h };
  templates = λ n h. absurd h;
}

pub all_none : (f : Forest) → IsForest f → AllStand f [] [] None None None
all_none f k = record {
  stands = stands_none f k;
  root_top = tt;
  head_node = λ n e. absurd (cc);
  form_node = λ n e. absurd (cc);
  form_name = λ n e h. absurd h;
  apart = λ n e d. cc;
  context_node = λ n e. absurd (cc);
  context_out = λ n e h. h;
  context_no_head = λ n e d. cc;
  listed = tt;
  formatting = tt;
}

-- and the lists agree
pub lists_none : Lists [] []
lists_none = record {
  agrees = record { once = λ x h. absurd h; order = λ x y h. absurd h; open_first = λ x y h. absurd h };
  alike = λ t. tt;
}

-- in the first mode no element is open, in a whole document
pub fits_none : (w : World) → w.template_modes ≡ [] → w.context ≡ None → NamesFit (situation_of w) Initial []
fits_none w modes none = record {
  fits = record {
    known = record {
      root = tt;
      modes = ap length modes ∙ sym (ap (λ c. 0 + context_templates (role_at w.forest c)) none);
      kinds = subst AllKinds (sym modes) tt;
      opened = λ h. absurd (cc);
      ok = λ h. refl;
      under = tt;
    };
    place = (refl, (modes, ap (role_at w.forest) none));
  };
  named = tt;
}

pub start_fitting : (w : World) → IsStart w → Fitting w
unfolding names_of
start_fitting w s = record {
  sound =
      subst (λ x. AllStand w.forest x w.formatting w.head w.form w.context) (sym s.none_open)
      (subst (λ l. AllStand w.forest [] l w.head w.form w.context) (sym s.none_listed)
      (subst (λ h. AllStand w.forest [] [] h w.form w.context) (sym s.no_head)
      (subst (λ o. AllStand w.forest [] [] None o w.context) (sym s.no_form)
      (subst (λ c. AllStand w.forest [] [] None None c) (sym s.no_context) (all_none w.forest s.holds.is_forest)))));
  fits = record {
    mode =
        subst (λ m. NamesFit (situation_of w) m (names_of w)) (sym s.mode)
        (subst (λ x. NamesFit (situation_of w) Initial (map (name_in w.forest) x)) (sym s.none_open) (fits_none w s.no_template_modes s.no_context));
    lists = subst (λ x. Lists x w.formatting) (sym s.none_open) (subst (λ l. Lists [] l) (sym s.none_listed) lists_none);
  };
}
