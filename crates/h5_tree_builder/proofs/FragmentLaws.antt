-- A fragment's builder that took nothing yet: the world is sound, and the root fits the insertion mode that is reset to.
use Rattle.std.proofs.Common.{◌≡◌, ℕ, Bool, ◌&&◌, if◌then◌else◌, cond, false, List, [], ◌∷◌, codes, Option, None, Some, option_map, refl, ap, sym, subst, ◌∙◌}
use Rattle.std.specs.Prelude.{MatchOption}
use Rattle.h5_names.specs.AttributeText.{is_same_text}
use Rattle.h5_names.specs.KnownNames.{known_name_of, known_names, name_text}
use Rattle.h5_names.specs.declared.known_name.KnownName.TheVariants.{Noscript, Plaintext, Script}
use Rattle.h5_names.specs.declared.qualified.QualName.{QualName}
use Rattle.h5_names.proofs.KnownNameLemmas.{any_by_name}
use Rattle.h5_token.specs.declared.states.State.{State as ReaderState}
use Rattle.h5_token.specs.declared.states.State.TheVariants as reader
use Rattle.h5_tables.specs.TagSets.{is_one_of}
use Rattle.h5_interface.specs.Forest.{Forest, IsElement, IsForest}
use Rattle.h5_interface.specs.Seen.{Seen}
use Rattle.h5_interface.specs.SinkChoices.{SinkChoices}
use Rattle.h5_interface.specs.declared.sink.TreeSink.{Ghosts}
use Rattle.h5_tables.specs.declared.modes.InsertionMode.{InsertionMode}
use Rattle.h5_tables.specs.declared.modes.InsertionMode.TheVariants.{InTemplate}
use Rattle.h5_tables.specs.declared.options.TreeBuilderOpts.{TreeBuilderOpts}
use Rattle.h5_builder_spec.specs.ByName.{Only}
use Rattle.h5_builder_spec.specs.formatting.FormattingNames.{html_name}
use Rattle.h5_builder_spec.specs.reset.SituationChanges.{start_modes, start_of}
use Rattle.h5_builder_spec.specs.reset.Situation.{Situation}
use Rattle.h5_builder_spec.specs.inner.NamesFit.{NamesFit}
use Rattle.h5_builder_spec.specs.reset.ResetByRoles.{reset}
use Rattle.h5_builder_spec.specs.reset.Roles.{Role, TemplateRole, is_template, role_of, roles}
use Rattle.h5_builder_spec.proofs.rows.KnownRuleLaws.{among_by_known}
use Rattle.h5_builder_spec.proofs.fitting.NamesFitLaws.{names_fragment}
use Rattle.h5_builder_spec.proofs.roles.RoleLaws.{local_html, role_made}
use Rattle.h5_builder_spec.proofs.roles.SetLaws.{template_test}
use Rattle.h5_builder_spec.specs.Changes.{create_root}
use Rattle.h5_builder_spec.specs.reset.Reset.{reset_mode}
use Rattle.h5_builder_spec.specs.Rows.{CreateRoot}
use Rattle.h5_builder_spec.specs.inner.Kept.{Fits}
use Rattle.h5_builder_spec.specs.Sound.{Sound, situation_of}
use Rattle.h5_builder_spec.specs.World.{World, name_in, name_of_found, names_of}
use Rattle.h5_builder_spec.proofs.changes.ListsLaws.{IsSteady, steady_changes}
use Rattle.h5_builder_spec.proofs.changes.NameLaws.{names-insert_root}
use Rattle.h5_builder_spec.proofs.changes.SituationLaws.{situation_root}
use Rattle.h5_builder_spec.proofs.changes.SoundLaws.{element_is_node}
use Rattle.h5_builder_state.specs.Steps.{IsSound, world_of}
use Rattle.h5_builder_state.specs.declared.state.State.{State}
use Rattle.h5_tree_builder.specs.Fragment.{context_modes, context_world, fragment_world, rawtext_context_names, rcdata_context_names, rooted_world, state_of_local}
use Rattle.h5_tree_builder.specs.Held.{IsKept}
use Rattle.h5_builder_laws.proofs.StartLaws.{lists_none, stands_none}

-- the given form is an element
pub form_is_there : {H : Type 0} (node : H → ℕ) (f : Forest) (o : Option H) → MatchOption o (Unit {0}) (λ h. IsElement f (node h)) → (n : ℕ) → option_map node o ≡ Some n → IsElement f n
form_is_there node f None k n e = absurd (cc)
form_is_there node f (Some h) k n e = let same : node h ≡ n = cc in subst (IsElement f) same k

-- a template insertion mode for a template, as the facts of the modes say it
modes_by_role : (n : QualName) → context_modes n ≡ start_modes (role_of n)
modes_by_role n = ap (λ b. cond b (InTemplate ∷ []) []) (template_test n) ∙ at (role_of n)
  where
    at : (r : Role) → cond (is_template r) (InTemplate ∷ []) [] ≡ start_modes r
    at TemplateRole = refl
    at _ = refl

-- the root alone fits the mode that is reset to
abbrev FitsReset : Situation → List QualName → Type 0
FitsReset s ns = NamesFit s (reset s (roles ns)) ns

root_fits : (n : QualName) → FitsReset (start_of (role_of n)) (html_name (codes "html") ∷ [])
root_fits n = subst (λ x. NamesFit (start_of (role_of n)) (reset (start_of (role_of n)) (x ∷ [])) (html_name (codes "html") ∷ [])) (sym (role_made (codes "html") ∙ local_html)) (names_fragment n)

module _ (seen : Seen) (context : ℕ) (form : Option ℕ) (opts : TreeBuilderOpts) (k : IsForest seen.forest) (c : IsElement seen.forest context) (f : (n : ℕ) → form ≡ Some n → IsElement seen.forest n) where
  abbrev start : World
  start = context_world seen context form opts

  pub context_stands : Sound start
  context_stands = record {
    stands = stands_none seen.forest k;
    root_top = tt;
    head_node = λ n e. absurd (cc);
    form_node = f;
    form_name = λ n e h. absurd h;
    apart = λ n e d. cc;
    context_node = λ n e. let same : context ≡ n = cc in subst (IsElement seen.forest) same c;
    context_out = λ n e h. h;
    context_no_head = λ n e d. cc;
    listed = tt;
    formatting = tt;
  }

  pub names_before_root : names_of start ≡ []
  unfolding names_of
  names_before_root = refl

  module _ (choices : SinkChoices) where
    abbrev rooted : World
    rooted = rooted_world choices seen context form opts

    pub rooted_steady : IsSteady rooted
    rooted_steady = steady_changes choices (CreateRoot [] ∷ []) start (tt, tt) (record { sound = context_stands; lists = lists_none })

    pub rooted_names : names_of rooted ≡ html_name (codes "html") ∷ []
    rooted_names = names-insert_root choices [] start context_stands ∙ ap (λ ns. html_name (codes "html") ∷ ns) names_before_root

    -- the context keeps its name
    context_named : name_in rooted.forest context ≡ name_in seen.forest context
    context_named = ap name_of_found ((situation_root choices start [] context_stands).kinds context (element_is_node seen.forest context c))

    pub rooted_situation : situation_of rooted ≡ start_of (role_of (name_in seen.forest context))
    unfolding create_root
    rooted_situation =
        let name = name_in seen.forest context in
        let of : List InsertionMode → QualName → Situation = λ (ms : List InsertionMode) (n : QualName). record (start_of (role_of n)) { template_modes = ms } in
        ap (of (context_modes name)) context_named ∙ ap (λ ms. of ms name) (modes_by_role name)

    pub fragment_fits : Fits (fragment_world choices seen context form opts)
    unfolding reset_mode create_root names_of
    fragment_fits = record {
      mode = subst (λ s. FitsReset s (names_of rooted)) (sym rooted_situation) (subst (FitsReset (start_of (role_of (name_in seen.forest context)))) (sym rooted_names) (root_fits (name_in seen.forest context)));
      lists = rooted_steady.lists;
    }

-- so a builder of a fragment begins
pub fragment_kept : {S H O : Type 0} (law : Ghosts S H O) (sink : S) (state : State H) (choices : SinkChoices) (seen : Seen) (context : ℕ) (form : Option ℕ) (opts : TreeBuilderOpts) → IsForest seen.forest → IsElement seen.forest context
    → ((n : ℕ) → form ≡ Some n → IsElement seen.forest n) → IsSound law sink state → world_of law sink state ≡ fragment_world choices seen context form opts
    → IsKept law (record { sink = sink; state = state; ended = false; failed = false; turns = 0 })
fragment_kept law sink state choices seen context form opts k c f sound e =
    let fits = subst Fits (sym e) (fragment_fits seen context form opts k c f choices) in
    record { sound = sound; fits = λ a b. fits; lists = λ a. fits.lists; closed = λ h. absurd (cc) }

-- how text is read by a local name is how it is read by what HTML knows the name as
same_choice : (b c : Bool) (x y z : ReaderState) → b ≡ c → y ≡ z → (if b then x else y) ≡ (if c then x else z)
same_choice b c x y z e f = ap (λ d. if d then x else y) e ∙ ap (λ r. if c then x else r) f

pub state_by_known : (scripting : Bool) (l : List ℕ) → state_of_local scripting (name_text (known_name_of l)) ≡ state_of_local scripting l
unfolding state_of_local rcdata_context_names rawtext_context_names known_name_of known_names
state_by_known scripting l =
    same_choice _ _ _ _ _ (any_by_name rcdata_context_names l refl)
    (same_choice _ _ _ _ _ (any_by_name rawtext_context_names l refl)
    (same_choice _ _ _ _ _ (among_by_known (Only Script) l refl)
    (same_choice _ _ _ _ _ (ap (λ b. b && scripting) (among_by_known (Only Noscript) l refl))
    (same_choice _ _ _ _ _ (among_by_known (Only Plaintext) l refl) refl))))

-- and where a name is none of those that are asked for, it is read as data
pub state_of_no_name : (scripting : Bool) (l : List ℕ) → is_one_of rcdata_context_names l ≡ false → is_one_of rawtext_context_names l ≡ false → is_same_text l (codes "script") ≡ false → is_same_text l (codes "noscript") ≡ false → is_same_text l (codes "plaintext") ≡ false
    → reader.Data ≡ state_of_local scripting l
unfolding state_of_local
state_of_no_name scripting l rcdata rawtext script noscript plaintext =
    sym (same_choice _ false _ _ _ rcdata
    (same_choice _ false _ _ _ rawtext
    (same_choice _ false _ _ _ script
    (same_choice _ false _ _ _ (ap (λ b. b && scripting) noscript) (same_choice _ false _ _ _ plaintext refl)))))
