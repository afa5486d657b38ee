-- The text of a plain fragment, taken by a parser.
use Rattle.std.proofs.Common.{◌≡◌, ◌≢◌, ℕ, Bool, cond, true, false, List, [], ◌∷◌, ◌++◌, refl, sym, ap, ◌∙◌, subst, Option, Some, None}
use Rattle.std.specs.Option.{option_and_then, option_map, option_map_or}
use Rattle.h5_names.specs.AttributeText.{AttributeText}
use Rattle.h5_names.specs.declared.qualified.QualName.{QualName}
use Rattle.h5_token.specs.Reply.{Continues, Refuses, Reply}
use Rattle.h5_token.specs.TokenText.{Characters, TokenText}
use Rattle.h5_token.specs.declared.fault.BuildFault.{BuildFault}
use Rattle.h5_token.specs.declared.fault.BuildFault.TheVariants.{AfterEnd, Failed, NotInText}
use Rattle.h5_token.specs.declared.states.State.TheVariants.{Data}
use Rattle.h5_interface.specs.Changes.{mark}
use Rattle.h5_interface.specs.Forest.{ChildNode, DocumentNode, ElementNode, Forest, IsElement, IsForest, IsNode, Kind, Marks, Node, Child, children_of, kind_of}
use Rattle.h5_interface.specs.NewElement.{flags_of}
use Rattle.h5_interface.specs.Seen.{Seen, after_create_element, element, make, with_contents}
use Rattle.h5_interface.specs.SinkChoices.{Rearranges, SinkChoices}
use Rattle.h5_interface.specs.declared.marks.ElementFlags.{ElementFlags}
use Rattle.h5_interface.proofs.ForestLaws.{document_is_node}
use Rattle.h5_interface.proofs.MakingLaws.{made_kind, make_element_rearranges}
use Rattle.h5_tokenizer_input.specs.Options as reading
use Rattle.h5_tokenizer_input.specs.declared.options.TokenizerOpts.{TokenizerOpts}
use Rattle.h5_tables.specs.declared.modes.InsertionMode.TheVariants.{InBody}
use Rattle.h5_builder_spec.specs.Changes.{create_root, pop}
use Rattle.h5_builder_spec.specs.inner.Kept.{IsFitting, Fitting}
use Rattle.h5_builder_spec.specs.Run.{View, after_all, refusal, step, taken, tell_or_refuse, without_lf}
use Rattle.h5_builder_spec.specs.Sound.{Sound}
use Rattle.h5_builder_spec.specs.World.{World, current, name_in, name_of_found}
use Rattle.h5_builder_spec.specs.reset.Reset.{reset_mode}
use Rattle.h5_builder_spec.specs.reset.ResetByRoles.{reset}
use Rattle.h5_builder_spec.specs.reset.Roles.{role_of, roles}
use Rattle.h5_builder_spec.specs.reset.SituationChanges.{start_of}
use Rattle.h5_builder_laws.proofs.cuts.RunLaws.{step_reply, takes_text}
use Rattle.h5_standard_tokenizer.specs.Mark.{behind_mark}
use Rattle.h5_builder_laws.specs.Plain.{Nodes, fragment_tokens}
use Rattle.h5_builder_laws.specs.Rebuilding.{HoldsDocument, IsFragmentStart, Looks, Stands, with_scripting}
use Rattle.h5_builder_laws.proofs.FragmentLaws.{rebuilds_fragments}
use Rattle.h5_builder_laws.proofs.GrowthLaws.{Below, element_below, html, kinds_apart}
use Rattle.h5_builder_laws.proofs.LooksLaws.{apart_from, looks_marked, looks_node, unlike}
use Rattle.h5_round_trip.specs.Fragment.{AnswersCuts}
use Rattle.h5_round_trip.proofs.JoinedLaws.{fragment_joined}
use Rattle.h5_round_trip.proofs.ShapeLaws.{shape}
use Rattle.h5_round_trip.specs.Written.{written_fragment}
use Rattle.h5_tree_builder.specs.Builder.{pop_each}
use Rattle.h5_tree_builder.specs.Fragment.{context_modes, fragment_world, rooted_world, state_in_context}
use Rattle.h5_tree_builder.proofs.FragmentLaws.{fragment_fits, rooted_names, rooted_situation, rooted_steady}
use Rattle.h5_driver.specs.Fragments.{first_in_new, opts_in_context}
use Rattle.h5_driver.specs.PlainFragments.{FragmentStands, FragmentsComeBackBy, IsBodyContext, IsFragmentText}
use Rattle.h5_driver.specs.inner.Readings.{AreReadings}
use Rattle.h5_driver.specs.Reading.{Parses}
use Rattle.h5_driver.specs.WholeTexts.{ParsesFragmentBy}
use Rattle.h5_driver.specs.BuilderSink.{replies}
use Rattle.h5_driver.proofs.PlainLaws.{answers_by, same_children, sound_after, sound_popped, stand_marked}

-- ---- if a text is taken, so are its parts

abbrev of_text : View → Option BuildFault
of_text v = cond v.failed (Some Failed) (cond v.ended (Some AfterEnd) None)

refusal_of : (v : View) (t : List ℕ) → refusal v (Characters t) ≡ of_text v
refusal_of v t = ap (λ b. cond v.failed (Some Failed) (cond v.ended (Some AfterEnd) (cond b (Some NotInText) None))) (takes_text v.world.mode t)

abbrev text_answer : Option BuildFault → Reply
text_answer None = Continues
text_answer (Some fault) = Refuses fault

answer_of : (choices : SinkChoices) (v : View) (t : List ℕ) → replies choices v (Characters t) ≡ text_answer (of_text v)
unfolding step
answer_of choices v t = at (refusal v (Characters t)) ∙ ap text_answer (refusal_of v t)
  where
    at : (o : Option BuildFault) → (tell_or_refuse choices (Characters t) o v).reply ≡ text_answer o
    at (Some f) = refl
    at None = step_reply choices (without_lf v.world.ignore_lf t) (taken v.world)

cuts : (choices : SinkChoices) → AnswersCuts (replies choices)
cuts choices v b t u h = answer_of choices v (b ∷ t) ∙ sym (answer_of choices v ((b ∷ t) ++ u)) ∙ h

-- ---- the new builder of a fragment

-- an unchanged node
looks_same : (f g : Forest) (n : ℕ) (k : Kind) (a : List AttributeText) (cs : List Child) → g.node n ≡ f.node n → Looks f n k a cs → Looks g n k a cs
looks_same f g n k a cs e l = record {
  is_kind = ap (option_map (λ (d : Node). d.kind)) e ∙ l.is_kind;
  has_attrs = ap (λ o. option_map_or (λ (d : Node). d.attrs) o []) e ∙ l.has_attrs;
  has_children = ap (λ o. option_map_or (λ (d : Node). d.children) o []) e ∙ l.has_children;
  no_contents = ap (option_and_then (λ (d : Node). d.contents)) e ∙ l.no_contents;
}

module _ (choices : SinkChoices) (scripting : Bool) (seen : Seen) (name : QualName) (attrs : List AttributeText) (holds : HoldsDocument seen.forest) (b : IsBodyContext name) where
  abbrev flags : ElementFlags
  flags = flags_of name attrs false

  -- the context was created
  abbrev made : Seen
  made = after_create_element choices name attrs flags seen

  abbrev context : ℕ
  context = choices.fresh seen.forest

  rearranged : Rearranges seen.forest made.forest
  rearranged = make_element_rearranges choices seen.forest name attrs flags holds.is_forest

  context_kind : kind_of made.forest context ≡ Some (ElementNode name)
  context_kind = made_kind choices seen.forest name attrs flags holds.is_forest

  context_name : name_in made.forest context ≡ name
  context_name = ap name_of_found context_kind

  is_element : IsElement made.forest context
  is_element = (name, context_kind)

  made_plain : made.forest ≡ make choices (element name attrs flags) seen.forest
  made_plain = ap (λ t. with_contents t choices (choices.fresh seen.forest) (make choices (element name attrs flags) seen.forest)) b.no_template

  document_made : Looks made.forest made.forest.document DocumentNode [] []
  document_made =
      subst (λ (g : Forest). Looks g g.document DocumentNode [] []) (sym made_plain)
      (looks_same seen.forest (make choices (element name attrs flags) seen.forest) seen.forest.document DocumentNode [] []
      (ap (λ c. cond c (Some (element name attrs flags)) (seen.forest.node seen.forest.document))
      (unlike seen.forest.document context (apart_from seen.forest context seen.forest.document (choices.fresh_is_new seen.forest holds.is_forest) (document_is_node seen.forest holds.is_forest))))
      holds.document)

  no_form : (n : ℕ) → ◌≡◌ {A = Option ℕ} None (Some n) → IsElement made.forest n
  no_form n e = absurd (cc)

  -- the root was created
  abbrev begun : World
  begun = fragment_world choices made context None (with_scripting scripting)

  below : Below choices made.forest made.forest.document html []
  below = element_below choices made.forest made.forest.document html [] rearranged.is_forest (looks_node made.forest made.forest.document DocumentNode [] [] document_made) refl

  mode_is : reset_mode (rooted_world choices made context None (with_scripting scripting)) ≡ InBody
  unfolding reset_mode
  mode_is =
      (λ i. reset (rooted_situation made context None (with_scripting scripting) rearranged.is_forest is_element no_form choices i) (roles (rooted_names made context None (with_scripting scripting) rearranged.is_forest is_element no_form choices i)))
      ∙ ap (λ n. reset (start_of (role_of n)) (roles (html ∷ []))) context_name
      ∙ b.is_ordinary (start_of (role_of name))

  begins : IsFragmentStart begun
  unfolding create_root
  begins = record {
    root = choices.fresh made.forest;
    is_forest = below.is_forest;
    is_root = below.new;
    mode = mode_is;
    is_open = refl;
    none_listed = refl;
    ignore_lf = refl;
    no_foster = refl;
    no_pending = refl;
    no_form = refl;
    no_template_modes = ap (λ n. context_modes n) context_name ∙ b.no_modes;
    context = context;
    context_name = name;
    in_context = refl;
    is_context = below.same_kind context (element_is_there) ∙ context_kind;
    of_html = b.of_html;
    is_ordinary = b.is_ordinary;
  }
    where
      element_is_there : IsNode made.forest context
      element_is_there e = let h = ap (option_map (λ (d : Node). d.kind)) e in absurd (let k : ◌≡◌ {A = Option Kind} None (Some (ElementNode name)) = sym h ∙ context_kind in cc)

  document_begun : Looks begun.forest begun.forest.document DocumentNode [] (ChildNode (choices.fresh made.forest) ∷ [])
  unfolding create_root
  document_begun = below.parent DocumentNode [] [] document_made

  sound : Sound begun
  sound = (rooted_steady made context None (with_scripting scripting) rearranged.is_forest is_element no_form choices).sound

  fitting : Fitting begun
  fitting = record { sound = sound; fits = fragment_fits made context None (with_scripting scripting) rearranged.is_forest is_element no_form choices }

  -- its text is read in the data state
  reads_data : {T : Type 0} (first : TokenizerOpts → T) (allows_scripting : Bool) → first (opts_in_context allows_scripting begun reading.default_options) ≡ first (reading.beginning_in Data reading.default_options)
  unfolding create_root begins
  reads_data first allows_scripting =
      ap (λ n. first (reading.beginning_in (state_in_context allows_scripting n) reading.default_options)) (ap name_of_found (begins.is_context))
      ∙ ap (λ s. first (reading.beginning_in s reading.default_options)) (b.is_data allows_scripting)

-- ---- and the end changes only marks

-- a root whose children are a fragment
record RootStands (f : Forest) (root : ℕ) (nodes : Nodes) : Type 0 where
  document : Looks f f.document DocumentNode [] (ChildNode root ∷ [])
  is_root : Looks f root (ElementNode html) [] (children_of f root)
  stands : Stands f (children_of f root) nodes

root_marked : (f : Forest) (marks : ℕ → Marks) (root : ℕ) (nodes : Nodes) → RootStands f root nodes → RootStands (mark marks f) root nodes
root_marked f marks root nodes s =
    let same = sym (same_children f marks root) in
    record {
      document = looks_marked f f.document marks DocumentNode [] (ChildNode root ∷ []) s.document;
      is_root = looks_marked f root marks (ElementNode html) [] (children_of (mark marks f) root) (subst (λ (cs : List Child). Looks f root (ElementNode html) [] cs) same s.is_root);
      stands = subst (λ (cs : List Child). Stands (mark marks f) cs nodes) same (stand_marked f marks (children_of f root) nodes s.stands);
    }

root_popped : (choices : SinkChoices) (root : ℕ) (nodes : Nodes) (ns : List ℕ) (w : World) → RootStands w.forest root nodes → RootStands (pop_each choices ns w).forest root nodes
unfolding pop
root_popped choices root nodes [] w s = s
root_popped choices root nodes (n ∷ ns) w s = root_popped choices root nodes ns (pop choices w) (root_marked w.forest (choices.marks_after_pop w.forest (current w)) root nodes s)

module _ {T : Type 0} {choices : SinkChoices} {first : TokenizerOpts → T} {Readings : T → View → List ℕ → List TokenText → T → View → List ℕ → Type 0} {Reads : T → View → List ℕ → List TokenText → View → Type 0}
    (law : AreReadings choices first Readings Reads) (scripting : Bool) (seen told : Seen) (name : QualName) (attrs : List AttributeText) (allows_scripting : Bool) (nodes : Nodes) (text : List ℕ)
    (holds : HoldsDocument seen.forest) (b : IsBodyContext name) (t : IsFragmentText nodes text) where
  abbrev start : View
  start = record { world = begun choices scripting seen name attrs holds b; ended = false; failed = false }

  root_apart : (begun choices scripting seen name attrs holds b).forest.document ≢ choices.fresh (made choices scripting seen name attrs holds b).forest
  unfolding begins
  root_apart = kinds_apart (begun choices scripting seen name attrs holds b).forest _ _ DocumentNode (ElementNode html) [] [] (ChildNode (choices.fresh (made choices scripting seen name attrs holds b).forest) ∷ []) []
      (document_begun choices scripting seen name attrs holds b) (begins choices scripting seen name attrs holds b).is_root (λ e. cc)

  comes_back : Parses Reads choices (first (reading.beginning_in Data reading.default_options)) start text told → FragmentStands told.forest nodes
  unfolding begins
  comes_back parses =
      let all = fragment_tokens nodes in
      let s = begins choices scripting seen name attrs holds b in
      let k = fitting choices scripting seen name attrs holds b in
      let joins = fragment_joined nodes (shape nodes t.plain) in
      let whole = rebuilds_fragments choices all start nodes s t.plain k refl refl joins in
      let unmarked : behind_mark true (written_fragment nodes) ≡ written_fragment nodes = subst (λ xs. behind_mark true xs ≡ xs) t.written t.unmarked in
      let read = law.fragments nodes start t.plain t.readable unmarked (cuts choices) (answers_by choices all start whole.answers) in
      let tokens = read.0 in
      let meaning = read.1.1.0 in
      let opts = reading.beginning_in Data reading.default_options in
      let again = rebuilds_fragments choices tokens start nodes s t.plain k refl refl (read.1.0 ∙ joins) in
      let w = (after_all choices tokens start).world in
      let reads : Reads (first opts) start text tokens meaning = subst (λ xs. Reads (first opts) start xs tokens meaning) (sym t.written) read.1.1.1 in
      let same = parses.any tokens meaning reads in
      let document : Looks w.forest w.forest.document DocumentNode [] (ChildNode s.root ∷ []) =
      subst (λ (d : ℕ). Looks w.forest d DocumentNode [] (ChildNode s.root ∷ [])) (sym again.changes.document)
      (again.changes.others (begun choices scripting seen name attrs holds b).forest.document DocumentNode [] (ChildNode s.root ∷ []) root_apart (document_begun choices scripting seen name attrs holds b)) in
      let end = root_popped choices s.root nodes w.stack w (record { document = document; is_root = again.is_root; stands = again.stands }) in
      let final : told.forest ≡ (pop_each choices w.stack w).forest = same.1.0 ∙ ap (λ (u : View). u.world.forest) same.0 in
      let first_fits : IsFitting start = record { fitting = λ f e. k } in
      record {
        is_forest = subst IsForest (sym final) (sound_popped choices w.stack w (sound_after choices tokens start first_fits refl refl)).stands.is_forest;
        root = s.root;
        document = (subst (λ (f : Forest). RootStands f s.root nodes) (sym final) end).document;
        is_root = (subst (λ (f : Forest). RootStands f s.root nodes) (sym final) end).is_root;
        stands = (subst (λ (f : Forest). RootStands f s.root nodes) (sym final) end).stands;
      }

pub fragments_stand : {T : Type 0} {choices : SinkChoices} {first : TokenizerOpts → T} {Readings : T → View → List ℕ → List TokenText → T → View → List ℕ → Type 0} {Reads : T → View → List ℕ → List TokenText → View → Type 0}
    → AreReadings choices first Readings Reads → FragmentsComeBackBy Reads first choices
unfolding ParsesFragmentBy first_in_new
fragments_stand {T} {choices} {first} {Readings} {Reads} law seen told name attrs scripting allows_scripting nodes text holds b t parses =
    comes_back law scripting seen told name attrs allows_scripting nodes text holds b t
    (subst (λ (r : T). Parses Reads choices r (record { world = begun choices scripting seen name attrs holds b; ended = false; failed = false }) text told) (reads_data choices scripting seen name attrs holds b first allows_scripting) parses)
