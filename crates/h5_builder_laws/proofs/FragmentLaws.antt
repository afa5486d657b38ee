-- A fragment is built below its root.
use Rattle.std.proofs.Common.{◌≡◌, ◌∙◌, false, not, List, [], ◌∷◌, Option, Some, codes, refl, ap, sym, subst, Bool}
use Rattle.h5_token.specs.Joins.{join}
use Rattle.h5_token.specs.TokenText.{EndOfFile, TokenText}
use Rattle.h5_interface.specs.Forest.{ElementNode, children_of}
use Rattle.h5_interface.specs.SinkChoices.{SinkChoices}
use Rattle.h5_tables.specs.TagSets.{body_end_names, button_scope_names, heading_names, html_namespace, is_body_end_ok, is_button_scope, is_default_scope, is_foreign_special, is_heading, is_html_named, is_special, mathml_namespace, scope_names, special_names, svg_namespace}
use Rattle.h5_tables.specs.TurnText.{EofTurn}
use Rattle.h5_tables.specs.declared.modes.InsertionMode.TheVariants.{InBody}
use Rattle.h5_builder_spec.specs.formatting.FormattingList.{nodes_of}
use Rattle.h5_builder_spec.specs.reset.ResetByRoles.{context_or, decide_root}
use Rattle.h5_builder_spec.specs.reset.Roles.{Role, role_of, role_of_local}
use Rattle.h5_builder_spec.specs.modes.InBody.{body_ends, description_names, list_item_names, no_template_mode}
use Rattle.h5_builder_spec.specs.modes.InHead.{template_eof}
use Rattle.h5_builder_spec.specs.modes.Modes.{rule}
use Rattle.h5_builder_spec.specs.Rows.{IsDone, choose, row, row_if}
use Rattle.h5_builder_spec.specs.Run.{View, taken}
use Rattle.h5_builder_spec.specs.inner.Kept.{Fitting}
use Rattle.h5_builder_spec.specs.Sound.{role_at}
use Rattle.h5_builder_spec.specs.stack.Closing.{passed_names}
use Rattle.h5_builder_spec.specs.stack.Order.{first_or, is_in}
use Rattle.h5_builder_spec.specs.stack.Scope.{has_unclosed}
use Rattle.h5_builder_spec.specs.World.{World, name_of_found, names_of}
use Rattle.h5_builder_laws.specs.Plain.{Flow, IsPlain, Nodes, fragment_tokens, nothing_open}
use Rattle.h5_builder_laws.specs.Rebuilding.{ChangesOne, IsFragmentStart, Looks, RebuildsFragments, Stands}
use Rattle.h5_builder_laws.proofs.BuildsLaws.{FitsFlow, builds}
use Rattle.h5_builder_laws.proofs.CalmLaws.{Built, Calm, Named, NoneOpen, OneOpen, after, named_kept, names_are}
use Rattle.h5_builder_laws.proofs.CutGoesLaws.{goes_cut}
use Rattle.h5_builder_laws.proofs.FilledLaws.{face, own, stands_from_new}
use Rattle.h5_builder_laws.proofs.GoesLaws.{Arrives, Goes, Runs, Straight, arrives, moves_end, no_table_mode}
use Rattle.h5_builder_laws.proofs.KeptBackLaws.{runs}
use Rattle.h5_builder_laws.proofs.GrowthLaws.{html}
use Rattle.h5_builder_laws.proofs.HtmlLaws.{IsHtmlContext, html_is}
use Rattle.h5_builder_laws.proofs.ListedLaws.{Bottom, Entries, NoEntry}
use Rattle.h5_builder_laws.proofs.ModeLaws.{GoesByBody, TheBody}

module _ (w : World) (s : IsFragmentStart w) where
  abbrev role : Option Role
  role = Some (role_of s.context_name)

  at_root : Calm role w s.root (face (codes "html") []) (html ∷ []) [] w.stack []
  at_root = record {
    is_forest = s.is_forest;
    ignore_lf = s.ignore_lf;
    is_current = ap (first_or w.forest.document) s.is_open;
    shows = s.is_root;
    named = subst (λ r. Named w.forest r (html ∷ [])) (sym s.is_open) (OneOpen s.is_root.is_kind NoneOpen);
    no_foster = s.no_foster;
    no_pending = s.no_pending;
    no_form = s.no_form;
    context = subst (IsHtmlContext w.forest) (sym s.in_context) (s.context_name, (s.is_context, s.of_html));
    root_role = ap (role_at w.forest) s.in_context ∙ ap (λ o. Some (role_of (name_of_found o))) s.is_context;
    no_template = refl;
    is_html = html_is (codes "html");
    are_open = refl;
    is_base = NoEntry;
    entries = subst (Entries [] []) (sym s.none_listed) Bottom;
    unlisted = λ n none. ap (λ l. is_in n (nodes_of l)) s.none_listed;
  }

  fits : FitsFlow role nothing_open w.mode (html ∷ [])
  unfolding is_html_named is_button_scope is_default_scope is_foreign_special is_heading html_namespace mathml_namespace svg_namespace scope_names button_scope_names heading_names role_of role_of_local is_special special_names passed_names list_item_names description_names
  fits = record {
    goes = subst GoesByBody (sym s.mode) TheBody;
    resets = λ t q. ap (λ c. decide_root t (context_or (role_of html) c)) q ∙ s.is_ordinary t ∙ sym s.mode;
    no_p = λ e. refl;
    no_heading = λ e. refl;
    no_item = λ e. refl;
    no_description = λ e. refl;
    in_ruby = λ e. absurd (cc);
    unselected = refl;
  }

  module _ {blanks : Bool} (choices : SinkChoices) (nodes : Nodes) (plain : IsPlain blanks (Flow false nothing_open) nodes) where
    built : Built blanks choices w s.root (face (codes "html") []) nodes [] []
    built = builds choices plain w s.root (face (codes "html") []) (html ∷ []) [] w.stack [] fits refl (λ e. refl) at_root

    abbrev filled : World
    filled = after w built.forest built.formatting built.ok built.saved

    root_alone : names_of (taken filled) ≡ html ∷ []
    unfolding names_of
    root_alone = names_are filled (named_kept built.forest built.filled.frame.kinds at_root.named)

    ends : rule InBody EofTurn (taken filled) ≡ row [] IsDone
    unfolding is_body_end_ok body_end_names html_namespace
    ends =
        ap (λ ms. choose (no_template_mode ms) (body_ends [] IsDone (taken filled)) (template_eof (taken filled))) s.no_template_modes
        ∙ ap (λ ns. row_if (not (has_unclosed ns)) [] IsDone) root_alone

    goes : Goes blanks choices (fragment_tokens nodes) w (taken filled)
    goes = built.goes (EndOfFile ∷ []) (taken filled) (λ q. absurd (no_table_mode (subst GoesByBody (sym s.mode) TheBody) q)) (taken filled, (Straight (moves_end choices filled InBody [] s.mode ends), refl))

    stands : Stands built.forest (children_of built.forest s.root) nodes
    stands = subst (λ cs. Stands built.forest cs nodes) (sym built.filled.frame.here.has_children) (stands_from_new built.filled.stands)

    is_root : Looks built.forest s.root (ElementNode html) [] (children_of built.forest s.root)
    is_root = own built.filled.frame.here

    changes : ChangesOne w.forest built.forest s.root
    changes = record {
      document = built.filled.frame.document;
      others = λ n k a cs apart l. built.filled.frame.others n (record { kind = k; attrs = a; children = cs }) apart l;
    }

arrived : {blanks : Bool} → (choices : SinkChoices) (ts : List TokenText) (v : View) (nodes : Nodes) (s : IsFragmentStart v.world) → Fitting v.world → v.ended ≡ false → v.failed ≡ false
    → join ts ≡ fragment_tokens nodes → (plain : IsPlain blanks (Flow false nothing_open) nodes) → Arrives blanks choices ts v (taken (filled v.world s choices nodes plain))
arrived {blanks} choices ts v nodes s k e f j plain =
    let last = taken (filled v.world s choices nodes plain) in
    arrives choices ts v last f e (goes_cut blanks choices ts v.world last k (subst (λ x. Runs blanks choices x v.world last) (sym j) (runs blanks choices (fragment_tokens nodes) v.world last k (goes v.world s choices nodes plain))))

pub rebuilds_fragments : (choices : SinkChoices) (ts : List TokenText) (v : View) → RebuildsFragments choices ts v
rebuilds_fragments choices ts v nodes s plain k e f j =
    let r = arrived choices ts v nodes s k e f j plain in
    record {
      stands = subst (λ (w : World). Stands w.forest (children_of w.forest s.root) nodes) (sym r.world) (stands v.world s choices nodes plain);
      is_root = subst (λ (w : World). Looks w.forest s.root (ElementNode html) [] (children_of w.forest s.root)) (sym r.world) (is_root v.world s choices nodes plain);
      changes = subst (λ (w : World). ChangesOne v.world.forest w.forest s.root) (sym r.world) (changes v.world s choices nodes plain);
      answers = r.answers;
      quiet = λ calm. (arrived choices ts v nodes s k e f j calm).quiet refl;
    }
