-- Nodes stay in the box that takes them.
use Rattle.std.proofs.Common.{◌≡◌, ◌∙◌, ℕ, ◌==◌, Bool, true, false, cond, List, [], ◌∷◌, Option, None, Some, map, refl, ap, sym, subst, option_map, inl, inr}
use Rattle.std.proofs.lemmas.Bool.{eqb-true}
use Rattle.h5_names.specs.declared.qualified.QualName.{QualName}
use Rattle.h5_token.specs.Joins.{join}
use Rattle.h5_token.specs.TokenText.{TokenText}
use Rattle.h5_interface.specs.Forest.{Child, ChildNode, ChildText, ElementNode, Forest, IsElement, Node, kind_of}
use Rattle.h5_interface.specs.SinkChoices.{SinkChoices}
use Rattle.h5_tables.specs.declared.modes.InsertionMode.{InsertionMode}
use Rattle.h5_tables.specs.declared.modes.InsertionMode.TheVariants.{InBody, InCaption, InCell}
use Rattle.h5_builder_laws.proofs.cuts.RunLaws.{is_taken, moved}
use Rattle.h5_builder_spec.specs.Run.{View, after_all, after_token, run, take_or_refuse}
use Rattle.h5_builder_spec.specs.inner.Kept.{Fitting}
use Rattle.h5_builder_spec.specs.Sound.{role_at}
use Rattle.h5_builder_spec.specs.World.{World, name_in, name_of_found, names_of}
use Rattle.h5_builder_spec.specs.reset.ResetByRoles.{reset}
use Rattle.h5_builder_spec.specs.reset.Roles.{Role, roles}
use Rattle.h5_builder_spec.specs.formatting.FormattingList.{ElementEntry, Entry, MarkerEntry, after_marker, nodes_of}
use Rattle.h5_builder_spec.specs.formatting.FormattingNames.{AllOfTags}
use Rattle.h5_builder_spec.specs.stack.Order.{IsIn, first_or, is_in}
use Rattle.h5_builder_laws.specs.Plain.{Around, Flow, IsPlain, Nodes}
use Rattle.h5_builder_laws.specs.Staying.{HasHtmlContext, IsBox, StayInBox, has_text_last, takes_flow, tokens_of}
use Rattle.h5_builder_laws.proofs.BuildsLaws.{FitsFlow, builds}
use Rattle.h5_builder_laws.proofs.CalmLaws.{Built, Calm, Named, NoneOpen, OneOpen, after}
use Rattle.h5_builder_laws.proofs.CutGoesLaws.{goes_cut}
use Rattle.h5_builder_laws.proofs.FilledLaws.{Face, stands_from_new}
use Rattle.h5_builder_laws.proofs.GoesLaws.{Goes, Runs, arrives, no_table_mode}
use Rattle.h5_builder_laws.proofs.HtmlLaws.{IsHtmlContext}
use Rattle.h5_builder_laws.proofs.KeptBackLaws.{runs}
use Rattle.h5_builder_laws.proofs.ListedLaws.{AtMarker, Bottom, Entries, IsBase, NoEntry}
use Rattle.h5_builder_laws.proofs.LooksLaws.{ends_in_text}
use Rattle.h5_builder_laws.proofs.ModeLaws.{GoesByBody, ResetsTo, TheBody, TheCaption, TheCell}

-- the mode uses the rules of the body
by_flow : (m : InsertionMode) → takes_flow m ≡ true → GoesByBody m
by_flow InBody h = TheBody
by_flow InCell h = TheCell
by_flow InCaption h = TheCaption
by_flow _ h = absurd (cc)

-- the open elements are elements, by their names
named_at : (f : Forest) (n : ℕ) → IsElement f n → kind_of f n ≡ Some (ElementNode (name_in f n))
named_at f n e = e.1 ∙ ap (λ x. Some (ElementNode x)) (sym (ap name_of_found e.1))

are_named : (f : Forest) (s : List ℕ) → ((n : ℕ) → IsIn n s → IsElement f n) → Named f s (map (name_in f) s)
are_named f [] h = NoneOpen
are_named f (n ∷ s) h = OneOpen (named_at f n (h n (inl refl))) (are_named f s (λ m i. h m (inr i)))

-- a listed element is a node
listed_apart : (f : Forest) (l : List Entry) (n : ℕ) → AllOfTags f l → f.node n ≡ None → is_in n (nodes_of l) ≡ false
listed_apart f [] n h none = refl
listed_apart f (MarkerEntry ∷ l) n h none = listed_apart f l n h none
listed_apart f (ElementEntry m t ∷ l) n h none = at (listed_apart f l n h.1 none) (n == m) refl
  where
    at : is_in n (nodes_of l) ≡ false → (b : Bool) → (n == m) ≡ b → cond b true (is_in n (nodes_of l)) ≡ false
    at rest true e =
        let gone : kind_of f m ≡ None = ap (kind_of f) (sym (eqb-true n m e)) ∙ ap (option_map (λ (d : Node). d.kind)) none in
        absurd (let k = sym gone ∙ h.0 in cc)
    at rest false e = rest

-- below the box the list of formatting elements is empty, or begins with a marker
is_base : (l : List Entry) → after_marker l ≡ [] → IsBase l
is_base [] h = NoEntry
is_base (MarkerEntry ∷ l) h = AtMarker
is_base (ElementEntry n t ∷ l) h = absurd (cc)

base_stays : {base l : List Entry} → Entries base [] l → l ≡ base
base_stays Bottom = refl

in_context : (f : Forest) (o : Option ℕ) → HasHtmlContext f o → IsHtmlContext f o
in_context f None h = tt
in_context f (Some n) h = h

no_text : (cs : List Child) → has_text_last cs ≡ false → ends_in_text cs ≡ false
no_text [] h = refl
no_text (ChildNode n ∷ cs) h = no_text cs h
no_text (ChildText t ∷ []) h = h
no_text (ChildText t ∷ c ∷ cs) h = no_text (c ∷ cs) h

-- where a list leads, it leaves the view unchanged except for its world
pub view_is : (blanks : Bool) (choices : SinkChoices) (ts : List TokenText) (v : View) (u : World) → v.failed ≡ false → v.ended ≡ false → Runs blanks choices ts v.world u → after_all choices ts v ≡ moved v u
unfolding run
view_is blanks choices [] v u f e g = ap (moved v) g
view_is blanks choices (t ∷ ts) v u f e (w, (s, g)) =
    let m = s.takes in
    let next : after_token choices t v ≡ moved v w = ap (λ o. take_or_refuse choices t o v) (is_taken v t f e m.accepted) ∙ ap (moved v) m.world in
    ap (after_all choices ts) next ∙ view_is blanks choices ts (moved v w) u f e g

module _ (w : World) {o : Around} (b : IsBox o w) (k : Fitting w) where
  abbrev pub role : Option Role
  role = role_at w.forest w.context

  abbrev d : Face
  d = record { kind = ElementNode b.name; attrs = b.attrs; children = b.children }

  abbrev pub names : List QualName
  names = map (name_in w.forest) w.stack

  resets_at : (s : List ℕ) → w.stack ≡ s → ResetsTo role (map (name_in w.forest) s) w.mode
  unfolding names_of
  resets_at [] e = absurd (let x : ◌≡◌ {A = List ℕ} [] (b.node ∷ b.below) = sym e ∙ b.is_open in cc)
  resets_at (n ∷ s) e = λ t q. ap (λ x. reset t (roles (map (name_in w.forest) x))) (sym e) ∙ b.resets t q

  pub fits : FitsFlow role o w.mode names
  unfolding names_of
  fits = record {
    goes = by_flow w.mode b.mode;
    resets = resets_at w.stack refl;
    no_p = b.no_p;
    no_heading = b.no_heading;
    no_item = b.no_item;
    no_description = b.no_description;
    in_ruby = b.in_ruby;
    unselected = b.no_select;
  }

  pub calm : Calm role w b.node d names [] w.stack w.formatting
  calm = record {
    is_forest = k.sound.stands.is_forest;
    ignore_lf = b.ignore_lf;
    is_current = ap (first_or w.forest.document) b.is_open;
    shows = b.looks;
    named = are_named w.forest w.stack k.sound.stands.elements;
    no_foster = b.no_foster;
    no_pending = b.no_pending;
    no_form = b.no_form;
    context = in_context w.forest w.context b.context;
    root_role = refl;
    no_template = b.no_template;
    is_html = b.of_html;
    are_open = refl;
    is_base = is_base w.formatting b.none_listed;
    entries = Bottom;
    unlisted = λ n none. listed_apart w.forest w.formatting n k.sound.listed none;
  }

  module _ {blanks : Bool} (choices : SinkChoices) (nodes : Nodes) (plain : IsPlain blanks (Flow false o) nodes) where
    built : Built blanks choices w b.node d nodes [] w.formatting
    built = builds choices plain w b.node d names [] w.stack w.formatting fits (no_text b.children b.no_text_last) (λ e. refl) calm

    abbrev behind : World
    behind = record w { forest = built.forest; frameset_ok = built.ok; saved_mode = built.saved }

    arrives_there : after w built.forest built.formatting built.ok built.saved ≡ behind
    arrives_there = ap (λ l. after w built.forest l built.ok built.saved) (base_stays built.entries)

    goes : Goes blanks choices (tokens_of nodes) w behind
    goes = built.goes [] behind (λ q. absurd (no_table_mode (by_flow w.mode b.mode) q)) arrives_there

    cut : (ts : List TokenText) → join ts ≡ tokens_of nodes → Runs blanks choices ts w behind
    cut ts j = goes_cut blanks choices ts w behind k (subst (λ x. Runs blanks choices x w behind) (sym j) (runs blanks choices (tokens_of nodes) w behind k goes))

pub stay_in_box : (choices : SinkChoices) (ts : List TokenText) (v : View) → StayInBox choices ts v
stay_in_box choices ts v o nodes b plain k e f j =
    let w = v.world in
    let i = built w b k choices nodes plain in
    let r = cut w b k choices nodes plain ts j in
    record {
      forest = i.forest;
      ok = i.ok;
      saved = i.saved;
      view = view_is true choices ts v (behind w b k choices nodes plain) f e r;
      added = i.filled.added;
      looks = i.filled.frame.here;
      stands = stands_from_new i.filled.stands;
      changes = record {
        document = i.filled.frame.document;
        others = λ n kind a cs apart l. i.filled.frame.others n (record { kind = kind; attrs = a; children = cs }) apart l;
      };
      answers = (arrives choices ts v (behind w b k choices nodes plain) f e r).answers;
      quiet = λ none. (arrives choices ts v (behind w b k choices nodes none) f e (cut w b k choices nodes none ts j)).quiet refl;
    }
