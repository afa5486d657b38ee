-- What a builder makes of the tokens of a document, one after the other.
use Rattle.std.proofs.Common.{◌≡◌, ◌≢◌, ◌∙◌, ℕ, true, false, not, cond, List, [], ◌∷◌, ◌++◌, map, Some, None, codes, refl, ap, sym, subst, Bool}
use Rattle.h5_names.specs.AttributeText.{AttributeText}
use Rattle.h5_token.specs.TokenText.{DoctypeText, EndOfFile, TokenText}
use Rattle.h5_interface.specs.Forest.{Child, ChildNode, ElementNode}
use Rattle.h5_names.specs.declared.qualified.QualName.{QualName}
use Rattle.h5_builder_spec.specs.formatting.FormattingList.{nodes_of}
use Rattle.h5_builder_laws.proofs.ListedLaws.{Bottom, Entries, NoEntry}
use Rattle.h5_interface.specs.SinkChoices.{SinkChoices}
use Rattle.h5_interface.specs.declared.marks.QuirksMode.TheVariants.{NoQuirks}
use Rattle.h5_tables.specs.TagSets.{body_end_names, html_namespace, is_body_end_ok, is_default_scope, is_html_named}
use Rattle.h5_tables.specs.Doctypes.{good_identifiers, quirks_of}
use Rattle.h5_tables.specs.declared.modes.InsertionMode.{InsertionMode}
use Rattle.h5_tables.specs.declared.modes.InsertionMode.TheVariants.{BeforeHtml, BeforeHead, InHead, AfterHead, InBody, AfterBody, AfterAfterBody}
use Rattle.h5_tables.specs.declared.options.TreeBuilderOpts.{TreeBuilderOpts}
use Rattle.h5_builder_spec.specs.Changes.{set_frameset_not_ok, set_mode, insert_element, insert_head, insert_doctype, new_element, create_root, pop, set_quirks_mode}
use Rattle.h5_builder_spec.specs.modes.InBody.{body_ends, body_in_scope, if_body_in_scope}
use Rattle.h5_builder_spec.specs.Rows.{SetFramesetNotOk, InsertElement, InsertHead, CreateRoot, IsDone, Pop, Row, SetMode, choose, ignored}
use Rattle.h5_builder_spec.specs.Run.{doctype_in, judged, refuses_in, step, taken, with_doctype}
use Rattle.h5_builder_spec.specs.stack.Scope.{has_unclosed, in_scope}
use Rattle.h5_builder_spec.specs.insertion.Place.{LastChild, place}
use Rattle.h5_builder_spec.specs.World.{World, current, name_in, names_of}
use Rattle.h5_builder_spec.specs.formatting.FormattingNames.{html_name}
use Rattle.h5_builder_spec.specs.stack.Order.{but_first, first_or, is_in}
use Rattle.h5_builder_laws.specs.Plain.{Flow, End, IsPlain, nothing_open, Nodes, as_written, end_tag, plain_doctype, start_tag, tokens_before}
use Rattle.h5_builder_laws.specs.Rebuilding.{IsStart, Looks, Stands}
use Rattle.h5_builder_laws.proofs.BuildsLaws.{body_fits, builds}
use Rattle.h5_builder_laws.proofs.CalmLaws.{Calm, Named, NoneOpen, OneOpen, after, unowned, place_is}
use Rattle.h5_builder_laws.proofs.FilledLaws.{face, rooted_framed, stands_from_new}
use Rattle.h5_builder_laws.proofs.GoesLaws.{Goes, Moves, moves_end, moves_tag, no_table_mode}
use Rattle.h5_builder_laws.proofs.ModeLaws.{GoesByBody, TheBody}
use Rattle.h5_builder_laws.proofs.GrowthLaws.{Begun, Rooted, begun_first, body, head, html, kinds_apart, name_of, root_below, rooted_first, rooted_grown, rooted_marked, with_element}
use Rattle.h5_builder_laws.proofs.HeadLaws.{HeadHolds, HoldsNothing, head_kept, head_not_body, head_not_html, html_not_body, title, title_not_body, title_not_html}
use Rattle.h5_builder_laws.proofs.HtmlLaws.{IsHtmlContext, AtHtml, at_element, at_none, html_is}
use Rattle.h5_builder_spec.specs.Sound.{role_at}
use Rattle.h5_builder_laws.proofs.LooksLaws.{looks_marked}
use Rattle.h5_builder_laws.proofs.RuleLaws.{body_end_rule, body_rule, head_end_rule, head_rule, html_end_rule, html_rule}

-- a token leads to a world of which this holds
pub record Next (choices : SinkChoices) (t : TokenText) (w : World) (P : World → Type 0) : Type 0 where
  pub after : World
  pub moves : Moves choices t w after
  pub holds : P after

-- after the doctype
pub record AfterDoctype (w : World) : Type 0 where
  pub mode : w.mode ≡ BeforeHtml
  pub none_open : w.stack ≡ []
  pub none_listed : w.formatting ≡ []
  pub no_foster : w.foster ≡ false
  pub no_pending : w.pending ≡ []
  pub no_form : w.form ≡ None
  pub no_context : w.context ≡ None
  pub quirks : w.seen_quirks ≡ NoQuirks
  pub doctype : ℕ
  pub begun : Begun w.forest doctype []

-- after the start of `html`
pub record AfterHtml (a : List AttributeText) (w : World) : Type 0 where
  pub mode : w.mode ≡ BeforeHead
  pub root : ℕ
  pub is_open : w.stack ≡ root ∷ []
  pub none_listed : w.formatting ≡ []
  pub no_foster : w.foster ≡ false
  pub no_pending : w.pending ≡ []
  pub no_form : w.form ≡ None
  pub no_context : w.context ≡ None
  pub quirks : w.seen_quirks ≡ NoQuirks
  pub doctype : ℕ
  pub rooted : Rooted w.forest doctype root a []

-- after the start or the end of `head`, which holds these nodes
pub record WithHead (m : InsertionMode) (more : ℕ → List ℕ) (a b : List AttributeText) (h : Nodes) (w : World) : Type 0 where
  pub mode : w.mode ≡ m
  pub root : ℕ
  pub header : ℕ
  pub are_open : w.stack ≡ (more header) ++ root ∷ []
  pub none_listed : w.formatting ≡ []
  pub no_foster : w.foster ≡ false
  pub no_pending : w.pending ≡ []
  pub no_form : w.form ≡ None
  pub no_context : w.context ≡ None
  pub quirks : w.seen_quirks ≡ NoQuirks
  pub doctype : ℕ
  pub rooted : Rooted w.forest doctype root a (ChildNode header ∷ [])
  pub held : List Child
  pub is_head : Looks w.forest header (ElementNode head) b held
  pub holds : HeadHolds w.forest held h

-- from the start of `body` on, which holds these children, for which these nodes stand; h stands in the head
pub record WithBody (m : InsertionMode) (a b c : List AttributeText) (h : Nodes) (inner : List Child) (nodes : Nodes) (w : World) : Type 0 where
  pub mode : w.mode ≡ m
  pub root : ℕ
  pub header : ℕ
  pub content : ℕ
  pub are_open : w.stack ≡ content ∷ root ∷ []
  pub no_context : w.context ≡ None
  pub quirks : w.seen_quirks ≡ NoQuirks
  pub doctype : ℕ
  pub rooted : Rooted w.forest doctype root a (ChildNode header ∷ ChildNode content ∷ [])
  pub held : List Child
  pub is_head : Looks w.forest header (ElementNode head) b held
  pub holds : HeadHolds w.forest held h
  pub is_body : Looks w.forest content (ElementNode body) c inner
  pub stands : Stands w.forest inner nodes

-- right after its start
pub record AtBody (a b c : List AttributeText) (h : Nodes) (w : World) : Type 0 where
  pub with_body : WithBody InBody a b c h [] End w
  pub none_listed : w.formatting ≡ []
  pub no_foster : w.foster ≡ false
  pub no_pending : w.pending ≡ []
  pub no_form : w.form ≡ None
  pub ignore_lf : w.ignore_lf ≡ false

abbrev pub one : ℕ → List ℕ
one n = n ∷ []

abbrev none : ℕ → List ℕ
none n = []

doctype_moves : (choices : SinkChoices) (w : World) → IsStart w → Moves choices plain_doctype w (set_mode BeforeHtml (set_quirks_mode NoQuirks (insert_doctype choices (codes "html") [] [] (taken w))))
unfolding step judged with_doctype good_identifiers
doctype_moves choices w s =
    let d : DoctypeText = record { name = Some (codes "html"); public_id = None; system_id = None; force_quirks = false } in
    record {
      world = ap (λ m. (doctype_in m choices d (taken w)).world) s.mode
          ∙ ap (λ (o : TreeBuilderOpts). set_mode BeforeHtml (set_quirks_mode (quirks_of o.iframe_srcdoc d) (cond o.drop_doctype (taken w) (insert_doctype choices (codes "html") [] [] (taken w))))) s.options;
      reply = ap (λ m. (doctype_in m choices d (taken w)).reply) s.mode;
      quiet = ap (λ m. (doctype_in m choices d (taken w)).quiet) s.mode;
      accepted = ap (λ m. refuses_in m plain_doctype) s.mode;
    }

pub doctype_next : (choices : SinkChoices) (w : World) → IsStart w → Next choices plain_doctype w AfterDoctype
unfolding set_quirks_mode insert_doctype
doctype_next choices w s = record {
  after = set_mode BeforeHtml (set_quirks_mode NoQuirks (insert_doctype choices (codes "html") [] [] (taken w)));
  moves = doctype_moves choices w s;
  holds = record { mode = refl; none_open = s.none_open; none_listed = s.none_listed; no_foster = s.no_foster; no_pending = s.no_pending; no_form = s.no_form; no_context = s.no_context; quirks = refl; doctype = choices.fresh w.forest; begun = begun_first choices w.forest s.holds };
}

pub html_next : (choices : SinkChoices) (a : List AttributeText) (w : World) → AfterDoctype w → Next choices (start_tag (codes "html") a) w (AfterHtml a)
unfolding create_root
html_next choices a w s = record {
  after = set_mode BeforeHead (create_root choices a (taken w));
  moves = moves_tag choices _ w BeforeHtml (CreateRoot a ∷ SetMode BeforeHead ∷ []) s.mode (at_none w s.none_open) (html_rule a (taken w)) refl refl;
  holds = record {
    mode = refl;
    root = choices.fresh w.forest;
    is_open = ap (λ r. choices.fresh w.forest ∷ r) s.none_open;
    none_listed = s.none_listed;
    no_foster = s.no_foster;
    no_pending = s.no_pending;
    no_form = s.no_form;
    no_context = s.no_context;
    quirks = s.quirks;
    doctype = s.doctype;
    rooted = rooted_first choices w.forest s.doctype a s.begun;
  };
}

-- the place of insertion is in the root where that alone is open
place_is_root : (w : World) (x h : ℕ) (a : List AttributeText) (cs : List Child) → w.stack ≡ h ∷ [] → w.foster ≡ false → Rooted w.forest x h a cs → place w ≡ LastChild h
place_is_root w x h a cs e off r =
    place_is w h (record { kind = ElementNode html; attrs = a; children = cs }) (ap (first_or w.forest.document) e) r.is_root off refl

pub inserted : (choices : SinkChoices) (local : List ℕ) (attrs : List AttributeText) (w : World) (h : ℕ) → place w ≡ LastChild h → w.form ≡ None → with_element choices h (html_name local) attrs w.forest ≡ (insert_element choices local attrs false w).forest
unfolding insert_element
inserted choices local attrs w h e k =
    ap (λ p. new_element choices p (html_name local) attrs false None w.forest) (sym e)
    ∙ ap (λ m. new_element choices (place w) (html_name local) attrs false m w.forest) (sym (unowned choices local attrs w k))

pub insert_opens : (choices : SinkChoices) (local : List ℕ) (attrs : List AttributeText) (w : World) → (insert_element choices local attrs false w).stack ≡ choices.fresh w.forest ∷ w.stack
unfolding insert_element
insert_opens choices local attrs w = refl

pub insert_quirks : (choices : SinkChoices) (local : List ℕ) (attrs : List AttributeText) (w : World) → (insert_element choices local attrs false w).seen_quirks ≡ w.seen_quirks
unfolding insert_element
insert_quirks choices local attrs w = refl

pub insert_listed : (choices : SinkChoices) (local : List ℕ) (attrs : List AttributeText) (w : World) → (insert_element choices local attrs false w).formatting ≡ w.formatting
unfolding insert_element
insert_listed choices local attrs w = refl

pub insert_foster : (choices : SinkChoices) (local : List ℕ) (attrs : List AttributeText) (w : World) → (insert_element choices local attrs false w).foster ≡ w.foster
unfolding insert_element
insert_foster choices local attrs w = refl

pub insert_pending : (choices : SinkChoices) (local : List ℕ) (attrs : List AttributeText) (w : World) → (insert_element choices local attrs false w).pending ≡ w.pending
unfolding insert_element
insert_pending choices local attrs w = refl

pub insert_form : (choices : SinkChoices) (local : List ℕ) (attrs : List AttributeText) (w : World) → (insert_element choices local attrs false w).form ≡ w.form
unfolding insert_element
insert_form choices local attrs w = refl

pub insert_context : (choices : SinkChoices) (local : List ℕ) (attrs : List AttributeText) (w : World) → (insert_element choices local attrs false w).context ≡ w.context
unfolding insert_element
insert_context choices local attrs w = refl

pub insert_flag : (choices : SinkChoices) (local : List ℕ) (attrs : List AttributeText) (w : World) → (insert_element choices local attrs false w).ignore_lf ≡ w.ignore_lf
unfolding insert_element
insert_flag choices local attrs w = refl

pub insert_mode : (choices : SinkChoices) (local : List ℕ) (attrs : List AttributeText) (w : World) → (insert_element choices local attrs false w).mode ≡ w.mode
unfolding insert_element
insert_mode choices local attrs w = refl

pub head_next : (choices : SinkChoices) (a b : List AttributeText) (w : World) → AfterHtml a w → Next choices (start_tag (codes "head") b) w (WithHead InHead one a b End)
unfolding insert_head insert_element
head_next choices a b w s =
    let n = choices.fresh w.forest in
    let below = root_below choices w.forest s.doctype s.root a [] head b s.rooted refl in
    let same = inserted choices (codes "head") b (taken w) s.root (place_is_root (taken w) s.doctype s.root a [] s.is_open s.no_foster s.rooted) s.no_form in
    record {
      after = set_mode InHead (insert_head choices b false (taken w));
      moves = moves_tag choices _ w BeforeHead (InsertHead b false ∷ SetMode InHead ∷ []) s.mode (at_element w s.root (codes "html") s.no_context (ap (first_or w.forest.document) s.is_open) s.rooted.is_root.is_kind) (head_rule b (taken w)) refl refl;
      holds = record {
        mode = refl;
        root = s.root;
        header = n;
        are_open = insert_opens choices (codes "head") b (taken w) ∙ ap (λ r. n ∷ r) s.is_open;
        none_listed = insert_listed choices (codes "head") b (taken w) ∙ s.none_listed;
        no_foster = insert_foster choices (codes "head") b (taken w) ∙ s.no_foster;
        no_pending = insert_pending choices (codes "head") b (taken w) ∙ s.no_pending;
        no_form = insert_form choices (codes "head") b (taken w) ∙ s.no_form;
        no_context = insert_context choices (codes "head") b (taken w) ∙ s.no_context;
        quirks = insert_quirks choices (codes "head") b (taken w) ∙ s.quirks;
        doctype = s.doctype;
        rooted = subst (λ f. Rooted f s.doctype s.root a (ChildNode n ∷ [])) same (rooted_grown choices w.forest s.doctype s.root a [] head b s.rooted below);
        held = [];
        is_head = subst (λ f. Looks f n (ElementNode head) b []) same below.new;
        holds = HoldsNothing;
      };
    }

-- in the head, and in the body, no token is for foreign content
pub in_head : {m : InsertionMode} {a b : List AttributeText} {h : Nodes} (w : World) → WithHead m one a b h w → AtHtml w
in_head w s = at_element w s.header (codes "head") s.no_context (ap (first_or w.forest.document) s.are_open) s.is_head.is_kind

in_body : {m : InsertionMode} {a b c : List AttributeText} {h : Nodes} {inner : List Child} {nodes : Nodes} (w : World) → WithBody m a b c h inner nodes w → AtHtml w
in_body w s = at_element w s.content (codes "body") s.no_context (ap (first_or w.forest.document) s.are_open) s.is_body.is_kind

pub head_end_next : (choices : SinkChoices) (a b : List AttributeText) (h : Nodes) (w : World) → WithHead InHead one a b h w → Next choices (end_tag (codes "head")) w (WithHead AfterHead none a b h)
unfolding pop
head_end_next choices a b h w s = record {
  after = set_mode AfterHead (pop choices (taken w));
  moves = moves_tag choices _ w InHead (Pop ∷ SetMode AfterHead ∷ []) s.mode (in_head w s) (head_end_rule (taken w)) refl refl;
  holds = record {
    mode = refl;
    root = s.root;
    header = s.header;
    are_open = ap but_first s.are_open;
    none_listed = s.none_listed;
    no_foster = s.no_foster;
    no_pending = s.no_pending;
    no_form = s.no_form;
    no_context = s.no_context;
    quirks = s.quirks;
    doctype = s.doctype;
    rooted = rooted_marked w.forest (choices.marks_after_pop w.forest (current w)) s.doctype s.root a (ChildNode s.header ∷ []) s.rooted;
    held = s.held;
    is_head = looks_marked w.forest s.header (choices.marks_after_pop w.forest (current w)) (ElementNode head) b s.held s.is_head;
    holds = head_kept _ (λ n c cs l. looks_marked w.forest n (choices.marks_after_pop w.forest (current w)) (ElementNode title) c cs l) s.holds;
  };
}

pub body_next : (choices : SinkChoices) (a b c : List AttributeText) (h : Nodes) (w : World) → WithHead AfterHead none a b h w → Next choices (start_tag (codes "body") c) w (AtBody a b c h)
body_next choices a b c h w s =
    let n = choices.fresh w.forest in
    let below = root_below choices w.forest s.doctype s.root a (ChildNode s.header ∷ []) body c s.rooted refl in
    let same = inserted choices (codes "body") c (taken w) s.root (place_is_root (taken w) s.doctype s.root a (ChildNode s.header ∷ []) s.are_open s.no_foster s.rooted) s.no_form in
    let beside_root : (x : ℕ) (name : QualName) (d : List AttributeText) (cs : List Child) → ElementNode name ≢ ElementNode html → Looks w.forest x (ElementNode name) d cs → x ≢ s.root =
    λ x name d cs other l. kinds_apart w.forest x s.root (ElementNode name) (ElementNode html) d a cs (ChildNode s.header ∷ []) l s.rooted.is_root other in
    record {
      after = set_mode InBody (set_frameset_not_ok (insert_element choices (codes "body") c false (taken w)));
      moves = moves_tag choices _ w AfterHead (InsertElement (codes "body") c false ∷ SetFramesetNotOk ∷ SetMode InBody ∷ []) s.mode (at_element w s.root (codes "html") s.no_context (ap (first_or w.forest.document) s.are_open) s.rooted.is_root.is_kind) (body_rule c (taken w)) refl refl;
      holds = record {
        with_body = record {
          mode = refl;
          root = s.root;
          header = s.header;
          content = n;
          are_open = insert_opens choices (codes "body") c (taken w) ∙ ap (λ r. n ∷ r) s.are_open;
          no_context = insert_context choices (codes "body") c (taken w) ∙ s.no_context;
          quirks = insert_quirks choices (codes "body") c (taken w) ∙ s.quirks;
          doctype = s.doctype;
          rooted = subst (λ f. Rooted f s.doctype s.root a (ChildNode s.header ∷ ChildNode n ∷ [])) same (rooted_grown choices w.forest s.doctype s.root a (ChildNode s.header ∷ []) body c s.rooted below);
          held = s.held;
          is_head = subst (λ f. Looks f s.header (ElementNode head) b s.held) same
              (below.other s.header (ElementNode head) b s.held (beside_root s.header head b s.held head_not_html s.is_head) s.is_head);
          holds = subst (λ f. HeadHolds f s.held h) same (head_kept _ (λ x d cs l. below.other x (ElementNode title) d cs (beside_root x title d cs title_not_html l) l) s.holds);
          is_body = subst (λ f. Looks f n (ElementNode body) c []) same below.new;
          stands = tt;
        };
        none_listed = insert_listed choices (codes "body") c (taken w) ∙ s.none_listed;
        no_foster = insert_foster choices (codes "body") c (taken w) ∙ s.no_foster;
        no_pending = insert_pending choices (codes "body") c (taken w) ∙ s.no_pending;
        no_form = insert_form choices (codes "body") c (taken w) ∙ s.no_form;
        ignore_lf = insert_flag choices (codes "body") c (taken w);
      };
    }

-- the body is filled
pub at_body : (a b c : List AttributeText) (h : Nodes) (w : World) (s : AtBody a b c h w) → Calm None w s.with_body.content (face (codes "body") c) (body ∷ html ∷ []) [] w.stack []
at_body a b c h w s =
    let t = s.with_body in
    record {
      is_forest = t.rooted.begun.is_forest;
      ignore_lf = s.ignore_lf;
      is_current = ap (first_or w.forest.document) t.are_open;
      shows = t.is_body;
      named = subst (λ r. Named w.forest r (body ∷ html ∷ [])) (sym t.are_open) (OneOpen t.is_body.is_kind (OneOpen t.rooted.is_root.is_kind NoneOpen));
      no_foster = s.no_foster;
      no_pending = s.no_pending;
      no_form = s.no_form;
      context = subst (IsHtmlContext w.forest) (sym t.no_context) tt;
      root_role = ap (role_at w.forest) t.no_context;
      no_template = refl;
      is_html = html_is (codes "body");
      are_open = refl;
      is_base = NoEntry;
      entries = subst (Entries [] []) (sym s.none_listed) Bottom;
      unlisted = λ n none. ap (λ l. is_in n (nodes_of l)) s.none_listed;
    }

-- what it leads to
pub record BodyFilled (blanks : Bool) (choices : SinkChoices) (a b c : List AttributeText) (h nodes : Nodes) (w : World) : Type 0 where
  pub after : World
  pub goes : (ts : List TokenText) (u : World) → Goes blanks choices ts after u → Goes blanks choices (tokens_before (as_written nodes) ts) w u
  pub inner : List Child
  pub holds : WithBody InBody a b c h inner nodes after

-- the blocks are built in it
pub body_filled : {blanks : Bool} → (choices : SinkChoices) (a b c : List AttributeText) (h nodes : Nodes) (w : World) → IsPlain blanks (Flow false nothing_open) nodes → AtBody a b c h w → BodyFilled blanks choices a b c h nodes w
body_filled choices a b c h nodes w plain s =
    let t = s.with_body in
    let built = builds choices plain w t.content (face (codes "body") c) (body ∷ html ∷ []) [] w.stack [] (body_fits None w.mode t.mode) refl (λ e. refl) (at_body a b c h w s) in
    let r = built.filled.frame in
    record {
      after = after w built.forest built.formatting built.ok built.saved;
      goes = λ ts u g. built.goes ts u (λ q. absurd (no_table_mode (subst GoesByBody (sym t.mode) TheBody) q)) g;
      inner = built.filled.added;
      holds = record {
        mode = t.mode;
        root = t.root;
        header = t.header;
        content = t.content;
        are_open = t.are_open;
        no_context = t.no_context;
        quirks = t.quirks;
        doctype = t.doctype;
        rooted = rooted_framed w.forest built.forest t.doctype t.root t.content a (ChildNode t.header ∷ ChildNode t.content ∷ []) (face (codes "body") c) built.filled.added t.rooted t.is_body (λ e. cc) (λ e. cc) html_not_body r;
        held = t.held;
        is_head = r.others t.header (record { kind = ElementNode head; attrs = b; children = t.held })
            (kinds_apart w.forest t.header t.content (ElementNode head) (ElementNode body) b c t.held [] t.is_head t.is_body head_not_body) t.is_head;
        holds = head_kept built.forest
            (λ n d cs l. r.others n (record { kind = ElementNode title; attrs = d; children = cs }) (kinds_apart w.forest n t.content (ElementNode title) (ElementNode body) d c cs [] l t.is_body title_not_body) l) t.holds;
        is_body = r.here;
        stands = stands_from_new built.filled.stands;
      };
    }

-- the mode alone changes
in_other_mode : (m k : InsertionMode) (a b c : List AttributeText) (h : Nodes) (inner : List Child) (nodes : Nodes) (w : World) → WithBody m a b c h inner nodes w → WithBody k a b c h inner nodes (set_mode k (taken w))
in_other_mode m k a b c h inner nodes w s = record {
  mode = refl;
  root = s.root;
  header = s.header;
  content = s.content;
  are_open = s.are_open;
  no_context = s.no_context;
  quirks = s.quirks;
  doctype = s.doctype;
  rooted = s.rooted;
  held = s.held;
  is_head = s.is_head;
  holds = s.holds;
  is_body = s.is_body;
  stands = s.stands;
}

body_is_in_scope : (m : InsertionMode) (a b c : List AttributeText) (h : Nodes) (inner : List Child) (nodes : Nodes) (w : World) → WithBody m a b c h inner nodes w → body_in_scope (taken w) ≡ true
unfolding names_of is_html_named html_namespace
body_is_in_scope m a b c h inner nodes w s =
    ap (λ r. in_scope (is_html_named (codes "body")) is_default_scope (map (name_in w.forest) r)) s.are_open
    ∙ ap (λ n. in_scope (is_html_named (codes "body")) is_default_scope (n ∷ name_in w.forest s.root ∷ [])) (name_of w.forest s.content body c inner s.is_body)

-- and nothing else is open but the root
all_is_closed : (m : InsertionMode) (a b c : List AttributeText) (h : Nodes) (inner : List Child) (nodes : Nodes) (w : World) → WithBody m a b c h inner nodes w → not (has_unclosed (names_of (taken w))) ≡ true
unfolding names_of is_body_end_ok body_end_names html_namespace
all_is_closed m a b c h inner nodes w s =
    ap (λ r. not (has_unclosed (map (name_in w.forest) r))) s.are_open
    ∙ ap (λ n. not (has_unclosed (n ∷ name_in w.forest s.root ∷ []))) (name_of w.forest s.content body c inner s.is_body)
    ∙ ap (λ n. not (has_unclosed (body ∷ n ∷ []))) (name_of w.forest s.root html a _ s.rooted.is_root)

pub body_end_next : (choices : SinkChoices) (a b c : List AttributeText) (h : Nodes) (inner : List Child) (nodes : Nodes) (w : World) → WithBody InBody a b c h inner nodes w → Next choices (end_tag (codes "body")) w (WithBody AfterBody a b c h inner nodes)
unfolding if_body_in_scope
body_end_next choices a b c h inner nodes w s = record {
  after = set_mode AfterBody (taken w);
  moves = moves_tag choices _ w InBody (SetMode AfterBody ∷ []) s.mode (in_body w s) (body_end_rule (taken w)
      ∙ ap (λ v. choose v (body_ends (SetMode AfterBody ∷ []) IsDone (taken w)) ignored) (body_is_in_scope InBody a b c h inner nodes w s)
      ∙ ap (λ q. let r : Row = record { changes = SetMode AfterBody ∷ []; ending = IsDone; quiet = q } in r) (all_is_closed InBody a b c h inner nodes w s)) refl refl;
  holds = in_other_mode InBody AfterBody a b c h inner nodes w s;
}

pub html_end_next : (choices : SinkChoices) (a b c : List AttributeText) (h : Nodes) (inner : List Child) (nodes : Nodes) (w : World) → WithBody AfterBody a b c h inner nodes w → Next choices (end_tag (codes "html")) w (WithBody AfterAfterBody a b c h inner nodes)
html_end_next choices a b c h inner nodes w s = record {
  after = set_mode AfterAfterBody (taken w);
  moves = moves_tag choices _ w AfterBody (SetMode AfterAfterBody ∷ []) s.mode (in_body w s) (html_end_rule (taken w) s.no_context) refl refl;
  holds = in_other_mode AfterBody AfterAfterBody a b c h inner nodes w s;
}

pub file_end_next : (choices : SinkChoices) (a b c : List AttributeText) (h : Nodes) (inner : List Child) (nodes : Nodes) (w : World) → WithBody AfterAfterBody a b c h inner nodes w → Next choices EndOfFile w (WithBody AfterAfterBody a b c h inner nodes)
file_end_next choices a b c h inner nodes w s = record {
  after = taken w;
  moves = moves_end choices w AfterAfterBody [] s.mode refl;
  holds = record {
    mode = s.mode;
    root = s.root;
    header = s.header;
    content = s.content;
    are_open = s.are_open;
    no_context = s.no_context;
    quirks = s.quirks;
    doctype = s.doctype;
    rooted = s.rooted;
    held = s.held;
    is_head = s.is_head;
    holds = s.holds;
    is_body = s.is_body;
    stands = s.stands;
  };
}
